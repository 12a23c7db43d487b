use Rattle.deck_lines.proofs.MarkReplacement.{store_limit_of_lines}
use Rattle.deck_lines.proofs.store.line_store.LineStore.lines_few.Goals as goal

pub returns : goal.returns
returns c = store_limit_of_lines c.args.self.now.lines c.lines.ensures.within
