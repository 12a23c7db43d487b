use Rattle.deck_lines.proofs.StoredLines.{stored_keys_are_a_numbering}
use Rattle.deck_lines.proofs.store.line_store.LineStore.len.Goals as goal

pub returns-clause-numbering : goal.returns-clause-numbering
returns-clause-numbering c =
    stored_keys_are_a_numbering c.self.inside.lines c.self.inside.definitions c.args.self.now c.self.invariant
    c.self.view_is
