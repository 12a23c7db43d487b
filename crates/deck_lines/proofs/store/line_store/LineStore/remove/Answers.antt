use Rattle.deck_lines.proofs.StoredLines.{kept_without}
use Rattle.deck_lines.proofs.store.line_store.LineStore.remove.Goals as goal

pub invariant_of-self : goal.invariant_of-self
invariant_of-self c =
    kept_without c.self.inside.lines c.self.inside.definitions c.self.invariant c.args.place c.remove-2.new.self
    c.remove.new.self
    c.remove.ensures c.remove-2.ensures.lines c.remove-2.ensures.names
