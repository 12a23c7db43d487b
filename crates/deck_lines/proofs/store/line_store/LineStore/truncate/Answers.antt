use Rattle.deck_lines.proofs.StoredLines.{kept_take}
use Rattle.deck_lines.proofs.store.line_store.LineStore.truncate.Goals as goal

pub invariant_of-self : goal.invariant_of-self
invariant_of-self c =
    kept_take c.self.inside.lines c.self.inside.definitions c.self.invariant c.args.len c.truncate-2.new.self
    c.truncate.new.self
    c.truncate.ensures c.truncate-2.ensures.lines c.truncate-2.ensures.names
