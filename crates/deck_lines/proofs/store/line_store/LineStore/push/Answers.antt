use Rattle.deck_lines.specs.Marks.{store_line_with_mark}
use Rattle.deck_lines.proofs.StoredLines.{kept_push}
use Rattle.deck_lines.proofs.store.line_store.LineStore.push.Goals as goal

pub invariant_of-self-2 : goal.invariant_of-self-2
invariant_of-self-2 c =
    kept_push c.self.inside.lines c.self.inside.definitions c.self.invariant
    (store_line_with_mark c.args.mark c.args.line) c.reserve_for.new.self c.put.new.self c.args.definition
    c.push.new.self
    c.in_ok-reserve_for.ensures.lines c.in_ok-reserve_for.ensures.names c.requires.reads c.in_ok-push.ensures.ok
    c.put.ensures.lines c.put.ensures.names
