use Rattle.std.proofs.Common.{◌≡◌, ◌≤◌, ◌++◌, ◌∷◌, [], ℕ, List, true, not, nat_lt, sym, ap, ◌∙◌, arith}
use Rattle.std.proofs.lemmas.Bool.Decides.{nat_tests}
use Rattle.deck_lines.specs.Limits.{pass_store_limit}
use Rattle.deck_lines.specs.declared.line.DeckLine.{DeckLine}
use Rattle.deck_lines.proofs.MarkLimits.{full_lines, room_test}
use Rattle.deck_lines.proofs.store.line_list.LineList.has_room.Goals as goal

pub returns-then-len-lt-MOST_LINES : goal.returns-then-len-lt-MOST_LINES
returns-then-len-lt-MOST_LINES c = λ line e.
    ap (λ (lines : List DeckLine). pass_store_limit (lines ++ line ∷ [])) (sym c.self.view_is)
    ∙ room_test c.self.inside.lines c.self.inside.marks.listed c.self.inside.bytes c.self.invariant line c.args.len e
    (omega (arith, c.if-len-lt-MOST_LINES.true, c.len.ensures))

pub returns-else-len-lt-MOST_LINES : goal.returns-else-len-lt-MOST_LINES
returns-else-len-lt-MOST_LINES c = λ line e.
    ap (λ (lines : List DeckLine). pass_store_limit (lines ++ line ∷ [])) (sym c.self.view_is)
    ∙ full_lines c.self.inside.lines c.self.inside.marks.listed c.self.inside.bytes c.self.invariant line
    (omega (arith, c.if-len-lt-MOST_LINES.false, c.len.ensures))
    ∙ off c.len.result (omega (arith, c.if-len-lt-MOST_LINES.false))
  where
    off : (n : ℕ) → 100000 ≤ n → true ≡ not (nat_lt n 100000)
    off n h = grind (arith, nat_tests, h)
