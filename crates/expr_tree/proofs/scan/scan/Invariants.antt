use Rattle.std.proofs.Common.{◌-◌, length, map}
use Rattle.expr_tree.specs.TokenViews.{token_view}
use Rattle.expr_tree.proofs.LexemeCuts.{IsRead}
use Rattle.expr_tree.proofs.scan.scan.Given as goal

abbrev pub invariant-loop-at : goal.invariant-loop-at
invariant-loop-at l =
    IsRead l.text (map token_view l.tokens.items) l.standing.last l.standing.opened l.standing.depth l.after_numeral
    l.at

abbrev pub decreases-loop-at : goal.decreases-loop-at
decreases-loop-at l = length l.text - l.at
