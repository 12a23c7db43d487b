use Rattle.std.proofs.Common.{◌≡◌, ◌<◌, ◌<ℤ◌, ℕ, ℤ, pos, SFits, arith, rules, sym, ◌∙◌}
use mir.Syntax.{w128}
use Rattle.std.proofs.lemmas.Int.{ints, to_z-of_z}
use Rattle.std.proofs.lemmas.Result.{err_from_is_err_and}
use Rattle.frac128.proofs.Sums.{are_fraction_parts, denominator_multiple_some, fraction_sum-left, fraction_sum-multiple}
use Rattle.frac128.proofs.Sums.{fraction_sum-numerators, fraction_sum-right, fraction_sum-shared_gcd}
use Rattle.frac128.proofs.Sums.{numerator_or_overflow_ok}
use Rattle.frac128.proofs.fraction.Frac.add.Goals as goal

pub returns-in_err-multiple : goal.returns-in_err-multiple
returns-in_err-multiple c =
    let parts = are_fraction_parts c.args.self.now c.args.other.now c.bottom-b.ensures.is c.bottom-d.ensures.is
    c.gcd-shared.ensures.is
    c.quotient-ours.ensures c.quotient-theirs.ensures c.bottom-b.ensures.some c.bottom-d.ensures.some c.top-a.ensures.is
    c.top-c.ensures.is in
    let p = err_from_is_err_and c.from_residual.result c.from_residual.ensures.1 in
    rw (p.1, p.2) (sym (fraction_sum-multiple _ _ _ _ _ _ _ _ _ _ parts c.in_err-multiple.ensures))

pub returns-in_err-left : goal.returns-in_err-left
returns-in_err-left c =
    let parts = are_fraction_parts c.args.self.now c.args.other.now c.bottom-b.ensures.is c.bottom-d.ensures.is
    c.gcd-shared.ensures.is
    c.quotient-ours.ensures c.quotient-theirs.ensures c.bottom-b.ensures.some c.bottom-d.ensures.some c.top-a.ensures.is
    c.top-c.ensures.is in
    let p = err_from_is_err_and c.from_residual-in_err-left.result c.from_residual-in_err-left.ensures.1 in
    rw (p.1, p.2) (sym
    (fraction_sum-left _ _ _ _ _ _ _ _ _ _ _ _ parts c.is_negative.ensures c.in_ok-multiple.ensures
    c.in_err-left.ensures))

pub returns-in_err-right : goal.returns-in_err-right
returns-in_err-right c =
    let parts = are_fraction_parts c.args.self.now c.args.other.now c.bottom-b.ensures.is c.bottom-d.ensures.is
    c.gcd-shared.ensures.is
    c.quotient-ours.ensures c.quotient-theirs.ensures c.bottom-b.ensures.some c.bottom-d.ensures.some c.top-a.ensures.is
    c.top-c.ensures.is in
    let p = err_from_is_err_and c.from_residual-in_err-right.result c.from_residual-in_err-right.ensures.1 in
    rw (p.1, p.2) (sym
    (fraction_sum-right _ _ _ _ _ _ _ _ _ _ _ _ _ _ parts c.is_negative.ensures c.is_negative-2.ensures
    c.in_ok-multiple.ensures c.in_ok-left.ensures c.in_err-right.ensures))

-- the multiple, as a signed number, is above 0
some_multiple : (n : ℤ) (m : ℕ) → n ≡ pos m → 0 < m → pos 0 <ℤ n
some_multiple n m e h = rw e (omega (arith, ints))

pub sum_over-requires-clause-some : goal.sum_over-requires-clause-some
sum_over-requires-clause-some c =
    let fits : SFits w128 c.in_ok-multiple.multiple = search rules in
    let parts = are_fraction_parts c.args.self.now c.args.other.now c.bottom-b.ensures.is c.bottom-d.ensures.is
    c.gcd-shared.ensures.is
    c.quotient-ours.ensures c.quotient-theirs.ensures c.bottom-b.ensures.some c.bottom-d.ensures.some c.top-a.ensures.is
    c.top-c.ensures.is in
    simp to_z-of_z (some_multiple _ _ (numerator_or_overflow_ok _ _ c.in_ok-multiple.ensures).1
    (denominator_multiple_some _ _ _ _ _ _ _ _ _ parts))

pub sum_over-requires-clause-shared : goal.sum_over-requires-clause-shared
sum_over-requires-clause-shared c =
    let fits_multiple : SFits w128 c.in_ok-multiple.multiple = search rules in
    let fits_left : SFits w128 c.in_ok-left.left = search rules in
    let fits_right : SFits w128 c.in_ok-right.right = search rules in
    let parts = are_fraction_parts c.args.self.now c.args.other.now c.bottom-b.ensures.is c.bottom-d.ensures.is
    c.gcd-shared.ensures.is
    c.quotient-ours.ensures c.quotient-theirs.ensures c.bottom-b.ensures.some c.bottom-d.ensures.some c.top-a.ensures.is
    c.top-c.ensures.is in
    simp to_z-of_z (fraction_sum-shared_gcd _ _ _ _ _ _ _ _ _ _ _ _ _ _ parts
    (rw c.bottom-b.ensures.is c.top-a.ensures.lowest)
    (rw c.bottom-d.ensures.is c.top-c.ensures.lowest)
    c.in_ok-multiple.ensures c.in_ok-left.ensures c.in_ok-right.ensures)

pub returns : goal.returns
returns c =
    let fits_multiple : SFits w128 c.in_ok-multiple.multiple = search rules in
    let fits_left : SFits w128 c.in_ok-left.left = search rules in
    let fits_right : SFits w128 c.in_ok-right.right = search rules in
    let parts = are_fraction_parts c.args.self.now c.args.other.now c.bottom-b.ensures.is c.bottom-d.ensures.is
    c.gcd-shared.ensures.is
    c.quotient-ours.ensures c.quotient-theirs.ensures c.bottom-b.ensures.some c.bottom-d.ensures.some c.top-a.ensures.is
    c.top-c.ensures.is in
    (simp to_z-of_z at c.sum_over.ensures)
    ∙ sym (fraction_sum-numerators _ _ _ _ _ _ _ _ _ _ _ _ _ _ parts c.is_negative.ensures c.is_negative-2.ensures
    c.in_ok-multiple.ensures c.in_ok-left.ensures c.in_ok-right.ensures)
