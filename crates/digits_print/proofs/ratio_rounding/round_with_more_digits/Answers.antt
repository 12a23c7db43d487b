use Rattle.std.proofs.Common.{◌≡◌, ◌*◌, ◌-ℤ◌, pos, neg_ℤ, of_z, to_z, arith, ap, ◌∙◌}
use mir.Syntax.{w32}
use Rattle.std.specs.Ordering.{nat_cmp}
use Rattle.std.proofs.lemmas.Int.{ints}
use Rattle.frac128.specs.Nearest.{whole_by_fraction_part}
use Rattle.digits_print.specs.RatioRounding.{rounding_carry}
use Rattle.digits_print.proofs.DigitSteps.{few_decimal_places, lengthened_digits_end, lengthened_digits_less}
use Rattle.digits_print.proofs.DigitSteps.{lengthened_digits_more}
use Rattle.digits_print.proofs.ratio_rounding.round_with_more_digits.Goals as goal

pub overflow_add-places : goal.overflow_add-places
overflow_add-places c = let few =
    few_decimal_places _ _ _ _ _ _ c.requires.top c.requires.fits c.requires.most c.loop-number.invariant in omega arith

pub loop-number-smaller : goal.loop-number-smaller
loop-number-smaller c = lengthened_digits_less _ _ _ _ _ _ c.requires.top c.loop-number.invariant

pub loop-number-preserved : goal.loop-number-preserved
loop-number-preserved c =
    lengthened_digits_more _ _ _ _ _ _ _ _ c.requires.some c.loop-number.invariant
    (omega arith) c.ten_times-next.ensures.value c.ten_times-next.ensures.rest c.ten_times-next.ensures.digit

pub overflow_cast-places : goal.overflow_cast-places
overflow_cast-places c = let few =
    few_decimal_places _ _ _ _ _ _ c.requires.top c.requires.fits c.requires.most c.loop-number.invariant in
    omega (arith, ints)

pub overflow_sub-places : goal.overflow_sub-places
overflow_sub-places c = let few =
    few_decimal_places _ _ _ _ _ _ c.requires.top c.requires.fits c.requires.most c.loop-number.invariant in
    omega (arith, ints)

pub round_number-requires-clause-low : goal.round_number-requires-clause-low
round_number-requires-clause-low c = let few =
    few_decimal_places _ _ _ _ _ _ c.requires.top c.requires.fits c.requires.most c.loop-number.invariant in
    omega (arith, ints)

pub round_number-requires-clause-high : goal.round_number-requires-clause-high
round_number-requires-clause-high c = let few =
    few_decimal_places _ _ _ _ _ _ c.requires.top c.requires.fits c.requires.most c.loop-number.invariant in
    omega (arith, ints)

pub returns-clause-value : goal.returns-clause-value
returns-clause-value c =
    let few = few_decimal_places _ _ _ _ _ _ c.requires.top c.requires.fits c.requires.most c.loop-number.invariant in
    let scale : to_z w32 (of_z w32 (pos 0 -ℤ to_z w32 c.loop-number.places)) ≡ neg_ℤ (pos c.loop-number.places) =
    omega (arith, ints) in
    c.round_number.ensures.value
    ∙ ap (λ cut. rounding_carry c.args.digits (whole_by_fraction_part c.loop-number.number cut)
    (to_z w32 (of_z w32 (pos 0 -ℤ to_z w32 c.loop-number.places)))) c.cmp.ensures
    ∙ ap (λ s. rounding_carry c.args.digits
    (whole_by_fraction_part c.loop-number.number (nat_cmp (c.loop-number.rest * 2) c.args.bottom)) s)
    scale
    ∙ lengthened_digits_end c.args.digits c.args.top c.args.bottom c.loop-number.number c.loop-number.rest
    c.loop-number.places
    c.requires.some c.requires.top c.loop-number.invariant (omega arith)
