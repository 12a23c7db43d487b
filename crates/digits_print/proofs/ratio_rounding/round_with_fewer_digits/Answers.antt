use Rattle.std.proofs.Common.{◌+◌, ◌*◌, ◌/◌, ◌%◌, to_z, arith, ap, ◌∙◌}
use mir.Syntax.{w32}
use Rattle.std.specs.Ordering.{nat_cmp}
use Rattle.std.proofs.lemmas.Int.{ints, to_z_pos}
use Rattle.frac128.specs.Nearest.{whole_by_fraction_part}
use Rattle.digits_print.specs.RatioRounding.{rounding_carry}
use Rattle.digits_print.proofs.DigitSteps.{digit_unit_even, digit_unit_some, few_digits_cut, shortened_digits_end}
use Rattle.digits_print.proofs.DigitSteps.{shortened_digits_more, shortened_digits_room}
use Rattle.digits_print.proofs.ratio_rounding.round_with_fewer_digits.Goals as goal

pub nonzero_div-whole-in-loop-unit : goal.nonzero_div-whole-in-loop-unit
nonzero_div-whole-in-loop-unit c = digit_unit_some _ _ _ _ c.loop-unit.invariant

pub overflow_mul-unit : goal.overflow_mul-unit
overflow_mul-unit c = let room = shortened_digits_room _ _ _ _ c.requires.some c.loop-unit.invariant (omega arith)
    in omega arith

pub overflow_add-places : goal.overflow_add-places
overflow_add-places c = let few = few_digits_cut _ _ _ _ (omega arith) c.loop-unit.invariant in omega arith

pub loop-unit-smaller : goal.loop-unit-smaller
loop-unit-smaller c =
    let room = shortened_digits_room _ _ _ _ c.requires.some c.loop-unit.invariant (omega arith) in
    let some = digit_unit_some _ _ _ _ c.loop-unit.invariant in
    omega arith

pub loop-unit-preserved : goal.loop-unit-preserved
loop-unit-preserved c = shortened_digits_more _ _ _ _ c.requires.some c.loop-unit.invariant (omega arith)

pub compared_with_half-cut-requires-clause-even : goal.compared_with_half-cut-requires-clause-even
compared_with_half-cut-requires-clause-even c = digit_unit_even _ _ _ _ c.loop-unit.invariant

pub overflow_cast-places : goal.overflow_cast-places
overflow_cast-places c = let few = few_digits_cut _ _ _ _ (omega arith) c.loop-unit.invariant in omega (arith, ints)

pub round_number-requires-clause-low : goal.round_number-requires-clause-low
round_number-requires-clause-low c = let few = few_digits_cut _ _ _ _ (omega arith) c.loop-unit.invariant in
    omega (arith, ints)

pub round_number-requires-clause-high : goal.round_number-requires-clause-high
round_number-requires-clause-high c = let few = few_digits_cut _ _ _ _ (omega arith) c.loop-unit.invariant in
    omega (arith, ints)

pub returns-clause-value : goal.returns-clause-value
returns-clause-value c =
    let few = few_digits_cut _ _ _ _ (omega arith) c.loop-unit.invariant in
    let scale = to_z_pos w32 c.loop-unit.places (omega arith) in
    let number = c.args.top / c.args.bottom / c.loop-unit.unit in
    c.round_number.ensures.value
    ∙ ap (λ cut. rounding_carry c.args.digits (whole_by_fraction_part number cut) (to_z w32 c.loop-unit.places))
    c.compared_with_half-cut.ensures
    ∙ ap (λ s. rounding_carry c.args.digits
    (whole_by_fraction_part number (nat_cmp
    (2 * (c.args.top / c.args.bottom % c.loop-unit.unit * c.args.bottom + c.args.top % c.args.bottom))
    (c.args.bottom * c.loop-unit.unit))) s) scale
    ∙ shortened_digits_end c.args.digits c.args.top c.args.bottom c.loop-unit.unit c.loop-unit.places c.requires.some
    c.requires.bottom c.loop-unit.invariant (omega arith)
