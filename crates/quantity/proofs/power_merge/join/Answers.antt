use Rattle.std.proofs.Common.{◌≡◌, ◌<◌, ◌∙◌, ap, ap₂, arith, get_or, length, rules, slice_set, subst, sym, true}
use Rattle.frac128.specs.Fraction.{Fraction}
use Rattle.quantity.specs.Exponents.{exponent_sum, is_exponent}
use Rattle.quantity.specs.Factors.{exponent_in}
use Rattle.quantity.specs.Merges.{UnitPowers, as_exponent}
use Rattle.quantity.specs.Places.{power_place}
use Rattle.quantity.specs.declared.power_merge.Place.TheVariants.{At, Before}
use Rattle.quantity.proofs.Copies.{program_exponents_in_range}
use Rattle.quantity.proofs.Ranges.{exponent_passes}
use Rattle.quantity.proofs.Names.{Name}
use Rattle.quantity.proofs.Places.{before_within, one_place, place_within, put_before, put_fault, put_sum, put_zero}
use Rattle.quantity.proofs.Steps.{factor_exponent_step}
use Rattle.quantity.proofs.power_merge.join.Goals as goal

pub insert-requires : goal.insert-requires
insert-requires c =
    let old = c.args.powers.now in
    let place : power_place 0 c.args.power.now.0 old.items ≡ Before c.in-Before.index =
    ap₂ (power_place 0) (sym c.name.ensures) (sym c.as_slice.ensures) ∙ sym c.in-Before.ensures in
    (omega arith, before_within (exponent_in c.args.factor) c.args.power.now old.items c.in-Before.index place)

pub bounds-as_slice-index : goal.bounds-as_slice-index
bounds-as_slice-index c =
    let old = c.args.powers.now.items in
    let place : power_place 0 c.args.power.now.0 old ≡ At c.in-At.index =
    ap₂ (power_place 0) (sym c.name.ensures) (sym c.as_slice.ensures) ∙ sym c.in-At.ensures in
    subst (λ (es : UnitPowers). c.in-At.index < length es) (sym c.as_slice-in-At.ensures)
    (place_within (exponent_in c.args.factor) c.args.power.now old c.in-At.index place)

pub offset_bounds-as_slice-index : goal.offset_bounds-as_slice-index
offset_bounds-as_slice-index c =
    let within : c.in-At.index < length c.as_slice-in-At.result.now = bounds-as_slice-index c in search rules

pub remove-requires : goal.remove-requires
remove-requires c =
    let old = c.args.powers.now.items in
    let place : power_place 0 c.args.power.now.0 old ≡ At c.in-At.index =
    ap₂ (power_place 0) (sym c.name.ensures) (sym c.as_slice.ensures) ∙ sym c.in-At.ensures in
    (omega arith, place_within (exponent_in c.args.factor) c.args.power.now old c.in-At.index place)

pub unwrap-requires : goal.unwrap-requires
unwrap-requires c =
    let old = c.args.powers.now.items in
    let place : power_place 0 c.args.power.now.0 old ≡ At c.in-At.index =
    ap₂ (power_place 0) (sym c.name.ensures) (sym c.as_slice.ensures) ∙ sym c.in-At.ensures in
    c.get_mut.ensures.variant.1 (place_within (exponent_in c.args.factor) c.args.power.now old c.in-At.index place)

pub returns-in_ok-insert-in-Before : goal.returns-in_ok-insert-in-Before
returns-in_ok-insert-in-Before c =
    let old = c.args.powers.now.items in
    let power = c.args.power.now in
    let step = exponent_in c.args.factor in
    let place : power_place 0 power.0 old ≡ Before c.in-Before.index =
    ap₂ (power_place 0) (sym c.name.ensures) (sym c.as_slice.ensures) ∙ sym c.in-Before.ensures in
    let taken : c.exponent-exponent.result ≡ exponent_in c.args.factor power.1 =
    c.exponent-exponent.ensures ∙ ap (exponent_in c.args.factor) c.exponent.ensures in
    let fits : is_exponent (exponent_in c.args.factor power.1) ≡ true =
    (factor_exponent_step c.args.factor).fits power.1 ∙ exponent_passes power.1 c.requires.power.exponent in
    put_before step power old c.in-Before.index place c.insert.new.self.items _
    c.in_ok-insert-in-Before.ensures.ok
    (c.in_ok-with-in-Before.ensures ∙ ap (λ e. (power.0, e)) taken) (program_exponents_in_range old c.requires.list)
    fits

pub returns-in_default : goal.returns-in_default
returns-in_default c =
    let old = c.args.powers.now.items in
    let power = c.args.power.now in
    let place : power_place 0 power.0 old ≡ At c.in-At.index =
    ap₂ (power_place 0) (sym c.name.ensures) (sym c.as_slice.ensures) ∙ sym c.in-At.ensures in
    let there : c.index-as_slice-index.result ≡ get_or old c.in-At.index c.index-as_slice-index.result =
    c.index-as_slice-index.is ∙ ap (λ (es : UnitPowers). get_or es c.in-At.index c.index-as_slice-index.result)
    c.as_slice-in-At.ensures in
    let taken : c.exponent-exponent.result ≡ exponent_in c.args.factor power.1 =
    c.exponent-exponent.ensures ∙ ap (exponent_in c.args.factor) c.exponent.ensures in
    let answer =
    c.in_default.ensures
    ∙ ap (λ e. as_exponent (exponent_sum e c.exponent-exponent.result)) c.exponent-in-At.ensures in
    put_fault (exponent_in c.args.factor) power old c.in-At.index place c.index-as_slice-index.result
    c.exponent-exponent.result
    there taken c.reduced_law.ensures (factor_exponent_step c.args.factor) c.requires.list c.requires.power
    answer

pub returns-then-is_zero : goal.returns-then-is_zero
returns-then-is_zero c =
    let old = c.args.powers.now.items in
    let power = c.args.power.now in
    let place : power_place 0 power.0 old ≡ At c.in-At.index =
    ap₂ (power_place 0) (sym c.name.ensures) (sym c.as_slice.ensures) ∙ sym c.in-At.ensures in
    let there : c.index-as_slice-index.result ≡ get_or old c.in-At.index c.index-as_slice-index.result =
    c.index-as_slice-index.is ∙ ap (λ (es : UnitPowers). get_or es c.in-At.index c.index-as_slice-index.result)
    c.as_slice-in-At.ensures in
    let taken : c.exponent-exponent.result ≡ exponent_in c.args.factor power.1 =
    c.exponent-exponent.ensures ∙ ap (exponent_in c.args.factor) c.exponent.ensures in
    let answer =
    c.in-Some.ensures
    ∙ ap (λ e. as_exponent (exponent_sum e c.exponent-exponent.result)) c.exponent-in-At.ensures in
    put_zero (exponent_in c.args.factor) power old c.in-At.index place c.index-as_slice-index.result
    c.exponent-exponent.result
    there taken c.remove.new.self.items c.in-Some.sum c.remove.ensures.items answer
    (sym c.if-is_zero.ensures.value) (program_exponents_in_range old c.requires.list)

pub returns-else-is_zero : goal.returns-else-is_zero
returns-else-is_zero c =
    let old = c.args.powers.now.items in
    let power = c.args.power.now in
    let place : power_place 0 power.0 old ≡ At c.in-At.index =
    ap₂ (power_place 0) (sym c.name.ensures) (sym c.as_slice.ensures) ∙ sym c.in-At.ensures in
    let there : c.index-as_slice-index.result ≡ get_or old c.in-At.index c.index-as_slice-index.result =
    c.index-as_slice-index.is ∙ ap (λ (es : UnitPowers). get_or es c.in-At.index c.index-as_slice-index.result)
    c.as_slice-in-At.ensures in
    let taken : c.exponent-exponent.result ≡ exponent_in c.args.factor power.1 =
    c.exponent-exponent.ensures ∙ ap (exponent_in c.args.factor) c.exponent.ensures in
    let answer =
    c.in-Some.ensures
    ∙ ap (λ e. as_exponent (exponent_sum e c.exponent-exponent.result)) c.exponent-in-At.ensures in
    let same = one_place (exponent_in c.args.factor) power old c.in-At.index place c.unwrap.result.now
    c.index-as_slice-index.result (rw c.unwrap.ensures at c.get_mut.ensures.value) there in
    let put = ap (slice_set old c.in-At.index)
    (c.put_exponent.ensures ∙ ap (λ (p : Name × Fraction). (p.0, c.in-Some.sum)) same) in
    put_sum (exponent_in c.args.factor) power old c.in-At.index place c.index-as_slice-index.result
    c.exponent-exponent.result
    there taken _ c.in-Some.sum put answer (sym c.if-is_zero.ensures.value)
    (program_exponents_in_range old c.requires.list)
