use Rattle.std.proofs.Common.{ap, sym, ◌∙◌}
use Rattle.std.specs.Prelude.{unwrap_or}
use Rattle.std.specs.Cmp.Lexicographic.{pointwise}
use lib.Dec.{eqb}
use Rattle.quantity.specs.Stores.{power_of_walk_entry, remaining_powers}
use Rattle.quantity.proofs.Fractions.{nothing}
use Rattle.quantity.proofs.Lookups.{lookup_finds_first_power, lookup_passes_first_power}
use Rattle.quantity.proofs.power_lookup.exponent_in.Goals as goal

pub returns-then-eq : goal.returns-then-eq
returns-then-eq c =
    let same = c.if-eq.ensures ∙ ap (pointwise eqb c.args.name.now) c.as_bytes.ensures in
    ap (λ o. unwrap_or o nothing)
    (sym (lookup_finds_first_power c.args.name.now (power_of_walk_entry c.in-Some.power)
    (remaining_powers c.loop-power.powers)
    (remaining_powers c.next.new.self) c.in-Some.ensures same) ∙ c.loop-power.invariant)

pub loop-power-preserved : goal.loop-power-preserved
loop-power-preserved c =
    let other = c.if-eq.ensures ∙ ap (pointwise eqb c.args.name.now) c.as_bytes.ensures in
    lookup_passes_first_power c.args.name.now (power_of_walk_entry c.in-Some.power)
    (remaining_powers c.loop-power.powers) (remaining_powers c.next.new.self)
    c.in-Some.ensures other ∙ c.loop-power.invariant
