use Rattle.std.proofs.Common.{ap, subst, sym, ◌∙◌, ◌∷◌, []}
use Rattle.quantity.specs.Merges.{ArePowersInOrder, exponents_in}
use Rattle.quantity.proofs.Names.{Name}
use Rattle.frac128.specs.Fraction.{Fraction}
use Rattle.quantity.proofs.Single.{single_power_in_order, single_power_map}
use Rattle.quantity.proofs.powers.Powers.one.Goals as goal

pub invariant_of-result : goal.invariant_of-result
invariant_of-result c =
    subst ArePowersInOrder (sym (c.in_ok-store.ensures ∙ ap (λ (p : Name × Fraction). p ∷ []) c.in_ok-power.ensures))
    (single_power_in_order c.args.name.now)

pub returns : goal.returns
returns c = ap exponents_in (c.in_ok-store.ensures ∙ ap (λ (p : Name × Fraction). p ∷ []) c.in_ok-power.ensures)
    ∙ single_power_map c.args.name.now
