use Rattle.std.proofs.Common.{◌∙◌, ap, subst}
use Rattle.std.specs.BTreeMap.{BTreeMap}
use Rattle.frac128.specs.Fraction.{Fraction}
use Rattle.quantity.specs.Factors.{exponent_in}
use Rattle.quantity.specs.Merges.{ArePowers, UnitPowers, merge_of_powers}
use Rattle.quantity.specs.declared.factor.Factor.TheVariants.{Plain}
use Rattle.quantity.proofs.Copies.{plain_step_keeps_powers}
use Rattle.quantity.proofs.Names.{Name}
use Rattle.quantity.proofs.store.plant_tree.Goals as goal

pub returns : goal.returns
returns c =
    subst (λ (es : UnitPowers). ArePowers (λ (tree : BTreeMap Name Fraction). tree.entries) c.join_all.result es)
    (ap (λ (es : UnitPowers). merge_of_powers (exponent_in Plain) es c.args.powers.now) c.new.ensures.empty
    ∙ plain_step_keeps_powers _)
    c.join_all.ensures
