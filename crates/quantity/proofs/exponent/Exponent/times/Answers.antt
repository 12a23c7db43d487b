use Rattle.std.proofs.Common.{◌*ℤ◌, ◌*◌, ap, ap₂, ◌∙◌, SFits, rules}
use mir.Syntax.{w32}
use Rattle.std.proofs.lemmas.Int.{to_z-of_z}
use Rattle.frac128.specs.Fraction.{Fraction}
use Rattle.frac128.specs.Steps.{lowest_terms}
use Rattle.quantity.specs.Exponents.{exponent_product}
use Rattle.quantity.specs.Merges.{as_exponent}
use Rattle.quantity.proofs.exponent.Exponent.times.Goals as goal

pub returns : goal.returns
returns c =
    let fits : SFits w32 c.self.inside.num = search rules in
    let fits_num : SFits w32 c.num.result = search rules in
    let fits_product : SFits w32 (c.self.inside.num *ℤ c.num.result) = search rules in
    (simp to_z-of_z at c.lowest.ensures)
    ∙ ap₂ (λ n d. as_exponent (lowest_terms (c.self.inside.num *ℤ n) (c.self.inside.den * d))) c.num.ensures.value
    c.den.ensures.value
    ∙ ap (λ (e : Fraction). as_exponent (exponent_product e c.args.degree.now)) c.self.view_is
