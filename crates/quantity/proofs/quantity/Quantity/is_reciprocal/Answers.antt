use Rattle.std.proofs.Common.{◌≡◌, ◌↔◌, IsTrue, List, ℕ, subst}
use Rattle.frac128.specs.Fraction.{opposite_fraction}
use Rattle.quantity.specs.Amount.{Amount}
use Rattle.quantity.specs.Exponents.{Exponents, exponent_of}
use Rattle.quantity.proofs.quantity.Quantity.is_reciprocal.Goals as goal

pub returns-clause-opposite : goal.returns-clause-opposite
returns-clause-opposite c =
    let Opposite : Exponents → Exponents → Type 0 =
    λ p o. IsTrue c.are_reciprocal.result ↔
    ((name : List ℕ) → exponent_of p name ≡ opposite_fraction (exponent_of o name)) in
    subst (λ (x : Amount). Opposite x.exponents c.args.other.now.exponents) c.self.view_is
    (subst (λ (y : Amount). Opposite c.self.inside.powers y.exponents) c.other.view_is
    c.are_reciprocal.ensures.opposite)
