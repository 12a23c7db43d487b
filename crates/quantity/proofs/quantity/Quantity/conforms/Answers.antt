use Rattle.std.proofs.Common.{◌≡◌, ◌↔◌, IsTrue, List, ℕ, subst}
use Rattle.quantity.specs.Amount.{Amount}
use Rattle.quantity.specs.Exponents.{Exponents, exponent_of}
use Rattle.quantity.proofs.quantity.Quantity.conforms.Goals as goal

pub returns-clause-same : goal.returns-clause-same
returns-clause-same c =
    let Same : Exponents → Exponents → Type 0 =
    λ p o. IsTrue c.conform.result ↔ ((name : List ℕ) → exponent_of p name ≡ exponent_of o name) in
    subst (λ (x : Amount). Same x.exponents c.args.other.now.exponents) c.self.view_is
    (subst (λ (y : Amount). Same c.self.inside.powers y.exponents) c.other.view_is c.conform.ensures.same)
