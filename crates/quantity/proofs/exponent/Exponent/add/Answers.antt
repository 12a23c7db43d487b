use Rattle.std.proofs.Common.{◌≡◌, ◌*ℤ◌, ◌+ℤ◌, ◌*◌, pos, ap₂, ◌∙◌, SFits, rules}
use mir.Syntax.{w32}
use Rattle.std.proofs.lemmas.Int.{to_z-of_z}
use Rattle.frac128.specs.Fraction.{Fraction}
use Rattle.frac128.specs.Steps.{lowest_terms}
use Rattle.quantity.specs.Exponents.{exponent_sum}
use Rattle.quantity.specs.Merges.{as_exponent}
use Rattle.quantity.proofs.exponent.Exponent.add.Goals as goal

pub returns : goal.returns
returns c =
    let self_fits : SFits w32 c.self.inside.num = search rules in
    let other_fits : SFits w32 c.other.inside.num = search rules in
    let left_fits : SFits w32 c.widen-left.result = search rules in
    let right_fits : SFits w32 c.widen-right.result = search rules in
    let sum_fits : SFits w32 (c.widen-left.result +ℤ c.widen-right.result) = search rules in
    let left : c.widen-left.result ≡ c.self.inside.num *ℤ pos c.other.inside.den =
    simp to_z-of_z at c.widen-left.ensures.value in
    let right : c.widen-right.result ≡ c.other.inside.num *ℤ pos c.self.inside.den =
    simp to_z-of_z at c.widen-right.ensures.value in
    (simp to_z-of_z at c.lowest.ensures)
    ∙ ap₂ (λ m n. as_exponent (lowest_terms (m +ℤ n) (c.self.inside.den * c.other.inside.den))) left right
    ∙ ap₂ (λ (x y : Fraction). as_exponent (exponent_sum x y)) c.self.view_is c.other.view_is
