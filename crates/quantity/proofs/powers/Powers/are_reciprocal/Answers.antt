use Rattle.std.proofs.Common.{◌≡◌, ◌∙◌, ap₂, refl, sym}
use Rattle.frac128.specs.Fraction.{opposite_fraction}
use Rattle.quantity.specs.Amount.{are_reciprocal_exponents, powers_match}
use Rattle.quantity.specs.Stores.{stored_powers}
use Rattle.quantity.proofs.MatchedPowers.{reciprocal_exponents_match}
use Rattle.quantity.proofs.Single.{ordered_powers_list_of_map}
use Rattle.quantity.proofs.powers.Powers.are_reciprocal.Goals as goal

pub returns : goal.returns
returns c =
    let p = c.args.self.now in
    let o = c.args.other.now in
    let left = ordered_powers_list_of_map (stored_powers c.self.inside.store) _ _ c.self.invariant c.self.view_is refl
    in
    let right = ordered_powers_list_of_map (stored_powers c.other.inside.store) _ _ c.other.invariant c.other.view_is
    refl in
    let value : c.matches.result ≡ are_reciprocal_exponents p o = c.matches.ensures
    ∙ ap₂ (powers_match opposite_fraction) left.same right.same in
    let both = reciprocal_exponents_match p o left.kept right.kept in
    record { value = value; opposite = (λ h. both.0 (sym value ∙ h), λ h. value ∙ both.1 h) }
