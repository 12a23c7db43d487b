use Rattle.std.proofs.Common.{◌≡◌, ◌∙◌, ap₂, refl, sym}
use Rattle.quantity.specs.Amount.{exponents_conform, powers_match}
use Rattle.quantity.specs.Stores.{stored_powers}
use Rattle.quantity.proofs.MatchedPowers.{conforming_exponents_are_equal, conforming_exponents_by_name}
use Rattle.quantity.proofs.Single.{ordered_powers_list_of_map}
use Rattle.quantity.proofs.powers.Powers.conform.Goals as goal

pub returns : goal.returns
returns c =
    let p = c.args.self.now in
    let o = c.args.other.now in
    let left = ordered_powers_list_of_map (stored_powers c.self.inside.store) _ _ c.self.invariant c.self.view_is refl
    in
    let right = ordered_powers_list_of_map (stored_powers c.other.inside.store) _ _ c.other.invariant c.other.view_is
    refl in
    let value : c.matches.result ≡ exponents_conform p o = c.matches.ensures
    ∙ ap₂ (powers_match (λ e. e)) left.same right.same in
    let equal = conforming_exponents_are_equal p o in
    let names = conforming_exponents_by_name p o left.kept right.kept in
    record {
      value = value;
      equal = (λ h. equal.0 (sym value ∙ h), λ e. value ∙ equal.1 e);
      same = (λ h. names.0 (sym value ∙ h), λ h. value ∙ names.1 h);
    }
