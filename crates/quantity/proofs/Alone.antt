-- A single power, and powers copied one by one.
use Rattle.std.proofs.Common.{◌≡◌, sym, ap, ◌∙◌, append_assoc, [], ◌∷◌, ◌++◌, map, None, IsFalse}
use Rattle.std.specs.Cmp.{tied_itself}
use Rattle.std.specs.Cmp.Lexicographic.{nat_list_cmp_total}
use Rattle.std.specs.Ordering.{match_ordering}
use Rattle.frac128.specs.Fraction.{Fraction, IsReducedFraction}
use Rattle.quantity.specs.Exponents.{exponent_sum}
use Rattle.quantity.specs.Merges.{UnitPowers, are_exponents, as_exponent, merge_of_powers, put_nonzero_power}
use Rattle.quantity.specs.Merges.{unit_power_by}
use Rattle.quantity.proofs.Joins.{as_exponent_none}
use Rattle.quantity.proofs.Ranges.{exponent_fault_stays}
use Rattle.quantity.proofs.Names.{Name, by_bytes}

-- one more power is copied as the step takes it
pub copied_powers_next : (step : Fraction → Fraction) (out rest more all new : UnitPowers) (o : Name × Fraction)
    → out ++ map (unit_power_by step) rest ≡ map (unit_power_by step) all → rest ≡ o ∷ more
    → new ≡ out ++ unit_power_by step o ∷ []
    → new ++ map (unit_power_by step) more ≡ map (unit_power_by step) all
copied_powers_next step out rest more all new o done parts pushed =
    ap (λ es. es ++ map (unit_power_by step) more) pushed
    ∙ append_assoc out (unit_power_by step o ∷ []) (map (unit_power_by step) more)
    ∙ ap (λ es. out ++ map (unit_power_by step) es) (sym parts) ∙ done
