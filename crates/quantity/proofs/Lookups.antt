-- Lookups that go name by name.
use Rattle.std.proofs.Common.{◌≡◌, sym, ap, ◌∙◌, true, false, ◌∷◌, Some, ◌⊎◌, inl, inr}
use Rattle.std.specs.Cmp.Lexicographic.{bytes_decides, pointwise}
use Rattle.std.specs.FinMap.Entries.{find}
use lib.Dec.{eqb}
use Rattle.frac128.specs.Fraction.{Fraction}
use Rattle.quantity.specs.Merges.{UnitPowers}
use Rattle.quantity.proofs.OrderedPowers.{find_past_power}
use Rattle.quantity.proofs.MergedPowers.{find_own_power}
use Rattle.quantity.proofs.Names.{Name, by_bytes, is_name, power_names_are_same_or_apart}

-- if the first power has the name, a lookup finds it
pub lookup_finds_first_power : (q : Name) (o : Name × Fraction) (rest more : UnitPowers) → rest ≡ o ∷ more
    → true ≡ pointwise eqb q o.0 → find by_bytes q rest ≡ Some o.1
lookup_finds_first_power q o rest more parts same =
    ap (find by_bytes q) parts ∙ find_own_power q o.0 o.1 more ((bytes_decides q o.0).0 (sym same))

-- if the first power has another name, a lookup continues after it
pub lookup_passes_first_power : (q : Name) (o : Name × Fraction) (rest more : UnitPowers) → rest ≡ o ∷ more
    → false ≡ pointwise eqb q o.0 → find by_bytes q more ≡ find by_bytes q rest
lookup_passes_first_power q o rest more parts other =
    sym (ap (find by_bytes q) parts ∙ find_past_power q o.0 o.1 more (apart (power_names_are_same_or_apart q o.0)))
  where
    apart : (q ≡ o.0) ⊎ (is_name q o.0 ≡ false) → is_name q o.0 ≡ false
    apart (inl same) = let e = (bytes_decides q o.0).1 same in absurd (cc)
    apart (inr other) = other
