-- The entries of a search tree as powers.
use Rattle.std.proofs.Common.{◌≡◌, refl, ap, sym, T, [], ◌∷◌, map, cond, Option, Some, ◌∙◌}
use Rattle.std.specs.FinMap.Entries.{below_all, find, is_sorted}
use Rattle.std.specs.List.{AllByRecursion as Each}
use Rattle.std.specs.List.Sorted.{IsStrictlySortedBy}
use Rattle.std.specs.Map.{lookup}
use Rattle.std.specs.BTreeMap.{BTreeMap, Updates, get, is_at}
use Rattle.std.specs.declared.cmp.Ordering.TheVariants.{Less}
use Rattle.frac128.specs.Fraction.{Fraction}
use Rattle.quantity.specs.Merges.{UnitPowers}
use Rattle.quantity.proofs.Names.{Name, and_from_both, by_bytes, is_name, lower_power_name_is_less}

-- a lookup with a query finds the exponent of the name
pub lookup_finds_power : (q : Name) (es : UnitPowers) → lookup (is_at (by_bytes q)) es ≡ find by_bytes q es
lookup_finds_power q [] = refl
lookup_finds_power q (e ∷ es) = ap (λ v. cond (is_at (by_bytes q) e.0) (Some e.1) v) (lookup_finds_power q es)

-- a name below all keys is below all powers
below_power_keys : (x : Name) (es : UnitPowers) → Each (λ y. by_bytes x y ≡ Less) (map (λ e. e.0) es)
    → T (below_all by_bytes x es)
below_power_keys x [] h = tt
below_power_keys x (e ∷ es) h = and_from_both _ _ (lower_power_name_is_less x e.0 h.0) (below_power_keys x es h.1)

-- the keys of a tree are strictly increasing
pub sorted_power_keys : (es : UnitPowers) → IsStrictlySortedBy by_bytes (map (λ e. e.0) es) → T (is_sorted by_bytes es)
unfolding IsStrictlySortedBy
sorted_power_keys [] h = tt
sorted_power_keys (e ∷ es) h = and_from_both _ _ (below_power_keys e.0 es h.0) (sorted_power_keys es h.1)

-- a lookup in a tree gives the same result as a lookup among its powers
pub tree_lookup_finds_power : (tree : BTreeMap Name Fraction) (q : Name)
    → get by_bytes tree q ≡ find by_bytes q tree.entries
tree_lookup_finds_power tree q = lookup_finds_power q tree.entries

-- an update of a tree changes only the exponent of this name
pub updated_tree_power : (old new : BTreeMap Name Fraction) (k : Name) (v : Option Fraction)
    → Updates by_bytes old new k v
    → (q : Name) → find by_bytes q new.entries ≡ cond (is_name k q) v (find by_bytes q old.entries)
updated_tree_power old new k v updates q =
    sym (tree_lookup_finds_power new q) ∙ updates.0 q ∙ ap (cond (is_name k q) v) (tree_lookup_finds_power old q)
