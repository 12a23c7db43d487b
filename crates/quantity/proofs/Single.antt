-- Maps of one name or of none.
use Rattle.std.proofs.Common.{◌≡◌, refl, sym, ◌∙◌, arith, pos, [], ◌∷◌, ap, length, subst, All}
use Rattle.std.specs.Cmp.Lexicographic.{nat_list_cmp_total}
use Rattle.std.specs.FinMap as map_of
use Rattle.std.specs.FinMap.Entries.{put}
use Rattle.std.proofs.Math.Nat.{dvd_refl}
use Rattle.std.proofs.lemmas.List.Elements.{All-from_recursion}
use Rattle.frac128.specs.Fraction.{Fraction, whole_fraction}
use Rattle.quantity.specs.Exponents.{AreExponents, Exponents, IsExponent, IsUnitPower, exponent_of}
use Rattle.quantity.specs.Merges.{ArePowersInOrder, UnitPowers, exponents_in}
use Rattle.quantity.proofs.OrderedPowers.{at}
use Rattle.quantity.proofs.MatchedPowers.{exponent_at}
use Rattle.quantity.proofs.Names.{Name, by_bytes, equal_power_names_are_same}

-- the map of no powers is empty
pub no_powers_empty_map : exponents_in [] ≡ map_of.empty
no_powers_empty_map =
    map_of.same_map nat_list_cmp_total equal_power_names_are_same _ _
    (λ q. map_of.get-from_sorted by_bytes [] q tt ∙ sym (map_of.get-empty by_bytes q))

-- the exponent of a name on its own
abbrev one : Fraction
one = whole_fraction (pos 1)

-- the number 1 is an exponent
one_is_exponent : IsExponent one
one_is_exponent = record {
  exponent_reduced = record { den_positive = omega arith; coprime = (dvd_refl 1, dvd_refl 1, λ d p q. p) };
  num_fits = omega arith;
  den_fits = omega arith;
}

-- a single power is in order
pub single_power_in_order : (name : Name) → ArePowersInOrder ((name, one) ∷ [])
single_power_in_order name = record {
  sorted_powers = tt;
  powers_right = All-from_recursion IsUnitPower ((name, one) ∷ [])
      (record { exponent = one_is_exponent; not_zero = refl }, tt);
}

-- the empty map has no entries
no_exponents_no_entries : map_of.entries (map_of.empty {X = Fraction} {R = by_bytes}) ≡ []
no_exponents_no_entries = nothing_in _ (sym (map_of.len-entries map_of.empty) ∙ map_of.len-empty by_bytes Fraction)
  where
    nothing_in : (es : UnitPowers) → length es ≡ 0 → es ≡ []
    nothing_in [] h = refl
    nothing_in (e ∷ es) h = absurd (omega arith)

-- the map of a single power is that of one name
pub single_power_map : (name : Name) → exponents_in ((name, one) ∷ []) ≡ map_of.insert map_of.empty name one
single_power_map name = map_of.same_entries_map _ _ (
    map_of.entries-from_sorted by_bytes ((name, one) ∷ []) tt
    ∙ sym (map_of.entries-insert nat_list_cmp_total map_of.empty name one
    ∙ ap (put by_bytes name one) no_exponents_no_entries))

-- ---- the list of a map

-- powers in order are the entries of their map
pub ordered_powers_are_entries : (items : UnitPowers) (m : Exponents) → ArePowersInOrder items → exponents_in items ≡ m
    → map_of.entries m ≡ items
ordered_powers_are_entries items m order is = ap map_of.entries (sym is)
    ∙ map_of.entries-from_sorted by_bytes items order.sorted_powers

-- a list in order has as many powers as its map has entries
pub ordered_powers_len : (items : UnitPowers) (m : Exponents) → ArePowersInOrder items → exponents_in items ≡ m
    → length items ≡ map_of.len m
ordered_powers_len items m order is = ap length (sym (ordered_powers_are_entries items m order is))
    ∙ sym (map_of.len-entries m)

-- the list is in order, and is that of a map of the program
pub record IsListOf (m : Exponents) (powers : UnitPowers) : Type 0 where
  pub same : powers ≡ map_of.entries m
  pub kept : AreExponents m

-- a list that equals the powers in order is that of their map
pub ordered_powers_list_of_map : (items powers : UnitPowers) (m : Exponents) → ArePowersInOrder items
    → exponents_in items ≡ m → powers ≡ items
    → IsListOf m powers
ordered_powers_list_of_map items powers m order is slice = record {
  same = slice ∙ sym (ordered_powers_are_entries items m order is);
  kept = subst (All IsUnitPower) (sym (ordered_powers_are_entries items m order is)) order.powers_right;
}

-- the exponent of a name in the list is its exponent in the map
pub exponent_in_list : (powers : UnitPowers) (m : Exponents) (q : Name) → IsListOf m powers
    → at powers q ≡ exponent_of m q
exponent_in_list powers m q is = ap (λ es. at es q) is.same ∙ sym (exponent_at m q)
