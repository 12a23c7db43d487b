-- The byte order of names, and lists of powers in it.
use Rattle.std.proofs.Common.{◌≡◌, refl, sym, ap, subst, ◌∙◌, Bool, true, false, cond, ◌&&◌, T, ℕ, List, [], ◌∷◌, ◌⊎◌}
use Rattle.std.proofs.Common.{inl, inr, None, Some}
use Rattle.std.specs.Cmp.{tied_itself}
use Rattle.std.specs.Cmp.Lexicographic.{slice_cmp, nat_list_cmp_total}
use Rattle.std.specs.FinMap.{slice_cmp-IsAntisymmetric, nat_cmp-IsAntisymmetric}
use Rattle.std.specs.FinMap.Entries.{below_all, find}
use Rattle.std.specs.Ordering.{nat_cmp, eq_by_cmp, is_eq, is_lt, ordering_reverse}
use Rattle.std.specs.declared.cmp.Ordering.{Ordering}
use Rattle.std.specs.declared.cmp.Ordering.TheVariants.{Less, Equal, Greater}
use Rattle.quantity.specs.Merges.{UnitPowers}

-- a name, given by its bytes
abbrev pub Name : Type 0
Name = List ℕ

-- the order of bytes
abbrev pub by_bytes : Name → Name → Ordering
by_bytes = slice_cmp nat_cmp

-- the test whether names are equal in that order
abbrev pub is_name : Name → Name → Bool
is_name = eq_by_cmp by_bytes

-- names that are equal in that order are equal
pub equal_power_names_are_same : (x y : Name) → by_bytes x y ≡ Equal → x ≡ y
equal_power_names_are_same = slice_cmp-IsAntisymmetric nat_cmp-IsAntisymmetric

-- a name is equal to itself
pub power_name_is_itself : (x : Name) → is_name x x ≡ true
power_name_is_itself x = ap is_eq (tied_itself nat_list_cmp_total x)

-- two names are equal, or the test tells them apart
pub power_names_are_same_or_apart : (x y : Name) → (x ≡ y) ⊎ (is_name x y ≡ false)
power_names_are_same_or_apart x y = elim (by_bytes x y) as (λ r. by_bytes x y ≡ r → (x ≡ y) ⊎ (is_name x y ≡ false)) [
  | Less ↦ λ e. inr (ap is_eq e)
  | Equal ↦ λ e. inl (equal_power_names_are_same x y e)
  | Greater ↦ λ e. inr (ap is_eq e)
] refl

-- if two tests hold, their conjunction holds
pub and_from_both : (a b : Bool) → T a → T b → T (a && b)
and_from_both true b p q = q
and_from_both false b p q = p

-- if a conjunction holds, so does its first test
pub and_first : (a b : Bool) → T (a && b) → T a
and_first true b p = tt
and_first false b p = p

-- if a conjunction holds, so does its second test
pub and_second : (a b : Bool) → T (a && b) → T b
and_second true b p = p
and_second false b p = absurd p

-- an order that passes the test for less is `Less`
pub power_order_is_less : (r : Ordering) → T (is_lt r) → r ≡ Less
power_order_is_less Less p = refl
power_order_is_less Equal p = absurd p
power_order_is_less Greater p = absurd p

-- a lower name passes the test for less
pub lower_power_name_is_less : (x y : Name) → by_bytes x y ≡ Less → T (is_lt (by_bytes x y))
lower_power_name_is_less x y e = subst (λ r. T (is_lt r)) (sym e) tt

-- if a name is above another, the other is below it
pub power_name_order_reverses : (x y : Name) → by_bytes x y ≡ Greater → by_bytes y x ≡ Less
power_name_order_reverses x y e = nat_list_cmp_total.antisymm y x ∙ ap ordering_reverse e

-- a name below a name that is below all powers is below all powers
pub lower_name_below_powers : (x y : Name) (es : UnitPowers) → by_bytes x y ≡ Less → T (below_all by_bytes y es)
    → T (below_all by_bytes x es)
lower_name_below_powers x y [] p h = tt
lower_name_below_powers x y (e ∷ es) p h =
    and_from_both _ _ (lower_power_name_is_less x e.0
    (nat_list_cmp_total.trans x y e.0 p (power_order_is_less _ (and_first _ _ h))))
    (lower_name_below_powers x y es p (and_second _ _ h))

-- a lookup does not find a name that is below all powers
pub find_below_powers_is_none : (q : Name) (es : UnitPowers) → T (below_all by_bytes q es) → find by_bytes q es ≡ None
find_below_powers_is_none q [] h = refl
find_below_powers_is_none q (e ∷ es) h = ap (λ r. cond (is_eq r) (Some e.1) (find by_bytes q es))
    (power_order_is_less _ (and_first _ _ h))
    ∙ find_below_powers_is_none q es (and_second _ _ h)
