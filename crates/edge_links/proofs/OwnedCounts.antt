-- The number of places that a head owns.
use Rattle.std.proofs.Common.{◌≡◌, ℕ, zero, suc, ◌+◌, ◌<◌, ◌≤◌, cond, List, [], ◌∷◌, ◌++◌, length, set, get_or, nat_eq}
use Rattle.std.proofs.Common.{refl, sym, arith, inl, inr}
use Rattle.std.proofs.lemmas.Bool.{cond-true, cond-false, eq-eqb, ne_eqb, cases_eq}
use Rattle.edge_links.specs.Owners.{link_owned_count}
use Rattle.edge_links.specs.Times.{times}

-- if a is 1 and b is 0, b + c is one less than a + c
ones : (a b c : ℕ) → a ≡ 1 → b ≡ 0 → b + c + 1 ≡ a + c
ones a b c e f = omega arith

-- moving a place to another owner decreases the count of the old owner by one
pub moved_link_lowers_owned_count : (x y : ℕ) (xs : List ℕ) (p : ℕ) → p < length xs → get_or xs p 0 ≡ x → (y ≡ x → ⊥)
    → link_owned_count x (set xs p y) + 1 ≡ link_owned_count x xs
moved_link_lowers_owned_count x y [] p l e ne = absurd (omega arith)
moved_link_lowers_owned_count x y (z ∷ xs) zero l e ne =
    let a : cond (nat_eq z x) 1 0 ≡ 1 = cond-true (nat_eq z x) 1 0 (eq-eqb z x e) in
    let b : cond (nat_eq y x) 1 0 ≡ 0 = cond-false (nat_eq y x) 1 0 (ne_eqb y x ne) in ones _ _ _ a b
moved_link_lowers_owned_count x y (z ∷ xs) (suc p) l e ne =
    omega (arith, moved_link_lowers_owned_count x y xs p (omega arith) e ne)

-- moving a place to another owner increases the count of the new owner by one
pub moved_link_raises_owned_count : (x : ℕ) (xs : List ℕ) (p : ℕ) → p < length xs → (get_or xs p 0 ≡ x → ⊥)
    → link_owned_count x (set xs p x) ≡ link_owned_count x xs + 1
moved_link_raises_owned_count x [] p l ne = absurd (omega arith)
moved_link_raises_owned_count x (z ∷ xs) zero l ne =
    let a : cond (nat_eq x x) 1 0 ≡ 1 = cond-true (nat_eq x x) 1 0 (eq-eqb x x refl) in
    let b : cond (nat_eq z x) 1 0 ≡ 0 = cond-false (nat_eq z x) 1 0 (ne_eqb z x ne) in sym (ones _ _ _ a b)
moved_link_raises_owned_count x (z ∷ xs) (suc p) l ne =
    omega (arith, moved_link_raises_owned_count x xs p (omega arith) ne)

-- an owner has at most as many places as there are
pub link_owned_count_is_bounded : (x : ℕ) (xs : List ℕ) → link_owned_count x xs ≤ length xs
link_owned_count_is_bounded x [] = omega arith
link_owned_count_is_bounded x (z ∷ xs) = elim (cases_eq z x) [
  | inl e ↦ let a : cond (nat_eq z x) 1 0 ≡ 1 =
      cond-true (nat_eq z x) 1 0 (eq-eqb z x e) in le_one _ _ _ a (link_owned_count_is_bounded x xs)
  | inr ne ↦ let a : cond (nat_eq z x) 1 0 ≡ 0 =
      cond-false (nat_eq z x) 1 0 (ne_eqb z x ne) in le_none _ _ _ a (link_owned_count_is_bounded x xs)
]
  where
    le_one : (a b c : ℕ) → a ≡ 1 → b ≤ c → a + b ≤ suc c
    le_one a b c e h = omega arith

    le_none : (a b c : ℕ) → a ≡ 0 → b ≤ c → a + b ≤ suc c
    le_none a b c e h = omega arith

-- place 0 owns itself
pub link_place_zero_owns_itself : (xs : List ℕ) → 0 < length xs → get_or xs 0 0 ≡ 0 → 1 ≤ times 0 xs
link_place_zero_owns_itself [] l e = omega (arith, l)
link_place_zero_owns_itself (z ∷ xs) l e = some _ _ (cond-true (nat_eq z 0) 1 0 (eq-eqb z 0 e))
  where
    some : (a c : ℕ) → a ≡ 1 → 1 ≤ a + c
    some a c e = omega arith

-- appending a place increases the count of its owner by one, and changes no other count
pub appended_link_place_is_owned : (x : ℕ) (xs : List ℕ) (y : ℕ) → times x (xs ++ y ∷ []) ≡ times x xs + cond
    (nat_eq y x) 1 0
appended_link_place_is_owned x [] y = omega arith
appended_link_place_is_owned x (z ∷ xs) y = omega (arith, appended_link_place_is_owned x xs y)

-- a number that occurs in a list is at some index
pub some_place : (x : ℕ) (xs : List ℕ) → 0 < times x xs → (p : ℕ) × (p < length xs) × (get_or xs p 0 ≡ x)
some_place x [] l = absurd (omega (arith, l))
some_place x (z ∷ xs) l = elim (cases_eq z x) [
  | inl e ↦ (0, omega arith, e)
  | inr ne ↦ let r = some_place x xs (rest _ _ (cond-false (nat_eq z x) 1 0 (ne_eqb z x ne)) l)
      in (suc r.0, let a = r.1 in omega arith, r.2)
]
  where
    rest : (a c : ℕ) → a ≡ 0 → 0 < a + c → 0 < c
    rest a c e h = omega arith

-- a head that owns no other place owns at most one
pub lone_link_head_owns_at_most_one : (xs : List ℕ) → ((p : ℕ) → p < length xs → get_or xs p 0 ≡ 0 → p ≡ 0)
    → 1 < times 0 xs → ⊥
lone_link_head_owns_at_most_one [] f l = omega (arith, l)
lone_link_head_owns_at_most_one (z ∷ xs) f l =
    let r = some_place 0 xs (rest _ _ (one z) l) in
    let a : suc r.0 ≡ 0 = f (suc r.0) (let b = r.1 in omega arith) r.2 in omega arith
  where
    rest : (a c : ℕ) → a ≤ 1 → 1 < a + c → 0 < c
    rest a c e h = omega arith

    at_most : (a : ℕ) → a ≡ 1 → a ≤ 1
    at_most a e = omega arith

    none : (a : ℕ) → a ≡ 0 → a ≤ 1
    none a e = omega arith

    one : (z : ℕ) → cond (nat_eq z 0) 1 0 ≤ 1
    one z = elim (cases_eq z 0) [
      | inl e ↦ at_most _ (cond-true (nat_eq z 0) 1 0 (eq-eqb z 0 e))
      | inr ne ↦ none _ (cond-false (nat_eq z 0) 1 0 (ne_eqb z 0 ne))
    ]
