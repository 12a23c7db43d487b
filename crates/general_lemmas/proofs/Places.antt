-- The items at the places of lists.
use Rattle.std.proofs.Common.{◌≡◌, ◌⊎◌, ◌∙◌, ◌+◌, ◌<◌, ℕ, zero, suc, List, [], ◌∷◌, ◌++◌, length, take, drop, set}
use Rattle.std.proofs.Common.{slice_get, Some, refl, ap, subst, inl, inr, arith}
use Rattle.std.proofs.lemmas.Option.{same_Some}

-- dropping the items before a place leaves the item there and those after it
pub drop_at : {A : Type 0} (xs : List A) (i : ℕ) (v : A) → slice_get xs i ≡ Some v → drop i xs ≡ v ∷ drop (i + 1) xs
drop_at [] i v e = cc
drop_at (x ∷ xs) zero v e = let f : x ≡ v = cc in ap (λ y. y ∷ xs) f
drop_at (x ∷ xs) (suc i) v e =
    let f : suc (i + 1) ≡ suc i + 1 = omega arith in subst (λ j. drop i xs ≡ v ∷ drop j (x ∷ xs)) f (drop_at xs i v e)

-- taking one more place appends the item at that place
pub take_at : {A : Type 0} (xs : List A) (i : ℕ) (v : A) → slice_get xs i ≡ Some v
    → take (i + 1) xs ≡ take i xs ++ v ∷ []
take_at [] i v e = cc
take_at (x ∷ xs) zero v e = let f : x ≡ v = cc in ap (λ y. y ∷ []) f
take_at (x ∷ xs) (suc i) v e =
    let f : suc (i + 1) ≡ suc i + 1 = omega arith in
    subst (λ j. take j (x ∷ xs) ≡ x ∷ take i xs ++ v ∷ []) f (ap (λ ys. x ∷ ys) (take_at xs i v e))

-- the item at a place of the front of a list is the item at that place of the list
pub get_take : {A : Type 0} (n : ℕ) (xs : List A) (i : ℕ) (x : A) → slice_get (take n xs) i ≡ Some x
    → slice_get xs i ≡ Some x
get_take zero xs i x e = cc
get_take (suc n) [] i x e = cc
get_take (suc n) (y ∷ xs) zero x e = e
get_take (suc n) (y ∷ xs) (suc i) x e = get_take n xs i x e

-- the front of a list has the same items at its places
pub get_front : {A : Type 0} (n : ℕ) (xs : List A) (i : ℕ) → i < n → slice_get (take n xs) i ≡ slice_get xs i
get_front zero xs i h = absurd (omega arith)
get_front (suc n) [] i h = refl
get_front (suc n) (x ∷ xs) zero h = refl
get_front (suc n) (x ∷ xs) (suc i) h = get_front n xs i (omega arith)

-- an item of the first of two lists is at its place in their concatenation
pub get_left : {A : Type 0} (xs ys : List A) (i : ℕ) (x : A) → slice_get xs i ≡ Some x → slice_get (xs ++ ys) i ≡ Some x
get_left [] ys i x e = cc
get_left (y ∷ xs) ys zero x e = e
get_left (y ∷ xs) ys (suc i) x e = get_left xs ys i x e

-- an item of the second of two lists is at its place after the first list in their concatenation
pub get_right : {A : Type 0} (xs ys : List A) (i : ℕ) (x : A) → slice_get ys i ≡ Some x
    → slice_get (xs ++ ys) (length xs + i) ≡ Some x
get_right [] ys i x e = let z : 0 + i ≡ i = omega arith in ap (slice_get ys) z ∙ e
get_right (y ∷ xs) ys i x e =
    let z : suc (length xs) + i ≡ suc (length xs + i) = omega arith in
    ap (slice_get (y ∷ (xs ++ ys))) z ∙ get_right xs ys i x e

-- the first item of the second of two lists is at the place after the first list
pub at_length : {A : Type 0} (xs : List A) (y : A) (ys : List A) → slice_get (xs ++ y ∷ ys) (length xs) ≡ Some y
at_length [] y ys = refl
at_length (x ∷ xs) y ys = at_length xs y ys

-- an item of a list with one item appended was there before, or is the appended one
pub get_pushed : {A : Type 0} (xs : List A) (y : A) (i : ℕ) (x : A) → slice_get (xs ++ y ∷ []) i ≡ Some x
    → (slice_get xs i ≡ Some x) ⊎ ((i ≡ length xs) × (y ≡ x))
get_pushed [] y zero x e = inr (refl, same_Some y x e)
get_pushed [] y (suc i) x e = cc
get_pushed (z ∷ xs) y zero x e = inl e
get_pushed (z ∷ xs) y (suc i) x e = elim (get_pushed xs y i x e) [ inl h ↦ inl h | inr h ↦ inr (ap suc h.0, h.1) ]

-- setting a place of a list sets the item there
pub get_set_same : {A : Type 0} (xs : List A) (i : ℕ) (v : A) → i < length xs → slice_get (set xs i v) i ≡ Some v
get_set_same [] i v h = absurd (omega arith)
get_set_same (x ∷ xs) zero v h = refl
get_set_same (x ∷ xs) (suc i) v h = get_set_same xs i v (omega arith)

-- setting a place of a list does not change other places
pub get_set_other : {A : Type 0} (xs : List A) (i j : ℕ) (v : A) → (j ≡ i → ⊥)
    → slice_get (set xs i v) j ≡ slice_get xs j
get_set_other [] i j v h = refl
get_set_other (x ∷ xs) zero zero v h = absurd (h refl)
get_set_other (x ∷ xs) zero (suc j) v h = refl
get_set_other (x ∷ xs) (suc i) zero v h = refl
get_set_other (x ∷ xs) (suc i) (suc j) v h = get_set_other xs i j v (λ e. h (ap suc e))
