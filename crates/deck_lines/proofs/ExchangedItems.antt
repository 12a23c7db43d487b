-- Items of lists after a part is replaced.
use Rattle.std.proofs.Common.{◌≡◌, ◌++◌, ◌∷◌, ◌+◌, ◌-◌, ◌<◌, ◌≤◌, ◌⊎◌, [], ℕ, zero, suc, List, length, take, drop, inl}
use Rattle.std.proofs.Common.{inr, refl, sym, ap, ◌∙◌, arith, length-append, length-drop, length-take, Some, None}
use Rattle.std.proofs.Common.{slice_get}
use Rattle.std.proofs.lemmas.List.{append-nil, drop_all, take_all}
use Rattle.std.proofs.lemmas.Option.{slice_get_past, slice_get_within}
use Rattle.general_lemmas.proofs.Places.{get_front}

-- an item of two joined lists is an item of the first or of the second
pub get_append : {A : Type 0} (xs ys : List A) (i : ℕ) (x : A) → slice_get (xs ++ ys) i ≡ Some x
    → (slice_get xs i ≡ Some x) ⊎ ((j : ℕ) × (slice_get ys j ≡ Some x))
get_append [] ys i x e = inr (i, e)
get_append (y ∷ xs) ys zero x e = inl e
get_append (y ∷ xs) ys (suc i) x e = get_append xs ys i x e

-- if two lists have the same item at two places, and the place in the first is within it, so is that in the second
pub store_item_found_inside : {A : Type 0} (xs ys : List A) (i j : ℕ) → i < length xs → slice_get xs i ≡ slice_get ys j
    → j < length ys
store_item_found_inside [] ys i j h e = absurd (omega arith)
store_item_found_inside (x ∷ xs) ys zero j h e = slice_get_within ys j x (sym e)
store_item_found_inside (x ∷ xs) ys (suc i) j h e = store_item_found_inside xs ys i j (omega arith) e

-- the item at a place of the rest of a list is that many places further in the list
pub store_item_at_drop : {A : Type 0} (n : ℕ) (xs : List A) (i : ℕ) → slice_get (drop n xs) i ≡ slice_get xs (n + i)
store_item_at_drop zero xs i = ap (slice_get xs) (zero_plus i)
  where
    zero_plus : (m : ℕ) → m ≡ 0 + m
    zero_plus m = omega arith
store_item_at_drop (suc n) [] i = refl
store_item_at_drop (suc n) (y ∷ xs) i = store_item_at_drop n xs i ∙ ap (slice_get (y ∷ xs)) (next n i)
  where
    next : (m j : ℕ) → suc (m + j) ≡ suc m + j
    next m j = omega arith

-- an item of the rest of a list is an item of the list, that many places further
pub get_drop : {A : Type 0} (n : ℕ) (xs : List A) (i : ℕ) (x : A) → slice_get (drop n xs) i ≡ Some x
    → slice_get xs (n + i) ≡ Some x
get_drop n xs i x e = sym (store_item_at_drop n xs i) ∙ e

-- the items of the first of two joined lists keep their places
pub store_item_at_first : {A : Type 0} (xs ys : List A) (i : ℕ) → i < length xs
    → slice_get (xs ++ ys) i ≡ slice_get xs i
store_item_at_first [] ys i h = absurd (omega arith)
store_item_at_first (x ∷ xs) ys zero h = refl
store_item_at_first (x ∷ xs) ys (suc i) h = store_item_at_first xs ys i (omega arith)

-- after the first of two joined lists follow the items of the second
pub store_item_at_second : {A : Type 0} (xs ys : List A) (i : ℕ) → slice_get (xs ++ ys) (length xs + i) ≡ slice_get ys i
store_item_at_second [] ys i = ap (slice_get ys) (zero_plus i)
  where
    zero_plus : (m : ℕ) → 0 + m ≡ m
    zero_plus m = omega arith
store_item_at_second (x ∷ xs) ys i = ap (slice_get (x ∷ (xs ++ ys))) (next (length xs) i) ∙ store_item_at_second xs ys i
  where
    next : (m j : ℕ) → suc m + j ≡ suc (m + j)
    next m j = omega arith

-- the items of a list after a part is replaced: those before it, the new ones, and those after it
module _ {A : Type 0} (xs ys : List A) (at cut : ℕ) (h : at + cut ≤ length xs) where
  front_len : length (take at xs) ≡ at
  front_len = omega (arith, h, length-take at xs)

  pub exchanged_front : (place : ℕ) → place < at → slice_get (take at xs ++ (ys ++ drop (at + cut) xs)) place
      ≡ slice_get xs place
  exchanged_front place l = store_item_at_first (take at xs) (ys ++ drop (at + cut) xs) place
      (omega (arith, l, front_len))
      ∙ get_front at xs place l

  past_front : (place j : ℕ) → place ≡ at + j → slice_get (take at xs ++ (ys ++ drop (at + cut) xs)) place
      ≡ slice_get (ys ++ drop (at + cut) xs) j
  past_front place j e =
      let same : place ≡ length (take at xs) + j = omega (arith, e, front_len) in
      ap (slice_get (take at xs ++ (ys ++ drop (at + cut) xs))) same
      ∙ store_item_at_second (take at xs) (ys ++ drop (at + cut) xs) j

  pub exchanged_put : (place j : ℕ) → place ≡ at + j → j < length ys
      → slice_get (take at xs ++ (ys ++ drop (at + cut) xs)) place ≡ slice_get ys j
  exchanged_put place j e l = past_front place j e ∙ store_item_at_first ys (drop (at + cut) xs) j l

  pub exchanged_behind : (place k : ℕ) → place ≡ at + (length ys + k)
      → slice_get (take at xs ++ (ys ++ drop (at + cut) xs)) place ≡ slice_get xs (at + cut + k)
  exchanged_behind place k e = past_front place (length ys + k) e ∙ store_item_at_second ys (drop (at + cut) xs) k
      ∙ store_item_at_drop (at + cut) xs k

  pub exchanged_past : (place k : ℕ) → place ≡ at + (length ys + k) → length xs - (at + cut) ≤ k
      → slice_get (take at xs ++ (ys ++ drop (at + cut) xs)) place ≡ None
  exchanged_past place k e l = exchanged_behind place k e ∙ slice_get_past xs (at + cut + k) (omega (arith, l, h))

  pub exchanged_len : length (take at xs ++ (ys ++ drop (at + cut) xs)) ≡ length xs - cut + length ys
  exchanged_len =
      omega (
        arith,
        h,
        length-append (take at xs) (ys ++ drop (at + cut) xs),
        length-append ys (drop (at + cut) xs),
        length-take at xs,
        length-drop (at + cut) xs,
      )

-- inserting nothing at the end does not change a list
pub store_exchange_of_nothing : {A : Type 0} (xs : List A) (n : ℕ) → n ≡ length xs
    → take n xs ++ ([] ++ drop (n + 0) xs) ≡ xs
store_exchange_of_nothing xs n e =
    ap (λ t. t ++ ([] ++ drop (n + 0) xs)) (take_all n xs (omega (arith, e)))
    ∙ ap (λ t. xs ++ ([] ++ t)) (drop_all (n + 0) xs (omega (arith, e))) ∙ append-nil xs
