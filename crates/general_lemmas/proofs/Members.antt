-- Members of lists, and of lists that are computed from lists.
use Rattle.std.proofs.Common.{◌≡◌, ◌⊎◌, ℕ, zero, suc, ◌<◌, Bool, true, List, [], ◌∷◌, length, map, get_or}
use Rattle.std.proofs.Common.{Contains, flat_map, slice_get, Some, refl, sym, ap, subst, inl, inr, arith}
use Rattle.std.specs.List.{list_any}
use Rattle.std.proofs.lemmas.Bool.{or_cases, or_left, or_right}
use Rattle.std.proofs.lemmas.List.Elements.{Contains-append_cases, Contains-append_left, Contains-append_right}
use Rattle.std.proofs.lemmas.Option.{get_or_from_slice_get, slice_get_within}

module _ {A : Type 0} where
  -- an empty list contains nothing
  pub no_member : (x : A) → Contains [] x → ⊥
  no_member x h = let l = h.1 in omega (arith, l)

  -- a list contains its first item
  pub member_first : (x y : A) (xs : List A) → x ≡ y → Contains (y ∷ xs) x
  member_first x y xs e = (0, omega arith, sym e)

  -- a list contains each item of the rest
  pub member_later : (x y : A) (xs : List A) → Contains xs x → Contains (y ∷ xs) x
  member_later x y xs h = (suc h.0, let l = h.1 in omega arith, h.2)

  -- an item of a list is the first one or an item of the rest
  pub member_cases : (x y : A) (xs : List A) → Contains (y ∷ xs) x → (x ≡ y) ⊎ Contains xs x
  member_cases x y xs h = at h.0 h.1 h.2
    where
      at : (i : ℕ) → i < length (y ∷ xs) → get_or (y ∷ xs) i x ≡ x → (x ≡ y) ⊎ Contains xs x
      at zero l e = inl (sym e)
      at (suc i) l e = inr (i, omega arith, e)

  -- a list contains the item at each place
  pub member_at : (xs : List A) (i : ℕ) (x : A) → slice_get xs i ≡ Some x → Contains xs x
  member_at xs i x e = (i, slice_get_within xs i x e, get_or_from_slice_get xs i x x e)

  -- a list with an item that passes a test passes `list_any`
  pub any_member : (p : A → Bool) (xs : List A) (x : A) → Contains xs x → p x ≡ true → list_any p xs ≡ true
  any_member p [] x i e = absurd (no_member x i)
  any_member p (y ∷ ys) x i e =
      elim (member_cases x y ys i) [
        | inl q ↦ or_left (p y) (list_any p ys) (subst (λ z. p z ≡ true) q e)
        | inr j ↦ or_right (p y) (list_any p ys) (any_member p ys x j e)
      ]

  -- a list that passes `list_any` has an item that passes the test
  pub any_cases : (p : A → Bool) (xs : List A) → list_any p xs ≡ true → (x : A) × Contains xs x × (p x ≡ true)
  any_cases p [] e = cc
  any_cases p (y ∷ ys) e =
      elim (or_cases (p y) (list_any p ys) e) [
        | inl q ↦ (y, member_first y y ys refl, q)
        | inr q ↦ let r = any_cases p ys q in (r.0, member_later r.0 y ys r.1, r.2)
      ]

module _ {A B : Type 0} where
  -- functions that agree on the items of a list have the same images
  pub map_same : (f g : A → B) (xs : List A) → ((x : A) → Contains xs x → f x ≡ g x) → map f xs ≡ map g xs
  map_same f g [] h = refl
  map_same f g (y ∷ ys) h =
      let e : f y ≡ g y = h y (member_first y y ys refl) in
      let r : map f ys ≡ map g ys = map_same f g ys (λ x i. h x (member_later x y ys i)) in
      λ i. e i ∷ r i

  -- the images of a list contain the image of each item
  pub map_member : (f : A → B) (xs : List A) (x : A) → Contains xs x → Contains (map f xs) (f x)
  map_member f [] x i = absurd (no_member x i)
  map_member f (y ∷ ys) x i =
      elim (member_cases x y ys i) [
        | inl e ↦ member_first (f x) (f y) (map f ys) (ap f e)
        | inr l ↦ member_later (f x) (f y) (map f ys) (map_member f ys x l)
      ]

  -- an item of the images of a list is the image of an item
  pub map_cases : (f : A → B) (xs : List A) (y : B) → Contains (map f xs) y → (x : A) × Contains xs x × (y ≡ f x)
  map_cases f [] y i = absurd (no_member y i)
  map_cases f (x ∷ xs) y i =
      elim (member_cases y (f x) (map f xs) i) [
        | inl e ↦ (x, member_first x x xs refl, e)
        | inr j ↦ let r = map_cases f xs y j in (r.0, member_later r.0 x xs r.1, r.2)
      ]

  -- the lists of all items together contain what the list of one item contains
  pub flat_member : (f : A → List B) (xs : List A) (x : A) (b : B) → Contains xs x → Contains (f x) b
      → Contains (flat_map f xs) b
  flat_member f [] x b i j = absurd (no_member x i)
  flat_member f (y ∷ ys) x b i j =
      elim (member_cases x y ys i) [
        | inl e ↦ Contains-append_left (f y) (flat_map f ys) b (subst (λ z. Contains (f z) b) e j)
        | inr k ↦ Contains-append_right (f y) (flat_map f ys) b (flat_member f ys x b k j)
      ]

  -- what the lists of all items together contain is in the list of one item
  pub flat_cases : (f : A → List B) (xs : List A) (b : B) → Contains (flat_map f xs) b
      → (x : A) × Contains xs x × Contains (f x) b
  flat_cases f [] b i = absurd (no_member b i)
  flat_cases f (y ∷ ys) b i =
      elim (Contains-append_cases (f y) (flat_map f ys) b i) [
        | inl j ↦ (y, member_first y y ys refl, j)
        | inr j ↦ let r = flat_cases f ys b j in (r.0, member_later r.0 y ys r.1, r.2)
      ]
