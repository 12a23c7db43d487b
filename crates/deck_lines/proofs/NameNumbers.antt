-- Names and their numbers.
use Rattle.std.proofs.Common.{◌≡◌, ◌++◌, ◌∷◌, ◌+◌, ◌||◌, [], ℕ, zero, suc, List, Bool, true, false, true≢false, not}
use Rattle.std.proofs.Common.{cond, length, map, refl, sym, ap, subst, ◌∙◌, inl, inr, arith, Option, Some, None}
use Rattle.std.proofs.Common.{option_map, slice_get, get_or, ◌<◌, ◌≤◌}
use Rattle.std.specs.Prelude.{MatchOption, is_some}
use Rattle.std.specs.List.{list_any, position, position_or_len}
use Rattle.std.specs.Str.{bytes_eq}
use Rattle.std.specs.Cmp.Lexicographic.{bytes_decides}
use Rattle.std.proofs.lemmas.List.{map-append}
use Rattle.std.proofs.lemmas.List.Quantifiers.{position-Some}
use Rattle.std.proofs.lemmas.Option.{same_Some, slice_get-get_or, slice_get-map}
use Rattle.std.proofs.lemmas.Slice.Eq.{bytes_eq-Decides}
use Rattle.indexmap.specs.IndexSet.{insert_key}
use Rattle.deck_lines.specs.Names.{key_number_names_with_name}
use Rattle.deck_lines.specs.NumberedNames.{AreKeyNamesUpTo}
use Rattle.general_lemmas.proofs.Places.{get_pushed}

module _ {K : Type 0} (items : K → List ℕ) (name : List ℕ) where
  -- a name is among the names of keys exactly if a key has this name
  pub any_seen : (ks : List K) → list_any (bytes_eq name) (map items ks) ≡ list_any (λ k. bytes_eq name (items k)) ks
  any_seen [] = refl
  any_seen (k ∷ ks) = ap (λ b. bytes_eq name (items k) || b) (any_seen ks)

  -- the place of a name among the names of keys is the place of the first key with this name
  pub place_seen : (ks : List K)
      → position_or_len (bytes_eq name) (map items ks) ≡ position_or_len (λ k. bytes_eq name (items k)) ks
  place_seen [] = refl
  place_seen (k ∷ ks) = ap (λ n. cond (not (bytes_eq name (items k))) (1 + n) 0) (place_seen ks)

-- inserting a key inserts its name
pub key_number_put_inserts_name : {K : Type 0} (items : K → List ℕ) (k : K) (ks : List K) →
    map items (insert_key (λ a b. bytes_eq (items a) (items b)) ks k) ≡ key_number_names_with_name (items k)
    (map items ks)
key_number_put_inserts_name items k ks =
    by (list_any (λ a. bytes_eq (items k) (items a)) ks)
    ∙ ap (λ b. cond b (map items ks) (map items ks ++ items k ∷ [])) (sym (any_seen items (items k) ks))
  where
    by : (b : Bool) → map items (cond b ks (ks ++ k ∷ [])) ≡ cond b (map items ks) (map items ks ++ items k ∷ [])
    by true = refl
    by false = map-append items ks (k ∷ [])

-- a name that is found is at its place among the names
pub key_number_of_found_name : {K : Type 0} (items : K → List ℕ) (name : List ℕ) (ks : List K) (i : ℕ) →
    position (λ k. bytes_eq name (items k)) ks ≡ Some i → slice_get (map items ks) i ≡ Some name
key_number_of_found_name items name [] i e = absurd (cc)
key_number_of_found_name items name (k ∷ ks) i e =
    let at = position-Some (λ a. bytes_eq name (items a)) (k ∷ ks) i k e in
    slice_get-map items (k ∷ ks) i ∙ ap (option_map items) (slice_get-get_or (k ∷ ks) i k at.0)
    ∙ ap Some (sym ((bytes_eq-Decides name (items (get_or (k ∷ ks) i k))).0 at.1))

-- the result of a lookup of a name
pub key_number_of_name_lookup : {K : Type 0} (items : K → List ℕ) (name : List ℕ) (ks : List K) (r : Option ℕ)
    (names : List (List ℕ))
    → map items ks ≡ names →
    r ≡ position (λ k. bytes_eq name (items k)) ks → is_some r ≡ list_any (λ k. bytes_eq name (items k)) ks →
    MatchOption r (list_any (bytes_eq name) names ≡ false) (λ n. slice_get names n ≡ Some name)
key_number_of_name_lookup items name ks None names e at found = ap (list_any (bytes_eq name)) (sym e)
    ∙ any_seen items name ks
    ∙ sym found
key_number_of_name_lookup items name ks (Some n) names e at found = ap (λ l. slice_get l n) (sym e)
    ∙ key_number_of_found_name items name ks n (sym at)

-- a name that is longer than the limit of all names in a list is not among them
pub longer_name_has_no_key_number : (name : List ℕ) (most : ℕ) (names : List (List ℕ)) → AreKeyNamesUpTo most names
    → most < length name
    → list_any (bytes_eq name) names ≡ false
longer_name_has_no_key_number name most [] short longer = refl
longer_name_has_no_key_number name most (x ∷ xs) short longer =
    by _ refl (longer_name_has_no_key_number name most xs short.1 longer)
  where
    by : (b : Bool) → bytes_eq name x ≡ b → list_any (bytes_eq name) xs ≡ false
        → (bytes_eq name x || list_any (bytes_eq name) xs) ≡ false
    by true e rest =
        let fits : length name ≤ most = subst (λ (n : List ℕ). length n ≤ most) (sym ((bytes_eq-Decides name x).0 e))
        short.0 in
        absurd (omega arith)
    by false e rest = rw e rest

-- names up to a length are names up to each greater length
pub AreUpTo-more : (most more : ℕ) (names : List (List ℕ)) → most ≤ more → AreKeyNamesUpTo most names
    → AreKeyNamesUpTo more names
AreUpTo-more most more [] fits short = tt
AreUpTo-more most more (x ∷ xs) fits short = (omega arith, AreUpTo-more most more xs fits short.1)

-- names up to a length stay so after one more name up to that length is added
pub AreUpTo-with_name : (most : ℕ) (name : List ℕ) (names : List (List ℕ)) → length name ≤ most
    → AreKeyNamesUpTo most names
    → AreKeyNamesUpTo most (key_number_names_with_name name names)
AreUpTo-with_name most name names fits short = by (list_any (bytes_eq name) names)
  where
    more : (xs : List (List ℕ)) → AreKeyNamesUpTo most xs → AreKeyNamesUpTo most (xs ++ name ∷ [])
    more [] all = (fits, tt)
    more (x ∷ xs) all = (all.0, more xs all.1)

    by : (b : Bool) → AreKeyNamesUpTo most (cond b names (names ++ name ∷ []))
    by true = short
    by false = more names short

-- an added name is at its place: its old place if it was present, or else the end
abbrev At : List ℕ → List ℕ → List (List ℕ) → Bool → Type 0
At name x xs b =
    slice_get (cond (b || list_any (bytes_eq name) xs) (x ∷ xs) (x ∷ xs ++ name ∷ []))
    (cond (not b) (1 + position_or_len (bytes_eq name) xs) 0) ≡ Some name

-- an added name is at the place of its number
pub put_name_has_its_key_number : (name : List ℕ) (names : List (List ℕ))
    → slice_get (key_number_names_with_name name names) (position_or_len (bytes_eq name) names) ≡ Some name
put_name_has_its_key_number name [] = refl
put_name_has_its_key_number name (x ∷ xs) = by (bytes_eq name x) refl (put_name_has_its_key_number name xs)
  where
    behind : (c : Bool) (ys : List (List ℕ)) (n : ℕ)
        → slice_get (cond c (x ∷ xs) (x ∷ ys)) (suc n) ≡ slice_get (cond c xs ys) n
    behind true ys n = refl
    behind false ys n = refl

    next : (n : ℕ) → 1 + n ≡ suc n
    next n = omega arith

    by : (b : Bool) → bytes_eq name x ≡ b → slice_get (key_number_names_with_name name xs)
        (position_or_len (bytes_eq name) xs)
        ≡ Some name → At name x xs (bytes_eq name x)
    by true e rest = subst (At name x xs) (sym e) (ap Some (sym ((bytes_eq-Decides name x).0 e)))
    by false e rest =
        subst (At name x xs) (sym e)
        (ap (slice_get (cond (list_any (bytes_eq name) xs) (x ∷ xs) (x ∷ xs ++ name ∷ [])))
        (next (position_or_len (bytes_eq name) xs))
        ∙ behind (list_any (bytes_eq name) xs) (xs ++ name ∷ []) (position_or_len (bytes_eq name) xs)
        ∙ rest)

-- a name at a place of a list is among the names
pub name_with_key_number_is_any : (name : List ℕ) (names : List (List ℕ)) (i : ℕ) → slice_get names i ≡ Some name
    → list_any (bytes_eq name) names ≡ true
name_with_key_number_is_any name [] i e = absurd (cc)
name_with_key_number_is_any name (x ∷ xs) zero e =
    let same : name ≡ x = sym (same_Some x name e) in
    ap (λ b. b || list_any (bytes_eq name) xs) ((bytes_decides name x).1 same)
name_with_key_number_is_any name (x ∷ xs) (suc i) e = ap (λ b. bytes_eq name x || b)
    (name_with_key_number_is_any name xs i e)
    ∙ either (bytes_eq name x)
  where
    either : (b : Bool) → (b || true) ≡ true
    either true = refl
    either false = refl

-- names keep their numbers when one more name is added
pub key_numbers_of_names_stay : (name : List ℕ) (names : List (List ℕ)) (i : ℕ) (x : List ℕ)
    → slice_get names i ≡ Some x
    → slice_get (key_number_names_with_name name names) i ≡ Some x
key_numbers_of_names_stay name names i x e = by (list_any (bytes_eq name) names)
  where
    front : (xs : List (List ℕ)) (n : ℕ) → slice_get xs n ≡ Some x → slice_get (xs ++ name ∷ []) n ≡ Some x
    front [] n p = absurd (cc)
    front (y ∷ ys) zero p = p
    front (y ∷ ys) (suc n) p = front ys n p

    by : (b : Bool) → slice_get (cond b names (names ++ name ∷ [])) i ≡ Some x
    by true = e
    by false = front names i e

-- no name is at two places
abbrev pub IsDistinct : List (List ℕ) → Type 0
IsDistinct names = (i j : ℕ) (x : List ℕ) → slice_get names i ≡ Some x → slice_get names j ≡ Some x → i ≡ j

-- no name is at two places after one more name is added
pub key_number_names_distinct_put : (name : List ℕ) (names : List (List ℕ)) → IsDistinct names
    → IsDistinct (key_number_names_with_name name names)
key_number_names_distinct_put name names once = by (list_any (bytes_eq name) names) refl
  where
    new : list_any (bytes_eq name) names ≡ false → (i : ℕ) (x : List ℕ) → slice_get names i ≡ Some x → name ≡ x → ⊥
    new none i x at same =
        true≢false (sym (name_with_key_number_is_any name names i (at ∙ ap Some (sym same))) ∙ none)

    by : (b : Bool) → list_any (bytes_eq name) names ≡ b → IsDistinct (cond b names (names ++ name ∷ []))
    by true e = once
    by false e = λ i j x p q. elim (get_pushed names name i x p) [
      | inl a ↦ elim (get_pushed names name j x q) [ inl b ↦ once i j x a b | inr b ↦ absurd (new e i x a b.1) ]
      | inr a ↦ elim (get_pushed names name j x q) [ inl b ↦ absurd (new e j x b a.1) | inr b ↦ a.0 ∙ sym b.0 ]
    ]
