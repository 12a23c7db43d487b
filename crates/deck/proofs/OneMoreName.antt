-- Names extended by one.
use Rattle.std.proofs.Common.{◌≡◌, ◌++◌, ◌∷◌, ◌+◌, ◌≤◌, [], ℕ, zero, suc, List, Bool, true, false, cond, length}
use Rattle.std.proofs.Common.{length-append, refl, sym, ap, ◌∙◌, arith, Option, Some, None, option_map, slice_get}
use Rattle.std.proofs.lemmas.Option.{same_Some}
use Rattle.std.specs.List.{list_any}
use Rattle.std.specs.Str.{bytes_eq}
use Rattle.def_entry.specs.declared.key.Key.{Key}
use Rattle.def_entry.specs.declared.key.Kind.{Kind}
use Rattle.def_entry.specs.declared.key.Kind.TheVariants as kind
use Rattle.def_entry.specs.Keys.{key}
use Rattle.def_entry.specs.SameKeys.{is_same_key_kind}
use Rattle.deck_lines.specs.Names.{KeyNumberNames, is_key_numbered, key_number_names_of_kind}
use Rattle.deck_lines.specs.Names.{key_number_names_with_kind, key_number_names_with_name, key_numbered}
use Rattle.deck_lines.specs.Names.{key_numbers_with_key}
use Rattle.deck_lines.specs.declared.key_number.KeyNumber.{KeyNumber}
use Rattle.deck.proofs.Sameness.{same_deck_kinds_are_equal}
use Rattle.general_lemmas.proofs.Places.{get_left}

-- if the names of one kind are replaced, those of the other kinds stay
deck_names_of_replaced_kind : (names : KeyNumberNames) (a b : Kind) (these : List (List ℕ))
    → key_number_names_of_kind (key_number_names_with_kind names a these) b ≡ cond (is_same_key_kind b a) these
    (key_number_names_of_kind names b)
deck_names_of_replaced_kind names kind.Unit kind.Unit these = refl
deck_names_of_replaced_kind names kind.Unit kind.Prefix these = refl
deck_names_of_replaced_kind names kind.Unit kind.Func these = refl
deck_names_of_replaced_kind names kind.Unit kind.List these = refl
deck_names_of_replaced_kind names kind.Prefix kind.Unit these = refl
deck_names_of_replaced_kind names kind.Prefix kind.Prefix these = refl
deck_names_of_replaced_kind names kind.Prefix kind.Func these = refl
deck_names_of_replaced_kind names kind.Prefix kind.List these = refl
deck_names_of_replaced_kind names kind.Func kind.Unit these = refl
deck_names_of_replaced_kind names kind.Func kind.Prefix these = refl
deck_names_of_replaced_kind names kind.Func kind.Func these = refl
deck_names_of_replaced_kind names kind.Func kind.List these = refl
deck_names_of_replaced_kind names kind.List kind.Unit these = refl
deck_names_of_replaced_kind names kind.List kind.Prefix these = refl
deck_names_of_replaced_kind names kind.List kind.Func these = refl
deck_names_of_replaced_kind names kind.List kind.List these = refl

-- an item that is new in a list with one item appended is the appended item
appended_deck_item_is_new : {A : Type 0} (xs : List A) (x y : A) (i : ℕ) → slice_get xs i ≡ None
    → slice_get (xs ++ x ∷ []) i ≡ Some y
    → y ≡ x
appended_deck_item_is_new [] x y zero e f = sym (same_Some x y f)
appended_deck_item_is_new [] x y (suc i) e f = cc
appended_deck_item_is_new (z ∷ xs) x y zero e f = cc
appended_deck_item_is_new (z ∷ xs) x y (suc i) e f = appended_deck_item_is_new xs x y i e f

-- an option is not both empty and full
none_some : {A : Type 0} {P : Type 0} (o : Option A) (y : A) → o ≡ None → o ≡ Some y → P
none_some o y e f = cc

module _ (names : KeyNumberNames) (k : Key) where
  -- the names of the kind of the key, and the names of another kind
  own_names : (a : Kind) → is_same_key_kind a k.kind ≡ true
      → key_number_names_of_kind (key_numbers_with_key names k) a ≡ key_number_names_with_name k.name
      (key_number_names_of_kind names a)
  own_names a h =
      deck_names_of_replaced_kind names k.kind a
      (key_number_names_with_name k.name (key_number_names_of_kind names k.kind))
      ∙ ap (λ b. cond b (key_number_names_with_name k.name (key_number_names_of_kind names k.kind))
      (key_number_names_of_kind names a)) h
      ∙ ap (λ b. key_number_names_with_name k.name (key_number_names_of_kind names b))
      (sym (same_deck_kinds_are_equal a k.kind h))

  other_names : (a : Kind) → is_same_key_kind a k.kind ≡ false → key_number_names_of_kind (key_numbers_with_key names k)
      a ≡ key_number_names_of_kind names a
  other_names a h = deck_names_of_replaced_kind names k.kind a
      (key_number_names_with_name k.name (key_number_names_of_kind names k.kind))
      ∙ ap (λ b. cond b (key_number_names_with_name k.name (key_number_names_of_kind names k.kind))
      (key_number_names_of_kind names a)) h

  -- a key keeps its number
  pub key_kept : (n : KeyNumber) (j : Key) → key_numbered names n ≡ Some j
      → key_numbered (key_numbers_with_key names k) n ≡ Some j
  key_kept n j e = by (is_same_key_kind n.kind k.kind) refl
    where
      kept : (b : Bool) (o : Option (List ℕ)) → slice_get (key_number_names_of_kind names n.kind) n.number ≡ o
          → option_map (key n.kind) o ≡ Some j →
          option_map (key n.kind)
          (slice_get (cond b (key_number_names_of_kind names n.kind)
          (key_number_names_of_kind names n.kind ++ k.name ∷ [])) n.number) ≡ Some
          j
      kept b None h f = cc
      kept true (Some y) h f = ap (option_map (key n.kind)) h ∙ f
      kept false (Some y) h f = ap (option_map (key n.kind))
          (get_left (key_number_names_of_kind names n.kind) (k.name ∷ []) n.number y h)
          ∙ f

      by : (b : Bool) → is_same_key_kind n.kind k.kind ≡ b → key_numbered (key_numbers_with_key names k) n ≡ Some j
      by true h = ap (λ ns. option_map (key n.kind) (slice_get ns n.number)) (own_names n.kind h)
          ∙ kept (list_any (bytes_eq k.name) (key_number_names_of_kind names n.kind))
          (slice_get (key_number_names_of_kind names n.kind) n.number) refl e
      by false h = ap (λ ns. option_map (key n.kind) (slice_get ns n.number)) (other_names n.kind h) ∙ e

  -- a new number is that of the key, which had no number before
  pub key_new : (n : KeyNumber) (j : Key) → key_numbered names n ≡ None
      → key_numbered (key_numbers_with_key names k) n ≡ Some j
      → (is_key_numbered names k ≡ false) × (j ≡ k)
  key_new n j e f = by (is_same_key_kind n.kind k.kind) refl
    where
      absent : (o : Option (List ℕ)) → option_map (key n.kind) o ≡ None → o ≡ None
      absent None h = refl
      absent (Some y) h = cc

      named : (a : Kind) (o : Option (List ℕ)) → o ≡ slice_get (key_number_names_of_kind names n.kind ++ k.name ∷ [])
          n.number
          → option_map (key a) o ≡ Some j → slice_get (key_number_names_of_kind names n.kind) n.number ≡ None
          → j ≡ key a k.name
      named a None h g lacks = cc
      named a (Some y) h g lacks = sym (same_Some (key a y) j g)
          ∙ ap (key a) (appended_deck_item_is_new (key_number_names_of_kind names n.kind) k.name y n.number lacks
          (sym h))

      new : is_same_key_kind n.kind k.kind ≡ true → (b : Bool)
          → list_any (bytes_eq k.name) (key_number_names_of_kind names n.kind) ≡ b
          →
          option_map (key n.kind)
          (slice_get (cond b (key_number_names_of_kind names n.kind)
          (key_number_names_of_kind names n.kind ++ k.name ∷ [])) n.number) ≡ Some
          j
          → (is_key_numbered names k ≡ false) × (j ≡ k)
      new h true g t = none_some (key_numbered names n) j e t
      new h false g t = (
        ap (λ a. list_any (bytes_eq k.name) (key_number_names_of_kind names a))
            (sym (same_deck_kinds_are_equal n.kind k.kind h)) ∙ g,
        named n.kind (slice_get (key_number_names_of_kind names n.kind ++ k.name ∷ []) n.number) refl t
            (absent (slice_get (key_number_names_of_kind names n.kind) n.number) e)
            ∙ ap (λ a. key a k.name) (same_deck_kinds_are_equal n.kind k.kind h),
      )

      by : (b : Bool) → is_same_key_kind n.kind k.kind ≡ b → (is_key_numbered names k ≡ false) × (j ≡ k)
      by true h = new h (list_any (bytes_eq k.name) (key_number_names_of_kind names n.kind)) refl
          (sym (ap (λ ns. option_map (key n.kind) (slice_get ns n.number)) (own_names n.kind h)) ∙ f)
      by false h = none_some (key_numbered names n) j e
          (sym (ap (λ ns. option_map (key n.kind) (slice_get ns n.number)) (other_names n.kind h)) ∙ f)

  -- each kind gets at most one more number
  pub names_len : (a : Kind) → length (key_number_names_of_kind (key_numbers_with_key names k) a) ≤ length
      (key_number_names_of_kind names a) + 1
  names_len a = by (is_same_key_kind a k.kind) refl
    where
      more : (b : Bool) → length
          (cond b (key_number_names_of_kind names a) (key_number_names_of_kind names a ++ k.name ∷ []))
          ≤ length (key_number_names_of_kind names a) + 1
      more true = omega arith
      more false = omega (arith, length-append (key_number_names_of_kind names a) (k.name ∷ []))

      by : (b : Bool) → is_same_key_kind a k.kind ≡ b
          → length (key_number_names_of_kind (key_numbers_with_key names k) a) ≤ length
          (key_number_names_of_kind names a) + 1
      by true h = omega (
        arith,
        ap length (own_names a h),
        more
            (list_any (bytes_eq k.name) (key_number_names_of_kind names a)),
      )
      by false h = omega (arith, ap length (other_names a h))
