-- Changing the last place of one number.
use Rattle.std.proofs.Common.{◌≡◌, ◌<◌, ℕ, Bool, true, false, true≢false, cond, length, set, sym, ap, ◌∙◌, Option}
use Rattle.std.proofs.Common.{Some, refl}
use Rattle.std.proofs.lemmas.Option.{same_Some}
use Rattle.def_entry.specs.declared.key.Key.{Key}
use Rattle.def_entry.specs.declared.key.Kind.{Kind}
use Rattle.def_entry.specs.SameKeys.{is_same_entry_key, is_same_key_kind}
use Rattle.def_entry.proofs.SameKeys.{same_entry_keys}
use Rattle.deck_lines.specs.Names.{KeyNumberNames, key_numbered}
use Rattle.deck_lines.specs.declared.key_number.KeyNumber.{KeyNumber}
use Rattle.deck.specs.KindPlaces.{definition_place_in}
use Rattle.deck.specs.LastPlaces.{last_definition_place_at, last_definition_places}
use Rattle.deck.specs.declared.places.last_places.LastPlaces.{LastPlaces}
use Rattle.deck.proofs.KindPlacing.{definition_place_in_set_other, definition_place_in_set_same}
use Rattle.deck.proofs.Sameness.{deck_kind_is_same_as_itself, same_deck_kinds_are_equal}

module _ (n : KeyNumber) (place : Option ℕ) (old now : LastPlaces)
    (put : (kind : Kind)
    → last_definition_places now kind ≡ cond (is_same_key_kind kind n.kind)
    (set (last_definition_places old kind) n.number place)
    (last_definition_places old kind)) where
  -- the number has the new place
  pub own_place : n.number < length (last_definition_places old n.kind) → last_definition_place_at now n ≡ place
  own_place room =
      ap (λ ps. definition_place_in ps n.number)
      (put n.kind ∙ ap (λ b. cond b (set (last_definition_places old n.kind) n.number place)
      (last_definition_places old n.kind))
      (deck_kind_is_same_as_itself n.kind))
      ∙ definition_place_in_set_same (last_definition_places old n.kind) n.number place room

  -- each other number keeps its place
  pub other_place : (m : KeyNumber) → (m ≡ n → ⊥) → last_definition_place_at now m ≡ last_definition_place_at old m
  other_place m differs = by (is_same_key_kind m.kind n.kind) refl
    where
      number_differs : m.kind ≡ n.kind → m.number ≡ n.number → ⊥
      number_differs g h = differs (λ i. record { kind = g i; number = h i })

      by : (b : Bool) → is_same_key_kind m.kind n.kind ≡ b → last_definition_place_at now m ≡ last_definition_place_at
          old m
      by true h =
          ap (λ ps. definition_place_in ps m.number)
          (put m.kind ∙ ap (λ b. cond b (set (last_definition_places old m.kind) n.number place)
          (last_definition_places old m.kind)) h)
          ∙ definition_place_in_set_other (last_definition_places old m.kind) n.number place m.number
          (number_differs (same_deck_kinds_are_equal m.kind n.kind h))
      by false h =
          ap (λ ps. definition_place_in ps m.number)
          (put m.kind ∙ ap (λ b. cond b (set (last_definition_places old m.kind) n.number place)
          (last_definition_places old m.kind)) h)

-- different keys have different numbers
pub deck_key_numbers_differ : (names : KeyNumberNames) (n m : KeyNumber) (k j : Key) → key_numbered names n ≡ Some k
    → key_numbered names m ≡ Some j
    → is_same_entry_key j k ≡ false → m ≡ n → ⊥
deck_key_numbers_differ names n m k j numbered h apart same =
    true≢false (sym ((same_entry_keys j j).1 refl)
    ∙ ap (is_same_entry_key j) (same_Some j k (sym h ∙ ap (key_numbered names) same ∙ numbered))
    ∙ apart)
