-- Keys with the places of their last active lines.
use Rattle.std.proofs.Common.{◌≡◌, ◌∷◌, ◌+◌, ◌<◌, [], ℕ, List, All, map, length, refl, sym, ap, ◌∙◌}
use Rattle.std.proofs.Common.{arith, Option, Some, None, option_map}
use Rattle.std.proofs.lemmas.List.{get_or-map, length-map}
use Rattle.std.proofs.lemmas.List.Elements.{All-head, All-tail}
use Rattle.std.proofs.lemmas.Option.{same_Some}
use Rattle.std.specs.List.{cons_option}
use Rattle.std.specs.List.Sorted.{IsSorted, IsSortedByKey}
use Rattle.std.specs.Map.{lookup}
use Rattle.std.specs.Option.{option_and_then}
use Rattle.std.specs.declared.cmp.Ordering.{Ordering}
use Rattle.def_entry.specs.declared.key.Key.{Key}
use Rattle.def_entry.specs.Entries.{Entry}
use Rattle.def_entry.specs.SameKeys.{is_same_entry_key}
use Rattle.deck_lines.specs.Names.{key_numbered}
use Rattle.deck_lines.specs.Stores.{LineStoreView, store_definition_at}
use Rattle.deck_lines.specs.declared.line.DeckLine.{DeckLine}
use Rattle.deck.specs.LastPlaces.{AreLastDefinitionPlaces}
use Rattle.deck.specs.Numbers.{AreDefinitionsInPlace}
use Rattle.deck.specs.PlacedKeys.{AreKeysInDefinitionPlaces, IsKeyInDefinitionPlace, deck_key_at_place}
use Rattle.deck.specs.PlacedKeys.{deck_keys_at_places, placed_deck_key}
use Rattle.deck.specs.Tables.{DeckDefinitions, definition_place_of}
use Rattle.deck.specs.declared.deck.placed_keys.PlacedKey.{PlacedKey}
use Rattle.deck.specs.declared.places.last_places.LastPlaces.{LastPlaces}

module _ (lines : List DeckLine) (ds : DeckDefinitions) (placed : AreDefinitionsInPlace lines ds) where
  there : (k : Key) (place : ℕ) → definition_place_of ds k ≡ Some place → deck_key_at_place lines place ≡ Some k
  there k place = by (lookup (is_same_entry_key k) ds) refl
    where
      by : (o : Option (ℕ × Entry)) → lookup (is_same_entry_key k) ds ≡ o → option_map (λ p. p.0) o ≡ Some place
          → deck_key_at_place lines place ≡ Some k
      by None e h = cc
      by (Some d) e h = ap (deck_key_at_place lines) (sym (same_Some d.0 place h))
          ∙ ap (option_map (λ d. d.0)) (placed k d e)

  there_if : (k : Option Key) (place : ℕ) → option_and_then (definition_place_of ds) k ≡ Some place
      → deck_key_at_place lines place ≡ k
  there_if None place h = cc
  there_if (Some k) place h = there k place h

-- if the definitions are in place and the last places are theirs, the line at each last place defines its key
pub keys_in_definition_places :
    (store : LineStoreView) (last : LastPlaces) (ds : DeckDefinitions) → AreDefinitionsInPlace store.lines ds
    → AreLastDefinitionPlaces store.names ds last
    → AreKeysInDefinitionPlaces store last
keys_in_definition_places store last ds placed are n place e =
    there_if store.lines ds placed (key_numbered store.names n) place (sym (are.place n) ∙ e)

-- the keys at the places of placed keys are these keys
pub placed_deck_keys_are_there : (lines : List DeckLine) (ks : List PlacedKey) → All (IsKeyInDefinitionPlace lines) ks
    → deck_keys_at_places lines (map (λ k. k.place) ks) ≡ map placed_deck_key ks
placed_deck_keys_are_there lines [] h = refl
placed_deck_keys_are_there lines (k ∷ ks) h =
    ap (λ o. cons_option o (deck_keys_at_places lines (map (λ k. k.place) ks)))
    (All-head (IsKeyInDefinitionPlace lines) k ks h)
    ∙ ap (λ rest. placed_deck_key k ∷ rest)
    (placed_deck_keys_are_there lines ks (All-tail (IsKeyInDefinitionPlace lines) k ks h))

-- the keys of a list that is sorted by key are sorted
pub sorted_map : {X Y : Type 0} (cmp : Y → Y → Ordering) (f : X → Y) (xs : List X) → IsSortedByKey f cmp xs
    → IsSorted cmp (map f xs)
sorted_map cmp f [] sorted k d low high = absurd (omega arith)
sorted_map cmp f (x ∷ xs) sorted k d low high =
    let within : k + 1 < length (x ∷ xs) = rw length-map at high in
    rw (get_or-map f (x ∷ xs) (k + 1) x d within, get_or-map f (x ∷ xs) k x d (omega arith)) (sorted k x low within)
