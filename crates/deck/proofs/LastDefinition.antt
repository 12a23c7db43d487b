-- Appending a line that defines a key.
use Rattle.std.proofs.Common.{◌≡◌, ◌≢◌, ◌++◌, ◌∷◌, ◌<◌, ◌||◌, ◌↔◌, [], ℕ, List, Bool, true, false, true≢false, cond}
use Rattle.std.proofs.Common.{length, set, refl, sym, ap, subst, ◌∙◌, arith, Some, None, option_map}
use Rattle.std.proofs.lemmas.Option.{same_Some}
use Rattle.std.specs.Option.{option_and_then}
use Rattle.def_entry.specs.declared.key.Key.{Key}
use Rattle.def_entry.specs.declared.key.Kind.{Kind}
use Rattle.def_entry.specs.Entries.{Entry}
use Rattle.def_entry.specs.SameKeys.{is_entry_key_among, is_same_entry_key, is_same_key_kind}
use Rattle.def_entry.proofs.SameKeys.{same_entry_keys}
use Rattle.deck_lines.specs.ClosedBlocks.{AreBlocksClosed}
use Rattle.deck_lines.specs.Marks.{plain_store_line}
use Rattle.deck_lines.specs.Names.{KeyNumberNames, key_number_names_of_kind, key_numbered, key_numbers_with_key}
use Rattle.deck_lines.specs.KeyNumbering.{IsKeyNumbering}
use Rattle.deck_lines.specs.Readings.{entry_in_store_line}
use Rattle.deck_lines.specs.Stores.{LineStoreView, key_numbers_by_definition, store_definition_at}
use Rattle.deck_lines.specs.Stores.{store_with_line as stored_with}
use Rattle.deck_lines.specs.declared.key_number.KeyNumber.{KeyNumber}
use Rattle.deck_lines.specs.declared.line.DeckLine.{DeckLine}
use Rattle.deck.specs.Changes.{IsEditChange}
use Rattle.deck.specs.Decks.{DeckContents}
use Rattle.deck.specs.Edits.{deck_with_line}
use Rattle.deck.specs.LastPlaces.{AreLastDefinitionPlaces, IsDeckIndexed, last_definition_places}
use Rattle.deck.specs.Tables.{DeckDefinitions, EntryTable, active_definitions, definition_place_of, entry_at}
use Rattle.deck.specs.Tables.{table_of_deck, table_of_deck_definitions}
use Rattle.deck.specs.declared.places.last_places.LastPlaces.{LastPlaces}
use Rattle.deck.specs.declared.settings.Settings.{Settings}
use Rattle.deck.proofs.ChangedKeys.{not_defined}
use Rattle.deck.proofs.OneMoreName.{key_kept, key_new, names_len}
use Rattle.deck.proofs.LastPlaceSteps.{deck_key_kind_by_number, deck_key_number_within_names}
use Rattle.deck.proofs.LastPlaceSteps.{last_definition_places_extended, last_more}
use Rattle.deck.proofs.PlacedDefinitions.{active_definitions_in_place}
use Rattle.deck.proofs.PushedLine.{closed_push, placed_push}
use Rattle.general_lemmas.proofs.Places.{at_length}

-- the number of the appended line is the number of its key
number_of_appended_deck_key : (store : LineStoreView) (x : DeckLine) (k : Key) (e : Entry) (n : KeyNumber)
    → entry_in_store_line x ≡ Some (k, e) →
    Some (key_numbered (stored_with store x).names n)
    ≡ option_map (λ d. Some d.0) (store_definition_at (stored_with store x).lines (length store.lines)) →
    key_numbered (key_numbers_by_definition store.names (entry_in_store_line x)) n ≡ Some k
number_of_appended_deck_key store x k e n defines at =
    let there : store_definition_at (store.lines ++ x ∷ []) (length store.lines) ≡ Some (k, e) =
    ap (option_and_then entry_in_store_line) (at_length store.lines x []) ∙ defines in
    same_Some _ _ (at ∙ ap (option_map (λ d. Some d.0)) there)

-- if there was room for one more key, there is room at the number of the key
room_for_appended_deck_key : (store : LineStoreView) (x : DeckLine) (k : Key) (e : Entry) (last : LastPlaces)
    (n : KeyNumber)
    → entry_in_store_line x ≡ Some (k, e) →
    length (key_number_names_of_kind store.names k.kind) < length (last_definition_places last k.kind)
    → key_numbered (key_numbers_by_definition store.names (entry_in_store_line x)) n ≡ Some k →
    n.number < length (last_definition_places last n.kind)
room_for_appended_deck_key store x k e last n defines room key_is =
    let own : k.kind ≡ n.kind = deck_key_kind_by_number (key_numbers_by_definition store.names (entry_in_store_line x))
    n k key_is in
    let inside : n.number < length (key_number_names_of_kind (key_numbers_with_key store.names k) n.kind) =
    subst (λ (ns : KeyNumberNames). n.number < length (key_number_names_of_kind ns n.kind))
    (ap (key_numbers_by_definition store.names) defines)
    (deck_key_number_within_names (key_numbers_by_definition store.names (entry_in_store_line x)) n k key_is) in
    let enough : length (key_number_names_of_kind store.names n.kind) < length (last_definition_places last n.kind) =
    subst (λ a. length (key_number_names_of_kind store.names a) < length (last_definition_places last a)) own room in
    omega (arith, inside, enough, names_len store.names k n.kind)

-- after a line is appended, the last places with its place are those of the new store
deck_indexed_with_line : (settings : Settings) (store : LineStoreView) (x : DeckLine) (k : Key) (e : Entry)
    (last now : LastPlaces)
    (n : KeyNumber) →
    entry_in_store_line x ≡ Some (k, e) → IsKeyNumbering store → IsDeckIndexed store settings last →
    length (key_number_names_of_kind store.names k.kind) < length (last_definition_places last k.kind)
    → IsKeyNumbering (stored_with store x) →
    Some (key_numbered (stored_with store x).names n)
    ≡ option_map (λ d. Some d.0) (store_definition_at (stored_with store x).lines (length store.lines)) →
    ((a : Kind) → last_definition_places now a
    ≡ cond (is_same_key_kind a n.kind) (set (last_definition_places last a) n.number (Some (length store.lines)))
    (last_definition_places last a)) →
    IsDeckIndexed (stored_with store x) settings now
deck_indexed_with_line settings store x k e last now n defines numbering before room numbered at put = record {
  blocks_closed = closed_push settings store.lines before.blocks_closed x (k, e) defines;
  places = subst (λ (ds : DeckDefinitions).
      AreLastDefinitionPlaces (key_numbers_by_definition store.names (entry_in_store_line x)) ds now)
      (sym (placed_push settings store.lines before.blocks_closed x (k, e) defines))
      (last_more (key_numbers_by_definition store.names (entry_in_store_line x)) numbered.unique ds n k
      (length store.lines) e last now key_is (room_for_appended_deck_key store x k e last n defines room key_is)
      are_last put);
}
  where
    ds : DeckDefinitions
    ds = active_definitions settings store.lines

    key_is : key_numbered (key_numbers_by_definition store.names (entry_in_store_line x)) n ≡ Some k
    key_is = number_of_appended_deck_key store x k e n defines at

    are_last : AreLastDefinitionPlaces (key_numbers_by_definition store.names (entry_in_store_line x)) ds last
    are_last = subst (λ (ns : KeyNumberNames). AreLastDefinitionPlaces ns ds last)
        (sym (ap (key_numbers_by_definition store.names) defines))
        (last_definition_places_extended store.names (key_numbers_with_key store.names k) ds last before.places
        (key_kept store.names k) undefined)
      where
        undefined : (m : KeyNumber) (j : Key) → key_numbered store.names m ≡ None
            → key_numbered (key_numbers_with_key store.names k) m ≡ Some j
            → definition_place_of ds j ≡ None
        undefined m j h g =
            let p = key_new store.names k m j h g in
            ap (definition_place_of ds) p.1
            ∙ ap (option_map (λ d. d.0))
            (not_defined store numbering ds (active_definitions_in_place settings store.lines) k p.0)

-- the key with the number of the line is the key that the appended line defines
appended_deck_key_by_number : (store new : LineStoreView) (x : DeckLine) (n : KeyNumber) (place : ℕ)
    → new ≡ stored_with store x
    → place ≡ length store.lines →
    Some (key_numbered new.names n) ≡ option_map (λ d. Some d.0) (store_definition_at new.lines place) →
    Some (key_numbered (stored_with store x).names n)
    ≡ option_map (λ d. Some d.0) (store_definition_at (stored_with store x).lines (length store.lines))
appended_deck_key_by_number store new x n place is at number =
    subst (λ (s : LineStoreView). Some (key_numbered s.names n)
    ≡ option_map (λ d. Some d.0) (store_definition_at s.lines (length store.lines))) is
    (subst (λ p. Some (key_numbered new.names n) ≡ option_map (λ d. Some d.0) (store_definition_at new.lines p)) at
    number)

-- if there was room for one more key, there is room at the number of the key in the new store
pub room_for_key_in_new_deck : (store new : LineStoreView) (x : DeckLine) (k : Key) (e : Entry) (last : LastPlaces)
    (n : KeyNumber)
    (place : ℕ) →
    new ≡ stored_with store x → place ≡ length store.lines →
    entry_in_store_line x ≡ Some (k, e) → length (key_number_names_of_kind store.names k.kind) < length
    (last_definition_places last k.kind) →
    Some (key_numbered new.names n) ≡ option_map (λ d. Some d.0) (store_definition_at new.lines place)
    → n.number < length (last_definition_places last n.kind)
room_for_key_in_new_deck store new x k e last n place is at defines room number =
    room_for_appended_deck_key store x k e last n defines room
    (number_of_appended_deck_key store x k e n defines
    (appended_deck_key_by_number store new x n place is at number))

-- if a line that defines a key is appended, the last places with its place are those of the new store
pub deck_indexed_with_appended_line : (settings : Settings) (store new : LineStoreView) (x : DeckLine) (k : Key)
    (e : Entry)
    (last now : LastPlaces) (n : KeyNumber) (place : ℕ) →
    new ≡ stored_with store x → place ≡ length store.lines →
    entry_in_store_line x ≡ Some (k, e) → IsKeyNumbering store → IsDeckIndexed store settings last →
    length (key_number_names_of_kind store.names k.kind) < length (last_definition_places last k.kind)
    → IsKeyNumbering new →
    Some (key_numbered new.names n) ≡ option_map (λ d. Some d.0) (store_definition_at new.lines place) →
    ((a : Kind) → last_definition_places now a
    ≡ cond (is_same_key_kind a n.kind) (set (last_definition_places last a) n.number (Some place))
    (last_definition_places last a)) →
    IsDeckIndexed new settings now
deck_indexed_with_appended_line settings store new x k e last now n place is at defines numbering before room numbered
    number put =
    subst (λ (s : LineStoreView). IsDeckIndexed s settings now) (sym is)
    (deck_indexed_with_line settings store x k e last now n defines numbering before room
    (subst IsKeyNumbering is numbered)
    (appended_deck_key_by_number store new x n place is at number)
    (λ a. put a ∙ ap (λ p. cond (is_same_key_kind a n.kind) (set (last_definition_places last a) n.number (Some p))
    (last_definition_places last a))
    at))

module _ (d : DeckContents) (closed : AreBlocksClosed d.lines) (text : List ℕ) (k : Key) (e : Entry)
    (defines : entry_in_store_line (plain_store_line 0 text) ≡ Some (k, e)) where
  -- the new table is the old one with the entry of the line in front
  table_push : table_of_deck (deck_with_line text d) ≡ (k, e) ∷ table_of_deck d
  table_push = ap table_of_deck_definitions
      (placed_push d.settings d.lines closed (plain_store_line 0 text) (k, e) defines)

  after : (j : Key) → entry_at (table_of_deck (deck_with_line text d)) j ≡ cond (is_same_entry_key j k) (Some e)
      (entry_at (table_of_deck d) j)
  after j = ap (λ (t : EntryTable). entry_at t j) table_push

  apart : (j : Key) → is_same_entry_key j k ≡ false → entry_at (table_of_deck d) j ≡ entry_at
      (table_of_deck (deck_with_line text d)) j
  apart j h = sym (after j ∙ ap (λ b. cond b (Some e) (entry_at (table_of_deck d) j)) h)

  at_key : (j : Key) → is_same_entry_key j k ≡ true → entry_at (table_of_deck (deck_with_line text d)) j ≡ Some e
  at_key j h = after j ∙ ap (λ b. cond b (Some e) (entry_at (table_of_deck d) j)) h

  -- if the key had another entry or none, the change is this key
  pub changed_one : entry_at (table_of_deck d) k ≢ Some e → IsEditChange d (deck_with_line text d) (k ∷ [])
  changed_one differs = record {
    lists_changed_keys = λ j. by j (is_same_entry_key j k) refl;
    keys_distinct =
        (refl, tt);
  }
    where
      by : (j : Key) (b : Bool) → is_same_entry_key j k ≡ b
          → (is_entry_key_among (k ∷ []) j ≡ true → ⊥) ↔
          (entry_at (table_of_deck d) j ≡ entry_at (table_of_deck (deck_with_line text d)) j)
      by j true h = (
        λ never. absurd (never (ap (λ b. b || false) h)),
        λ same _. differs (ap (entry_at (table_of_deck d)) (sym ((same_entry_keys j k).0 h)) ∙ same ∙ at_key j h),
      )
      by j false h = (λ _. apart j h, λ _ m. true≢false (sym m ∙ ap (λ b. b || false) h))

  -- if the key had the same entry, no key changes
  pub changed_none : entry_at (table_of_deck d) k ≡ Some e → IsEditChange d (deck_with_line text d) []
  changed_none same = record {
    lists_changed_keys = λ j. (λ _. by j (is_same_entry_key j k) refl, λ _ m. true≢false (sym m));
    keys_distinct = tt;
  }
    where
      by : (j : Key) (b : Bool) → is_same_entry_key j k ≡ b → entry_at (table_of_deck d) j ≡ entry_at
          (table_of_deck (deck_with_line text d)) j
      by j true h = ap (entry_at (table_of_deck d)) ((same_entry_keys j k).0 h) ∙ same ∙ sym (at_key j h)
      by j false h = apart j h
