-- Lines with their definitions.
use Rattle.std.proofs.Common.{◌≡◌, ◌++◌, ◌∷◌, ◌+◌, [], ℕ, List, map, take, drop, true, refl, inl, inr, sym, ap, subst}
use Rattle.std.proofs.Common.{◌∙◌, Option, Some, None, option_map, slice_get, length}
use Rattle.std.proofs.lemmas.Option.{same_Some}
use Rattle.std.specs.Option.{option_and_then}
use Rattle.std.proofs.lemmas.List.{drop-map, length-map, map-append, take-map}
use Rattle.def_entry.specs.Entries.{Entry, What}
use Rattle.def_entry.specs.LineViews.{seen_entry}
use Rattle.def_entry.specs.declared.entry.What.{What as MadeWhat}
use Rattle.def_entry.specs.declared.key.Key.{Key}
use Rattle.deck_lines.specs.StoreEdits.{StoreEdit}
use Rattle.deck_lines.specs.StoredDefinitions.{AreStoreDefinitionsOf, HoldsStoreDefinitions, IsStoreDefined}
use Rattle.deck_lines.specs.StoredDefinitions.{keyed_store_definition, seen_store_definition}
use Rattle.deck_lines.specs.Names.{AreKeyNumbersExtended, AreKeyNumbersOneToOne, KeyNumberNames, is_key_numbered}
use Rattle.deck_lines.specs.Names.{key_number_names_of_kind, key_numbered}
use Rattle.deck_lines.specs.NumberedKeys.{key_number_names_in}
use Rattle.deck_lines.specs.KeyNumbering.{IsKeyNumbering}
use Rattle.deck_lines.specs.Readings.{entry_in_store_line}
use Rattle.deck_lines.specs.Stores.{LineStoreView, key_numbers_by_definition, store_definition_at}
use Rattle.deck_lines.specs.declared.key_number.KeyNumber.{KeyNumber}
use Rattle.deck_lines.specs.declared.line.DeckLine.{DeckLine}
use Rattle.deck_lines.specs.declared.store.definitions.Definition.{Definition}
use Rattle.deck_lines.specs.declared.store.definitions.Definitions.{Definitions}
use Rattle.deck_lines.proofs.DefinitionsByNumber.{defined_with_more, definition_at_place}
use Rattle.deck_lines.proofs.ExchangedItems.{get_append, get_drop}
use Rattle.deck_lines.proofs.Keys.{key_numbers_stay_one_to_one, numbered_key_has_kind_and_name}
use Rattle.deck_lines.proofs.NameNumbers.{name_with_key_number_is_any}
use Rattle.general_lemmas.proofs.Places.{get_take}

-- making room does not change the definitions
pub store_definitions_after_room : (d room : Definitions) (said : List (Option (Key × Entry)))
    → room.of_lines.listed ≡ d.of_lines.listed
    → key_number_names_in room.keys ≡ key_number_names_in d.keys → AreStoreDefinitionsOf d said
    → AreStoreDefinitionsOf room said
store_definitions_after_room d room said items names are =
    subst (λ n. IsStoreDefined n room.of_lines.listed said) (sym names)
    (subst (λ ds. IsStoreDefined (key_number_names_in d.keys) ds said) (sym items) are)

module _ (lines : List DeckLine) (d : Definitions) (kept : HoldsStoreDefinitions lines d) where
  -- the definitions after one more line is appended
  pub kept_push : (line : DeckLine) (room new : Definitions) (made : Option (Key × MadeWhat)) (after : List DeckLine) →
      room.of_lines.listed ≡ d.of_lines.listed → key_number_names_in room.keys ≡ key_number_names_in d.keys
      → option_map (seen_entry line.text) made ≡ entry_in_store_line line → after ≡ lines ++ line ∷ [] →
      ((said : List (Option (Key × Entry))) (text : List ℕ) → AreStoreDefinitionsOf room said
      → AreStoreDefinitionsOf new (said ++ option_map (seen_entry text) made ∷ [])) →
      ((text : List ℕ) → key_number_names_in new.keys ≡ key_numbers_by_definition (key_number_names_in room.keys)
      (option_map (seen_entry text) made))
      → HoldsStoreDefinitions after new
  kept_push line room new made after items names is e put grows = record {
    definitions_right =
        subst (AreStoreDefinitionsOf new)
        (ap (λ o. map entry_in_store_line lines ++ o ∷ []) is ∙ sym (map-append entry_in_store_line lines (line ∷ []))
        ∙ ap (map entry_in_store_line) (sym e))
        (put (map entry_in_store_line lines) line.text
        (store_definitions_after_room d room (map entry_in_store_line lines) items names kept.definitions_right));
    unique = subst AreKeyNumbersOneToOne (sym (grows line.text))
        (key_numbers_stay_one_to_one (key_number_names_in room.keys) (option_map (seen_entry line.text) made)
        (subst AreKeyNumbersOneToOne (sym names) kept.unique));
  }

  -- the definitions of the first lines
  pub kept_take : (n : ℕ) (new : Definitions) (after : List DeckLine) → after ≡ take n lines →
      ((said : List (Option (Key × Entry))) → AreStoreDefinitionsOf d said → AreStoreDefinitionsOf new (take n said))
      → key_number_names_in new.keys ≡ key_number_names_in d.keys → HoldsStoreDefinitions after new
  kept_take n new after e put same = record {
    definitions_right = subst (AreStoreDefinitionsOf new)
        (take-map entry_in_store_line n lines ∙ ap (map entry_in_store_line) (sym e))
        (put (map entry_in_store_line lines) kept.definitions_right);
    unique = subst AreKeyNumbersOneToOne (sym same) kept.unique;
  }

  -- the definitions of the lines without the line at a place
  pub kept_without : (place : ℕ) (new : Definitions) (after : List DeckLine)
      → after ≡ take place lines ++ drop (place + 1) lines →
      ((said : List (Option (Key × Entry))) → AreStoreDefinitionsOf d said
      → AreStoreDefinitionsOf new (take place said ++ drop (place + 1) said))
      → key_number_names_in new.keys ≡ key_number_names_in d.keys
      → HoldsStoreDefinitions after new
  kept_without place new after e put same = record {
    definitions_right =
        subst (AreStoreDefinitionsOf new)
        (ap (λ t. t ++ drop (place + 1) (map entry_in_store_line lines)) (take-map entry_in_store_line place lines)
        ∙ ap (λ t. map entry_in_store_line (take place lines) ++ t) (drop-map entry_in_store_line (place + 1) lines)
        ∙ sym (map-append entry_in_store_line (take place lines) (drop (place + 1) lines))
        ∙ ap (map entry_in_store_line) (sym e))
        (put (map entry_in_store_line lines) kept.definitions_right);
    unique = subst AreKeyNumbersOneToOne (sym same) kept.unique;
  }

-- there are as many definitions as lines
pub store_definitions_per_line : (names : KeyNumberNames) (ds : List (Option Definition)) (lines : List DeckLine)
    → IsStoreDefined names ds (map entry_in_store_line lines) → length ds ≡ length lines
store_definitions_per_line names ds lines are =
    sym (length-map ds (option_map (seen_store_definition names))) ∙ ap length are
    ∙ length-map (map entry_in_store_line lines) (option_map keyed_store_definition)
    ∙ length-map lines entry_in_store_line

-- the definitions of lines of which some are replaced by others
pub store_definitions_exchange : (lines put : List DeckLine) (d room new : Definitions)
    (kept : HoldsStoreDefinitions lines d)
    (ds : List (Option Definition)) (at cut : ℕ) (after : List DeckLine) →
    room.of_lines.listed ≡ d.of_lines.listed → key_number_names_in room.keys ≡ key_number_names_in d.keys
    → IsStoreDefined (key_number_names_in d.keys) ds (map entry_in_store_line put)
    → after ≡ take at lines ++ (put ++ drop (at + cut) lines) →
    ((said by : List (Option (Key × Entry))) → AreStoreDefinitionsOf room said
    → IsStoreDefined (key_number_names_in room.keys) ds by
    → AreStoreDefinitionsOf new (take at said ++ (by ++ drop (at + cut) said))) →
    key_number_names_in new.keys ≡ key_number_names_in room.keys → HoldsStoreDefinitions after new
store_definitions_exchange lines put d room new kept ds at cut after items names read e swap same = record {
  definitions_right =
      subst (AreStoreDefinitionsOf new)
      (ap (λ t. t ++ (map entry_in_store_line put ++ drop (at + cut) (map entry_in_store_line lines)))
      (take-map entry_in_store_line at lines)
      ∙ ap (λ t. map entry_in_store_line (take at lines) ++ (map entry_in_store_line put ++ t))
      (drop-map entry_in_store_line (at + cut) lines)
      ∙ ap (λ t. map entry_in_store_line (take at lines) ++ t)
      (sym (map-append entry_in_store_line put (drop (at + cut) lines)))
      ∙ sym (map-append entry_in_store_line (take at lines) (put ++ drop (at + cut) lines))
      ∙ ap (map entry_in_store_line) (sym e))
      (swap (map entry_in_store_line lines) (map entry_in_store_line put)
      (store_definitions_after_room d room (map entry_in_store_line lines) items names kept.definitions_right)
      (subst (λ n. IsStoreDefined n ds (map entry_in_store_line put)) (sym names) read));
  unique = subst AreKeyNumbersOneToOne (sym (same ∙ names)) kept.unique;
}

-- a key with a number is numbered
key_with_number_is_numbered : (names : KeyNumberNames) (n : KeyNumber) (k : Key) → key_numbered names n ≡ Some k
    → is_key_numbered names k ≡ true
key_with_number_is_numbered names n k e =
    let at = numbered_key_has_kind_and_name n.kind (slice_get (key_number_names_of_kind names n.kind) n.number) k e in
    name_with_key_number_is_any k.name (key_number_names_of_kind names k.kind) n.number
    (subst (λ a. slice_get (key_number_names_of_kind names a) n.number ≡ Some k.name) at.0 at.1)

-- the key that a line defines is numbered
stored_key_is_numbered : (names : KeyNumberNames) (o : Option (Option Definition)) (l : Option DeckLine)
    (d : Key × Entry) →
    option_map (option_map (seen_store_definition names)) o ≡ option_map (option_map keyed_store_definition)
    (option_map entry_in_store_line l)
    → option_and_then entry_in_store_line l ≡ Some d → is_key_numbered names d.0 ≡ true
stored_key_is_numbered names o None d e is = absurd (cc)
stored_key_is_numbered names None (Some line) d e is = absurd (cc)
stored_key_is_numbered names (Some x) (Some line) d e is =
    by x (same_Some (option_map (seen_store_definition names) x)
    (option_map keyed_store_definition (entry_in_store_line line)) e
    ∙ ap (option_map keyed_store_definition) is)
  where
    by : (y : Option Definition) → option_map (seen_store_definition names) y ≡ Some (keyed_store_definition d)
        → is_key_numbered names d.0 ≡ true
    by None p = absurd (cc)
    by (Some y) p = key_with_number_is_numbered names y.key d.0
        (ap (λ (q : Option Key × What). q.0) (same_Some (seen_store_definition names y) (keyed_store_definition d) p))

-- the numbers of the keys of stored lines are a numbering
pub stored_keys_are_a_numbering : (lines : List DeckLine) (d : Definitions) (s : LineStoreView)
    → HoldsStoreDefinitions lines d
    → record { lines = lines; names = key_number_names_in d.keys } ≡ s → IsKeyNumbering s
stored_keys_are_a_numbering lines d s kept e = subst IsKeyNumbering e (record {
  definition_numbers = λ place made is. stored_key_is_numbered (key_number_names_in d.keys)
      (slice_get d.of_lines.listed place)
      (slice_get lines place) made
      (definition_at_place (key_number_names_in d.keys) d.of_lines.listed lines place kept.definitions_right) is;
  unique = kept.unique;
})

-- the definitions stay those of the lines when more keys get numbers
pub store_definitions_with_more_keys : (lines : List DeckLine) (d new : Definitions) → HoldsStoreDefinitions lines d
    → new.of_lines.listed ≡ d.of_lines.listed
    → AreKeyNumbersExtended (key_number_names_in d.keys) (key_number_names_in new.keys) →
    (AreKeyNumbersOneToOne (key_number_names_in d.keys) → AreKeyNumbersOneToOne (key_number_names_in new.keys))
    → HoldsStoreDefinitions lines new
store_definitions_with_more_keys lines d new kept items wider unique = record {
  definitions_right =
      subst (λ ds. IsStoreDefined (key_number_names_in new.keys) ds (map entry_in_store_line lines)) (sym items)
      (defined_with_more (key_number_names_in d.keys) (key_number_names_in new.keys) wider d.of_lines.listed
      (map entry_in_store_line lines)
      kept.definitions_right);
  unique = unique kept.unique;
}

-- the numbers are still a numbering after some lines are replaced by others whose keys have numbers
pub key_numbering_edited : (store : LineStoreView) (put : List DeckLine) (ds : List (Option Definition)) (at cut : ℕ)
    → IsKeyNumbering store → IsStoreDefined store.names ds (map entry_in_store_line put) →
    IsKeyNumbering (record store { lines = take at store.lines ++ (put ++ drop (at + cut) store.lines) })
key_numbering_edited store put ds at cut numbering are = record {
  definition_numbers = λ place made is.
      by place made (slice_get (take at store.lines ++ (put ++ drop (at + cut) store.lines)) place)
      refl is;
  unique = numbering.unique;
}
  where
    stored : (j : ℕ) (x : DeckLine) (made : Key × Entry) → slice_get store.lines j ≡ Some x
        → entry_in_store_line x ≡ Some made
        → is_key_numbered store.names made.0 ≡ true
    stored j x made e is = numbering.definition_numbers j made (ap (option_and_then entry_in_store_line) e ∙ is)

    among : (j : ℕ) (x : DeckLine) (made : Key × Entry) → slice_get put j ≡ Some x → entry_in_store_line x ≡ Some made
        → is_key_numbered store.names made.0 ≡ true
    among j x made e is =
        stored_key_is_numbered store.names (slice_get ds j) (slice_get put j) made
        (definition_at_place store.names ds put j are)
        (ap (option_and_then entry_in_store_line) e ∙ is)

    behind : (x : DeckLine) (made : Key × Entry) → entry_in_store_line x ≡ Some made
        → ((j : ℕ) × (slice_get (put ++ drop (at + cut) store.lines) j ≡ Some x))
        → is_key_numbered store.names made.0 ≡ true
    behind x made is (j, e) = elim (get_append put (drop (at + cut) store.lines) j x e) [
      | inl f ↦ among j x made f is
      | inr (k, f) ↦ stored (at + cut + k) x made (get_drop (at + cut) store.lines k x f) is
    ]

    by : (place : ℕ) (made : Key × Entry) (o : Option DeckLine)
        → slice_get (take at store.lines ++ (put ++ drop (at + cut) store.lines)) place ≡ o
        → option_and_then entry_in_store_line o ≡ Some made →
        is_key_numbered store.names made.0 ≡ true
    by place made None e is = cc
    by place made (Some x) e is =
        elim (get_append (take at store.lines) (put ++ drop (at + cut) store.lines) place x e) [
          | inl f ↦ stored place x made (get_take at store.lines place x f) is
          | inr f ↦ behind x made is f
        ]

-- the stored definition is that of the line at a place after an edit
abbrev pub IsSeenAt : StoreEdit → ℕ → Option Definition → Type 0
IsSeenAt edited place o = option_map (seen_store_definition edited.names) o
    ≡ option_map keyed_store_definition (store_definition_at edited.new_lines place)

-- if a line comes from a place of other lines, its stored definition is the one from there
pub store_definition_seen_edited : (o : Option Definition) (from : List DeckLine) (i j : ℕ) (e f : StoreEdit) → e ≡ f
    → slice_get e.new_lines j ≡ slice_get from i →
    option_map (seen_store_definition e.names) o ≡ option_map keyed_store_definition (store_definition_at from i)
    → IsSeenAt f j o
store_definition_seen_edited o from i j e f view same is =
    subst (λ (v : StoreEdit). IsSeenAt v j o) view
    (is ∙ ap (λ x. option_map keyed_store_definition (option_and_then entry_in_store_line x)) (sym same))

-- there is no definition at a place after the last line
pub store_definition_unseen_edited : (j : ℕ) (e f : StoreEdit) → e ≡ f → slice_get e.new_lines j ≡ None
    → IsSeenAt f j None
store_definition_unseen_edited j e f view none =
    subst (λ (v : StoreEdit). IsSeenAt v j None) view
    (ap (λ x. option_map keyed_store_definition (option_and_then entry_in_store_line x)) (sym none))
