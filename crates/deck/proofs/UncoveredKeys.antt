-- The keys that the removal of a line changes.
use Rattle.std.proofs.Common.{◌≡◌, ◌++◌, ◌∷◌, ◌+◌, [], ℕ, zero, suc, List, Bool, true, false, not, cond, set}
use Rattle.std.proofs.Common.{reverse, refl, sym, ap, ◌∙◌, Option, Some, None, option_map}
use Rattle.std.proofs.lemmas.List.{reverse-append}
use Rattle.std.specs.Map.{lookup}
use Rattle.def_entry.specs.declared.key.Key.{Key}
use Rattle.def_entry.specs.declared.key.Kind.{Kind}
use Rattle.def_entry.specs.Entries.{Entry}
use Rattle.def_entry.specs.EntryReading.{SameEntryTextLaw}
use Rattle.def_entry.specs.SameKeys.{is_same_entry_key, is_same_key_kind}
use Rattle.def_entry.proofs.SameKeys.{same_entry_keys}
use Rattle.deck_lines.specs.Names.{key_numbered}
use Rattle.deck_lines.specs.KeyNumbering.{IsKeyNumbering}
use Rattle.deck_lines.specs.Readings.{entry_in_store_line}
use Rattle.deck_lines.specs.Stores.{LineStoreView}
use Rattle.deck_lines.specs.declared.key_number.KeyNumber.{KeyNumber}
use Rattle.deck_lines.specs.declared.line.DeckLine.{DeckLine}
use Rattle.deck.specs.Active.{active_lines}
use Rattle.deck.specs.Changes.{IsDeckTableChange, is_same_deck_entry}
use Rattle.deck.specs.LastPlaces.{AreLastDefinitionPlaces, last_definition_places}
use Rattle.deck.specs.Numbers.{deck_entry_at_place, deck_key_if}
use Rattle.deck.specs.Tables.{DeckDefinitions, active_definitions, active_definitions_among, active_definitions_from}
use Rattle.deck.specs.Tables.{definition_of_active_line, entry_at, definition_place_of, table_of_deck_definitions}
use Rattle.deck.specs.declared.places.last_places.LastPlaces.{LastPlaces}
use Rattle.deck.specs.declared.settings.Settings.{Settings}
use Rattle.deck.proofs.ChangedKeys.{edit_changes_at_places}
use Rattle.deck.proofs.RemovedLine.{DefinesAt}
use Rattle.deck.proofs.LastPlaceSteps.{last_definition_places_alike}
use Rattle.deck.proofs.PlacedDefinitions.{active_definitions_in_place, active_definitions_in_place_by}
use Rattle.deck.proofs.PlacedDefinitions.{deck_entry_of_found_definition}
use Rattle.deck.proofs.LastRemoval.{last_less}

-- the result of the first search, or that of the second if the first found nothing
abbrev pub found_first : {A : Type 0} → Option A → Option A → Option A
found_first (Some x) o = Some x
found_first None o = o

pub found_definition-append : (test : Key → Bool) (ds es : DeckDefinitions)
    → lookup test (ds ++ es) ≡ found_first (lookup test ds) (lookup test es)
found_definition-append test [] es = refl
found_definition-append test (d ∷ ds) es = by (found_definition-append test ds es) (test d.0)
  where
    by : lookup test (ds ++ es) ≡ found_first (lookup test ds) (lookup test es) → (b : Bool)
        → cond b (Some d.1) (lookup test (ds ++ es))
        ≡ found_first (cond b (Some d.1) (lookup test ds)) (lookup test es)
    by ih true = refl
    by ih false = ih

-- the definition of one key is not found by another key
definition_not_found_by_other_key : (n : ℕ) (f : Bool) (k j : Key) (e : Entry) → is_same_entry_key j k ≡ false
    → lookup (is_same_entry_key j) (reverse (definition_of_active_line n f (Some (k, e)))) ≡ None
definition_not_found_by_other_key n true k j e apart = ap (λ b. cond b (Some (n, e)) None) apart
definition_not_found_by_other_key n false k j e apart = refl

-- without the definition, other keys find the same definitions
other_definitions_are_found : (fs : List Bool) (lines : List DeckLine) (n place : ℕ) (k j : Key) (e : Entry)
    → DefinesAt lines place (k, e) → is_same_entry_key j k ≡ false →
    lookup (is_same_entry_key j) (reverse (active_definitions_from n (set fs place false) lines))
    ≡ lookup (is_same_entry_key j) (reverse (active_definitions_from n fs lines))
other_definitions_are_found fs [] n place k j e defines apart = cc
other_definitions_are_found [] (x ∷ lines) n place k j e defines apart = refl
other_definitions_are_found (f ∷ fs) (x ∷ lines) n zero k j e defines apart =
    let rest = active_definitions_from (n + 1) fs lines in
    let first : (g : Bool)
    → lookup (is_same_entry_key j) (reverse (definition_of_active_line n g (entry_in_store_line x) ++ rest))
    ≡ found_first (lookup (is_same_entry_key j) (reverse rest)) None =
    λ g. ap (lookup (is_same_entry_key j)) (reverse-append (definition_of_active_line n g (entry_in_store_line x)) rest)
    ∙ found_definition-append (is_same_entry_key j) (reverse rest)
    (reverse (definition_of_active_line n g (entry_in_store_line x)))
    ∙ ap (found_first (lookup (is_same_entry_key j) (reverse rest)))
    (ap (λ o. lookup (is_same_entry_key j) (reverse (definition_of_active_line n g o))) defines
    ∙ definition_not_found_by_other_key n g k j e apart) in
    first false ∙ sym (first f)
other_definitions_are_found (f ∷ fs) (x ∷ lines) n (suc place) k j e defines apart =
    let given = definition_of_active_line n f (entry_in_store_line x) in
    let apart_by : (rest : DeckDefinitions) → lookup (is_same_entry_key j) (reverse (given ++ rest))
    ≡ found_first (lookup (is_same_entry_key j) (reverse rest)) (lookup (is_same_entry_key j) (reverse given)) =
    λ rest. ap (lookup (is_same_entry_key j)) (reverse-append given rest)
    ∙ found_definition-append (is_same_entry_key j) (reverse rest) (reverse given) in
    apart_by (active_definitions_from (n + 1) (set fs place false) lines)
    ∙ ap (λ o. found_first o (lookup (is_same_entry_key j) (reverse given)))
    (other_definitions_are_found fs lines (n + 1) place k j e defines apart)
    ∙ sym (apart_by (active_definitions_from (n + 1) fs lines))

-- the entries of other keys stay the same
other_deck_entries_stay : (settings : Settings) (lines : List DeckLine) (place : ℕ) (k j : Key) (e : Entry)
    → DefinesAt lines place (k, e) → is_same_entry_key j k ≡ false
    → entry_at (table_of_deck_definitions (active_definitions settings lines)) j
    ≡ entry_at (table_of_deck_definitions
    (active_definitions_among (set (active_lines settings lines) place false) lines)) j
unfolding active_definitions
other_deck_entries_stay settings lines place k j e defines apart =
    deck_entry_of_found_definition (active_definitions_among (active_lines settings lines) lines) j
    ∙ ap (option_map (λ v. v.1))
    (sym (other_definitions_are_found (active_lines settings lines) lines 0 place k j e defines apart))
    ∙ sym (deck_entry_of_found_definition
    (active_definitions_among (set (active_lines settings lines) place false) lines) j)

-- if the definition of the line is put in front of the definitions without it, each key has the place that it had
definition_places_stay : (settings : Settings) (lines : List DeckLine) (place : ℕ) (k : Key) (e : Entry)
    → DefinesAt lines place (k, e) → definition_place_of (active_definitions settings lines) k ≡ Some place → (j : Key)
    → definition_place_of (active_definitions settings lines) j
    ≡ definition_place_of
    ((k, (place, e)) ∷ active_definitions_among (set (active_lines settings lines) place false) lines) j
unfolding active_definitions
definition_places_stay settings lines place k e defines was j = by (is_same_entry_key j k) refl
  where
    es : DeckDefinitions
    es = active_definitions_among (set (active_lines settings lines) place false) lines

    by : (b : Bool) → is_same_entry_key j k ≡ b
        → definition_place_of (active_definitions_among (active_lines settings lines) lines) j ≡ definition_place_of
        ((k, (place, e)) ∷ es) j
    by true h =
        ap (definition_place_of (active_definitions_among (active_lines settings lines) lines))
        ((same_entry_keys j k).0 h) ∙ was
        ∙ sym (ap (λ b. option_map (λ p. p.0) (cond b (Some (place, e)) (lookup (is_same_entry_key j) es))) h)
    by false h =
        ap (option_map (λ p. p.0))
        (sym (other_definitions_are_found (active_lines settings lines) lines 0 place k j e defines h))
        ∙ sym (ap (λ b. option_map (λ p. p.0) (cond b (Some (place, e)) (lookup (is_same_entry_key j) es))) h)

module _ (settings : Settings) (store : LineStoreView) (n : KeyNumber) (k : Key) (e : Entry) (place : ℕ)
    (flags : List Bool)
    (uncovered : Option ℕ) (at : key_numbered store.names n ≡ Some k)
    (was : definition_place_of (active_definitions settings store.lines) k ≡ Some place)
    (defines : DefinesAt store.lines place (k, e))
    (flags_are : flags ≡ set (active_lines settings store.lines) place false)
    (covers : uncovered ≡ definition_place_of (active_definitions_among flags store.lines) k) where
  -- with the uncovered place stored at the number of the key, the last places are those of the remaining definitions
  pub last_uncovered : IsKeyNumbering store → (old now : LastPlaces)
      → AreLastDefinitionPlaces store.names (active_definitions settings store.lines) old →
      ((kind : Kind) → last_definition_places now kind ≡ cond (is_same_key_kind kind n.kind)
      (set (last_definition_places old kind) n.number uncovered) (last_definition_places old kind)) →
      AreLastDefinitionPlaces store.names (active_definitions_among flags store.lines) now
  last_uncovered numbering old now before put =
      last_less store.names numbering.unique es n k place e uncovered old now at
      (last_definition_places_alike store.names (active_definitions settings store.lines) ((k, (place, e)) ∷ es) old
      same before) covers
      put
    where
      es : DeckDefinitions
      es = active_definitions_among flags store.lines

      same : (j : Key) → definition_place_of (active_definitions settings store.lines) j ≡ definition_place_of
          ((k, (place, e)) ∷ es) j
      same j =
          definition_places_stay settings store.lines place k e defines was j
          ∙ ap (λ (fs : List Bool). definition_place_of ((k, (place, e)) ∷ active_definitions_among fs store.lines) j)
          (sym flags_are)

  -- the removal changes at most the key of the line; whether it does is decided by comparing the texts of its entry and
  -- of the uncovered one
  pub changed_dropped : SameEntryTextLaw
      → IsDeckTableChange (table_of_deck_definitions (active_definitions settings store.lines))
      (table_of_deck_definitions (active_definitions_among flags store.lines))
      (deck_key_if (not (is_same_deck_entry (deck_entry_at_place store.lines (Some place))
      (deck_entry_at_place store.lines uncovered)))
      (key_numbered store.names n))
  changed_dropped law =
      edit_changes_at_places law store.lines (active_definitions settings store.lines)
      (active_definitions_among flags store.lines)
      (active_definitions_in_place settings store.lines) (active_definitions_in_place_by flags store.lines) k
      (key_numbered store.names n)
      (Some place) uncovered
      at (sym was) covers others
    where
      others : (j : Key) → is_same_entry_key j k ≡ false
          → entry_at (table_of_deck_definitions (active_definitions settings store.lines)) j
          ≡ entry_at (table_of_deck_definitions (active_definitions_among flags store.lines)) j
      others j apart =
          other_deck_entries_stay settings store.lines place k j e defines apart
          ∙ ap (λ (fs : List Bool). entry_at (table_of_deck_definitions (active_definitions_among fs store.lines)) j)
          (sym flags_are)
