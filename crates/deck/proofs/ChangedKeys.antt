-- The keys whose entries differ.
use Rattle.std.proofs.Common.{◌≡◌, ◌++◌, ◌∷◌, ◌&&◌, ◌||◌, [], ℕ, List, Bool, true, false, true≢false, not, cond, refl}
use Rattle.std.proofs.Common.{sym, ap, subst, ◌∙◌, Option, Some, None, Ok, option_map}
use Rattle.std.specs.List.{filter}
use Rattle.std.specs.Map.{lookup}
use Rattle.std.specs.Option.{option_and_then}
use Rattle.def_entry.specs.declared.key.Key.{Key}
use Rattle.def_entry.specs.declared.key.Kind.TheVariants as kind
use Rattle.def_entry.specs.Entries.{Entry}
use Rattle.def_entry.specs.EntryReading.{SameEntryTextLaw, entry_of}
use Rattle.def_entry.specs.SameKeys.{is_entry_key_among, is_same_entry_key}
use Rattle.deck_lines.specs.StoreEdits.{StoreEdit, store_after, store_before}
use Rattle.deck_lines.specs.Names.{is_key_numbered, key_numbered}
use Rattle.deck_lines.specs.KeyNumbering.{IsKeyNumbering}
use Rattle.deck_lines.specs.Stores.{LineStoreView, store_definition_at}
use Rattle.deck_lines.specs.declared.key_number.KeyNumber.{KeyNumber}
use Rattle.deck_lines.specs.declared.line.DeckLine.{DeckLine}
use Rattle.deck.specs.Changes.{AreDeckKeysOnce, IsDeckTableChange, is_same_deck_entry}
use Rattle.deck.specs.LastPlaces.{AreLastDefinitionPlaces, last_definition_place_at}
use Rattle.deck.specs.Numbers.{AreDefinitionsInPlace, deck_entry_at_place, deck_key_if, deck_keys_where}
use Rattle.deck.specs.Numbers.{is_entry_changed_by_edit}
use Rattle.deck.specs.Tables.{DeckDefinitions, EntryTable, definition_place_of, entry_at, table_of_deck_definitions}
use Rattle.deck.specs.declared.places.last_places.LastPlaces.{LastPlaces}
use Rattle.deck.proofs.EntryTexts.{deck_entry_is_same_as_itself, definition_at_place_is_read}
use Rattle.deck.proofs.EntryTexts.{same_deck_entries_are_equal}
use Rattle.deck.proofs.DistinctKeys.{deck_key_among_filter, deck_keys_once_filter}
use Rattle.deck.proofs.NumberedKeys.{all_filter, all_keys, deck_key_among_all, once_all}
use Rattle.deck.proofs.PlacedDefinitions.{deck_entry_of_found_definition}

-- the entries of a key in two tables have different texts
abbrev pub differ : EntryTable → EntryTable → Key → Bool
differ t u k = not (is_same_deck_entry (entry_at t k) (entry_at u k))

-- if the entries of all keys outside a list agree, the changed keys are those of the list whose entries differ
pub edit_changes_keys_among : (t u : EntryTable) (keys : List Key) → AreDeckKeysOnce keys
    → ((k : Key) → is_entry_key_among keys k ≡ false → entry_at t k ≡ entry_at u k) →
    ((k : Key) → is_same_deck_entry (entry_at t k) (entry_at u k) ≡ true → entry_at t k ≡ entry_at u k)
    → IsDeckTableChange t u (filter (differ t u) keys)
edit_changes_keys_among t u keys once beside same = record {
  lists_changed_keys = λ k. (
    λ never. unchanged k never (is_entry_key_among keys k) refl (is_same_deck_entry (entry_at t k) (entry_at u k)) refl,
    λ equal m. no_difference k equal m,
  );
  keys_distinct = deck_keys_once_filter (differ t u) keys once;
}
  where
    unchanged : (k : Key) → (is_entry_key_among (filter (differ t u) keys) k ≡ true → ⊥) → (b : Bool)
        → is_entry_key_among keys k ≡ b
        → (s : Bool) → is_same_deck_entry (entry_at t k) (entry_at u k) ≡ s → entry_at t k ≡ entry_at u k
    unchanged k never b e true f = same k f
    unchanged k never false e false f = beside k e
    unchanged k never true e false f =
        absurd (never (deck_key_among_filter (differ t u) keys k ∙ ap (λ s. not s && is_entry_key_among keys k) f ∙ e))

    no_difference : (k : Key) → entry_at t k ≡ entry_at u k → is_entry_key_among (filter (differ t u) keys) k ≡ true → ⊥
    no_difference k equal m =
        true≢false (sym m ∙ deck_key_among_filter (differ t u) keys k
        ∙ ap (λ o. not (is_same_deck_entry (entry_at t k) o) && is_entry_key_among keys k) (sym equal)
        ∙ ap (λ s. not s && is_entry_key_among keys k) (deck_entry_is_same_as_itself (entry_at t k)))

-- if the entries of all other keys agree, the list of changed keys is that one key or empty
pub edit_changes_one_key : (t u : EntryTable) (k : Key)
    → ((j : Key) → is_same_entry_key j k ≡ false → entry_at t j ≡ entry_at u j)
    → ((j : Key) → is_same_deck_entry (entry_at t j) (entry_at u j) ≡ true → entry_at t j ≡ entry_at u j)
    → IsDeckTableChange t u (deck_key_if (differ t u k) (Some k))
edit_changes_one_key t u k others same =
    subst (IsDeckTableChange t u) (alone (differ t u k)) (edit_changes_keys_among t u (k ∷ []) (refl, tt) beside same)
  where
    alone : (b : Bool) → cond b (k ∷ []) [] ≡ deck_key_if b (Some k)
    alone true = refl
    alone false = refl

    not_first : (b : Bool) → (b || false) ≡ false → b ≡ false
    not_first true h = h
    not_first false h = refl

    beside : (j : Key) → is_entry_key_among (k ∷ []) j ≡ false → entry_at t j ≡ entry_at u j
    beside j h = others j (not_first (is_same_entry_key j k) h)

-- an entry of the table is defined by the line at some place
pub deck_entry_has_place : (lines : List DeckLine) (ds : DeckDefinitions) → AreDefinitionsInPlace lines ds
    → (k : Key) (e : Entry)
    → entry_at (table_of_deck_definitions ds) k ≡ Some e → (place : ℕ) × (store_definition_at lines place ≡ Some (k, e))
deck_entry_has_place lines ds placed k e h = by (lookup (is_same_entry_key k) ds) refl
    (sym (deck_entry_of_found_definition ds k) ∙ h)
  where
    by : (o : Option (ℕ × Entry)) → lookup (is_same_entry_key k) ds ≡ o → option_map (λ v. v.1) o ≡ Some e
        → (place : ℕ) × (store_definition_at lines place ≡ Some (k, e))
    by None g f = cc
    by (Some v) g f = (v.0, placed k v g ∙ ap (λ o. option_map (λ x. (k, x)) o) f)

-- an entry of the table is read from some text
pub deck_entry_is_read_from_text : (lines : List DeckLine) (ds : DeckDefinitions) → AreDefinitionsInPlace lines ds
    → (k : Key) (e : Entry)
    → entry_at (table_of_deck_definitions ds) k ≡ Some e → (text : List ℕ) × (entry_of text ≡ Ok (k, e))
deck_entry_is_read_from_text lines ds placed k e h =
    let at = deck_entry_has_place lines ds placed k e h in
    definition_at_place_is_read lines at.0 (k, e) at.1

-- entries of a key with the same text are equal
pub deck_entries_same_by_text : SameEntryTextLaw → (lines others : List DeckLine) (ds es : DeckDefinitions)
    → AreDefinitionsInPlace lines ds
    → AreDefinitionsInPlace others es → (k : Key) →
    is_same_deck_entry (entry_at (table_of_deck_definitions ds) k) (entry_at (table_of_deck_definitions es) k) ≡ true
    → entry_at (table_of_deck_definitions ds) k ≡ entry_at (table_of_deck_definitions es) k
deck_entries_same_by_text law lines others ds es placed put k =
    same_deck_entries_are_equal law k (entry_at (table_of_deck_definitions ds) k)
    (entry_at (table_of_deck_definitions es) k) (deck_entry_is_read_from_text lines ds placed k)
    (deck_entry_is_read_from_text others es put k)

-- the entry at the place of a key is its entry in the table
pub entry_at_definition_place : (lines : List DeckLine) (ds : DeckDefinitions) → AreDefinitionsInPlace lines ds
    → (k : Key)
    → deck_entry_at_place lines (definition_place_of ds k) ≡ entry_at (table_of_deck_definitions ds) k
entry_at_definition_place lines ds placed k = by (lookup (is_same_entry_key k) ds) refl
    ∙ sym (deck_entry_of_found_definition ds k)
  where
    by : (o : Option (ℕ × Entry)) → lookup (is_same_entry_key k) ds ≡ o
        → deck_entry_at_place lines (option_map (λ p. p.0) o) ≡ option_map (λ v. v.1) o
    by None g = refl
    by (Some v) g = ap (option_map (λ d. d.1)) (placed k v g)

-- if an edit changes the entry of no other key, the texts at the two places of the key decide whether it changes
pub edit_changes_at_places : SameEntryTextLaw → (lines : List DeckLine) (ds es : DeckDefinitions)
    → AreDefinitionsInPlace lines ds
    → AreDefinitionsInPlace lines es → (k : Key) (o : Option Key) (before after : Option ℕ) → o ≡ Some k
    → before ≡ definition_place_of ds k → after ≡ definition_place_of es k
    → ((j : Key) → is_same_entry_key j k ≡ false → entry_at (table_of_deck_definitions ds) j ≡ entry_at
    (table_of_deck_definitions es) j)
    → IsDeckTableChange (table_of_deck_definitions ds) (table_of_deck_definitions es)
    (deck_key_if (not (is_same_deck_entry (deck_entry_at_place lines before) (deck_entry_at_place lines after))) o)
edit_changes_at_places law lines ds es placed put k o before after at was now others =
    subst (IsDeckTableChange (table_of_deck_definitions ds) (table_of_deck_definitions es)) (sym keys_are)
    (edit_changes_one_key (table_of_deck_definitions ds) (table_of_deck_definitions es) k others
    (deck_entries_same_by_text law lines lines ds es placed put))
  where
    keys_are : deck_key_if
        (not (is_same_deck_entry (deck_entry_at_place lines before) (deck_entry_at_place lines after))) o
        ≡ deck_key_if (differ (table_of_deck_definitions ds) (table_of_deck_definitions es) k) (Some k)
    keys_are =
        ap (λ x. deck_key_if (not (is_same_deck_entry x (deck_entry_at_place lines after))) o)
        (ap (deck_entry_at_place lines) was ∙ entry_at_definition_place lines ds placed k)
        ∙ ap (λ x. deck_key_if (not (is_same_deck_entry (entry_at (table_of_deck_definitions ds) k) x)) o)
        (ap (deck_entry_at_place lines) now ∙ entry_at_definition_place lines es put k)
        ∙ ap (deck_key_if (differ (table_of_deck_definitions ds) (table_of_deck_definitions es) k)) at

module _ (store : LineStoreView) (numbering : IsKeyNumbering store) (ds : DeckDefinitions)
    (placed : AreDefinitionsInPlace store.lines ds) where
  -- a key without a number is not defined
  pub not_defined : (k : Key) → is_key_numbered store.names k ≡ false → lookup (is_same_entry_key k) ds ≡ None
  not_defined k e = by (lookup (is_same_entry_key k) ds) refl
    where
      by : (o : Option (ℕ × Entry)) → lookup (is_same_entry_key k) ds ≡ o → lookup (is_same_entry_key k) ds ≡ None
      by None g = g
      by (Some v) g = absurd (true≢false (sym (numbering.definition_numbers v.0 (k, v.1) (placed k v g)) ∙ e))

  -- the entry at the place of a number is the entry of its key
  pub entry_numbered : (last : LastPlaces) → AreLastDefinitionPlaces store.names ds last → (n : KeyNumber) (k : Key)
      → key_numbered store.names n ≡ Some k → deck_entry_at_place store.lines
      (last_definition_place_at last n) ≡ entry_at (table_of_deck_definitions ds) k
  entry_numbered last is_last n k e =
      ap (deck_entry_at_place store.lines) (is_last.place n ∙ ap (option_and_then (definition_place_of ds)) e)
      ∙ entry_at_definition_place store.lines ds placed k

-- the changed keys are those whose numbers have different entries at the last places before and after an edit
pub edit_changes_numbered_keys : SameEntryTextLaw → (edited : StoreEdit) → IsKeyNumbering (store_before edited)
    → IsKeyNumbering (store_after edited) → (before after : LastPlaces) (ds es : DeckDefinitions) →
    AreDefinitionsInPlace edited.old_lines ds → AreDefinitionsInPlace edited.new_lines es
    → AreLastDefinitionPlaces edited.names ds before
    → AreLastDefinitionPlaces edited.names es after →
    IsDeckTableChange (table_of_deck_definitions ds) (table_of_deck_definitions es)
    (deck_keys_where (is_entry_changed_by_edit edited before after) kind.Unit 0 edited.names.units
    ++ (deck_keys_where (is_entry_changed_by_edit edited before after) kind.Prefix 0 edited.names.prefixes
    ++ (deck_keys_where (is_entry_changed_by_edit edited before after) kind.Func 0 edited.names.functions
    ++ deck_keys_where (is_entry_changed_by_edit edited before after) kind.List 0 edited.names.lists)))
edit_changes_numbered_keys law edited numbering too before after ds es placed put was is_last =
    subst (IsDeckTableChange (table_of_deck_definitions ds) (table_of_deck_definitions es))
    (sym (all_filter edited.names (is_entry_changed_by_edit edited before after)
    (differ (table_of_deck_definitions ds) (table_of_deck_definitions es)) by_number))
    (edit_changes_keys_among (table_of_deck_definitions ds) (table_of_deck_definitions es) (all_keys edited.names)
    (once_all edited.names numbering.unique) beside
    (deck_entries_same_by_text law edited.old_lines edited.new_lines ds es placed put))
  where
    by_number : (n : KeyNumber) (k : Key) → key_numbered edited.names n ≡ Some k
        → is_entry_changed_by_edit edited before after n ≡ differ (table_of_deck_definitions ds)
        (table_of_deck_definitions es) k
    by_number n k e =
        ap (λ o. not (is_same_deck_entry o (deck_entry_at_place edited.new_lines (last_definition_place_at after n))))
        (entry_numbered (store_before edited) numbering ds placed before was n k e)
        ∙ ap (λ o. not (is_same_deck_entry (entry_at (table_of_deck_definitions ds) k) o))
        (entry_numbered (store_after edited) too es put after is_last n k e)

    beside : (k : Key) → is_entry_key_among (all_keys edited.names) k ≡ false
        → entry_at (table_of_deck_definitions ds) k ≡ entry_at (table_of_deck_definitions es) k
    beside k e =
        let unnumbered = sym (deck_key_among_all edited.names k) ∙ e in
        deck_entry_of_found_definition ds k
        ∙ ap (option_map (λ v. v.1)) (not_defined (store_before edited) numbering ds placed k unnumbered)
        ∙ sym (ap (option_map (λ v. v.1)) (not_defined (store_after edited) too es put k unnumbered))
        ∙ sym (deck_entry_of_found_definition es k)
