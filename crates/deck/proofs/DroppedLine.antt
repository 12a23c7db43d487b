-- Removing the last active line of a key from a deck.
use Rattle.std.proofs.Common.{◌≡◌, ◌<◌, ℕ, List, false, not, cond, length, map, set, refl, sym, ap, subst, ◌∙◌}
use Rattle.std.proofs.Common.{Option, Some, None, Ok, option_map, slice_get}
use Rattle.std.specs.List.{remove}
use Rattle.std.specs.Prelude.{IfSome}
use Rattle.std.proofs.lemmas.Option.{same_Some}
use Rattle.std.specs.Option.{option_and_then}
use Rattle.def_entry.specs.declared.key.Key.{Key}
use Rattle.def_entry.specs.declared.key.Kind.{Kind}
use Rattle.def_entry.specs.Entries.{Entry}
use Rattle.def_entry.specs.EntryReading.{SameEntryTextLaw}
use Rattle.def_entry.specs.SameKeys.{is_same_key_kind}
use Rattle.deck_lines.specs.Names.{KeyNumberNames, key_numbered}
use Rattle.deck_lines.specs.KeyNumbering.{IsKeyNumbering}
use Rattle.deck_lines.specs.Stores.{LineStoreView, store_definition_at}
use Rattle.deck_lines.specs.declared.key_number.KeyNumber.{KeyNumber}
use Rattle.deck_lines.specs.declared.line.DeckLine.{DeckLine}
use Rattle.deck.specs.Active.{active_lines}
use Rattle.deck.specs.Changes.{IsDeckTableChange, is_same_deck_entry}
use Rattle.deck.specs.CoveredLines.{MayCoverDefinitions}
use Rattle.deck.specs.Decks.{DeckContents}
use Rattle.deck.specs.Edits.{deck_after_dropping, deck_without_some_line}
use Rattle.gap_list.specs.Gaps.{without_gap}
use Rattle.deck.specs.LastPlaces.{AreLastDefinitionPlaces, IsDeckIndexed, last_definition_places}
use Rattle.deck.specs.Numbers.{deck_entry_at_place, deck_key_if}
use Rattle.deck.specs.Tables.{active_definitions, active_definitions_among, definition_place_of, last_definition_place}
use Rattle.deck.specs.Tables.{table_of_deck, table_of_deck_definitions}
use Rattle.deck.specs.declared.places.last_places.LastPlaces.{LastPlaces}
use Rattle.deck.specs.declared.settings.Settings.{Settings}
use Rattle.deck.proofs.DroppedCover.{cover_left, covers_last}
use Rattle.deck.proofs.RemovedLine.{DefinesAt, deck_table_by_moved_definitions, definition_at_last_place}
use Rattle.deck.proofs.RemovedLine.{definitions_dropped, dropped, indexed_dropped, place_in_lines}
use Rattle.deck.proofs.UncoveredKeys.{changed_dropped, last_uncovered}
use Rattle.deck.proofs.LastRemoval.{definition_place_within}

module _ (settings : Settings) (store : LineStoreView) (notices : List (List ℕ)) (d : DeckContents)
    (view : record { lines = store.lines; settings = settings; notices = notices } ≡ d) (k : Key) (place : ℕ)
    (is : Some place ≡ last_definition_place d.settings d.lines k) where
  was : definition_place_of (active_definitions settings store.lines) k ≡ Some place
  was = ap (λ (c : DeckContents). last_definition_place c.settings c.lines k) view ∙ sym is

  defines : (e : Entry) × DefinesAt store.lines place (k, e)
  defines = definition_at_last_place settings store.lines k place was

  -- the place is within the lines
  pub line_inside : place < length store.lines
  line_inside = place_in_lines settings store.lines place (k, defines.0) defines.1

  -- the line at the place defines a key
  pub line_defines : None ≡ option_map (λ e. Some e.0) (store_definition_at store.lines place) → ⊥
  line_defines h = never (h ∙ ap (option_map (λ e. Some e.0)) defines.1)
    where
      never : None ≡ Some (Some k) → ⊥
      never g = cc

  -- the edit removes this line
  pub line_dropped : (left : List DeckLine) → left ≡ dropped place store.lines
      → deck_after_dropping k d ≡ Ok (record { lines = left; settings = settings; notices = notices })
  line_dropped left given =
      ap (λ (c : DeckContents). deck_after_dropping k c) (sym view)
      ∙ ap (λ o. deck_without_some_line o (record { lines = store.lines; settings = settings; notices = notices })) was
      ∙ ap (λ (ls : List DeckLine). Ok (record { lines = ls; settings = settings; notices = notices })) (sym given)

  -- the other lines cover the same lines
  pub covers_drop : (covered : List (Option ℕ))
      → MayCoverDefinitions (length store.lines) (active_definitions settings store.lines) (Some covered)
      → (left : List DeckLine) → left ≡ dropped place store.lines → (rest : Option (List (Option ℕ)))
      → IfSome rest (λ those. those ≡ map (option_map (without_gap place)) (remove covered place))
      → MayCoverDefinitions (length left) (active_definitions settings left) rest
  covers_drop covered are left given None rest_is = tt
  covers_drop covered are left given (Some those) rest_is =
      cover_left settings store.lines place k defines.0 defines.1 was covered are left those given rest_is

  module _ (n : KeyNumber)
      (defines_key : Some (key_numbered store.names n) ≡ option_map (λ e. Some e.0)
      (store_definition_at store.lines place))
    where
      -- the number of the line is the number of the key
      numbered : key_numbered store.names n ≡ Some k
      numbered = same_Some (key_numbered store.names n) (Some k)
          (defines_key ∙ ap (option_map (λ e. Some e.0)) defines.1)

      -- the number is within the places
      pub room_drop : (old : LastPlaces) → IsDeckIndexed store settings old
          → n.number < length (last_definition_places old n.kind)
      room_drop old indexed =
          definition_place_within (last_definition_places old n.kind) n.number place
          (indexed.places.place n ∙ ap (option_and_then (definition_place_of (active_definitions settings store.lines)))
          numbered
          ∙ was)

      -- the place that the line covers is the last place of the key among the other lines
      pub uncovered_drop : (covered : List (Option ℕ))
          → MayCoverDefinitions (length store.lines) (active_definitions settings store.lines) (Some covered)
          → (uncovered : Option ℕ) → ((o : Option ℕ) → slice_get covered place ≡ Some o → uncovered ≡ o)
          → (j : Key) → key_numbered store.names n ≡ Some j → uncovered
          ≡ definition_place_of
          (active_definitions_among (set (active_lines settings store.lines) place false) store.lines) j
      uncovered_drop covered are uncovered read j at =
          let es = active_definitions_among (set (active_lines settings store.lines) place false) store.lines in
          read (definition_place_of es k) (covers_last settings store.lines place k defines.0 defines.1 was covered are)
          ∙ ap (definition_place_of es) (same_Some k j (sym numbered ∙ at))

      -- the place is the last place of each key with this number
      pub last_drop : (j : Key) → key_numbered store.names n ≡ Some j
          → last_definition_place settings store.lines j ≡ Some place
      last_drop j at =
          ap (last_definition_place settings store.lines) (same_Some j k (sym at ∙ numbered)) ∙ was

      module _ (uncovered : Option ℕ)
          (covers : (j : Key) → key_numbered store.names n ≡ Some j
          → uncovered ≡ definition_place_of
          (active_definitions_among (set (active_lines settings store.lines) place false) store.lines) j)
        where
          -- after the uncovered place replaces that of the key, the last places are those of the remaining definitions
          last_left : IsKeyNumbering store → (old put : LastPlaces) → IsDeckIndexed store settings old →
              ((kind : Kind) → last_definition_places put kind ≡ cond (is_same_key_kind kind n.kind)
              (set (last_definition_places old kind) n.number uncovered) (last_definition_places old kind)) →
              AreLastDefinitionPlaces store.names
              (active_definitions_among (set (active_lines settings store.lines) place false) store.lines)
              put
          last_left numbering old put indexed one =
              last_uncovered settings store n k defines.0 place (set (active_lines settings store.lines) place false)
              uncovered numbered was defines.1 refl (covers k numbered) numbering old put indexed.places one

          -- after the places after the gap are decremented, the last places are those of the deck without the line
          pub indexed_drop : IsKeyNumbering store → (old put now : LastPlaces) → IsDeckIndexed store settings old →
              ((kind : Kind) → last_definition_places put kind ≡ cond (is_same_key_kind kind n.kind)
              (set (last_definition_places old kind) n.number uncovered) (last_definition_places old kind)) →
              ((kind : Kind) → last_definition_places now kind ≡ map (option_map (without_gap place))
              (last_definition_places put kind)) →
              (new : LineStoreView) → new.lines ≡ dropped place store.lines → new.names ≡ store.names
              → IsDeckIndexed new settings now
          indexed_drop numbering old put now indexed one gap new left names =
              indexed_dropped settings store.lines place (k, defines.0) defines.1 new put now left indexed.blocks_closed
              (subst (λ (ns : KeyNumberNames). AreLastDefinitionPlaces ns
              (active_definitions_among (set (active_lines settings store.lines) place false)
              store.lines) put) (sym names) (last_left numbering old put indexed one))
              gap

          -- the table without the line is that of the definitions whose flag for the line is false
          table_left : (left : List DeckLine) → left ≡ dropped place store.lines
              → table_of_deck_definitions (active_definitions settings left) ≡ table_of_deck_definitions
              (active_definitions_among (set (active_lines settings store.lines) place false) store.lines)
          table_left left given =
              ap (λ (ls : List DeckLine). table_of_deck_definitions (active_definitions settings ls)) given
              ∙ ap table_of_deck_definitions (definitions_dropped settings store.lines place (k, defines.0) defines.1)
              ∙ deck_table_by_moved_definitions place
              (active_definitions_among (set (active_lines settings store.lines) place false) store.lines)

          -- the keys that the removal changes
          pub changed_drop : SameEntryTextLaw → (left : List DeckLine) (keys : List Key)
              → left ≡ dropped place store.lines
              → keys ≡ deck_key_if (not (is_same_deck_entry (deck_entry_at_place store.lines (Some place))
              (deck_entry_at_place store.lines uncovered))) (key_numbered store.names n) →
              IsDeckTableChange (table_of_deck d) (table_of_deck_definitions (active_definitions settings left)) keys
          changed_drop law left keys given keys_are =
              subst (λ (c : DeckContents). IsDeckTableChange (table_of_deck c)
              (table_of_deck_definitions (active_definitions settings left)) keys) view
              (subst (λ t. IsDeckTableChange (table_of_deck_definitions (active_definitions settings store.lines)) t
              keys)
              (sym (table_left left given))
              (subst (λ (ks : List Key).
              IsDeckTableChange (table_of_deck_definitions (active_definitions settings store.lines))
              (table_of_deck_definitions
              (active_definitions_among (set (active_lines settings store.lines) place false) store.lines)) ks)
              (sym keys_are)
              (changed_dropped settings store n k defines.0 place (set (active_lines settings store.lines) place false)
              uncovered
              numbered was defines.1 refl (covers k numbered) law)))
