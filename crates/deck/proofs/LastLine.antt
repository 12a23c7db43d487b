-- Removing the last line of a deck.
use Rattle.std.proofs.Common.{◌≡◌, ◌++◌, ◌∷◌, ◌-◌, ◌<◌, [], ℕ, List, not, cond, length, set, take, sym, ap, subst, ◌∙◌}
use Rattle.std.proofs.Common.{arith, length-append, Option, Some, option_map}
use Rattle.std.proofs.lemmas.Option.{same_Some}
use Rattle.def_entry.specs.declared.key.Key.{Key}
use Rattle.def_entry.specs.declared.key.Kind.{Kind}
use Rattle.def_entry.specs.EntryReading.{SameEntryTextLaw}
use Rattle.def_entry.specs.SameKeys.{is_same_key_kind}
use Rattle.deck_lines.specs.Names.{key_numbered}
use Rattle.deck_lines.specs.KeyNumbering.{IsKeyNumbering}
use Rattle.deck_lines.specs.Stores.{LineStoreView, store_definition_at}
use Rattle.deck_lines.specs.declared.key_number.KeyNumber.{KeyNumber}
use Rattle.deck_lines.specs.declared.line.DeckLine.{DeckLine}
use Rattle.deck.specs.Changes.{IsDeckTableChange, is_same_deck_entry}
use Rattle.deck.specs.CoveredLines.{AreDefinitionPlacesBelow, MayCoverDefinitions}
use Rattle.deck.specs.Decks.{DeckContents}
use Rattle.deck.specs.LastPlaces.{IsDeckIndexed, last_definition_places}
use Rattle.deck.specs.Numbers.{deck_entry_at_place, deck_key_if}
use Rattle.deck.specs.Tables.{DeckDefinitions, active_definitions, last_definition_place, table_of_deck}
use Rattle.deck.specs.Tables.{table_of_deck_definitions}
use Rattle.deck.specs.LineRemoval.{CanUndefineDeckLine}
use Rattle.deck.specs.declared.places.last_places.LastPlaces.{LastPlaces}
use Rattle.deck.specs.declared.settings.Settings.{Settings}
use Rattle.deck.proofs.KnownCover.{active_definitions_below, may_cover_definitions_others}
use Rattle.deck.proofs.LastRemoval.{deck_front_without_last_line, defined_there, definitions_are}
use Rattle.deck.proofs.LastRemoval.{edit_changes_by_removal, indexed_less, place_of_last_deck_line, room_there}

module _ (settings : Settings) (store : LineStoreView) (notices : List (List ℕ)) (d : DeckContents)
    (view : record { lines = store.lines; settings = settings; notices = notices } ≡ d)
    (uncovered : Option ℕ) (can : CanUndefineDeckLine uncovered d) (len : ℕ) (count : len ≡ length store.lines)
    (numbering : IsKeyNumbering store) (last : LastPlaces) (indexed : IsDeckIndexed store settings last) (n : KeyNumber)
    (defines_key : Some (key_numbered store.names n) ≡ option_map (λ e. Some e.0)
    (store_definition_at store.lines (len - 1)))
  where
    split : store.lines ≡ can.lines_before ++ can.line ∷ []
    split = ap (λ (c : DeckContents). c.lines) view ∙ can.lines

    covers : uncovered ≡ last_definition_place settings can.lines_before can.key
    covers = can.place ∙ ap (λ (c : DeckContents). last_definition_place c.settings can.lines_before can.key) (sym view)

    at_end : len - 1 ≡ length can.lines_before
    at_end = place_of_last_deck_line store.lines can.lines_before can.line len split count

    left_is : take (len - 1) store.lines ≡ can.lines_before
    left_is = deck_front_without_last_line store.lines can.lines_before can.line len split count

    -- the number of the last line is the number of its key
    numbered : key_numbered store.names n ≡ Some can.key
    numbered =
        same_Some (key_numbered store.names n) (Some can.key)
        (defines_key ∙ ap (λ p. option_map (λ e. Some e.0) (store_definition_at store.lines p)) at_end
        ∙ ap (option_map (λ e. Some e.0))
        (defined_there settings store can.lines_before can.line can.key can.entry split can.defines numbering last
        indexed))

    -- the number is within the places
    pub room_undefined : n.number < length (last_definition_places last n.kind)
    room_undefined =
        room_there settings store can.lines_before can.line can.key can.entry split can.defines numbering last indexed n
        uncovered numbered covers

    -- with the uncovered place at the number, the last places are those of the deck without the line
    pub indexed_undefined : (now : LastPlaces) (new : LineStoreView) → new.lines ≡ take (len - 1) store.lines
        → new.names ≡ store.names
        → ((kind : Kind) → last_definition_places now kind ≡ cond (is_same_key_kind kind n.kind)
        (set (last_definition_places last kind) n.number uncovered) (last_definition_places last kind)) →
        IsDeckIndexed new settings now
    indexed_undefined now new left names put =
        indexed_less settings store can.lines_before can.line can.key can.entry split can.defines numbering last indexed
        n
        uncovered numbered covers now new (left ∙ left_is) names put

    -- the keys that the removal changes
    pub changed_undefined : SameEntryTextLaw → (left : List DeckLine) (keys : List Key)
        → left ≡ take (len - 1) store.lines
        → keys ≡ deck_key_if (not (is_same_deck_entry (deck_entry_at_place store.lines (Some (len - 1)))
        (deck_entry_at_place store.lines uncovered))) (key_numbered store.names n) →
        IsDeckTableChange (table_of_deck d) (table_of_deck_definitions (active_definitions settings left)) keys
    changed_undefined law left keys is given =
        subst (λ (c : DeckContents). IsDeckTableChange (table_of_deck c)
        (table_of_deck_definitions (active_definitions settings left)) keys) view
        (subst (λ (ls : List DeckLine).
        IsDeckTableChange (table_of_deck_definitions (active_definitions settings store.lines))
        (table_of_deck_definitions (active_definitions settings ls)) keys) (sym (is ∙ left_is))
        (subst (λ (ks : List Key).
        IsDeckTableChange (table_of_deck_definitions (active_definitions settings store.lines))
        (table_of_deck_definitions (active_definitions settings can.lines_before)) ks) (sym given)
        (edit_changes_by_removal law settings store.lines can.lines_before can.line can.key can.entry
        (key_numbered store.names n)
        (len - 1)
        uncovered split
        (definitions_are settings store can.lines_before can.line can.key can.entry split can.defines numbering last
        indexed)
        numbered at_end covers)))

    -- the lines cover the same lines without the last one
    pub covers_undefined : (covered : Option (List (Option ℕ)))
        → MayCoverDefinitions (length store.lines) (active_definitions settings store.lines) covered
        → (rest : Option (List (Option ℕ)))
        → ((count : ℕ) (ds : DeckDefinitions) → len - 1 < count → AreDefinitionPlacesBelow (len - 1) ds
        → MayCoverDefinitions count ds covered
        → MayCoverDefinitions (len - 1) ds rest)
        → (left : List DeckLine) → left ≡ take (len - 1) store.lines
        → MayCoverDefinitions (length left) (active_definitions settings left) rest
    covers_undefined covered are rest first left is =
        let front : List DeckLine = can.lines_before in
        let ds : DeckDefinitions = active_definitions settings front in
        let more : active_definitions settings store.lines ≡ (can.key, (length front, can.entry)) ∷ ds =
        definitions_are settings store front can.line can.key can.entry split can.defines numbering last indexed in
        let some : MayCoverDefinitions (length store.lines) ds covered =
        may_cover_definitions_others (length store.lines) (can.key, (length front, can.entry)) ds covered
        (subst (λ es. MayCoverDefinitions (length store.lines) es covered) more are) in
        let below : AreDefinitionPlacesBelow (len - 1) ds = subst (λ n. AreDefinitionPlacesBelow n ds) (sym at_end)
        (active_definitions_below settings front) in
        let less : len - 1 < length store.lines =
        omega (arith, at_end, ap length split, length-append front (can.line ∷ [])) in
        subst (λ ls. MayCoverDefinitions (length ls) (active_definitions settings ls) rest) (sym (is ∙ left_is))
        (subst (λ n. MayCoverDefinitions n ds rest) at_end (first (length store.lines) ds less below some))
