-- Removing a last line that defines a key.
use Rattle.std.proofs.Common.{◌≡◌, ◌++◌, ◌∷◌, ◌+◌, ◌-◌, ◌<◌, [], ℕ, List, Bool, true, false}
use Rattle.std.proofs.Common.{not, cond, length, set, take, refl, sym, ap, subst, ◌∙◌, arith, length-append}
use Rattle.std.proofs.Common.{Option, Some, None, option_map, slice_get}
use Rattle.std.proofs.lemmas.Option.{same_Some, slice_get_within}
use Rattle.std.specs.Map.{lookup}
use Rattle.std.specs.Option.{is_some, option_and_then}
use Rattle.std.proofs.lemmas.List.{take_at}
use Rattle.def_entry.specs.declared.key.Key.{Key}
use Rattle.def_entry.specs.declared.key.Kind.{Kind}
use Rattle.def_entry.specs.Entries.{Entry}
use Rattle.def_entry.specs.EntryReading.{SameEntryTextLaw}
use Rattle.def_entry.specs.SameKeys.{is_same_entry_key, is_same_key_kind}
use Rattle.def_entry.proofs.SameKeys.{same_entry_keys}
use Rattle.deck_lines.specs.ClosedBlocks.{AreBlocksClosed, blocks_after, blocks_past}
use Rattle.deck_lines.specs.Names.{AreKeyNumbersOneToOne, KeyNumberNames, key_numbered}
use Rattle.deck_lines.specs.KeyNumbering.{IsKeyNumbering}
use Rattle.deck_lines.specs.Readings.{entry_in_store_line}
use Rattle.deck_lines.specs.Stores.{LineStoreView, store_definition_at}
use Rattle.deck_lines.specs.declared.key_number.KeyNumber.{KeyNumber}
use Rattle.deck_lines.specs.declared.line.DeckLine.{DeckLine}
use Rattle.deck_lines.specs.declared.line.Ending.{Ending}
use Rattle.deck.specs.Changes.{IsDeckTableChange, is_same_deck_entry}
use Rattle.deck.specs.KindPlaces.{definition_place_count, definition_place_in}
use Rattle.deck.specs.LastPlaces.{AreLastDefinitionPlaces, IsDeckIndexed, deck_key_tally, last_definition_place_at}
use Rattle.deck.specs.LastPlaces.{last_definition_places}
use Rattle.deck.specs.Numbers.{AreDefinitionsInPlace, deck_entry_at_place, deck_key_if}
use Rattle.deck.specs.Tables.{DeckDefinitions, active_definitions, definition_place_of, entry_at, is_entry_present}
use Rattle.deck.specs.Tables.{table_of_deck_definitions}
use Rattle.deck.specs.declared.places.last_places.LastPlaces.{LastPlaces}
use Rattle.deck.specs.declared.settings.Settings.{Settings}
use Rattle.deck.proofs.ChangedKeys.{edit_changes_at_places}
use Rattle.deck.proofs.KeyTallies.{deck_key_tally_push}
use Rattle.deck.proofs.RemovedLine.{defining_line_keeps_open_blocks}
use Rattle.deck.proofs.MoreNumbers.{definitions_in_place_more}
use Rattle.deck.proofs.KindPlacing.{definition_place_count_other}
use Rattle.deck.proofs.LastPlaceSteps.{deck_key_kind_by_number}
use Rattle.deck.proofs.OnePlace.{deck_key_numbers_differ, other_place, own_place}
use Rattle.deck.proofs.PlacedDefinitions.{active_definitions_in_place, definition_place_if_present}
use Rattle.deck.proofs.PushedLine.{placed_push}
use Rattle.deck.proofs.Sameness.{same_deck_kinds_are_equal}
use Rattle.general_lemmas.proofs.Places.{at_length}

-- a number that has a place is within the list
pub definition_place_within : (ps : List (Option ℕ)) (n p : ℕ) → definition_place_in ps n ≡ Some p → n < length ps
definition_place_within ps n p h = by (slice_get ps n) refl h
  where
    by : (o : Option (Option ℕ)) → slice_get ps n ≡ o → option_and_then (λ place. place) o ≡ Some p → n < length ps
    by None e g = cc
    by (Some x) e g = slice_get_within ps n x e

-- the last places after the newest definition is removed
module _ (names : KeyNumberNames) (unique : AreKeyNumbersOneToOne names) (ds : DeckDefinitions) (n : KeyNumber)
    (k : Key) (at : ℕ) (e : Entry)
    (place : Option ℕ)
    (old now : LastPlaces) (numbered : key_numbered names n ≡ Some k)
    (before : AreLastDefinitionPlaces names ((k, (at, e)) ∷ ds) old)
    (is : place ≡ definition_place_of ds k)
    (put : (kind : Kind) → last_definition_places now kind ≡ cond (is_same_key_kind kind n.kind)
    (set (last_definition_places old kind) n.number place) (last_definition_places old kind)) where
  there : last_definition_place_at old n ≡ Some at
  there =
      before.place n ∙ ap (option_and_then (definition_place_of ((k, (at, e)) ∷ ds))) numbered
      ∙ ap (λ b. option_map (λ p. p.0) (cond b (Some (at, e)) (lookup (is_same_entry_key k) ds)))
      ((same_entry_keys k k).1 refl)

  pub number_room : n.number < length (last_definition_places old n.kind)
  number_room = definition_place_within (last_definition_places old n.kind) n.number at there

  places_less : (m : KeyNumber) → last_definition_place_at now m ≡ option_and_then (definition_place_of ds)
      (key_numbered names m)
  places_less m = by (key_numbered names m) refl
    where
      other : (m ≡ n → ⊥) → last_definition_place_at now m ≡ last_definition_place_at old m
      other differs = other_place n place old now put m differs

      with_key : (j : Key) → key_numbered names m ≡ Some j → (b : Bool) → is_same_entry_key j k ≡ b
          → last_definition_place_at now m ≡ definition_place_of ds j
      with_key j h true f =
          ap (last_definition_place_at now) (unique m n k (h ∙ ap Some ((same_entry_keys j k).0 f)) numbered)
          ∙ own_place n place old now put number_room ∙ is
          ∙ ap (definition_place_of ds) (sym ((same_entry_keys j k).0 f))
      with_key j h false f =
          other (deck_key_numbers_differ names n m k j numbered h f) ∙ before.place m
          ∙ ap (option_and_then (definition_place_of ((k, (at, e)) ∷ ds))) h
          ∙ ap (λ b. option_map (λ p. p.0) (cond b (Some (at, e)) (lookup (is_same_entry_key j) ds))) f

      by : (o : Option Key) → key_numbered names m ≡ o → last_definition_place_at now m ≡ option_and_then
          (definition_place_of ds) o
      by None h = other (λ s. none_numbered (sym h ∙ ap (key_numbered names) s ∙ numbered)) ∙ before.place m
          ∙ ap (option_and_then (definition_place_of ((k, (at, e)) ∷ ds))) h
        where
          none_numbered : None ≡ Some k → ⊥
          none_numbered g = cc
      by (Some j) h = with_key j h (is_same_entry_key j k) refl

  counts_less : (kind : Kind) → definition_place_count (last_definition_places now kind) ≡ deck_key_tally
      (table_of_deck_definitions ds) kind
  counts_less kind = ap definition_place_count (put kind) ∙ by (is_same_key_kind kind n.kind) refl
    where
      before_by : (b : Bool) → is_same_key_kind kind n.kind ≡ b
          → definition_place_count (last_definition_places old kind) ≡
          cond b (cond (is_entry_present (table_of_deck_definitions ds) k)
          (deck_key_tally (table_of_deck_definitions ds) kind)
          (deck_key_tally (table_of_deck_definitions ds) kind + 1))
          (deck_key_tally (table_of_deck_definitions ds) kind)
      before_by b h =
          before.count kind ∙ deck_key_tally_push (table_of_deck_definitions ds) k e kind
          ∙ ap (λ c. cond c (cond (is_entry_present (table_of_deck_definitions ds) k)
          (deck_key_tally (table_of_deck_definitions ds) kind)
          (deck_key_tally (table_of_deck_definitions ds) kind + 1))
          (deck_key_tally (table_of_deck_definitions ds) kind))
          (ap (is_same_key_kind kind) (deck_key_kind_by_number names n k numbered) ∙ h)

      at_kind : n.kind ≡ kind → (b : Bool) → is_entry_present (table_of_deck_definitions ds) k ≡ b →
          definition_place_count (last_definition_places old kind) ≡ cond b
          (deck_key_tally (table_of_deck_definitions ds) kind)
          (deck_key_tally (table_of_deck_definitions ds) kind + 1) →
          definition_place_count (set (last_definition_places old kind) n.number place) + 1 ≡ cond b
          (definition_place_count (last_definition_places old kind) + 1)
          (definition_place_count (last_definition_places old kind)) →
          definition_place_count (set (last_definition_places old kind) n.number place) ≡ deck_key_tally
          (table_of_deck_definitions ds) kind
      at_kind s true p c d = omega (arith, c, d)
      at_kind s false p c d = omega (arith, c, d)

      by : (b : Bool) → is_same_key_kind kind n.kind ≡ b
          → definition_place_count
          (cond b (set (last_definition_places old kind) n.number place) (last_definition_places old kind))
          ≡ deck_key_tally
          (table_of_deck_definitions ds) kind
      by true h =
          let s : n.kind ≡ kind = sym (same_deck_kinds_are_equal kind n.kind h) in
          at_kind s (is_entry_present (table_of_deck_definitions ds) k) refl (before_by true h)
          (definition_place_count_other (last_definition_places old kind) n.number place
          (subst (λ a. is_some (definition_place_in (last_definition_places old a) n.number) ≡ true) s
          (ap is_some there))
          ∙ ap (λ b. cond b (definition_place_count (last_definition_places old kind) + 1)
          (definition_place_count (last_definition_places old kind)))
          (ap is_some is ∙ definition_place_if_present ds k))
      by false h = before_by false h

  pub last_less : AreLastDefinitionPlaces names ds now
  last_less = record { place = places_less; count = counts_less }

-- removing a last line that defines a key does not change the open blocks
last_definition_keeps_blocks : (lines : List DeckLine) (x : DeckLine) (d : Key × Entry) (blocks : List Ending)
    → entry_in_store_line x ≡ Some d →
    blocks_after blocks lines ≡ blocks_after blocks (lines ++ x ∷ [])
last_definition_keeps_blocks [] x d blocks h =
    sym (ap (option_and_then (λ now. blocks_after now [])) (defining_line_keeps_open_blocks blocks x d h))
last_definition_keeps_blocks (y ∷ lines) x d blocks h = by (blocks_past blocks y)
    (λ now. last_definition_keeps_blocks lines x d now h)
  where
    by : (o : Option (List Ending))
        → ((now : List Ending) → blocks_after now lines ≡ blocks_after now (lines ++ x ∷ [])) →
        option_and_then (λ now. blocks_after now lines) o ≡ option_and_then (λ now. blocks_after now (lines ++ x ∷ []))
        o
    by None ih = refl
    by (Some now) ih = ih now

-- a deck whose last line defines a key
module _ (settings : Settings) (store : LineStoreView) (front : List DeckLine) (x : DeckLine) (k : Key) (e : Entry)
    (lines : store.lines ≡ front ++ x ∷ [])
    (defines : entry_in_store_line x ≡ Some (k, e)) (numbering : IsKeyNumbering store) (old : LastPlaces)
    (indexed : IsDeckIndexed store settings old) where
  pub closed_front : AreBlocksClosed front
  closed_front = last_definition_keeps_blocks front x (k, e) [] defines ∙ ap (blocks_after []) (sym lines)
      ∙ indexed.blocks_closed

  pub definitions_are : active_definitions settings store.lines ≡ (k, (length front, e)) ∷ active_definitions settings
      front
  definitions_are = ap (active_definitions settings) lines ∙ placed_push settings front closed_front x (k, e) defines

  pub defined_there : store_definition_at store.lines (length front) ≡ Some (k, e)
  defined_there = ap (λ ls. store_definition_at ls (length front)) lines
      ∙ ap (option_and_then entry_in_store_line) (at_length front x []) ∙ defines

  last_places : AreLastDefinitionPlaces store.names ((k, (length front, e)) ∷ active_definitions settings front) old
  last_places = subst (λ (ds : DeckDefinitions). AreLastDefinitionPlaces store.names ds old) definitions_are
      indexed.places

  module _ (n : KeyNumber) (place : Option ℕ) (at : key_numbered store.names n ≡ Some k)
      (is : place ≡ definition_place_of (active_definitions settings front) k) where
    -- the number of the key is within the places
    pub room_there : n.number < length (last_definition_places old n.kind)
    room_there = definition_place_within (last_definition_places old n.kind) n.number (length front)
        (last_places.place n ∙ ap
        (option_and_then (definition_place_of ((k, (length front, e)) ∷ active_definitions settings front))) at
        ∙ ap (λ b. option_map (λ p. p.0)
        (cond b (Some (length front, e)) (lookup (is_same_entry_key k) (active_definitions settings front))))
        ((same_entry_keys k k).1 refl))

    -- with the previous place stored at the number, the last places are those of the deck without the line
    pub indexed_less : (now : LastPlaces) (new : LineStoreView) → new.lines ≡ front → new.names ≡ store.names →
        ((kind : Kind) → last_definition_places now kind ≡ cond (is_same_key_kind kind n.kind)
        (set (last_definition_places old kind) n.number place)
        (last_definition_places old kind)) →
        IsDeckIndexed new settings now
    indexed_less now new same names put = record {
      blocks_closed = ap (blocks_after []) same ∙ closed_front;
      places = subst (λ ls. AreLastDefinitionPlaces new.names (active_definitions settings ls) now) (sym same)
          (subst (λ ns. AreLastDefinitionPlaces ns (active_definitions settings front) now) (sym names)
          (last_less store.names numbering.unique (active_definitions settings front) n k (length front) e place old now
          at
          last_places is put));
    }

-- the keys that the removal changes, by comparing the texts of the two entries
pub edit_changes_by_removal : SameEntryTextLaw → (settings : Settings) (lines front : List DeckLine) (x : DeckLine)
    (k : Key)
    (e : Entry) (o : Option Key) (place : ℕ) (uncovered : Option ℕ)
    → lines ≡ front ++ x ∷ [] → active_definitions settings lines ≡ (k, (length front, e)) ∷ active_definitions settings
    front
    → o ≡ Some k → place ≡ length front → uncovered ≡ definition_place_of (active_definitions settings front) k
    → IsDeckTableChange (table_of_deck_definitions (active_definitions settings lines))
    (table_of_deck_definitions (active_definitions settings front))
    (deck_key_if (not (is_same_deck_entry (deck_entry_at_place lines (Some place))
    (deck_entry_at_place lines uncovered))) o)
edit_changes_by_removal law settings lines front x k e o place uncovered is ds at last covers =
    edit_changes_at_places law lines (active_definitions settings lines) (active_definitions settings front)
    (active_definitions_in_place settings lines)
    placed k o (Some place) uncovered at own covers others
  where
    placed : AreDefinitionsInPlace lines (active_definitions settings front)
    placed = subst (λ ls. AreDefinitionsInPlace ls (active_definitions settings front)) (sym is)
        (definitions_in_place_more front (x ∷ []) (active_definitions settings front)
        (active_definitions_in_place settings front))

    own : Some place ≡ definition_place_of (active_definitions settings lines) k
    own =
        ap Some last
        ∙ sym (ap (λ (now : DeckDefinitions). definition_place_of now k) ds
        ∙ ap (λ b. option_map (λ p. p.0)
        (cond b (Some (length front, e)) (lookup (is_same_entry_key k) (active_definitions settings front))))
        ((same_entry_keys k k).1 refl))

    others : (j : Key) → is_same_entry_key j k ≡ false
        → entry_at (table_of_deck_definitions (active_definitions settings lines)) j ≡ entry_at
        (table_of_deck_definitions (active_definitions settings front)) j
    others j apart =
        ap (λ (now : DeckDefinitions). entry_at (table_of_deck_definitions now) j) ds
        ∙ ap (λ b. cond b (Some e) (entry_at (table_of_deck_definitions (active_definitions settings front)) j)) apart

-- the place of the last line is the length of the front
pub place_of_last_deck_line : (lines front : List DeckLine) (x : DeckLine) (n : ℕ) → lines ≡ front ++ x ∷ []
    → n ≡ length lines
    → n - 1 ≡ length front
place_of_last_deck_line lines front x n is count = omega (arith, ap length is, count, length-append front (x ∷ []))

-- all lines but the last are the front
pub deck_front_without_last_line : (lines front : List DeckLine) (x : DeckLine) (n : ℕ) → lines ≡ front ++ x ∷ []
    → n ≡ length lines
    → take (n - 1) lines ≡ front
deck_front_without_last_line lines front x n is count =
    ap (λ m. take m lines) (place_of_last_deck_line lines front x n is count) ∙ ap (take (length front)) is
    ∙ take_at front (x ∷ []) (length front) refl

-- the text that is returned is the text of the last line
pub text_of_last_deck_line : (lines stored : List DeckLine) (n : ℕ) (y : DeckLine) (text : List ℕ) → stored ≡ lines
    → n ≡ length lines → slice_get stored (n - 1) ≡ Some y → text ≡ y.text →
    (front : List DeckLine) (x : DeckLine) → lines ≡ front ++ x ∷ [] → text ≡ x.text
text_of_last_deck_line lines stored n y text same count got defines_key front x is =
    defines_key ∙ ap (λ (l : DeckLine). l.text) (same_Some y x
    (sym got ∙ ap (λ m. slice_get stored m) (place_of_last_deck_line lines front x n is count)
    ∙ ap (λ ls. slice_get ls (length front))
    (same ∙ is) ∙ at_length front x []))
