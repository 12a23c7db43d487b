-- Removing a line that defines a key.
use Rattle.std.proofs.Common.{◌≡◌, ◌++◌, ◌∷◌, ◌+◌, ◌<◌, ◌≤◌, [], ℕ, zero, suc, List, Bool, true, false, cond, length}
use Rattle.std.proofs.Common.{map, set, take, drop, reverse, refl, sym, ap, subst, ◌∙◌, arith, Option, Some, None}
use Rattle.std.proofs.Common.{option_map, slice_get}
use Rattle.std.proofs.lemmas.Bool.Decides.{nat_tests}
use Rattle.std.proofs.lemmas.List.{map-append}
use Rattle.std.proofs.lemmas.Option.{same_Some, slice_get_within}
use Rattle.std.specs.Map.{lookup}
use Rattle.std.specs.Option.{option_and_then}
use Rattle.def_lines.specs.Kinds.{LineKindWithArguments, kind_of_line}
use Rattle.def_lines.specs.Kinds as line
use Rattle.def_entry.specs.declared.key.Key.{Key}
use Rattle.def_entry.specs.declared.key.Kind.{Kind as KeyKind}
use Rattle.def_entry.specs.Entries.{Entry}
use Rattle.def_entry.specs.SameKeys.{is_same_entry_key}
use Rattle.deck_lines.specs.Blocks.{block_role_of_kind}
use Rattle.deck_lines.specs.ClosedBlocks.{AreBlocksClosed, blocks_after, blocks_past, blocks_past_role}
use Rattle.deck_lines.specs.Names.{KeyNumberNames, key_numbered}
use Rattle.deck_lines.specs.Readings.{defined_by, entry_in_store_line, store_line_reading_by_kind}
use Rattle.deck_lines.specs.Readings.{store_line_reading_of}
use Rattle.deck_lines.specs.Stores.{LineStoreView, store_definition_at}
use Rattle.deck_lines.specs.declared.line.DeckLine.{DeckLine}
use Rattle.deck_lines.specs.declared.line.Ending.{Ending}
use Rattle.deck.specs.Active.{DeckSurroundings, active_line_flags, active_lines, deck_surroundings_after_kind}
use Rattle.deck.specs.Active.{deck_surroundings_after_line, deck_surroundings_at_start, is_active_line}
use Rattle.gap_list.specs.Gaps.{without_gap}
use Rattle.deck.specs.KindPlaces.{definition_place_count, definition_place_in}
use Rattle.deck.specs.LastPlaces.{AreLastDefinitionPlaces, IsDeckIndexed, deck_key_tally, last_definition_places}
use Rattle.deck.specs.Tables.{DeckDefinitions, active_definitions, active_definitions_among, active_definitions_from}
use Rattle.deck.specs.Tables.{definition_of_active_line, definition_place_of, table_of_deck_definitions}
use Rattle.deck.specs.declared.places.last_places.LastPlaces.{LastPlaces}
use Rattle.deck.specs.declared.settings.Settings.{Settings}
use Rattle.deck.proofs.KindPlacing.{definition_place_count_mapped, definition_place_in_mapped}
use Rattle.deck.proofs.ActiveLineFlags.{length-active_line_flags}
use Rattle.deck.proofs.PlacedDefinitions.{active_definitions_in_place}
use Rattle.deck.proofs.PushedLine.{defining_deck_line_has_no_mark, defining_line_encloses_nothing}
use Rattle.general_lemmas.proofs.Parts.{map-reverse}

-- the list without the item at a place
abbrev pub dropped : {A : Type 0} → ℕ → List A → List A
dropped place xs = take place xs ++ drop (place + 1) xs

-- the definitions, with each place after the gap decremented
abbrev pub moved : ℕ → DeckDefinitions → DeckDefinitions
moved gap ds = map (λ d. (d.0, (without_gap gap d.1.0, d.1.1))) ds

-- a line of this kind that defines a key does not change the state
defining_kind_keeps_surroundings : (text : List ℕ) (e : Key × Entry) (locale : List ℕ) (around : DeckSurroundings)
    (kind : LineKindWithArguments)
    → defined_by (store_line_reading_by_kind text kind) ≡ Some e
    → deck_surroundings_after_kind locale around kind ≡ around
defining_kind_keeps_surroundings text e locale around line.Definition h = refl
defining_kind_keeps_surroundings text e locale around line.UnitList h = refl
defining_kind_keeps_surroundings text e locale around (line.Include n) h = refl
defining_kind_keeps_surroundings text e locale around line.UnknownDirective h = refl
defining_kind_keeps_surroundings text e locale around line.BadDirective h = refl
defining_kind_keeps_surroundings text e locale around (line.Locale l) h = cc
defining_kind_keeps_surroundings text e locale around (line.Var v vs) h = cc
defining_kind_keeps_surroundings text e locale around (line.VarNot v vs) h = cc
defining_kind_keeps_surroundings text e locale around line.Utf8 h = cc
defining_kind_keeps_surroundings text e locale around line.EndLocale h = cc
defining_kind_keeps_surroundings text e locale around line.EndVar h = cc
defining_kind_keeps_surroundings text e locale around line.EndUtf8 h = cc
defining_kind_keeps_surroundings text e locale around line.Blank h = refl
defining_kind_keeps_surroundings text e locale around (line.Set v x) h = cc
defining_kind_keeps_surroundings text e locale around (line.Message t) h = refl
defining_kind_keeps_surroundings text e locale around line.Prompt h = refl

-- a line that defines a key does not change the state
defining_line_keeps_surroundings : (locale : List ℕ) (around : DeckSurroundings) (x : DeckLine) (e : Key × Entry)
    → entry_in_store_line x ≡ Some e
    → deck_surroundings_after_line locale around x ≡ around
unfolding entry_in_store_line store_line_reading_of deck_surroundings_after_line
defining_line_keeps_surroundings locale around x e h = by x.mark h
  where
    by : (m : Bool) → cond m None (defined_by (store_line_reading_by_kind x.text (kind_of_line x.text))) ≡ Some e
        → cond m around (deck_surroundings_after_kind locale around (kind_of_line x.text)) ≡ around
    by true g = refl
    by false g = defining_kind_keeps_surroundings x.text e locale around (kind_of_line x.text) g

-- a line that defines a key does not change the open blocks
pub defining_line_keeps_open_blocks : (blocks : List Ending) (x : DeckLine) (e : Key × Entry)
    → entry_in_store_line x ≡ Some e
    → blocks_past blocks x ≡ Some blocks
unfolding blocks_past
defining_line_keeps_open_blocks blocks x e h =
    ap (λ m. cond m (Some blocks) (blocks_past_role blocks (block_role_of_kind (kind_of_line x.text))))
    (defining_deck_line_has_no_mark x e h)
    ∙ ap (blocks_past_role blocks) (defining_line_encloses_nothing x e h)

-- the line at a place defines a key
abbrev pub DefinesAt : List DeckLine → ℕ → Key × Entry → Type 0
DefinesAt lines place e = store_definition_at lines place ≡ Some e

-- removing the line does not change the flags of the other lines
pub active_line_flags_dropped : (lines : List DeckLine) (place : ℕ) (e : Key × Entry) (locale : List ℕ)
    (around : DeckSurroundings)
    → DefinesAt lines place e →
    active_line_flags locale around (dropped place lines) ≡ dropped place (active_line_flags locale around lines)
active_line_flags_dropped [] place e locale around h = cc
active_line_flags_dropped (x ∷ lines) zero e locale around h =
    ap (λ s. active_line_flags locale s lines) (sym (defining_line_keeps_surroundings locale around x e h))
active_line_flags_dropped (x ∷ lines) (suc place) e locale around h =
    let next : suc place + 1 ≡ suc (place + 1) = omega arith in
    ap (λ n. active_line_flags locale around (x ∷ take place lines ++ drop n (x ∷ lines))) next
    ∙ ap (λ fs. is_active_line around x ∷ fs)
    (active_line_flags_dropped lines place e locale (deck_surroundings_after_line locale around x) h)
    ∙ sym (ap (λ n. is_active_line around x ∷ take place
    (active_line_flags locale (deck_surroundings_after_line locale around x) lines)
    ++ drop n (active_line_flags locale around (x ∷ lines))) next)

-- the blocks that are open after the lines are the same without the line
open_blocks_without_deck_line : (lines : List DeckLine) (place : ℕ) (e : Key × Entry) (blocks : List Ending)
    → DefinesAt lines place e
    → blocks_after blocks (dropped place lines) ≡ blocks_after blocks lines
open_blocks_without_deck_line [] place e blocks h = cc
open_blocks_without_deck_line (x ∷ lines) zero e blocks h =
    sym (ap (option_and_then (λ now. blocks_after now lines)) (defining_line_keeps_open_blocks blocks x e h))
open_blocks_without_deck_line (x ∷ lines) (suc place) e blocks h =
    let next : suc place + 1 ≡ suc (place + 1) = omega arith in
    ap (λ n. blocks_after blocks (x ∷ take place lines ++ drop n (x ∷ lines))) next
    ∙ by (blocks_past blocks x) (λ now. open_blocks_without_deck_line lines place e now h)
  where
    by : (o : Option (List Ending))
        → ((now : List Ending) → blocks_after now (dropped place lines) ≡ blocks_after now lines) →
        option_and_then (λ now. blocks_after now (dropped place lines)) o
        ≡ option_and_then (λ now. blocks_after now lines) o
    by None f = refl
    by (Some now) f = f now

-- the places of definitions after the gap are decremented
definition_places_after_gap : (fs : List Bool) (lines : List DeckLine) (n gap : ℕ) → gap ≤ n
    → moved gap (active_definitions_from (n + 1) fs lines) ≡ active_definitions_from n fs lines
definition_places_after_gap [] lines n gap h = refl
definition_places_after_gap (f ∷ fs) [] n gap h = refl
definition_places_after_gap (f ∷ fs) (x ∷ lines) n gap h =
    map-append (λ d. (d.0, (without_gap gap d.1.0, d.1.1)))
    (definition_of_active_line (n + 1) f (entry_in_store_line x))
    (active_definitions_from ((n + 1) + 1) fs lines)
    ∙ ap (λ ds. moved gap (definition_of_active_line (n + 1) f (entry_in_store_line x)) ++ ds)
    (definition_places_after_gap fs lines (n + 1) gap (omega arith))
    ∙ ap (λ ds. ds ++ active_definitions_from (n + 1) fs lines) (by f (entry_in_store_line x))
  where
    less : without_gap gap (n + 1) ≡ n
    less = grind (arith, nat_tests, h)

    by : (b : Bool) (o : Option (Key × Entry))
        → moved gap (definition_of_active_line (n + 1) b o) ≡ definition_of_active_line n b o
    by b None = refl
    by true (Some e) = ap (λ m. (e.0, (m, e.1)) ∷ []) less
    by false (Some e) = refl

-- without the line at the gap, its definition is missing and the later places are decremented
active_definitions_from_dropped : (fs : List Bool) (lines : List DeckLine) (n place : ℕ) → place < length lines
    → length fs ≡ length lines
    →
    moved (n + place) (active_definitions_from n (set fs place false) lines)
    ≡ active_definitions_from n (dropped place fs) (dropped place lines)
active_definitions_from_dropped [] [] n place h e = absurd (omega arith)
active_definitions_from_dropped [] (x ∷ lines) n place h e = absurd (omega arith)
active_definitions_from_dropped (f ∷ fs) [] n place h e = absurd (omega arith)
active_definitions_from_dropped (f ∷ fs) (x ∷ lines) n zero h e =
    ap (λ ds. moved (n + 0) (ds ++ active_definitions_from (n + 1) fs lines)) (none (entry_in_store_line x))
    ∙ definition_places_after_gap fs lines n (n + 0) (omega arith)
  where
    none : (o : Option (Key × Entry)) → definition_of_active_line n false o ≡ []
    none None = refl
    none (Some d) = refl
active_definitions_from_dropped (f ∷ fs) (x ∷ lines) n (suc place) h e =
    let next : suc place + 1 ≡ suc (place + 1) = omega arith in
    let gap : n + suc place ≡ (n + 1) + place = omega arith in
    map-append (λ d. (d.0, (without_gap (n + suc place) d.1.0, d.1.1)))
    (definition_of_active_line n f (entry_in_store_line x))
    (active_definitions_from (n + 1) (set fs place false) lines)
    ∙ ap (λ ds. moved (n + suc place) (definition_of_active_line n f (entry_in_store_line x)) ++ ds)
    (ap (λ g. moved g (active_definitions_from (n + 1) (set fs place false) lines)) gap
    ∙ active_definitions_from_dropped fs lines (n + 1) place (omega arith) (omega arith))
    ∙ ap (λ ds. ds ++ active_definitions_from (n + 1) (dropped place fs) (dropped place lines))
    (by f (entry_in_store_line x))
    ∙ sym (ap (λ m. active_definitions_from n (f ∷ take place fs ++ drop m (f ∷ fs))
    (x ∷ take place lines ++ drop m (x ∷ lines))) next)
  where
    same : without_gap (n + suc place) n ≡ n
    same = grind (arith, nat_tests)

    by : (b : Bool) (o : Option (Key × Entry))
        → moved (n + suc place) (definition_of_active_line n b o) ≡ definition_of_active_line n b o
    by b None = refl
    by true (Some d) = ap (λ m. (d.0, (m, d.1)) ∷ []) same
    by false (Some d) = refl

-- the place of a key moves with its definition
pub definition_place_moved : (gap : ℕ) (ds : DeckDefinitions) (k : Key)
    → definition_place_of (moved gap ds) k ≡ option_map (without_gap gap) (definition_place_of ds k)
definition_place_moved gap [] k = refl
definition_place_moved gap (d ∷ ds) k = by (is_same_entry_key k d.0) (definition_place_moved gap ds k)
  where
    by : (b : Bool) → definition_place_of (moved gap ds) k ≡ option_map (without_gap gap) (definition_place_of ds k) →
        option_map (λ p. p.0)
        (cond b (Some (without_gap gap d.1.0, d.1.1)) (lookup (is_same_entry_key k) (moved gap ds)))
        ≡ option_map (without_gap gap) (option_map (λ p. p.0) (cond b (Some d.1) (lookup (is_same_entry_key k) ds)))
    by true ih = refl
    by false ih = ih

-- moving the places does not change the table
pub deck_table_by_moved_definitions : (gap : ℕ) (ds : DeckDefinitions)
    → table_of_deck_definitions (moved gap ds) ≡ table_of_deck_definitions ds
deck_table_by_moved_definitions gap [] = refl
deck_table_by_moved_definitions gap (d ∷ ds) = ap (λ t. (d.0, d.1.1) ∷ t) (deck_table_by_moved_definitions gap ds)

-- if the definitions move, the last places move in the same way
last_definition_places_moved : (names : KeyNumberNames) (gap : ℕ) (ds : DeckDefinitions) (old now : LastPlaces)
    → AreLastDefinitionPlaces names ds old →
    ((kind : KeyKind) → last_definition_places now kind ≡ map (option_map (without_gap gap))
    (last_definition_places old kind))
    → AreLastDefinitionPlaces names (moved gap ds) now
last_definition_places_moved names gap ds old now before closed = record {
  place = λ n. ap (λ ps. definition_place_in ps n.number) (closed n.kind)
      ∙ definition_place_in_mapped (without_gap gap) (last_definition_places old n.kind) n.number
      ∙ ap (option_map (without_gap gap)) (before.place n) ∙ by (key_numbered names n);
  count = λ kind. ap definition_place_count (closed kind) ∙ definition_place_count_mapped (without_gap gap)
      (last_definition_places old kind) ∙ before.count kind
      ∙ ap (λ t. deck_key_tally t kind) (sym (deck_table_by_moved_definitions gap ds));
}
  where
    by : (o : Option Key) → option_map (without_gap gap) (option_and_then (definition_place_of ds) o)
        ≡ option_and_then (definition_place_of (moved gap ds)) o
    by None = refl
    by (Some k) = sym (definition_place_moved gap ds k)

module _ (settings : Settings) (lines : List DeckLine) (place : ℕ) (e : Key × Entry)
    (defines : DefinesAt lines place e) where
  pub place_in_lines : place < length lines
  place_in_lines = by (slice_get lines place) refl defines
    where
      by : (o : Option DeckLine) → slice_get lines place ≡ o → option_and_then entry_in_store_line o ≡ Some e
          → place < length lines
      by None h g = cc
      by (Some x) h g = slice_get_within lines place x h

  -- the definitions without the line are those whose flag for the line is false, with the later places decremented
  pub definitions_dropped : active_definitions settings (dropped place lines)
      ≡ moved place (active_definitions_among (set (active_lines settings lines) place false) lines)
  unfolding active_definitions
  definitions_dropped =
      ap (λ fs. reverse (active_definitions_from 0 fs (dropped place lines)))
      (active_line_flags_dropped lines place e settings.locale (deck_surroundings_at_start settings) defines)
      ∙ ap reverse (sym (active_definitions_from_dropped (active_lines settings lines) lines 0 place place_in_lines
      (length-active_line_flags settings.locale (deck_surroundings_at_start settings) lines)))
      ∙ ap (λ g. reverse (moved g (active_definitions_from 0 (set (active_lines settings lines) place false) lines)))
      (zero_plus place)
      ∙ sym (map-reverse (λ d. (d.0, (without_gap place d.1.0, d.1.1)))
      (active_definitions_from 0 (set (active_lines settings lines) place false) lines))
    where
      zero_plus : (m : ℕ) → 0 + m ≡ m
      zero_plus m = omega arith

  -- after the removal the moved last places are those of the store
  pub indexed_dropped : (store : LineStoreView) (old now : LastPlaces) → store.lines ≡ dropped place lines
      → AreBlocksClosed lines →
      AreLastDefinitionPlaces store.names
      (active_definitions_among (set (active_lines settings lines) place false) lines) old →
      ((kind : KeyKind) → last_definition_places now kind ≡ map (option_map (without_gap place))
      (last_definition_places old kind))
      → IsDeckIndexed store settings now
  indexed_dropped store old now is closed last gap = record {
    blocks_closed = ap (blocks_after []) is ∙ open_blocks_without_deck_line lines place e [] defines ∙ closed;
    places = subst (λ (ds : DeckDefinitions). AreLastDefinitionPlaces store.names ds now)
        (sym (ap (active_definitions settings) is ∙ definitions_dropped))
        (last_definition_places_moved store.names place
        (active_definitions_among (set (active_lines settings lines) place false) lines) old now
        last gap);
  }

-- the line at the last place of a key defines it
pub definition_at_last_place : (settings : Settings) (lines : List DeckLine) (k : Key) (place : ℕ)
    → definition_place_of (active_definitions settings lines) k ≡ Some place → (e : Entry) × DefinesAt lines place
    (k, e)
definition_at_last_place settings lines k place h =
    by (lookup (is_same_entry_key k) (active_definitions settings lines)) refl h
  where
    by : (o : Option (ℕ × Entry)) → lookup (is_same_entry_key k) (active_definitions settings lines) ≡ o
        → option_map (λ p. p.0) o ≡ Some place → (e : Entry) × DefinesAt lines place (k, e)
    by None g f = cc
    by (Some d) g f = (
      d.1,
      ap (store_definition_at lines) (sym (same_Some d.0 place f))
          ∙ active_definitions_in_place settings lines k d g,
    )
