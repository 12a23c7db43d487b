-- The lines that are in force for keys.
use Rattle.std.proofs.Common.{◌≡◌, ◌<◌, ◌++◌, ◌∷◌, ◌+◌, [], ℕ, List, Bool, true, false, cond, length, refl, sym, ap}
use Rattle.std.proofs.Common.{get_or, subst, ◌∙◌, arith, append_assoc, Option, Some, None, length-append, option_map}
use Rattle.std.proofs.Common.{slice_get, reverse}
use Rattle.std.specs.Prelude.{if◌then◌else◌}
use Rattle.std.proofs.lemmas.List.{reverse-append}
use Rattle.std.proofs.lemmas.Map.Made.{is_some-lookup, keys_of-map_values}
use Rattle.std.proofs.lemmas.Option.{same_Some, slice_get_within}
use Rattle.std.specs.Bool.{⊤}
use Rattle.std.specs.List.{list_any}
use Rattle.std.specs.Map.{lookup}
use Rattle.std.specs.Option.{is_some, option_and_then}
use Rattle.def_entry.specs.declared.key.Key.{Key}
use Rattle.def_entry.specs.Entries.{Entry}
use Rattle.def_entry.specs.SameKeys.{is_entry_key_among, is_same_entry_key}
use Rattle.def_entry.specs.Tables.{keys_of_entries}
use Rattle.def_entry.proofs.SameKeys.{same_entry_keys}
use Rattle.deck_lines.specs.Readings.{entry_in_store_line}
use Rattle.deck_lines.specs.Stores.{store_definition_at}
use Rattle.deck_lines.specs.declared.line.DeckLine.{DeckLine}
use Rattle.deck.specs.Active.{active_lines}
use Rattle.deck.specs.Decks.{DeckContents}
use Rattle.deck.specs.PlacedKeys.{deck_key_at_place}
use Rattle.deck.specs.Tables.{DeckDefinitions, active_definitions, active_definitions_among, active_definitions_from}
use Rattle.deck.specs.Tables.{definition_of_active_line, entry_at, definition_place_of, is_entry_present}
use Rattle.deck.specs.Tables.{last_definition_place, table_of_deck, table_of_deck_definitions}
use Rattle.value_sources.specs.PlacedMentions.{mention_target_place}
use Rattle.value_sources.specs.Visits.{IsUnvisitedKeyPlace, MarksVisitedKeys, is_visit_marked, unmarked_mention_place}
use Rattle.general_lemmas.proofs.Places.{at_length}

-- each definition that a key finds is that of the line at its place
abbrev AreInPlace : List DeckLine → DeckDefinitions → Type 0
AreInPlace lines ds =
    (k : Key) (d : ℕ × Entry) → lookup (is_same_entry_key k) ds ≡ Some d → store_definition_at lines d.0 ≡ Some (k, d.1)

-- each definition is that of the line at its place
abbrev EachInPlace : List DeckLine → DeckDefinitions → Type 0
EachInPlace lines [] = ⊤
EachInPlace lines (d ∷ ds) = (store_definition_at lines d.1.0 ≡ Some (d.0, d.1.1)) × EachInPlace lines ds

-- definitions of two lists that are in place are in place in the concatenation
sources_in_place-append : (lines : List DeckLine) (ds es : DeckDefinitions) → EachInPlace lines ds
    → EachInPlace lines es
    → EachInPlace lines (ds ++ es)
sources_in_place-append lines [] es h g = g
sources_in_place-append lines (d ∷ ds) es h g = (h.0, sources_in_place-append lines ds es h.1 g)

-- definitions that are in place are in place in reverse order
sources_in_place-reverse : (lines : List DeckLine) (ds : DeckDefinitions) → EachInPlace lines ds
    → EachInPlace lines (reverse ds)
sources_in_place-reverse lines [] h = tt
sources_in_place-reverse lines (d ∷ ds) h =
    subst (EachInPlace lines) (sym (reverse-append (d ∷ []) ds))
    (sources_in_place-append lines (reverse ds) (d ∷ []) (sources_in_place-reverse lines ds h.1) (h.0, tt))

-- the definition of a single line is in place
one_source_in_place : (lines : List DeckLine) (place : ℕ) (active : Bool) (o : Option (Key × Entry))
    → store_definition_at lines place ≡ o → EachInPlace lines (definition_of_active_line place active o)
one_source_in_place lines place active None h = tt
one_source_in_place lines place true (Some e) h = (h, tt)
one_source_in_place lines place false (Some e) h = tt

-- the definitions of the lines from a place on are in place
sources_from_in_place : (fs : List Bool) (xs before lines : List DeckLine) → lines ≡ before ++ xs
    → EachInPlace lines (active_definitions_from (length before) fs xs)
sources_from_in_place [] xs before lines e = tt
sources_from_in_place (f ∷ fs) [] before lines e = tt
sources_from_in_place (f ∷ fs) (x ∷ xs) before lines e =
    let next : length (before ++ x ∷ []) ≡ length before + 1 = omega (arith, length-append before (x ∷ [])) in
    sources_in_place-append lines (definition_of_active_line (length before) f (entry_in_store_line x))
    (active_definitions_from (length before + 1) fs xs)
    (one_source_in_place lines (length before) f (entry_in_store_line x)
    (ap (λ t. store_definition_at t (length before)) e ∙ ap (option_and_then entry_in_store_line)
    (at_length before x xs)))
    (subst (λ n. EachInPlace lines (active_definitions_from n fs xs)) next
    (sources_from_in_place fs xs (before ++ x ∷ []) lines (e ∙ sym (append_assoc before (x ∷ []) xs))))

-- the definition that a key finds is in place
found_source_is_in_place : (lines : List DeckLine) (ds : DeckDefinitions) → EachInPlace lines ds → AreInPlace lines ds
found_source_is_in_place lines [] h k v e = cc
found_source_is_in_place lines (d ∷ ds) h k v e = by (λ g. found_source_is_in_place lines ds h.1 k v g)
    (is_same_entry_key k d.0) refl e
  where
    by : (lookup (is_same_entry_key k) ds ≡ Some v → store_definition_at lines v.0 ≡ Some (k, v.1)) → (b : Bool)
        → is_same_entry_key k d.0 ≡ b
        → cond b (Some d.1) (lookup (is_same_entry_key k) ds) ≡ Some v →
        store_definition_at lines v.0 ≡ Some (k, v.1)
    by ih true t g =
        subst (λ (w : ℕ × Entry). store_definition_at lines w.0 ≡ Some (k, w.1)) (same_Some d.1 v g)
        (h.0 ∙ ap (λ j. Some (j, d.1.1)) (sym ((same_entry_keys k d.0).0 t)))
    by ih false t g = ih g

-- the definitions of a deck are in place
sources_are_in_place : (d : DeckContents) → AreInPlace d.lines (active_definitions d.settings d.lines)
unfolding active_definitions
sources_are_in_place d =
    found_source_is_in_place d.lines (active_definitions_among (active_lines d.settings d.lines) d.lines)
    (sources_in_place-reverse d.lines (active_definitions_from 0 (active_lines d.settings d.lines) d.lines)
    (sources_from_in_place (active_lines d.settings d.lines) d.lines [] d.lines refl))

-- an entry is that of the definition that is found
source_entry_is_found : (ds : DeckDefinitions) (k : Key)
    → entry_at (table_of_deck_definitions ds) k ≡ option_map (λ v. v.1) (lookup (is_same_entry_key k) ds)
source_entry_is_found [] k = refl
source_entry_is_found (d ∷ ds) k = ap (cond (is_same_entry_key k d.0) (Some d.1.1)) (source_entry_is_found ds k)
    ∙ by (is_same_entry_key k d.0)
  where
    by : (b : Bool) → cond b (Some d.1.1) (option_map (λ v. v.1) (lookup (is_same_entry_key k) ds))
        ≡ option_map (λ v. v.1) (cond b (Some d.1) (lookup (is_same_entry_key k) ds))
    by true = refl
    by false = refl

-- a key has a place exactly if it has an entry
source_place_if_present : (ds : DeckDefinitions) (k : Key) → is_some (definition_place_of ds k) ≡ is_entry_present
    (table_of_deck_definitions ds) k
source_place_if_present ds k = by (lookup (is_same_entry_key k) ds) ∙ ap is_some (sym (source_entry_is_found ds k))
  where
    by : (o : Option (ℕ × Entry)) → is_some (option_map (λ v. v.0) o) ≡ is_some (option_map (λ v. v.1) o)
    by None = refl
    by (Some v) = refl

-- a key has a place exactly if it is among those of the table
pub source_place_if_among : (ds : DeckDefinitions) (k : Key) → is_some (definition_place_of ds k) ≡ is_entry_key_among
    (keys_of_entries (table_of_deck_definitions ds)) k
source_place_if_among ds k =
    by (lookup (is_same_entry_key k) ds)
    ∙ (is_some-lookup (is_same_entry_key k) ds ∙ ap (list_any (is_same_entry_key k))
    (sym (keys_of-map_values (λ p. p.1) ds)))
  where
    by : (o : Option (ℕ × Entry)) → is_some (option_map (λ v. v.0) o) ≡ is_some o
    by None = refl
    by (Some v) = refl

-- a key that has a line in force is among those of the table
pub placed_source_is_among : (d : DeckContents) (k : Key) (place : ℕ)
    → last_definition_place d.settings d.lines k ≡ Some place
    → is_entry_key_among (keys_of_entries (table_of_deck d)) k ≡ true
placed_source_is_among d k place e = sym (source_place_if_among (active_definitions d.settings d.lines) k)
    ∙ ap is_some e

-- a key that has an entry has a line in force
pub source_entry_has_place : (d : DeckContents) (k : Key) → last_definition_place d.settings d.lines k ≡ None
    → is_entry_present (table_of_deck d) k ≡ true → ⊥
source_entry_has_place d k e p =
    let q : false ≡ true =
    ap is_some (sym e) ∙ source_place_if_present (active_definitions d.settings d.lines) k ∙ p in
    cc

source_key_there_by : (lines : List DeckLine) (ds : DeckDefinitions) → AreInPlace lines ds → (k : Key) (place : ℕ)
    → definition_place_of ds k ≡ Some place → deck_key_at_place lines place ≡ Some k
source_key_there_by lines ds placed k place = by (lookup (is_same_entry_key k) ds) refl
  where
    by : (o : Option (ℕ × Entry)) → lookup (is_same_entry_key k) ds ≡ o → option_map (λ p. p.0) o ≡ Some place
        → deck_key_at_place lines place ≡ Some k
    by None e h = cc
    by (Some d) e h = ap (deck_key_at_place lines) (sym (same_Some d.0 place h))
        ∙ ap (option_map (λ d. d.0)) (placed k d e)

-- the line at the last place of a key defines the key
pub source_key_is_at_its_place : (d : DeckContents) (k : Key) (place : ℕ)
    → last_definition_place d.settings d.lines k ≡ Some place
    → deck_key_at_place d.lines place ≡ Some k
source_key_is_at_its_place d k place e = source_key_there_by d.lines (active_definitions d.settings d.lines)
    (sources_are_in_place d) k place e

-- two keys with the same last place are equal
pub source_place_has_one_key : (d : DeckContents) (k n : Key) (place : ℕ)
    → last_definition_place d.settings d.lines k ≡ Some place
    → last_definition_place d.settings d.lines n ≡ Some place → k ≡ n
source_place_has_one_key d k n place e h =
    same_Some k n (sym (source_key_is_at_its_place d k place e) ∙ source_key_is_at_its_place d n place h)

-- the last place of a key is the place of a line
pub source_place_is_in_deck : (d : DeckContents) (k : Key) (place : ℕ)
    → last_definition_place d.settings d.lines k ≡ Some place
    → place < length d.lines
source_place_is_in_deck d k place e = by (slice_get d.lines place) refl (source_key_is_at_its_place d k place e)
  where
    by : (o : Option DeckLine) → slice_get d.lines place ≡ o
        → option_map (λ d. d.0) (option_and_then entry_in_store_line (slice_get d.lines place)) ≡ Some k
        → place < length d.lines
    by None q h =
        let z : None ≡ Some k = ap (λ o. option_map (λ d. d.0) (option_and_then entry_in_store_line o)) (sym q) ∙ h in
        cc
    by (Some line) q h = slice_get_within d.lines place line q

-- the place of a key whose line is not marked is that of a key that was not visited
pub unmarked_place_is_unvisited_key : (d : DeckContents) (marks : List Bool) (visited : List Key)
    → MarksVisitedKeys d marks visited
    → (key : Option Key)
    (place : Option ℕ) → ((n : Key) → key ≡ Some n → is_entry_present (table_of_deck d) n ≡ true)
    → place ≡ mention_target_place d key
    → IsUnvisitedKeyPlace d visited key (unmarked_mention_place marks place)
unmarked_place_is_unvisited_key d marks visited marked None place there e =
    subst (λ (o : Option ℕ). IsUnvisitedKeyPlace d visited None (unmarked_mention_place marks o)) (sym e) refl
unmarked_place_is_unvisited_key d marks visited marked (Some n) None there e =
    absurd (source_entry_has_place d n (sym e) (there n refl))
unmarked_place_is_unvisited_key d marks visited marked (Some n) (Some p) there e = by (get_or marks p false) refl
  where
    known : get_or marks p false ≡ is_entry_key_among visited n
    known = ap (is_visit_marked marks) e ∙ marked n

    by : (b : Bool) → get_or marks p false ≡ b
        → IsUnvisitedKeyPlace d visited (Some n) (if b then None else Some p)
    by true h = sym known ∙ h
    by false h = (n, refl, sym known ∙ h, sym e)
