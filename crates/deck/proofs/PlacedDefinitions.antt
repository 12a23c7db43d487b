-- The definitions of a deck are those of the lines at their places.
use Rattle.std.proofs.Common.{◌≡◌, ◌++◌, ◌∷◌, ◌+◌, [], ℕ, List, Bool, true, false, cond, length, refl, sym, ap, subst}
use Rattle.std.proofs.Common.{◌∙◌, arith, append_assoc, Option, Some, None, length-append, option_map, reverse}
use Rattle.std.proofs.lemmas.List.{reverse-append}
use Rattle.std.proofs.lemmas.Option.{same_Some}
use Rattle.std.specs.Bool.{⊤}
use Rattle.std.specs.Map.{lookup}
use Rattle.std.specs.Option.{is_some, option_and_then}
use Rattle.def_entry.specs.declared.key.Key.{Key}
use Rattle.def_entry.specs.Entries.{Entry}
use Rattle.def_entry.specs.SameKeys.{is_same_entry_key}
use Rattle.def_entry.proofs.SameKeys.{same_entry_keys}
use Rattle.deck_lines.specs.Readings.{entry_in_store_line}
use Rattle.deck_lines.specs.Stores.{store_definition_at}
use Rattle.deck_lines.specs.declared.line.DeckLine.{DeckLine}
use Rattle.deck.specs.Active.{active_lines}
use Rattle.deck.specs.Numbers.{AreDefinitionsInPlace}
use Rattle.deck.specs.Tables.{DeckDefinitions, active_definitions, active_definitions_among, active_definitions_from}
use Rattle.deck.specs.Tables.{definition_of_active_line, entry_at, definition_place_of, is_entry_present}
use Rattle.deck.specs.Tables.{table_of_deck_definitions}
use Rattle.deck.specs.declared.settings.Settings.{Settings}
use Rattle.general_lemmas.proofs.Places.{at_length}

-- each definition is that of the line at its place
abbrev pub EachInPlace : List DeckLine → DeckDefinitions → Type 0
EachInPlace lines [] = ⊤
EachInPlace lines (d ∷ ds) = (store_definition_at lines d.1.0 ≡ Some (d.0, d.1.1)) × EachInPlace lines ds

-- if two lists of definitions are in place, so is their concatenation
definitions_in_place-append : (lines : List DeckLine) (ds es : DeckDefinitions) → EachInPlace lines ds
    → EachInPlace lines es
    → EachInPlace lines (ds ++ es)
definitions_in_place-append lines [] es h g = g
definitions_in_place-append lines (d ∷ ds) es h g = (h.0, definitions_in_place-append lines ds es h.1 g)

-- if definitions are in place, so are they in reverse order
definitions_in_place-reverse : (lines : List DeckLine) (ds : DeckDefinitions) → EachInPlace lines ds
    → EachInPlace lines (reverse ds)
definitions_in_place-reverse lines [] h = tt
definitions_in_place-reverse lines (d ∷ ds) h =
    subst (EachInPlace lines) (sym (reverse-append (d ∷ []) ds))
    (definitions_in_place-append lines (reverse ds) (d ∷ []) (definitions_in_place-reverse lines ds h.1) (h.0, tt))

-- the definition of a line is in place
active_definition_in_place : (lines : List DeckLine) (place : ℕ) (active : Bool) (o : Option (Key × Entry))
    → store_definition_at lines place ≡ o → EachInPlace lines (definition_of_active_line place active o)
active_definition_in_place lines place active None h = tt
active_definition_in_place lines place true (Some e) h = (h, tt)
active_definition_in_place lines place false (Some e) h = tt

-- the definitions of the lines from a place on are in place
active_definitions_from_in_place : (fs : List Bool) (xs before lines : List DeckLine) → lines ≡ before ++ xs
    → EachInPlace lines (active_definitions_from (length before) fs xs)
active_definitions_from_in_place [] xs before lines e = tt
active_definitions_from_in_place (f ∷ fs) [] before lines e = tt
active_definitions_from_in_place (f ∷ fs) (x ∷ xs) before lines e =
    let next : length (before ++ x ∷ []) ≡ length before + 1 = omega (arith, length-append before (x ∷ [])) in
    definitions_in_place-append lines (definition_of_active_line (length before) f (entry_in_store_line x))
    (active_definitions_from (length before + 1) fs xs)
    (active_definition_in_place lines (length before) f (entry_in_store_line x)
    (ap (λ t. store_definition_at t (length before)) e ∙ ap (option_and_then entry_in_store_line)
    (at_length before x xs)))
    (subst (λ n. EachInPlace lines (active_definitions_from n fs xs)) next
    (active_definitions_from_in_place fs xs (before ++ x ∷ []) lines (e ∙ sym (append_assoc before (x ∷ []) xs))))

-- the definition that is found by a key is in place
found_definition_is_in_place : (lines : List DeckLine) (ds : DeckDefinitions) → EachInPlace lines ds
    → AreDefinitionsInPlace lines ds
found_definition_is_in_place lines [] h k v e = cc
found_definition_is_in_place lines (d ∷ ds) h k v e = by (λ g. found_definition_is_in_place lines ds h.1 k v g)
    (is_same_entry_key k d.0) refl e
  where
    by : (lookup (is_same_entry_key k) ds ≡ Some v → store_definition_at lines v.0 ≡ Some (k, v.1)) → (b : Bool)
        → is_same_entry_key k d.0 ≡ b
        → cond b (Some d.1) (lookup (is_same_entry_key k) ds) ≡ Some v →
        store_definition_at lines v.0 ≡ Some (k, v.1)
    by ih true t g =
        subst (λ (w : ℕ × Entry). store_definition_at lines w.0 ≡ Some (k, w.1)) (same_Some d.1 v g)
        (h.0 ∙ ap (λ j. Some (j, d.1.1)) (sym ((same_entry_keys k d.0).0 t)))
    by ih false t g = ih g

-- the definitions of the lines with these flags are in place
pub active_definitions_in_place_by : (flags : List Bool) (lines : List DeckLine)
    → AreDefinitionsInPlace lines (active_definitions_among flags lines)
active_definitions_in_place_by flags lines =
    found_definition_is_in_place lines (active_definitions_among flags lines)
    (definitions_in_place-reverse lines (active_definitions_from 0 flags lines)
    (active_definitions_from_in_place flags lines [] lines refl))

-- the definitions of the active lines are in place
pub active_definitions_in_place : (settings : Settings) (lines : List DeckLine)
    → AreDefinitionsInPlace lines (active_definitions settings lines)
unfolding active_definitions
active_definitions_in_place settings lines = active_definitions_in_place_by (active_lines settings lines) lines

-- the entry of a key is that of the definition that is found
pub deck_entry_of_found_definition : (ds : DeckDefinitions) (k : Key)
    → entry_at (table_of_deck_definitions ds) k ≡ option_map (λ v. v.1) (lookup (is_same_entry_key k) ds)
deck_entry_of_found_definition [] k = refl
deck_entry_of_found_definition (d ∷ ds) k = ap (cond (is_same_entry_key k d.0) (Some d.1.1))
    (deck_entry_of_found_definition ds k) ∙ by (is_same_entry_key k d.0)
  where
    by : (b : Bool) → cond b (Some d.1.1) (option_map (λ v. v.1) (lookup (is_same_entry_key k) ds))
        ≡ option_map (λ v. v.1) (cond b (Some d.1) (lookup (is_same_entry_key k) ds))
    by true = refl
    by false = refl

-- a key has a place exactly if it has an entry
pub definition_place_if_present : (ds : DeckDefinitions) (k : Key)
    → is_some (definition_place_of ds k) ≡ is_entry_present (table_of_deck_definitions ds) k
definition_place_if_present ds k = by (lookup (is_same_entry_key k) ds)
    ∙ ap is_some (sym (deck_entry_of_found_definition ds k))
  where
    by : (o : Option (ℕ × Entry)) → is_some (option_map (λ v. v.0) o) ≡ is_some (option_map (λ v. v.1) o)
    by None = refl
    by (Some v) = refl

-- a key without an entry has no place
pub no_definition_place_if_absent : (ds : DeckDefinitions) (k : Key) → entry_at (table_of_deck_definitions ds) k ≡ None
    → definition_place_of ds k ≡ None
no_definition_place_if_absent ds k h = by (lookup (is_same_entry_key k) ds)
    (sym (deck_entry_of_found_definition ds k) ∙ h)
  where
    by : (o : Option (ℕ × Entry)) → option_map (λ v. v.1) o ≡ None → option_map (λ v. v.0) o ≡ None
    by None g = refl
    by (Some v) g = cc
