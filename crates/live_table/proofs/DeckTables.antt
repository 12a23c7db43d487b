-- In the table of a deck the definitions of the lines fit the kinds of their keys.
use Rattle.std.proofs.Common.{◌≡◌, ◌+◌, ℕ, List, [], ◌∷◌, Bool, true, false, cond}
use Rattle.std.proofs.Common.{reverse, Option, Some, None, Result, Ok, Err, refl, sym, ap, subst, ◌∙◌}
use Rattle.std.specs.List.{AllByRecursion}
use Rattle.std.proofs.lemmas.List.{reverse-append}
use Rattle.std.proofs.lemmas.Option.{same_Some}
use Rattle.def_lines.specs.Kinds as line
use Rattle.def_lines.specs.Kinds.{LineKindWithArguments, kind_of_line}
use Rattle.def_entry.specs.declared.fault.EntryFault.{EntryFault}
use Rattle.def_entry.specs.declared.key.Key.{Key}
use Rattle.def_entry.specs.Entries.{Entry}
use Rattle.def_entry.specs.EntryReading.{entry_of}
use Rattle.def_entry.specs.SameKeys.{is_same_entry_key}
use Rattle.def_entry.proofs.SameKeys.{same_entry_keys}
use Rattle.deck_lines.specs.declared.line.DeckLine.{DeckLine}
use Rattle.deck_lines.specs.Readings.{defined_by, entry_in_store_line, store_line_reading_by_kind}
use Rattle.deck_lines.specs.Readings.{store_line_reading_of, store_line_reading_of_entry}
use Rattle.deck.specs.Active.{active_lines}
use Rattle.deck.specs.Decks.{DeckContents}
use Rattle.deck.specs.Tables.{DeckDefinitions, active_definitions, active_definitions_from, definition_of_active_line}
use Rattle.deck.specs.Tables.{entry_at, table_of_deck, table_of_deck_definitions}
use Rattle.table_names.specs.Kinds.{TableNamesFitKinds, table_name_may_have}
use Rattle.table_names.proofs.LineKinds.{line_fits_table_name}
use Rattle.general_lemmas.proofs.Properties.{all_append}

-- ---- a line that defines a key has its entry
line_of_live_key_has_its_entry : (r : Result (Key × Entry) EntryFault) (p : Key × Entry)
    → defined_by (store_line_reading_of_entry r) ≡ Some p → r ≡ Ok p
line_of_live_key_has_its_entry (Ok q) p e = ap Ok (same_Some q p e)
line_of_live_key_has_its_entry (Err fault) p e = cc

-- the definition of a reading is the entry of its text
live_reading_is_entry_of_text : (text : List ℕ) (k : LineKindWithArguments) (p : Key × Entry)
    → defined_by (store_line_reading_by_kind text k) ≡ Some p → entry_of text ≡ Ok p
live_reading_is_entry_of_text text line.Definition p e = line_of_live_key_has_its_entry (entry_of text) p e
live_reading_is_entry_of_text text line.UnitList p e = line_of_live_key_has_its_entry (entry_of text) p e
live_reading_is_entry_of_text text line.Blank p e = cc
live_reading_is_entry_of_text text (line.Include name) p e = cc
live_reading_is_entry_of_text text (line.Locale name) p e = cc
live_reading_is_entry_of_text text line.EndLocale p e = cc
live_reading_is_entry_of_text text (line.Set name value) p e = cc
live_reading_is_entry_of_text text (line.Var name values) p e = cc
live_reading_is_entry_of_text text (line.VarNot name values) p e = cc
live_reading_is_entry_of_text text line.EndVar p e = cc
live_reading_is_entry_of_text text line.Utf8 p e = cc
live_reading_is_entry_of_text text line.EndUtf8 p e = cc
live_reading_is_entry_of_text text (line.Message text_of) p e = cc
live_reading_is_entry_of_text text line.Prompt p e = cc
live_reading_is_entry_of_text text line.UnknownDirective p e = cc
live_reading_is_entry_of_text text line.BadDirective p e = cc

-- the definition of a line is the entry of its text
live_definition_is_entry_of_text : (x : DeckLine) (p : Key × Entry) → entry_in_store_line x ≡ Some p
    → entry_of x.text ≡ Ok p
unfolding entry_in_store_line store_line_reading_of
live_definition_is_entry_of_text x p e = by x.mark refl
  where
    by : (b : Bool) → x.mark ≡ b → entry_of x.text ≡ Ok p
    by true q = let z : None ≡ Some p =
        sym (ap (λ b. cond b None (defined_by (store_line_reading_by_kind x.text (kind_of_line x.text)))) q) ∙ e in cc
    by false q = live_reading_is_entry_of_text x.text (kind_of_line x.text) p (sym
        (ap (λ b. cond b None (defined_by (store_line_reading_by_kind x.text (kind_of_line x.text)))) q) ∙ e)

-- ---- each definition fits the kind of its key
abbrev Fits : Key × (ℕ × Entry) → Type 0
Fits p = table_name_may_have p.0.kind p.1.1.what ≡ true

-- the definition of a single line fits its key
live_line_definition_fits_key : (place : ℕ) (active : Bool) (o : Option (Key × Entry))
    → ((p : Key × Entry) → o ≡ Some p → table_name_may_have p.0.kind p.1.what ≡ true)
    → AllByRecursion Fits (definition_of_active_line place active o)
live_line_definition_fits_key place active None h = tt
live_line_definition_fits_key place true (Some p) h = (h p refl, tt)
live_line_definition_fits_key place false (Some p) h = tt

-- the definitions of lines fit their keys
live_line_definitions_fit_keys : (place : ℕ) (flags : List Bool) (lines : List DeckLine)
    → AllByRecursion Fits (active_definitions_from place flags lines)
live_line_definitions_fit_keys place [] lines = tt
live_line_definitions_fit_keys place (f ∷ flags) [] = tt
live_line_definitions_fit_keys place (f ∷ flags) (x ∷ lines) =
    all_append Fits (definition_of_active_line place f (entry_in_store_line x))
    (active_definitions_from (place + 1) flags lines)
    (live_line_definition_fits_key place f (entry_in_store_line x)
    (λ p e. line_fits_table_name x.text p.0 p.1 (live_definition_is_entry_of_text x p e)))
    (live_line_definitions_fit_keys (place + 1) flags lines)

-- a property of all items is a property of all items in reverse order
all_reverse : {A : Type 0} (P : A → Type 0) (xs : List A) → AllByRecursion P xs → AllByRecursion P (reverse xs)
all_reverse P [] h = tt
all_reverse P (x ∷ xs) h =
    subst (AllByRecursion P) (sym (reverse-append (x ∷ []) xs))
    (all_append P (reverse xs) (x ∷ []) (all_reverse P xs h.1) (h.0, tt))

-- an entry that is found fits its key
live_entry_fits_its_key : (ds : DeckDefinitions) → AllByRecursion Fits ds → (k : Key) (e : Entry)
    → entry_at (table_of_deck_definitions ds) k ≡ Some e
    → table_name_may_have k.kind e.what ≡ true
live_entry_fits_its_key [] h k e q = cc
live_entry_fits_its_key (d ∷ ds) h k e q = by (live_entry_fits_its_key ds h.1 k e) (is_same_entry_key k d.0) refl
  where
    by : (entry_at (table_of_deck_definitions ds) k ≡ Some e → table_name_may_have k.kind e.what ≡ true) → (b : Bool)
        → is_same_entry_key k d.0 ≡ b
        → table_name_may_have k.kind e.what ≡ true
    by rest true s =
        let is : d.1.1 ≡ e = same_Some d.1.1 e
        (sym (ap (λ b. cond b (Some d.1.1) (entry_at (table_of_deck_definitions ds) k)) s) ∙ q) in
        let key : k ≡ d.0 = (same_entry_keys k d.0).0 s in
        subst (λ (x : Key). table_name_may_have x.kind e.what ≡ true) (sym key)
        (subst (λ (x : Entry). table_name_may_have d.0.kind x.what ≡ true) is h.0)
    by rest false s = rest (sym (ap (λ b. cond b (Some d.1.1) (entry_at (table_of_deck_definitions ds) k)) s) ∙ q)

-- all entries of a deck fit their keys
pub live_deck_entries_fit_kinds : (d : DeckContents) → TableNamesFitKinds (table_of_deck d)
unfolding active_definitions
live_deck_entries_fit_kinds d = live_entry_fits_its_key (active_definitions d.settings d.lines) (all_reverse Fits _
    (live_line_definitions_fit_keys 0 (active_lines d.settings d.lines) d.lines))
