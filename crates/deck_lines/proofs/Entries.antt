-- The entries of lines, computed from their texts and from what is stored about them.
use Rattle.std.proofs.Common.{◌≡◌, ◌<◌, ℕ, List, Bool, true, false, cond, length, refl, sym, ap, ◌∙◌, Option, Some}
use Rattle.std.proofs.Common.{None, option_map, slice_get, Result, Ok, Err}
use Rattle.std.specs.Option.{option_and_then}
use Rattle.std.proofs.lemmas.Option.{same_Some, slice_get_within}
use Rattle.def_lines.specs.Kinds as line
use Rattle.def_lines.specs.Kinds.{LineKindWithArguments as LineKind, kind_of_line}
use Rattle.def_entry.specs.Entries.{Entry, What}
use Rattle.def_entry.specs.Headings.{entry_text}
use Rattle.def_entry.specs.EntryReading.{entry_of}
use Rattle.def_entry.specs.Views.{entry_definition_view, entry_with_definition}
use Rattle.def_entry.specs.declared.fault.EntryFault.{EntryFault}
use Rattle.def_entry.specs.declared.key.Key.{Key}
use Rattle.def_entry.proofs.Texts.{entry_text_is_after_name}
use Rattle.deck_lines.specs.StoredDefinitions.{keyed_store_definition, seen_store_definition}
use Rattle.deck_lines.specs.Names.{KeyNumberNames}
use Rattle.deck_lines.specs.Readings.{defined_by, entry_in_store_line, store_line_reading_by_kind}
use Rattle.deck_lines.specs.Readings.{store_line_reading_of, store_line_reading_of_entry}
use Rattle.deck_lines.specs.Stores.{store_definition_at}
use Rattle.deck_lines.specs.declared.line.DeckLine.{DeckLine}
use Rattle.deck_lines.specs.declared.store.definitions.Definition.{Definition}

-- if a reading defines an entry, the line has that entry
reading_defines_store_entry : (e : Key × Entry) (r : Result (Key × Entry) EntryFault)
    → defined_by (store_line_reading_of_entry r) ≡ Some e → r ≡ Ok e
reading_defines_store_entry e (Ok x) h = ap Ok (same_Some x e h)
reading_defines_store_entry e (Err f) h = cc

-- if the reading of a line defines an entry, the line has that entry
store_line_reading_has_entry : (text : List ℕ) (e : Key × Entry) (kind : LineKind)
    → defined_by (store_line_reading_by_kind text kind) ≡ Some e
    → entry_of text ≡ Ok e
store_line_reading_has_entry text e line.Definition h = reading_defines_store_entry e (entry_of text) h
store_line_reading_has_entry text e line.UnitList h = reading_defines_store_entry e (entry_of text) h
store_line_reading_has_entry text e (line.Include n) h = cc
store_line_reading_has_entry text e line.UnknownDirective h = cc
store_line_reading_has_entry text e line.BadDirective h = cc
store_line_reading_has_entry text e (line.Locale l) h = cc
store_line_reading_has_entry text e (line.Var v vs) h = cc
store_line_reading_has_entry text e (line.VarNot v vs) h = cc
store_line_reading_has_entry text e line.Utf8 h = cc
store_line_reading_has_entry text e line.EndLocale h = cc
store_line_reading_has_entry text e line.EndVar h = cc
store_line_reading_has_entry text e line.EndUtf8 h = cc
store_line_reading_has_entry text e line.Blank h = cc
store_line_reading_has_entry text e (line.Set v x) h = cc
store_line_reading_has_entry text e (line.Message t) h = cc
store_line_reading_has_entry text e line.Prompt h = cc

-- the entry of a line of a deck is that of its text
pub entry_of_store_line_text : (x : DeckLine) (e : Key × Entry) → entry_in_store_line x ≡ Some e
    → entry_of x.text ≡ Ok e
unfolding entry_in_store_line store_line_reading_of
entry_of_store_line_text x e h = by x.mark h
  where
    by : (m : Bool) → cond m None (defined_by (store_line_reading_by_kind x.text (kind_of_line x.text))) ≡ Some e
        → entry_of x.text ≡ Ok e
    by true g = cc
    by false g = store_line_reading_has_entry x.text e (kind_of_line x.text) g

-- the text of an entry is that of its line
pub text_of_store_line_entry : (x : DeckLine) (e : Key × Entry) → entry_in_store_line x ≡ Some e
    → e.1.text ≡ entry_text x.text
text_of_store_line_entry x e h = entry_text_is_after_name x.text e.0 e.1 (entry_of_store_line_text x e h)

-- the entry of a line is computed from its text and from what is stored about it
store_line_entry_is_computed : (x : DeckLine) (names : KeyNumberNames) (kept : Definition) (o : Option (Key × Entry))
    → entry_in_store_line x ≡ o
    → Some (seen_store_definition names kept) ≡ option_map keyed_store_definition o →
    Some (entry_with_definition x.text kept.what) ≡ option_map (λ (d : Key × Entry). d.1) o
store_line_entry_is_computed x names kept None from are = absurd (cc)
store_line_entry_is_computed x names kept (Some d) from are =
    let what : entry_definition_view kept.what ≡ d.1.what = ap (λ (p : Option Key × What). p.1)
    (same_Some (seen_store_definition names kept) (keyed_store_definition d) are) in
    let text : entry_text x.text ≡ d.1.text = sym (text_of_store_line_entry x d from) in
    ap Some (λ i. record { text = text i; what = what i })

module _ (lines : List DeckLine) (place : ℕ) (names : KeyNumberNames) (kept : Definition)
    (are : Some (seen_store_definition names kept) ≡ option_map keyed_store_definition
    (store_definition_at lines place)) where
  -- if something is stored about a line, the line exists
  pub is_there : place < length lines
  is_there = by (slice_get lines place) refl are
    where
      by : (o : Option DeckLine) → slice_get lines place ≡ o
          → Some (seen_store_definition names kept) ≡ option_map keyed_store_definition
          (option_and_then entry_in_store_line o)
          → place < length lines
      by None at e = absurd (cc)
      by (Some x) at e = slice_get_within lines place x at

  -- the stored definition is the entry of the line at its place
  pub said_there : (x : DeckLine) → slice_get lines place ≡ Some x
      → Some (entry_with_definition x.text kept.what) ≡ option_map
      (λ (d : Key × Entry). d.1) (store_definition_at lines place)
  said_there x at =
      let here : store_definition_at lines place ≡ entry_in_store_line x = ap (option_and_then entry_in_store_line) at
      in
      store_line_entry_is_computed x names kept (entry_in_store_line x) refl
      (are ∙ ap (option_map keyed_store_definition) here)
      ∙ ap (option_map (λ (d : Key × Entry). d.1)) (sym here)

-- a line about which nothing is stored has no entry
pub no_entry_without_store_definition : (d : Option (Key × Entry)) → None ≡ option_map keyed_store_definition d
    → None ≡ option_map (λ (p : Key × Entry). p.1) d
no_entry_without_store_definition None e = refl
no_entry_without_store_definition (Some d) e = absurd (cc)
