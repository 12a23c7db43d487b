-- Entries are read from the texts of lines.
use Rattle.std.proofs.Common.{◌≡◌, ◌⊎◌, inl, inr, ◌∙◌, ℕ, List, true, refl, ap, Option, Some, None, Ok, slice_get}
use Rattle.std.proofs.lemmas.Slice.Eq.{bytes_eq-Decides}
use Rattle.std.specs.Option.{option_and_then}
use Rattle.def_lines.specs.Kinds.{LineKindWithArguments as LineKind, kind_of_line}
use Rattle.def_lines.specs.Kinds as line
use Rattle.def_entry.specs.declared.key.Key.{Key}
use Rattle.def_entry.specs.Entries.{Entry}
use Rattle.def_entry.specs.EntryReading.{SameEntryTextLaw, entry_of}
use Rattle.deck_lines.specs.Marks.{plain_store_line}
use Rattle.deck_lines.specs.Readings.{defined_by, entry_in_store_line, store_line_reading_by_kind}
use Rattle.deck_lines.specs.Readings.{store_line_reading_of, store_line_reading_of_entry}
use Rattle.deck_lines.specs.Stores.{store_definition_at}
use Rattle.deck_lines.specs.declared.line.DeckLine.{DeckLine}
use Rattle.deck_lines.proofs.Entries.{entry_of_store_line_text}
use Rattle.deck.specs.Changes.{is_same_deck_entry}

-- the definition at a place is read from some text
pub definition_at_place_is_read : (lines : List DeckLine) (place : ℕ) (e : Key × Entry)
    → store_definition_at lines place ≡ Some e
    → (text : List ℕ) × (entry_of text ≡ Ok e)
definition_at_place_is_read lines place e h = by (slice_get lines place) h
  where
    by : (o : Option DeckLine) → option_and_then entry_in_store_line o ≡ Some e
        → (text : List ℕ) × (entry_of text ≡ Ok e)
    by None g = cc
    by (Some x) g = (x.text, entry_of_store_line_text x e g)

-- two entries of a key that are read from lines are equal if they have the same text
pub deck_entries_of_same_text : SameEntryTextLaw → (k : Key) (e f : Entry) (s t : List ℕ) → entry_of s ≡ Ok (k, e)
    → entry_of t ≡ Ok (k, f)
    → e.text ≡ f.text → e ≡ f
deck_entries_of_same_text law k e f s t h g same = (law k s t e f h g).1 same

-- an entry has the same text as itself
pub deck_entry_is_same_as_itself : (a : Option Entry) → is_same_deck_entry a a ≡ true
deck_entry_is_same_as_itself None = refl
deck_entry_is_same_as_itself (Some f) = (bytes_eq-Decides f.text f.text).1 refl

-- if the test by texts finds two entries of a key equal, and both are read from lines, they are equal
pub same_deck_entries_are_equal : SameEntryTextLaw → (k : Key) (a b : Option Entry) →
    ((e : Entry) → a ≡ Some e → (text : List ℕ) × (entry_of text ≡ Ok (k, e))) →
    ((e : Entry) → b ≡ Some e → (text : List ℕ) × (entry_of text ≡ Ok (k, e))) → is_same_deck_entry a b ≡ true → a ≡ b
same_deck_entries_are_equal law k None None h g e = refl
same_deck_entries_are_equal law k None (Some f) h g e = cc
same_deck_entries_are_equal law k (Some f) None h g e = cc
same_deck_entries_are_equal law k (Some e) (Some f) h g s =
    let p = h e refl in
    let q = g f refl in
    ap Some (deck_entries_of_same_text law k e f p.0 q.0 p.1 q.1 ((bytes_eq-Decides e.text f.text).0 s))

-- a line of a definition or a unit list whose text gives an entry defines that entry
pub deck_line_defines_its_entry : (text : List ℕ) (e : Key × Entry) (kind : LineKind)
    → (kind ≡ line.Definition) ⊎ (kind ≡ line.UnitList)
    → kind_of_line text ≡ kind → entry_of text ≡ Ok e → entry_in_store_line (plain_store_line 0 text) ≡ Some e
unfolding entry_in_store_line store_line_reading_of
deck_line_defines_its_entry text e kind (inl d) k h = ap (λ x. defined_by (store_line_reading_by_kind text x)) (k ∙ d)
    ∙ ap (λ r. defined_by (store_line_reading_of_entry r)) h
deck_line_defines_its_entry text e kind (inr u) k h = ap (λ x. defined_by (store_line_reading_by_kind text x)) (k ∙ u)
    ∙ ap (λ r. defined_by (store_line_reading_of_entry r)) h
