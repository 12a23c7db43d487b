-- Lines that `define` appends.
use Rattle.std.proofs.Common.{◌≡◌, ◌∷◌, ◌-◌, [], ℕ, List, Bool, true, false, cond, reverse, refl, sym, ap, ◌∙◌, Result}
use Rattle.std.proofs.Common.{Ok, Err}
use Rattle.std.proofs.lemmas.List.{append-nil, reverse-reverse}
use Rattle.units_io.specs.Blanks.{is_blank_text_byte}
use Rattle.def_lines.specs.Blanks.{after_blanks, before_blanks, trimmed_of_blanks}
use Rattle.def_lines.specs.Kinds.{kind_of_line}
use Rattle.def_lines.proofs.TrimmedTexts.{trimmed-after_blanks}
use Rattle.def_entry.specs.declared.fault.EntryFault.{EntryFault}
use Rattle.def_entry.specs.declared.fault.EntryFault.TheVariants.{BadForm}
use Rattle.def_entry.specs.declared.key.Key.{Key}
use Rattle.def_entry.specs.Entries.{Entry}
use Rattle.def_entry.specs.EntryReading.{entry_of, has_entry}
use Rattle.deck_lines.specs.Limits.{pass_store_limit}
use Rattle.deck_lines.specs.declared.line.DeckLine.{DeckLine}
use Rattle.deck.specs.Decks.{DeckContents}
use Rattle.deck.specs.Edits.{deck_after_defining, deck_with_line, edit_by_entry}
use Rattle.deck.specs.declared.fault.DeckFault.TheVariants.{BadLine, DeckFull}
use Rattle.deck.specs.declared.settings.Settings.{Settings}

redone_text_after_blanks_twice : (bytes : List ℕ) → after_blanks (after_blanks bytes) ≡ after_blanks bytes
redone_text_after_blanks_twice [] = refl
redone_text_after_blanks_twice (b ∷ bytes) = by (is_blank_text_byte b) refl (redone_text_after_blanks_twice bytes)
  where
    by : (t : Bool) → is_blank_text_byte b ≡ t → after_blanks (after_blanks bytes) ≡ after_blanks bytes
        → after_blanks (cond t (after_blanks bytes) (b ∷ bytes)) ≡ cond t (after_blanks bytes) (b ∷ bytes)
    by true e ih = ih
    by false e ih = ap (λ t. cond t (after_blanks bytes) (b ∷ bytes)) e

redone_text_before_blanks_twice : (bytes : List ℕ) → before_blanks (before_blanks bytes) ≡ before_blanks bytes
redone_text_before_blanks_twice bytes =
    ap (λ t. reverse (after_blanks t)) (reverse-reverse (after_blanks (reverse bytes)))
    ∙ ap reverse (redone_text_after_blanks_twice (reverse bytes))

-- trimming twice is trimming once
pub redone_text_trimmed_twice : (bytes : List ℕ) → trimmed_of_blanks (trimmed_of_blanks bytes) ≡ trimmed_of_blanks bytes
redone_text_trimmed_twice bytes =
    ap trimmed_of_blanks (sym (append-nil (trimmed_of_blanks bytes))) ∙ trimmed-after_blanks (before_blanks bytes) []
    ∙ ap trimmed_of_blanks (append-nil (before_blanks bytes))
    ∙ ap after_blanks (redone_text_before_blanks_twice bytes)

-- a line that is accepted is appended
pub redone_definition_is_appended : (text : List ℕ) (d e : DeckContents) → deck_after_defining text d ≡ Ok e
    → e ≡ deck_with_line text d
redone_definition_is_appended text d e h = by_kind (has_entry (kind_of_line text)) h
  where
    by_limit : (b : Bool) → cond b (Err DeckFull) (Ok (deck_with_line text d)) ≡ Ok e → e ≡ deck_with_line text d
    by_limit true g = cc
    by_limit false g = cc

    by_reading : (r : Result (Key × Entry) EntryFault) → edit_by_entry r (deck_with_line text d) ≡ Ok e
        → e ≡ deck_with_line text d
    by_reading (Err fault) g = cc
    by_reading (Ok entry) g = by_limit (pass_store_limit (deck_with_line text d).lines) g

    by_kind : (b : Bool) → cond b (edit_by_entry (entry_of text) (deck_with_line text d)) (Err (BadLine BadForm)) ≡ Ok e
        → e ≡ deck_with_line text d
    by_kind true g = by_reading (entry_of text) g
    by_kind false g = cc

abbrev pub contents : List DeckLine → Settings → List (List ℕ) → DeckContents
contents lines settings notices = record { lines = lines; settings = settings; notices = notices }

-- a line is accepted or not whatever the notices are
pub redone_definition_is_accepted : (text : List ℕ) (lines : List DeckLine) (settings : Settings)
    (notices others : List (List ℕ))
    (e : DeckContents)
    → deck_after_defining text (contents lines settings notices) ≡ Ok e
    → deck_after_defining text (contents lines settings others) ≡ Ok
    (deck_with_line text (contents lines settings others))
redone_definition_is_accepted text lines settings notices others e h = by_kind (has_entry (kind_of_line text)) h
  where
    old : DeckContents
    old = deck_with_line text (contents lines settings notices)

    new : DeckContents
    new = deck_with_line text (contents lines settings others)

    by_limit : (b : Bool) → cond b (Err DeckFull) (Ok old) ≡ Ok e → cond b (Err DeckFull) (Ok new) ≡ Ok new
    by_limit true g = cc
    by_limit false g = refl

    by_reading : (r : Result (Key × Entry) EntryFault) → edit_by_entry r old ≡ Ok e → edit_by_entry r new ≡ Ok new
    by_reading (Err fault) g = cc
    by_reading (Ok entry) g = by_limit (pass_store_limit old.lines) g

    by_kind : (b : Bool) → cond b (edit_by_entry (entry_of text) old) (Err (BadLine BadForm)) ≡ Ok e
        → cond b (edit_by_entry (entry_of text) new) (Err (BadLine BadForm)) ≡ Ok new
    by_kind true g = by_reading (entry_of text) g
    by_kind false g = cc
