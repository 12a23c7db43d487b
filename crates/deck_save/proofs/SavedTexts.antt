-- Texts that define keys as lines of a file.
use Rattle.std.proofs.Common.{◌≡◌, ◌∷◌, [], ℕ, List, Bool, true, false, cond, Some, None, Ok, refl}
use Rattle.std.proofs.Common.{sym, ap, subst, ◌∙◌, true≢false}
use Rattle.def_lines.specs.Blanks.{before_blanks, trimmed_of_blanks}
use Rattle.def_lines.specs.Kinds as line
use Rattle.def_lines.specs.Kinds.{LineKindWithArguments as LineKind, kind_of_line}
use Rattle.def_lines.proofs.TrimmedTexts.{trimmed-begins_without_blank}
use Rattle.def_entry.specs.declared.key.Key.{Key}
use Rattle.def_entry.specs.Entries.{Entry}
use Rattle.def_entry.specs.EntryGrammar.{EntryLaw, IsEntry}
use Rattle.def_entry.specs.EntryReading.{entry_of, has_entry}
use Rattle.def_entry.proofs.Fronts.{entry_text-trimmed-before_blanks}
use Rattle.deck_lines.specs.Marks.{plain_store_line}
use Rattle.deck_lines.specs.Readings.{Defines, defined_by, entry_in_store_line, store_line_reading_by_kind}
use Rattle.deck_lines.specs.Readings.{store_line_reading_of, store_line_reading_of_entry}
use Rattle.deck_lines.specs.declared.line.DeckLine.{DeckLine}
use Rattle.deck_lines.proofs.Entries.{entry_of_store_line_text}
use Rattle.deck_save.proofs.Accepted.{saved_entry_stays}
use Rattle.deck_save.proofs.BareHeadings.{IsBare, saved_entry_is_bare}
use Rattle.deck_save.proofs.ReadLines.{ArePlain, IsPlain}

-- a text that is read back and has this definition
pub record Gives (text : List ℕ) (d : Key × Entry) : Type 0 where
  pub plain : IsPlain text
  pub has : has_entry (kind_of_line text) ≡ true
  pub reading : store_line_reading_of text ≡ Defines d

-- texts with these definitions, one each
abbrev pub AreGiving : List (List ℕ) → List (Key × Entry) → Type 0
AreGiving [] [] = Unit {0}
AreGiving (text ∷ texts) (d ∷ ds) = Gives text d × AreGiving texts ds
AreGiving _ _ = ⊥

pub saved_texts_are_plain : (texts : List (List ℕ)) (ds : List (Key × Entry)) → AreGiving texts ds → ArePlain texts
saved_texts_are_plain [] ds give = tt
saved_texts_are_plain (text ∷ texts) [] give = absurd give
saved_texts_are_plain (text ∷ texts) (d ∷ ds) give = (give.0.plain, saved_texts_are_plain texts ds give.1)

-- the kind of a line that defines a key is a definition or a unit list
saved_kind_has_entry : (text : List ℕ) (d : Key × Entry) (kind : LineKind)
    → defined_by (store_line_reading_by_kind text kind) ≡ Some d
    → has_entry kind ≡ true
saved_kind_has_entry text d line.Definition e = refl
saved_kind_has_entry text d line.UnitList e = refl
saved_kind_has_entry text d (line.Include n) e = cc
saved_kind_has_entry text d line.UnknownDirective e = cc
saved_kind_has_entry text d line.BadDirective e = cc
saved_kind_has_entry text d (line.Locale l) e = cc
saved_kind_has_entry text d (line.Var v vs) e = cc
saved_kind_has_entry text d (line.VarNot v vs) e = cc
saved_kind_has_entry text d line.Utf8 e = cc
saved_kind_has_entry text d line.EndLocale e = cc
saved_kind_has_entry text d line.EndVar e = cc
saved_kind_has_entry text d line.EndUtf8 e = cc
saved_kind_has_entry text d line.Blank e = cc
saved_kind_has_entry text d (line.Set v x) e = cc
saved_kind_has_entry text d (line.Message t) e = cc
saved_kind_has_entry text d line.Prompt e = cc

saved_line_has_entry : (x : DeckLine) (d : Key × Entry) → entry_in_store_line x ≡ Some d
    → has_entry (kind_of_line x.text) ≡ true
unfolding entry_in_store_line store_line_reading_of
saved_line_has_entry x d e = go x.mark e
  where
    go : (m : Bool) → cond m None (defined_by (store_line_reading_by_kind x.text (kind_of_line x.text))) ≡ Some d
        → has_entry (kind_of_line x.text) ≡ true
    go true f = cc
    go false f = saved_kind_has_entry x.text d (kind_of_line x.text) f

-- the meaning of a line of these kinds is its entry
saved_kind_reads_entry : (text : List ℕ) (kind : LineKind) → has_entry kind ≡ true
    → store_line_reading_by_kind text kind ≡ store_line_reading_of_entry (entry_of text)
saved_kind_reads_entry text line.Definition has = refl
saved_kind_reads_entry text line.UnitList has = refl
saved_kind_reads_entry text _ has = absurd (true≢false (sym has))

saved_line_reads_entry : (text : List ℕ) (d : Key × Entry) → has_entry (kind_of_line text) ≡ true → entry_of text ≡ Ok d
    → store_line_reading_of text ≡ Defines d
unfolding store_line_reading_of
saved_line_reads_entry text d has e = saved_kind_reads_entry text (kind_of_line text) has
    ∙ ap store_line_reading_of_entry e

pub saved_plain_line_entry : (n : ℕ) (text : List ℕ) (d : Key × Entry) → store_line_reading_of text ≡ Defines d
    → entry_in_store_line (plain_store_line n text) ≡ Some d
unfolding entry_in_store_line
saved_plain_line_entry n text d e = ap defined_by e

-- a line that defines a key defines it also without the blanks at its ends
pub saved_line_gives_definition : EntryLaw → (x : DeckLine) (d : Key × Entry) → entry_in_store_line x ≡ Some d
    → Gives (trimmed_of_blanks x.text) d
saved_line_gives_definition law x d e = subst (λ t. Gives t d) (sym same) (record {
  plain = record {
    some = bare.some;
    begun = again.begun;
    bare = twice;
    clear =
        saved_entry_stays (before_blanks x.text) d.0 d.1 bare.entry;
  };
  has = bare.has;
  reading = saved_line_reads_entry (before_blanks x.text) d bare.has
      (((law (before_blanks x.text) bare.has).0 d.0 d.1).1 bare.entry);
})
  where
    is : IsEntry x.text d.0 d.1
    is = ((law x.text (saved_line_has_entry x d e)).0 d.0 d.1).0 (entry_of_store_line_text x d e)

    bare : IsBare x.text d.0 d.1
    bare = saved_entry_is_bare x.text d.0 d.1 is

    again : IsBare (before_blanks x.text) d.0 d.1
    again = saved_entry_is_bare (before_blanks x.text) d.0 d.1 bare.entry

    same : trimmed_of_blanks x.text ≡ before_blanks x.text
    same = trimmed-begins_without_blank x.text bare.begun

    twice : before_blanks (before_blanks x.text) ≡ before_blanks x.text
    twice = sym (trimmed-begins_without_blank (before_blanks x.text) again.begun)
        ∙ entry_text-trimmed-before_blanks x.text ∙ same
