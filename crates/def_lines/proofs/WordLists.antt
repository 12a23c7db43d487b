-- The words of a text, taken one by one.
use Rattle.std.proofs.Common.{◌≡◌, ◌<◌, ◌≤◌, ◌+◌, ◌∷◌, [], ◌||◌, ℕ, suc, List, Bool, true, false, cond, not, length}
use Rattle.std.proofs.Common.{take, drop, refl, sym, ap, ◌∙◌, arith, one-add, ◌==◌, length-drop}
use Rattle.std.specs.List.{list_any, position_or_len, slice_split, onto_first}
use Rattle.units_io.specs.Blanks.{is_blank_text_byte}
use Rattle.std.specs.Str.{bytes_eq}
use Rattle.std.proofs.lemmas.List.{nil_from_length}
use Rattle.std.proofs.lemmas.Bool.{eqb-true}
use Rattle.def_lines.specs.Blanks.{after_blanks}
use Rattle.def_lines.specs.Parts.{begins_without_blank}
use Rattle.def_lines.specs.Words.{after_word_and_blanks, first_word_before_blank, is_listed, nonempty_between_blanks}
use Rattle.def_lines.specs.Words.{words_between_blanks}
use Rattle.def_lines.proofs.TrimmedTexts.{after_blanks-blank, after_blanks-word, begins_without_blank-after_blanks}
use Rattle.def_lines.proofs.TrimmedTexts.{length-after_blanks}

-- the index of the first blank
abbrev pub word_end : List ℕ → ℕ
word_end text = position_or_len is_blank_text_byte text

-- a leading blank does not change the words
words_between_blanks-blank : (b : ℕ) (text : List ℕ) → is_blank_text_byte b ≡ true
    → words_between_blanks (b ∷ text) ≡ words_between_blanks text
unfolding words_between_blanks
words_between_blanks-blank b text blank =
    ap (λ t. nonempty_between_blanks
    (cond t ([] ∷ slice_split is_blank_text_byte text) (onto_first b (slice_split is_blank_text_byte text)))) blank

-- leading blanks do not change the words
pub words_between_blanks-after_blanks : (text : List ℕ)
    → words_between_blanks (after_blanks text) ≡ words_between_blanks text
words_between_blanks-after_blanks [] = refl
words_between_blanks-after_blanks (b ∷ text) = go (is_blank_text_byte b) refl (words_between_blanks-after_blanks text)
  where
    go : (t : Bool) → is_blank_text_byte b ≡ t → words_between_blanks (after_blanks text) ≡ words_between_blanks text
        → words_between_blanks (after_blanks (b ∷ text)) ≡ words_between_blanks (b ∷ text)
    go true e rest = ap words_between_blanks (after_blanks-blank b text e) ∙ rest
        ∙ sym (words_between_blanks-blank b text e)
    go false e rest = ap words_between_blanks (after_blanks-word b text e)

-- the text before the first blank, and the words after it
pub record Parted (text : List ℕ) : Type 0 where
  pub behind : List (List ℕ)
  pub pieces : slice_split is_blank_text_byte text ≡ take (word_end text) text ∷ behind
  pub words : nonempty_between_blanks behind ≡ words_between_blanks (after_blanks (drop (word_end text) text))

-- each text is a first part and the words after it
pub first_word_parted_at_blank : (text : List ℕ) → Parted text
unfolding words_between_blanks
first_word_parted_at_blank [] = record { behind = []; pieces = refl; words = refl }
first_word_parted_at_blank (b ∷ text) = go (is_blank_text_byte b) refl (first_word_parted_at_blank text)
  where
    go : (t : Bool) → is_blank_text_byte b ≡ t → Parted text → Parted (b ∷ text)
    go true e rest = record {
      behind = slice_split is_blank_text_byte text;
      pieces =
          ap (λ t. cond t ([] ∷ slice_split is_blank_text_byte text)
          (onto_first b (slice_split is_blank_text_byte text))) e
          ∙ ap (λ t. take (cond (not t) (1 + word_end text) 0) (b ∷ text) ∷ slice_split is_blank_text_byte text)
          (sym e);
      words =
          sym (words_between_blanks-after_blanks text)
          ∙ ap words_between_blanks (sym (after_blanks-blank b text e))
          ∙ ap (λ t. words_between_blanks (after_blanks (drop (cond (not t) (1 + word_end text) 0) (b ∷ text))))
          (sym e);
    }
    go false e rest = record {
      behind = rest.behind;
      pieces =
          ap (λ t. cond t ([] ∷ slice_split is_blank_text_byte text)
          (onto_first b (slice_split is_blank_text_byte text))) e
          ∙ ap (onto_first b) rest.pieces
          ∙ ap (λ n. take n (b ∷ text) ∷ rest.behind) (sym (one-add (word_end text)))
          ∙ ap (λ t. take (cond (not t) (1 + word_end text) 0) (b ∷ text) ∷ rest.behind) (sym e);
      words =
          rest.words
          ∙ ap (λ n. words_between_blanks (after_blanks (drop n (b ∷ text)))) (sym (one-add (word_end text)))
          ∙ ap (λ t. words_between_blanks (after_blanks (drop (cond (not t) (1 + word_end text) 0) (b ∷ text))))
          (sym e);
    }

-- if a text does not start with a blank, its first byte is not one
front_word_byte_is_no_blank : (b : ℕ) (text : List ℕ) → begins_without_blank (b ∷ text) ≡ true
    → is_blank_text_byte b ≡ false
front_word_byte_is_no_blank b text begun = go (is_blank_text_byte b) begun
  where
    go : (t : Bool) → not t ≡ true → t ≡ false
    go true e = cc
    go false e = refl

-- the length of the first word is the index of the first blank
length-first_word_before_blank : (text : List ℕ) → length (first_word_before_blank text) ≡ word_end text
length-first_word_before_blank [] = refl
length-first_word_before_blank (b ∷ text) = go (is_blank_text_byte b) refl (length-first_word_before_blank text)
  where
    go : (t : Bool) → is_blank_text_byte b ≡ t → length (first_word_before_blank text) ≡ word_end text
        → length (first_word_before_blank (b ∷ text)) ≡ word_end (b ∷ text)
    go true e rest =
        let at : word_end (b ∷ text) ≡ 0 = ap (λ t. cond (not t) (1 + word_end text) 0) e in
        ap (λ n. length (take n (b ∷ text))) at ∙ sym at
    go false e rest =
        let at : word_end (b ∷ text) ≡ suc (word_end text) = ap (λ t. cond (not t) (1 + word_end text) 0) e
        ∙ one-add (word_end text) in
        ap (λ n. length (take n (b ∷ text))) at ∙ ap suc rest ∙ sym at

-- if a text does not start with a blank, its words are the first one and those after it
pub words_between_blanks-first : (b : ℕ) (text : List ℕ) → begins_without_blank (b ∷ text) ≡ true
    → words_between_blanks (b ∷ text) ≡ first_word_before_blank (b ∷ text) ∷ words_between_blanks
    (after_word_and_blanks (b ∷ text))
unfolding words_between_blanks
words_between_blanks-first b text begun =
    let part : Parted (b ∷ text) = first_word_parted_at_blank (b ∷ text) in
    let front : take (word_end (b ∷ text)) (b ∷ text) ≡ b ∷ take (word_end text) text =
    ap (λ t. take (cond (not t) (1 + word_end text) 0) (b ∷ text)) (front_word_byte_is_no_blank b text begun)
    ∙ ap (λ n. take n (b ∷ text)) (one-add (word_end text)) in
    ap nonempty_between_blanks part.pieces
    ∙ ap (λ w. nonempty_between_blanks (w ∷ part.behind)) front
    ∙ (λ i. sym front i ∷ part.words i)
    ∙ ap (λ n. first_word_before_blank (b ∷ text) ∷ words_between_blanks (after_blanks (drop n (b ∷ text))))
    (sym (length-first_word_before_blank (b ∷ text)))

-- the text after the first word is no longer than the text
pub length-after_word_and_blanks : (text : List ℕ) → length (after_word_and_blanks text) ≤ length text
length-after_word_and_blanks text =
    omega (
      arith,
      length-after_blanks (drop (length (first_word_before_blank text)) text),
      length-drop (length (first_word_before_blank text)) text,
    )

-- if a text does not start with a blank, the text after its first word is shorter
pub shorter-after_word_and_blanks : (b : ℕ) (text : List ℕ) → begins_without_blank (b ∷ text) ≡ true
    → length (after_word_and_blanks (b ∷ text)) < length (b ∷ text)
shorter-after_word_and_blanks b text begun =
    let next : length (first_word_before_blank (b ∷ text)) ≡ suc (word_end text) =
    length-first_word_before_blank (b ∷ text) ∙ ap (λ t. cond (not t) (1 + word_end text) 0)
    (front_word_byte_is_no_blank b text begun)
    ∙ one-add (word_end text) in
    omega (
      arith,
      length-after_blanks (drop (length (first_word_before_blank (b ∷ text))) (b ∷ text)),
      length-drop (length (first_word_before_blank (b ∷ text))) (b ∷ text),
    )

-- the text after the first word does not start with a blank
pub begins_without_blank-after_word : (text : List ℕ) → begins_without_blank (after_word_and_blanks text) ≡ true
begins_without_blank-after_word text = begins_without_blank-after_blanks
    (drop (length (first_word_before_blank text)) text)

-- leading blanks do not change whether a value is listed
pub is_listed-after_blanks : (text value : List ℕ) → is_listed (after_blanks text) value ≡ is_listed text value
is_listed-after_blanks text value = ap (λ ws. list_any (λ word. bytes_eq word value) ws)
    (words_between_blanks-after_blanks text)

-- no value is listed in an empty text
pub is_listed-none : (text value : List ℕ) → (length text == 0) ≡ true → is_listed text value ≡ false
unfolding words_between_blanks
is_listed-none text value none = ap (λ t. is_listed t value) (nil_from_length text (eqb-true (length text) 0 none))

-- a value is listed if it is the first word or one of the words after it
pub is_listed-first : (text value : List ℕ) → begins_without_blank text ≡ true → (length text == 0) ≡ false
    → is_listed text value ≡ (bytes_eq (first_word_before_blank text) value || is_listed (after_word_and_blanks text)
    value)
is_listed-first [] value begun some = cc
is_listed-first (b ∷ text) value begun some =
    ap (λ ws. list_any (λ w. bytes_eq w value) ws) (words_between_blanks-first b text begun)

-- the text after the first word is shorter
pub text_after_word_and_blanks_shorter : (text : List ℕ) → begins_without_blank text ≡ true → (length text == 0) ≡ false
    → length (after_word_and_blanks text) < length text
text_after_word_and_blanks_shorter [] begun some = cc
text_after_word_and_blanks_shorter (b ∷ text) begun some = shorter-after_word_and_blanks b text begun
