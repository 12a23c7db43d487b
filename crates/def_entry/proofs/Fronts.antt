-- Texts with a front that ends at the first byte of a kind.
use Rattle.std.proofs.Common.{◌≡◌, ◌<◌, ◌≤◌, ◌+◌, ◌∷◌, [], ◌++◌, ℕ, suc, List, Bool, true, false, not, cond, length}
use Rattle.std.proofs.Common.{take, drop, reverse, refl, sym, ap, ◌∙◌, one-add}
use Rattle.std.specs.List.{before_first, list_all, position_or_len}
use Rattle.std.specs.Prelude.{nat_lt}
use Rattle.std.proofs.lemmas.Bool.{and_parts, ltb-false, not-true}
use Rattle.std.proofs.lemmas.Bool.Decides.{Decides-ltb}
use Rattle.std.proofs.lemmas.List.{append-nil, reverse-append, reverse-reverse, take-append-drop}
use Rattle.std.proofs.lemmas.List.Sums.{passes_at_first}
use Rattle.std.proofs.Math.ListN.{drop_of_length-le}
use Rattle.std.proofs.Math.Seq.{drop-append_seam, drop-cons, take-append_seam, take-length}
use Rattle.units_io.specs.Blanks.{is_blank_text_byte}
use Rattle.def_lines.specs.Blanks.{after_blanks, before_blanks, trimmed_of_blanks}
use Rattle.def_lines.specs.Parts.{begins_without_blank}
use Rattle.def_lines.specs.Words.{after_word_trimmed_of_blanks, first_word_before_blank}
use Rattle.def_lines.proofs.TrimmedTexts.{after_blanks-blank, after_blanks-word, before_blanks-word}
use Rattle.def_lines.proofs.TrimmedTexts.{begins_without_blank-after_blanks}
use Rattle.def_lines.proofs.TrimmedTexts.{trimmed-begins_without_blank, trimmed-blank}
use Rattle.def_entry.specs.Headings.{stands_apart}
use Rattle.def_entry.proofs.CutTexts.{entry_cut-place-at}
use Rattle.general_lemmas.proofs.Parts.{front-clear}

-- the text is empty or starts with such a byte
abbrev pub stops : (ℕ → Bool) → List ℕ → Bool
stops p [] = true
stops p (b ∷ text) = p b

-- if no byte passes the test, the index is the length
entry_front-place-all : (p : ℕ → Bool) (text : List ℕ) → list_all (λ c. not (p c)) text ≡ true
    → position_or_len p text ≡ length text
entry_front-place-all p [] clear = refl
entry_front-place-all p (b ∷ text) clear = go (and_parts (not (p b)) (list_all (λ c. not (p c)) text) clear)
    (entry_front-place-all p text)
  where
    go : (not (p b) ≡ true) × (list_all (λ c. not (p c)) text ≡ true)
        → (list_all (λ c. not (p c)) text ≡ true → position_or_len p text ≡ length text)
        → position_or_len p (b ∷ text) ≡ length (b ∷ text)
    go parts rest =
        ap (λ t. cond t (1 + position_or_len p text) 0) parts.0 ∙ one-add (position_or_len p text)
        ∙ ap suc (rest parts.1)

-- a front without such a byte is the text before the first one
pub entry_front-before-at : (p : ℕ → Bool) (front behind : List ℕ) → list_all (λ c. not (p c)) front ≡ true
    → stops p behind ≡ true
    → before_first p (front ++ behind) ≡ front
entry_front-before-at p front [] clear stop =
    ap (before_first p) (append-nil front) ∙ ap (λ n. take n front) (entry_front-place-all p front clear)
    ∙ take-length front
entry_front-before-at p front (b ∷ behind) clear stop =
    ap (λ n. take n (front ++ (b ∷ behind))) (entry_cut-place-at p front b behind clear stop)
    ∙ take-append_seam front (b ∷ behind)

-- a text in two parts: the text before the first such byte, and the rest
pub record Parted (p : ℕ → Bool) (text : List ℕ) : Type 0 where
  pub front : List ℕ
  pub behind : List ℕ
  pub whole : text ≡ front ++ behind
  pub clear : list_all (λ c. not (p c)) front ≡ true
  pub stop : stops p behind ≡ true

-- each text is split at the first byte that passes the test
pub entry_text-parted : (p : ℕ → Bool) (text : List ℕ) → Parted p text
entry_text-parted p text =
    let n : ℕ = position_or_len p text in
    record {
      front = take n text;
      behind = drop n text;
      whole = sym (take-append-drop n text);
      clear = front-clear (λ c. not (p c)) text;
      stop = go (nat_lt (position_or_len p text) (length text)) refl;
    }
  where
    go : (t : Bool) → nat_lt (position_or_len p text) (length text) ≡ t
        → stops p (drop (position_or_len p text) text) ≡ true
    go true e =
        let less : position_or_len p text < length text = (Decides-ltb (position_or_len p text) (length text)).0 e in
        ap (stops p) (drop-cons text (position_or_len p text) 0 less) ∙ passes_at_first p text 0 less
    go false e =
        let more : length text ≤ position_or_len p text = ltb-false (position_or_len p text) (length text) e in
        ap (stops p) (drop_of_length-le text more)

-- blanks

-- skipping blanks does not change a text that does not start with a blank
pub entry_text-after_blanks-begun : (text : List ℕ) → begins_without_blank text ≡ true → after_blanks text ≡ text
entry_text-after_blanks-begun [] begun = refl
entry_text-after_blanks-begun (b ∷ text) begun = after_blanks-word b text (not-true (is_blank_text_byte b) begun)

-- removing trailing blanks twice is the same as removing them once
entry_text-before_blanks-again : (text : List ℕ) → before_blanks (before_blanks text) ≡ before_blanks text
entry_text-before_blanks-again text =
    ap (λ t. reverse (after_blanks t)) (reverse-reverse (after_blanks (reverse text)))
    ∙ ap reverse (entry_text-after_blanks-begun (after_blanks (reverse text))
    (begins_without_blank-after_blanks (reverse text)))

-- removing trailing blanks does not change the trimmed text
pub entry_text-trimmed-before_blanks : (text : List ℕ) → trimmed_of_blanks (before_blanks text) ≡ trimmed_of_blanks text
entry_text-trimmed-before_blanks text = ap after_blanks (entry_text-before_blanks-again text)

-- leading blanks do not change the trimmed text
pub entry_text-trimmed-blanks : (blanks text : List ℕ) → list_all is_blank_text_byte blanks ≡ true
    → trimmed_of_blanks (blanks ++ text) ≡ trimmed_of_blanks text
entry_text-trimmed-blanks [] text clear = refl
entry_text-trimmed-blanks (b ∷ blanks) text clear =
    go (and_parts (is_blank_text_byte b) (list_all is_blank_text_byte blanks) clear)
    (entry_text-trimmed-blanks blanks text)
  where
    go : (is_blank_text_byte b ≡ true) × (list_all is_blank_text_byte blanks ≡ true)
        → (list_all is_blank_text_byte blanks ≡ true → trimmed_of_blanks (blanks ++ text) ≡ trimmed_of_blanks text)
        → trimmed_of_blanks ((b ∷ blanks) ++ text) ≡ trimmed_of_blanks text
    go parts rest = trimmed-blank b (blanks ++ text) parts.0 ∙ rest parts.1

-- removing trailing blanks does not change a word at the front
pub entry_text-before_blanks-front : (word text : List ℕ) → list_all (λ b. not (is_blank_text_byte b)) word ≡ true
    → before_blanks (word ++ text) ≡ word ++ before_blanks text
entry_text-before_blanks-front [] text clear = refl
entry_text-before_blanks-front (b ∷ word) text clear =
    go (and_parts (not (is_blank_text_byte b)) (list_all (λ b. not (is_blank_text_byte b)) word) clear)
    (entry_text-before_blanks-front word text)
  where
    go : (not (is_blank_text_byte b) ≡ true) × (list_all (λ b. not (is_blank_text_byte b)) word ≡ true)
        → (list_all (λ b. not (is_blank_text_byte b)) word ≡ true → before_blanks (word ++ text) ≡ word ++ before_blanks
        text)
        → before_blanks ((b ∷ word) ++ text) ≡ (b ∷ word) ++ before_blanks text
    go parts rest = before_blanks-word b (word ++ text) (not-true (is_blank_text_byte b) parts.0)
        ∙ ap (λ t. b ∷ t) (rest parts.1)

-- removing trailing blanks leaves a leading blank or nothing
entry_text_blank_stays : (b : ℕ) (text : List ℕ) → is_blank_text_byte b ≡ true
    → stands_apart (reverse (after_blanks (text ++ b ∷ []))) ≡ true
entry_text_blank_stays b [] blank = ap (λ t. stands_apart (reverse t)) (after_blanks-blank b [] blank)
entry_text_blank_stays b (c ∷ text) blank = go (is_blank_text_byte c) refl (entry_text_blank_stays b text blank)
  where
    go : (t : Bool) → is_blank_text_byte c ≡ t → stands_apart (reverse (after_blanks (text ++ b ∷ []))) ≡ true
        → stands_apart (reverse (after_blanks ((c ∷ text) ++ b ∷ []))) ≡ true
    go true e rest = ap (λ t. stands_apart (reverse t)) (after_blanks-blank c (text ++ b ∷ []) e) ∙ rest
    go false e rest =
        ap (λ t. stands_apart (reverse t)) (after_blanks-word c (text ++ b ∷ []) e)
        ∙ ap stands_apart (reverse-append (c ∷ text) (b ∷ []))
        ∙ blank

-- removing trailing blanks preserves that a text is empty or starts with a blank
pub entry_text-apart-before_blanks : (text : List ℕ) → stands_apart text ≡ true
    → stands_apart (before_blanks text) ≡ true
entry_text-apart-before_blanks [] apart = refl
entry_text-apart-before_blanks (b ∷ text) apart = ap (λ t. stands_apart (reverse (after_blanks t)))
    (reverse-append (b ∷ []) text)
    ∙ entry_text_blank_stays b (reverse text) apart

-- a text that is empty or starts with a blank ends a word before it
pub entry_text-stops-apart : (text : List ℕ) → stands_apart text ≡ true → stops is_blank_text_byte text ≡ true
entry_text-stops-apart [] apart = refl
entry_text-stops-apart (b ∷ text) apart = apart

-- the first word of a trimmed text, and the text after it
pub record FirstWord (text word behind : List ℕ) : Type 0 where
  pub first : first_word_before_blank (trimmed_of_blanks text) ≡ word
  pub rest : after_word_trimmed_of_blanks (trimmed_of_blanks text) ≡ trimmed_of_blanks behind

-- the first word of a text that starts with blanks, if the word is followed by a blank or by nothing
pub entry_text-first-word : (blanks word behind : List ℕ) → list_all is_blank_text_byte blanks ≡ true
    → begins_without_blank (word ++ behind) ≡ true
    → list_all (λ b. not (is_blank_text_byte b)) word ≡ true
    → stands_apart behind ≡ true → FirstWord (blanks ++ (word ++ behind)) word behind
entry_text-first-word blanks word behind clear begun is_word apart =
    let bare : trimmed_of_blanks (blanks ++ (word ++ behind)) ≡ word ++ before_blanks behind =
    entry_text-trimmed-blanks blanks (word ++ behind) clear ∙ trimmed-begins_without_blank (word ++ behind) begun
    ∙ entry_text-before_blanks-front word behind is_word in
    let front : first_word_before_blank (word ++ before_blanks behind) ≡ word =
    entry_front-before-at is_blank_text_byte word (before_blanks behind) is_word
    (entry_text-stops-apart (before_blanks behind) (entry_text-apart-before_blanks behind apart)) in
    record {
      first = ap first_word_before_blank bare ∙ front;
      rest =
          ap after_word_trimmed_of_blanks bare
          ∙ ap (λ w. trimmed_of_blanks (drop (length w) (word ++ before_blanks behind))) front
          ∙ ap trimmed_of_blanks (drop-append_seam word (before_blanks behind))
          ∙ entry_text-trimmed-before_blanks behind;
    }
