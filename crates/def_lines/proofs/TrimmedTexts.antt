-- Blanks at the ends of texts that are concatenated.
use Rattle.std.proofs.Common.{◌≡◌, ◌≤◌, ◌++◌, ◌∷◌, [], ℕ, List, Bool, true, false, cond, not, reverse, length, drop}
use Rattle.std.proofs.Common.{◌+◌, one-add}
use Rattle.std.proofs.Common.{if◌then◌else◌, Result, Ok, Err, OnOk, is_ok, ◌==◌, refl, sym, ap, ◌∙◌, arith}
use Rattle.std.specs.List.{prefix_len}
use Rattle.std.proofs.lemmas.List.{reverse-append, nil_from_length}
use Rattle.std.proofs.lemmas.Bool.{eqb-true}
use Rattle.units_io.specs.Blanks.{is_blank_text_byte}
use Rattle.def_lines.specs.Blanks.{after_blanks, before_blanks, trimmed_of_blanks}
use Rattle.def_lines.specs.Parts.{begins_without_blank}

-- a leading blank is skipped
pub after_blanks-blank : (b : ℕ) (bytes : List ℕ) → is_blank_text_byte b ≡ true
    → after_blanks (b ∷ bytes) ≡ after_blanks bytes
after_blanks-blank b bytes blank = ap (λ t. cond t (after_blanks bytes) (b ∷ bytes)) blank

-- a leading byte that is not a blank is not skipped
pub after_blanks-word : (b : ℕ) (bytes : List ℕ) → is_blank_text_byte b ≡ false → after_blanks (b ∷ bytes) ≡ b ∷ bytes
after_blanks-word b bytes word = ap (λ t. cond t (after_blanks bytes) (b ∷ bytes)) word

-- the leading blanks are the longest prefix of blanks
pub leading_blanks_are_passed_over : (bytes : List ℕ) → drop (prefix_len is_blank_text_byte bytes) bytes ≡ after_blanks
    bytes
leading_blanks_are_passed_over [] = refl
leading_blanks_are_passed_over (b ∷ bytes) = go (is_blank_text_byte b) refl (leading_blanks_are_passed_over bytes)
  where
    go : (t : Bool) → is_blank_text_byte b ≡ t → drop (prefix_len is_blank_text_byte bytes) bytes ≡ after_blanks bytes
        → drop (prefix_len is_blank_text_byte (b ∷ bytes)) (b ∷ bytes) ≡ after_blanks (b ∷ bytes)
    go true e rest =
        ap (λ t. drop (cond t (1 + prefix_len is_blank_text_byte bytes) 0) (b ∷ bytes)) e
        ∙ ap (λ n. drop n (b ∷ bytes)) (one-add (prefix_len is_blank_text_byte bytes))
        ∙ rest ∙ sym (after_blanks-blank b bytes e)
    go false e rest =
        ap (λ t. drop (cond t (1 + prefix_len is_blank_text_byte bytes) 0) (b ∷ bytes)) e
        ∙ sym (after_blanks-word b bytes e)

-- skipping blanks does not make a text longer
pub length-after_blanks : (bytes : List ℕ) → length (after_blanks bytes) ≤ length bytes
length-after_blanks [] = omega arith
length-after_blanks (b ∷ bytes) = go (is_blank_text_byte b) refl (length-after_blanks bytes)
  where
    go : (t : Bool) → is_blank_text_byte b ≡ t → length (after_blanks bytes) ≤ length bytes
        → length (after_blanks (b ∷ bytes)) ≤ length (b ∷ bytes)
    go true e rest = omega (arith, ap length (after_blanks-blank b bytes e))
    go false e rest = omega (arith, ap length (after_blanks-word b bytes e))

-- a text without leading blanks does not start with a blank
pub begins_without_blank-after_blanks : (bytes : List ℕ) → begins_without_blank (after_blanks bytes) ≡ true
begins_without_blank-after_blanks [] = refl
begins_without_blank-after_blanks (b ∷ bytes) = go (is_blank_text_byte b) refl (begins_without_blank-after_blanks bytes)
  where
    go : (t : Bool) → is_blank_text_byte b ≡ t → begins_without_blank (after_blanks bytes) ≡ true
        → begins_without_blank (after_blanks (b ∷ bytes)) ≡ true
    go true e rest = ap begins_without_blank (after_blanks-blank b bytes e) ∙ rest
    go false e rest = ap begins_without_blank (after_blanks-word b bytes e) ∙ ap not e

-- a byte that is not a blank stays at the end
after_blanks-end_word : (b : ℕ) (bytes : List ℕ) → is_blank_text_byte b ≡ false
    → after_blanks (bytes ++ b ∷ []) ≡ after_blanks bytes ++ b ∷ []
after_blanks-end_word b [] word = after_blanks-word b [] word
after_blanks-end_word b (c ∷ bytes) word = go (is_blank_text_byte c) refl (after_blanks-end_word b bytes word)
  where
    go : (t : Bool) → is_blank_text_byte c ≡ t → after_blanks (bytes ++ b ∷ []) ≡ after_blanks bytes ++ b ∷ []
        → after_blanks (c ∷ (bytes ++ b ∷ [])) ≡ after_blanks (c ∷ bytes) ++ b ∷ []
    go true e rest = after_blanks-blank c (bytes ++ b ∷ []) e ∙ rest
        ∙ ap (λ t. t ++ b ∷ []) (sym (after_blanks-blank c bytes e))
    go false e rest = after_blanks-word c (bytes ++ b ∷ []) e
        ∙ ap (λ t. t ++ b ∷ []) (sym (after_blanks-word c bytes e))

-- a byte that is not a blank stays at the front
pub before_blanks-word : (b : ℕ) (bytes : List ℕ) → is_blank_text_byte b ≡ false
    → before_blanks (b ∷ bytes) ≡ b ∷ before_blanks bytes
before_blanks-word b bytes word =
    ap (λ t. reverse (after_blanks t)) (reverse-append (b ∷ []) bytes)
    ∙ ap reverse (after_blanks-end_word b (reverse bytes) word)
    ∙ reverse-append (after_blanks (reverse bytes)) (b ∷ [])

-- if a text does not start with a blank, trimming changes only its end
pub trimmed-begins_without_blank : (bytes : List ℕ) → begins_without_blank bytes ≡ true
    → trimmed_of_blanks bytes ≡ before_blanks bytes
trimmed-begins_without_blank [] begun = refl
trimmed-begins_without_blank (b ∷ bytes) begun = go (is_blank_text_byte b) refl
  where
    go : (t : Bool) → is_blank_text_byte b ≡ t → trimmed_of_blanks (b ∷ bytes) ≡ before_blanks (b ∷ bytes)
    go true e = let no : false ≡ true = sym (ap not e) ∙ begun in cc
    go false e =
        ap after_blanks (before_blanks-word b bytes e)
        ∙ after_blanks-word b (before_blanks bytes) e
        ∙ sym (before_blanks-word b bytes e)

-- a blank at the end does not change the text left after trimming
after_blanks-end_blank : (b : ℕ) (bytes : List ℕ) → is_blank_text_byte b ≡ true
    → after_blanks (reverse (after_blanks (bytes ++ b ∷ []))) ≡ after_blanks (reverse (after_blanks bytes))
after_blanks-end_blank b [] blank = ap (λ t. after_blanks (reverse t)) (after_blanks-blank b [] blank)
after_blanks-end_blank b (c ∷ bytes) blank = go (is_blank_text_byte c) refl (after_blanks-end_blank b bytes blank)
  where
    go : (t : Bool) → is_blank_text_byte c ≡ t
        → after_blanks (reverse (after_blanks (bytes ++ b ∷ []))) ≡ after_blanks (reverse (after_blanks bytes))
        → after_blanks (reverse (after_blanks (c ∷ (bytes ++ b ∷ []))))
        ≡ after_blanks (reverse (after_blanks (c ∷ bytes)))
    go true e rest =
        ap (λ t. after_blanks (reverse t)) (after_blanks-blank c (bytes ++ b ∷ []) e)
        ∙ rest
        ∙ ap (λ t. after_blanks (reverse t)) (sym (after_blanks-blank c bytes e))
    go false e rest =
        ap (λ t. after_blanks (reverse t)) (after_blanks-word c (bytes ++ b ∷ []) e)
        ∙ ap after_blanks (reverse-append (c ∷ bytes) (b ∷ []))
        ∙ after_blanks-blank b (reverse (c ∷ bytes)) blank
        ∙ ap (λ t. after_blanks (reverse t)) (sym (after_blanks-word c bytes e))

-- a leading blank does not change the trimmed text
pub trimmed-blank : (b : ℕ) (bytes : List ℕ) → is_blank_text_byte b ≡ true
    → trimmed_of_blanks (b ∷ bytes) ≡ trimmed_of_blanks bytes
trimmed-blank b bytes blank =
    ap (λ t. after_blanks (reverse (after_blanks t))) (reverse-append (b ∷ []) bytes)
    ∙ after_blanks-end_blank b (reverse bytes) blank

-- leading blanks of a text that continues do not change the trimmed text
pub trimmed-after_blanks : (bytes behind : List ℕ)
    → trimmed_of_blanks (after_blanks bytes ++ behind) ≡ trimmed_of_blanks (bytes ++ behind)
trimmed-after_blanks [] behind = refl
trimmed-after_blanks (b ∷ bytes) behind = go (is_blank_text_byte b) refl (trimmed-after_blanks bytes behind)
  where
    go : (t : Bool) → is_blank_text_byte b ≡ t → trimmed_of_blanks (after_blanks bytes ++ behind) ≡ trimmed_of_blanks
        (bytes ++ behind)
        → trimmed_of_blanks (after_blanks (b ∷ bytes) ++ behind) ≡ trimmed_of_blanks (b ∷ (bytes ++ behind))
    go true e rest = ap (λ t. trimmed_of_blanks (t ++ behind)) (after_blanks-blank b bytes e) ∙ rest
        ∙ sym (trimmed-blank b (bytes ++ behind) e)
    go false e rest = ap (λ t. trimmed_of_blanks (t ++ behind)) (after_blanks-word b bytes e)

-- bytes appended to an empty text lose their leading blanks
pub put-first-without-blanks : {E : Type 0} (r : Result (Unit {0}) E) (old new part bytes : List ℕ)
    → (length old == 0) ≡ true
    → part ≡ after_blanks bytes → new ≡ (if is_ok r then old ++ part else old)
    → OnOk r ((behind : List ℕ) → trimmed_of_blanks (new ++ behind) ≡ trimmed_of_blanks (old ++ (bytes ++ behind)))
put-first-without-blanks (Ok done) old new part bytes none from is = λ behind.
    ap (λ t. trimmed_of_blanks (t ++ behind))
    (is ∙ ap (λ t. old ++ t) from ∙ ap (λ t. t ++ after_blanks bytes)
    (nil_from_length old (eqb-true (length old) 0 none)))
    ∙ trimmed-after_blanks bytes behind
    ∙ ap (λ t. trimmed_of_blanks (t ++ (bytes ++ behind))) (sym (nil_from_length old (eqb-true (length old) 0 none)))
put-first-without-blanks (Err fault) old new part bytes none from is = tt

-- a text started with such bytes does not start with a blank
pub begins_without_blank-put-first : (t : Bool) (old new part bytes : List ℕ) → (length old == 0) ≡ true
    → part ≡ after_blanks bytes
    → new ≡ (if t then old ++ part else old) → begins_without_blank new ≡ true
begins_without_blank-put-first true old new part bytes none from is =
    ap begins_without_blank (is ∙ ap (λ t. old ++ t) from ∙ ap (λ t. t ++ after_blanks bytes)
    (nil_from_length old (eqb-true (length old) 0 none)))
    ∙ begins_without_blank-after_blanks bytes
begins_without_blank-put-first false old new part bytes none from is =
    ap begins_without_blank (is ∙ nil_from_length old (eqb-true (length old) 0 none))
