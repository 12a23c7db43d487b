-- Saved lines are read back unchanged.
use Rattle.std.proofs.Common.{◌≡◌, ◌==◌, ◌+◌, ◌&&◌, ◌++◌, ◌∷◌, [], ℕ, suc, List, Bool, true, false, not, cond, length}
use Rattle.std.proofs.Common.{map, reverse, take, refl, sym, ap, ◌∙◌, append_assoc, one-add, if◌then◌else◌}
use Rattle.std.specs.List.{list_all, position_or_len}
use Rattle.std.proofs.lemmas.Bool.{and_parts}
use Rattle.std.proofs.lemmas.List.{append-nil, reverse-append, reverse-reverse}
use Rattle.std.proofs.Math.Seq.{take-length}
use Rattle.def_lines.specs.declared.line.Line.{Line}
use Rattle.def_lines.specs.Blanks.{after_blanks, before_blanks, trimmed_of_blanks}
use Rattle.def_lines.specs.Lines.{line_before_byte, line_begins_with, line_ends_with, line_without_last_byte}
use Rattle.def_lines.specs.Lines.{physical_line_continuation, without_comment, line_without_first_byte, logical_lines}
use Rattle.def_lines.specs.Lines.{logical_lines_with_front, nonblank_lines, numbered_logical_lines, onto_physical_line}
use Rattle.def_lines.specs.Lines.{physical_lines, trimmed_logical_line}
use Rattle.def_lines.specs.Parts.{begins_without_blank}
use Rattle.def_lines.specs.Words.{is_empty}
use Rattle.def_lines.proofs.TrimmedTexts.{trimmed-begins_without_blank}
use Rattle.deck_save.specs.SavedLines.{is_saved_line_byte, saved_line, saved_lines}
use Rattle.deck_save.proofs.PlainBytes.{IsNone, saved_byte_is_none_of_three, saved_bytes_all_reversed}

-- a text that is read back unchanged as a line of a file
pub record IsPlain (text : List ℕ) : Type 0 where
  pub some : is_empty text ≡ false
  pub begun : begins_without_blank text ≡ true
  pub bare : before_blanks text ≡ text
  pub clear : list_all is_saved_line_byte text ≡ true

abbrev pub ArePlain : List (List ℕ) → Type 0
ArePlain [] = Unit {0}
ArePlain (text ∷ texts) = IsPlain text × ArePlain texts

-- the number of the physical line after a saved line
abbrev pub number_behind : ℕ → List ℕ → ℕ
number_behind n text = if line_ends_with 92 text then n + 1 + 1 else n + 1

-- the lines that are read back, the first of which has this number
abbrev pub read_lines : ℕ → List (List ℕ) → List Line
read_lines n [] = []
read_lines n (text ∷ texts) = record { number = n; text = text } ∷ read_lines (number_behind n text) texts

-- a text without a line feed is a physical line
saved_physical_line : (text rest : List ℕ) → list_all is_saved_line_byte text ≡ true
    → physical_lines (text ++ 10 ∷ rest) ≡ text ∷ physical_lines rest
saved_physical_line [] rest clear = refl
saved_physical_line (b ∷ text) rest clear =
    let parts : (is_saved_line_byte b ≡ true) × (list_all is_saved_line_byte text ≡ true) = and_parts _ _ clear in
    let none : IsNone b = saved_byte_is_none_of_three b parts.0 in
    ap (λ t. cond t ([] ∷ physical_lines (text ++ 10 ∷ rest))
    (onto_physical_line b (physical_lines (text ++ 10 ∷ rest))))
    none.feed
    ∙ ap (onto_physical_line b) (saved_physical_line text rest parts.1)

-- the line has no carriage return at its end, and no comment

saved_line_has_no_return : (text : List ℕ) → list_all is_saved_line_byte text ≡ true → line_begins_with 13 text ≡ false
saved_line_has_no_return [] clear = refl
saved_line_has_no_return (b ∷ text) clear = (saved_byte_is_none_of_three b (and_parts _ _ clear).0).return

saved_line_place_of_comment : (text : List ℕ) → list_all is_saved_line_byte text ≡ true
    → position_or_len (λ x. x == 35) text ≡ length text
saved_line_place_of_comment [] clear = refl
saved_line_place_of_comment (b ∷ text) clear =
    let parts : (is_saved_line_byte b ≡ true) × (list_all is_saved_line_byte text ≡ true) = and_parts _ _ clear in
    let none : IsNone b = saved_byte_is_none_of_three b parts.0 in
    ap (λ t. cond (not t) (1 + position_or_len (λ x. x == 35) text) 0) none.mark
    ∙ one-add (position_or_len (λ x. x == 35) text)
    ∙ ap suc (saved_line_place_of_comment text parts.1)

saved_plain_line_is_clean : (text : List ℕ) → list_all is_saved_line_byte text ≡ true → before_blanks text ≡ text
    → without_comment text ≡ text
saved_plain_line_is_clean text clear bare =
    ap (λ t. before_blanks (line_before_byte 35 (cond t (line_without_last_byte text) text)))
    (saved_line_has_no_return (reverse text) (saved_bytes_all_reversed is_saved_line_byte text clear))
    ∙ ap (λ n. before_blanks (take n text)) (saved_line_place_of_comment text clear)
    ∙ ap before_blanks (take-length text)
    ∙ bare

-- a text with one more `\`

saved_marked_text_reversed : (text : List ℕ) → reverse (text ++ 92 ∷ []) ≡ 92 ∷ reverse text
saved_marked_text_reversed text = reverse-append text (92 ∷ [])

saved_marked_text_is_bare : (text : List ℕ) → before_blanks (text ++ 92 ∷ []) ≡ text ++ 92 ∷ []
saved_marked_text_is_bare text =
    ap (λ t. reverse (after_blanks t)) (saved_marked_text_reversed text)
    ∙ reverse-append (92 ∷ []) (reverse text)
    ∙ ap (λ t. t ++ 92 ∷ []) (reverse-reverse text)

saved_marked_text_front : (text : List ℕ) → line_without_last_byte (text ++ 92 ∷ []) ≡ text
saved_marked_text_front text = ap (λ t. reverse (line_without_first_byte t)) (saved_marked_text_reversed text)
    ∙ reverse-reverse text

saved_marked_text_is_clear : (text : List ℕ) → list_all is_saved_line_byte text ≡ true
    → list_all is_saved_line_byte (text ++ 92 ∷ []) ≡ true
saved_marked_text_is_clear [] clear = refl
saved_marked_text_is_clear (b ∷ text) clear =
    let parts : (is_saved_line_byte b ≡ true) × (list_all is_saved_line_byte text ≡ true) = and_parts _ _ clear in
    (λ i. parts.0 i && saved_marked_text_is_clear text parts.1 i)

-- trimming removes a space after a text
saved_spaced_text_trims : (text : List ℕ) → trimmed_of_blanks (text ++ 32 ∷ []) ≡ trimmed_of_blanks text
saved_spaced_text_trims text = ap (λ t. after_blanks (reverse (after_blanks t))) (reverse-append text (32 ∷ []))

-- a saved line, followed by the lines that are read after it

saved_line_ended : (n : ℕ) (text rest : List ℕ) → IsPlain text → line_ends_with 92 text ≡ false →
    numbered_logical_lines n (physical_lines ((text ++ 10 ∷ []) ++ rest)) ≡ record { number = n; text = text } ∷
    numbered_logical_lines
    (n + 1)
    (physical_lines rest)
saved_line_ended n text rest plain ends =
    ap (λ t. numbered_logical_lines n (physical_lines t)) (append_assoc text (10 ∷ []) rest)
    ∙ ap (numbered_logical_lines n) (saved_physical_line text rest plain.clear)
    ∙ ap (λ t. physical_line_continuation n t (numbered_logical_lines (n + 1) (physical_lines rest)))
    (saved_plain_line_is_clean text plain.clear plain.bare)
    ∙ ap (λ t. cond t (logical_lines_with_front n (line_without_last_byte text ++ 32 ∷ [])
    (numbered_logical_lines (n + 1) (physical_lines rest)))
    (record { number = n; text = text } ∷ numbered_logical_lines (n + 1) (physical_lines rest))) ends

saved_line_continued : (n : ℕ) (text rest : List ℕ) → IsPlain text →
    numbered_logical_lines n (physical_lines ((text ++ 92 ∷ 10 ∷ 10 ∷ []) ++ rest)) ≡ record
    { number = n; text = (text ++ 32 ∷ []) ++ [] } ∷ numbered_logical_lines (n + 1 + 1) (physical_lines rest)
saved_line_continued n text rest plain =
    let next : List Line = numbered_logical_lines (n + 1) ([] ∷ physical_lines rest) in
    let marked : List ℕ = text ++ 92 ∷ [] in
    ap (λ t. numbered_logical_lines n (physical_lines t))
    (append_assoc text (92 ∷ 10 ∷ 10 ∷ []) rest ∙ sym (append_assoc text (92 ∷ []) (10 ∷ 10 ∷ rest)))
    ∙ ap (numbered_logical_lines n)
    (saved_physical_line marked (10 ∷ rest) (saved_marked_text_is_clear text plain.clear))
    ∙ ap (λ t. physical_line_continuation n t next)
    (saved_plain_line_is_clean marked (saved_marked_text_is_clear text plain.clear) (saved_marked_text_is_bare text))
    ∙ ap (λ t. cond (line_begins_with 92 t) (logical_lines_with_front n (line_without_last_byte marked ++ 32 ∷ []) next)
    (record { number = n; text = marked } ∷ next)) (saved_marked_text_reversed text)
    ∙ ap (λ t. logical_lines_with_front n (t ++ 32 ∷ []) next) (saved_marked_text_front text)

abbrev before : List ℕ → ℕ → List ℕ → ℕ → List Line
before rest n text m = record { number = n; text = text } ∷ map trimmed_logical_line
    (numbered_logical_lines m (physical_lines rest))

saved_line_is_read : (n : ℕ) (text rest : List ℕ) → IsPlain text →
    map trimmed_logical_line (numbered_logical_lines n (physical_lines (saved_line text ++ rest)))
    ≡ record { number = n; text = text } ∷ map trimmed_logical_line
    (numbered_logical_lines (number_behind n text) (physical_lines rest))
saved_line_is_read n text rest plain = go (line_ends_with 92 text) refl
  where
    same : trimmed_of_blanks text ≡ text
    same = trimmed-begins_without_blank text plain.begun ∙ plain.bare

    go : (t : Bool) → line_ends_with 92 text ≡ t →
        map trimmed_logical_line (numbered_logical_lines n
        (physical_lines ((text ++ cond (line_ends_with 92 text) (92 ∷ 10 ∷ 10 ∷ []) (10 ∷ [])) ++ rest)))
        ≡ record { number = n; text = text } ∷ map trimmed_logical_line
        (numbered_logical_lines (cond (line_ends_with 92 text) (n + 1 + 1) (n + 1)) (physical_lines rest))
    go true e =
        ap (λ t. map trimmed_logical_line
        (numbered_logical_lines n (physical_lines ((text ++ cond t (92 ∷ 10 ∷ 10 ∷ []) (10 ∷ [])) ++ rest)))) e
        ∙ ap (map trimmed_logical_line) (saved_line_continued n text rest plain)
        ∙ ap (λ t. before rest n t (n + 1 + 1)) (ap trimmed_of_blanks (append-nil (text ++ 32 ∷ []))
        ∙ saved_spaced_text_trims text ∙ same)
        ∙ ap (λ t. before rest n text (cond t (n + 1 + 1) (n + 1))) (sym e)
    go false e =
        ap (λ t. map trimmed_logical_line
        (numbered_logical_lines n (physical_lines ((text ++ cond t (92 ∷ 10 ∷ 10 ∷ []) (10 ∷ [])) ++ rest)))) e
        ∙ ap (map trimmed_logical_line) (saved_line_ended n text rest plain e)
        ∙ ap (λ t. before rest n t (n + 1)) same
        ∙ ap (λ t. before rest n text (cond t (n + 1 + 1) (n + 1))) (sym e)

saved_lines_are_read : (n : ℕ) (texts : List (List ℕ)) → ArePlain texts
    → map trimmed_logical_line (numbered_logical_lines n (physical_lines (saved_lines texts))) ≡ read_lines n texts
saved_lines_are_read n [] plain = refl
saved_lines_are_read n (text ∷ texts) plain =
    saved_line_is_read n text (saved_lines texts) plain.0
    ∙ ap (λ ls. record { number = n; text = text } ∷ ls) (saved_lines_are_read (number_behind n text) texts plain.1)

-- none of the lines is blank
saved_lines_are_not_blank : (n : ℕ) (texts : List (List ℕ)) → ArePlain texts
    → nonblank_lines (read_lines n texts) ≡ read_lines n texts
saved_lines_are_not_blank n [] plain = refl
saved_lines_are_not_blank n (text ∷ texts) plain =
    ap (λ t. cond (not t)
    (record { number = n; text = text } ∷ nonblank_lines (read_lines (number_behind n text) texts))
    (nonblank_lines (read_lines (number_behind n text) texts))) plain.0.some
    ∙ ap (λ ls. record { number = n; text = text } ∷ ls)
    (saved_lines_are_not_blank (number_behind n text) texts plain.1)

-- the logical lines of saved texts are these texts
pub saved_lines_are_read_back : (texts : List (List ℕ)) → ArePlain texts
    → nonblank_lines (logical_lines (saved_lines texts)) ≡ read_lines 1 texts
saved_lines_are_read_back texts plain = ap nonblank_lines (saved_lines_are_read 1 texts plain)
    ∙ saved_lines_are_not_blank 1 texts plain
