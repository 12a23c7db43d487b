-- The size of the logical lines of a text.
use Rattle.std.proofs.Common.{◌≡◌, ◌==◌, ◌≤◌, ◌+◌, ◌*◌, ◌++◌, ◌∷◌, [], ℕ, List, Bool, true, false, length, cond, map}
use Rattle.std.proofs.Common.{reverse, if◌then◌else◌, refl, sym, ap, ◌∙◌, arith, length-append}
use Rattle.std.specs.List.{position_or_len, sum_by}
use Rattle.std.proofs.lemmas.List.{length-reverse, length-take}
use Rattle.std.proofs.lemmas.List.Sums.{sum_by-cons}
use Rattle.def_lines.proofs.TrimmedTexts.{length-after_blanks}
use Rattle.def_lines.specs.Blanks.{after_blanks, before_blanks, trimmed_of_blanks}
use Rattle.def_lines.specs.Lines.{line_before_byte, line_begins_with, line_ends_with, line_without_last_byte}
use Rattle.def_lines.specs.Lines.{physical_line_continuation, without_comment, line_without_first_byte}
use Rattle.def_lines.specs.Lines.{is_nonblank_line, logical_lines, nonblank_lines, numbered_logical_lines}
use Rattle.def_lines.specs.Lines.{onto_physical_line, physical_lines, logical_lines_with_front, trimmed_logical_line}
use Rattle.def_lines.specs.declared.line.Line.{Line}
use Rattle.session.specs.TextDecks.{line_feeds_of_deck_text}

-- the size of a line: its bytes, and a constant for the line itself
abbrev pub weight : List ℕ → ℕ
weight text = length text + 1352

abbrev pub room : Line → ℕ
room line = weight line.text

text_deck_line_room_of_byte : (t : Bool) (b k n : ℕ) (lines : List (List ℕ)) → sum_by weight lines ≤ k + 1352 * n + 1352
    → sum_by weight (if t then [] ∷ lines else onto_physical_line b lines) ≤ (k + 1) + 1352 * (cond t 1 0 + n) + 1352
text_deck_line_room_of_byte true b k n lines h =
    let all : sum_by weight ([] ∷ lines) ≡ weight [] + sum_by weight lines = sum_by-cons weight [] lines in
    omega arith
text_deck_line_room_of_byte false b k n [] h = omega arith
text_deck_line_room_of_byte false b k n (line ∷ lines) h =
    let old : sum_by weight (line ∷ lines) ≡ weight line + sum_by weight lines = sum_by-cons weight line lines in
    let new : sum_by weight ((b ∷ line) ∷ lines) ≡ weight (b ∷ line) + sum_by weight lines =
    sum_by-cons weight (b ∷ line) lines in
    omega arith

text_deck_physical_lines_room : (bytes : List ℕ) → sum_by weight (physical_lines bytes) ≤ length bytes + 1352 *
    line_feeds_of_deck_text bytes + 1352
text_deck_physical_lines_room [] = omega arith
text_deck_physical_lines_room (b ∷ bytes) =
    let more : line_feeds_of_deck_text (b ∷ bytes) ≡ cond (b == 10) 1 0 + line_feeds_of_deck_text bytes =
    sum_by-cons (λ (x : ℕ). cond (x == 10) 1 0) b bytes in
    let one = text_deck_line_room_of_byte (b == 10) b (length bytes) (line_feeds_of_deck_text bytes)
    (physical_lines bytes) (text_deck_physical_lines_room bytes) in
    omega (arith, one, more)

text_deck_before_blanks_shorter : (bytes : List ℕ) → length (before_blanks bytes) ≤ length bytes
text_deck_before_blanks_shorter bytes =
    omega
    (arith, length-reverse (after_blanks (reverse bytes)), length-after_blanks (reverse bytes), length-reverse bytes)

text_deck_trimmed_is_shorter : (bytes : List ℕ) → length (trimmed_of_blanks bytes) ≤ length bytes
text_deck_trimmed_is_shorter bytes =
    omega (arith, length-after_blanks (before_blanks bytes), text_deck_before_blanks_shorter bytes)

text_deck_before_byte_shorter : (b : ℕ) (bytes : List ℕ) → length (line_before_byte b bytes) ≤ length bytes
text_deck_before_byte_shorter b bytes = omega (arith, length-take (position_or_len (λ x. x == b) bytes) bytes)

text_deck_after_byte_shorter : (bytes : List ℕ) → length (line_without_first_byte bytes) ≤ length bytes
text_deck_after_byte_shorter [] = omega arith
text_deck_after_byte_shorter (b ∷ bytes) = omega arith

text_deck_line_front_shorter : (bytes : List ℕ) → length (line_without_last_byte bytes) ≤ length bytes
text_deck_line_front_shorter bytes =
    omega (
      arith,
      length-reverse (line_without_first_byte (reverse bytes)),
      text_deck_after_byte_shorter
          (reverse bytes),
      length-reverse bytes,
    )

text_deck_without_comment_shorter : (line : List ℕ) → length (without_comment line) ≤ length line
text_deck_without_comment_shorter line = by (line_ends_with 13 line)
  where
    by : (t : Bool) → length (before_blanks (line_before_byte 35 (if t then line_without_last_byte line else line))) ≤
        length line
    by true =
        omega (
          arith,
          text_deck_before_blanks_shorter (line_before_byte 35 (line_without_last_byte line)),
          text_deck_before_byte_shorter 35
              (line_without_last_byte line),
          text_deck_line_front_shorter line,
        )
    by false = omega (
      arith,
      text_deck_before_blanks_shorter (line_before_byte 35 line),
      text_deck_before_byte_shorter
          35 line,
    )

-- a text that ends with a byte is one longer than the text before that byte
text_deck_line_front_one_shorter : (b : ℕ) (text : List ℕ) → line_ends_with b text ≡ true
    → length (line_without_last_byte text) + 1 ≡ length text
text_deck_line_front_one_shorter b text e = by (reverse text) refl
  where
    by : (r : List ℕ) → reverse text ≡ r → length (line_without_last_byte text) + 1 ≡ length text
    by [] is = let no : false ≡ true = sym (ap (line_begins_with b) is) ∙ e in cc
    by (x ∷ xs) is =
        let one : length (line_without_last_byte text) ≡ length xs =
        ap (λ r. length (reverse (line_without_first_byte r))) is ∙ length-reverse xs in
        let all : length text ≡ length (x ∷ xs) = sym (length-reverse text) ∙ ap length is in
        omega arith

text_deck_joined_lines_room : (number : ℕ) (text : List ℕ) (lines : List Line)
    → sum_by room (logical_lines_with_front number text lines) ≤ weight text + sum_by room lines
text_deck_joined_lines_room number text [] = omega arith
text_deck_joined_lines_room number text (line ∷ lines) =
    let old : sum_by room (line ∷ lines) ≡ room line + sum_by room lines = sum_by-cons room line lines in
    let whole : Line = record { number = number; text = text ++ line.text } in
    let new : sum_by room (whole ∷ lines) ≡ room whole + sum_by room lines = sum_by-cons room whole lines in
    omega (arith, old, new, length-append text line.text)

text_deck_continued_lines_room : (number : ℕ) (text : List ℕ) (lines : List Line)
    → sum_by room (physical_line_continuation number text lines) ≤ weight text + sum_by room lines
text_deck_continued_lines_room number text lines = by (line_ends_with 92 text) refl
  where
    by : (t : Bool) → line_ends_with 92 text ≡ t
        → sum_by room (if t then logical_lines_with_front number (line_without_last_byte text ++ 32 ∷ []) lines
        else record { number = number; text = text } ∷ lines) ≤ weight text + sum_by room lines
    by true e =
        omega (
          arith,
          text_deck_line_front_one_shorter 92 text e,
          text_deck_joined_lines_room number (line_without_last_byte text ++ 32 ∷ []) lines,
          length-append (line_without_last_byte text) (32 ∷ []),
        )
    by false e =
        let whole : Line = record { number = number; text = text } in
        let new : sum_by room (whole ∷ lines) ≡ room whole + sum_by room lines = sum_by-cons room whole lines in
        omega arith

text_deck_numbered_lines_room : (number : ℕ) (lines : List (List ℕ)) → sum_by room (numbered_logical_lines number lines)
    ≤ sum_by weight lines
text_deck_numbered_lines_room number [] = omega arith
text_deck_numbered_lines_room number (line ∷ lines) =
    let rest = text_deck_numbered_lines_room (number + 1) lines in
    let all : sum_by weight (line ∷ lines) ≡ weight line + sum_by weight lines = sum_by-cons weight line lines in
    omega (
      arith,
      all,
      rest,
      text_deck_without_comment_shorter line,
      text_deck_continued_lines_room number (without_comment line) (numbered_logical_lines (number + 1) lines),
    )

text_deck_trimmed_lines_room : (lines : List Line) → sum_by room (map trimmed_logical_line lines) ≤ sum_by room lines
text_deck_trimmed_lines_room [] = omega arith
text_deck_trimmed_lines_room (line ∷ lines) =
    let rest = text_deck_trimmed_lines_room lines in
    let old : sum_by room (line ∷ lines) ≡ room line + sum_by room lines = sum_by-cons room line lines in
    let new : sum_by room (map trimmed_logical_line (line ∷ lines))
    ≡ room (trimmed_logical_line line) + sum_by room (map trimmed_logical_line lines) =
    sum_by-cons room (trimmed_logical_line line) (map trimmed_logical_line lines) in
    omega (arith, rest, old, new, text_deck_trimmed_is_shorter line.text)

text_deck_nonblank_lines_room : (lines : List Line) → sum_by room (nonblank_lines lines) ≤ sum_by room lines
text_deck_nonblank_lines_room [] = omega arith
text_deck_nonblank_lines_room (line ∷ lines) = by (is_nonblank_line line) (text_deck_nonblank_lines_room lines)
    (sum_by-cons room line lines)
  where
    by : (t : Bool) → sum_by room (nonblank_lines lines) ≤ sum_by room lines
        → sum_by room (line ∷ lines) ≡ room line + sum_by room lines
        → sum_by room (cond t (line ∷ nonblank_lines lines) (nonblank_lines lines)) ≤ sum_by room (line ∷ lines)
    by true rest all =
        let new : sum_by room (line ∷ nonblank_lines lines) ≡ room line + sum_by room (nonblank_lines lines) =
        sum_by-cons room line (nonblank_lines lines) in
        omega (arith, rest, all, new)
    by false rest all = omega (arith, rest, all)

-- the total size of the logical lines is bounded by the bytes and the line feeds of the text
pub text_deck_logical_lines_room : (text : List ℕ)
    → sum_by room (nonblank_lines (logical_lines text)) ≤ length text + 1352 * line_feeds_of_deck_text text + 1352
text_deck_logical_lines_room text =
    omega (
      arith,
      text_deck_physical_lines_room text,
      text_deck_numbered_lines_room 1 (physical_lines text),
      text_deck_trimmed_lines_room (numbered_logical_lines 1 (physical_lines text)),
      text_deck_nonblank_lines_room (logical_lines text),
    )
