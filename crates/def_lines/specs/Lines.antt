-- The logical lines of a file.
use Rattle.std.specs.Prelude.{◌==◌, ◌+◌, ℕ, List, [], ◌∷◌, ◌++◌, Bool, false, filter, map, not, reverse, if◌then◌else◌}
use Rattle.std.specs.List.{before_first}
use Rattle.def_lines.specs.declared.line.Line.{Line}
use Rattle.def_lines.specs.Blanks.{after_blanks, before_blanks, trimmed_of_blanks}
use Rattle.def_lines.specs.Words.{is_empty}

-- some lines with a byte put in front of the first one
abbrev pub onto_physical_line : ℕ → List (List ℕ) → List (List ℕ)
onto_physical_line b [] = (b ∷ []) ∷ []
onto_physical_line b (line ∷ lines) = (b ∷ line) ∷ lines

-- the physical lines, each of which ends at a line feed or at the end of the file
abbrev pub physical_lines : List ℕ → List (List ℕ)
physical_lines [] = []
physical_lines (b ∷ bytes) = if b == 10 then [] ∷ physical_lines bytes else onto_physical_line b (physical_lines bytes)

-- the byte is the first one of a text
abbrev pub line_begins_with : ℕ → List ℕ → Bool
line_begins_with b [] = false
line_begins_with b (x ∷ bytes) = x == b

-- the text without its first byte
abbrev pub line_without_first_byte : List ℕ → List ℕ
line_without_first_byte [] = []
line_without_first_byte (b ∷ bytes) = bytes

-- the byte is the last one of a text
abbrev pub line_ends_with : ℕ → List ℕ → Bool
line_ends_with b bytes = line_begins_with b (reverse bytes)

-- the text without its last byte
abbrev pub line_without_last_byte : List ℕ → List ℕ
line_without_last_byte bytes = reverse (line_without_first_byte (reverse bytes))

-- the text before the first such byte, or all of it if there is none
abbrev pub line_before_byte : ℕ → List ℕ → List ℕ
line_before_byte b bytes = before_first (λ x. x == b) bytes

-- a physical line without a final carriage return, then without `#` and the text after it, then without trailing
-- blanks
abbrev pub without_comment : List ℕ → List ℕ
without_comment line =
    before_blanks (line_before_byte 35 (if line_ends_with 13 line then line_without_last_byte line else line))

-- the content of a line on its own: cleaned, and without leading blanks
unfoldable pub line_content : List ℕ → List ℕ
line_content line = after_blanks (without_comment line)

-- some lines with a text put in front of the first one, which also gets this number; if there are no lines, the text
-- is a line of its own
abbrev pub logical_lines_with_front : ℕ → List ℕ → List Line → List Line
logical_lines_with_front number text [] = record { number = number; text = text } ∷ []
logical_lines_with_front number text (line ∷ lines) = record { number = number; text = text ++ line.text } ∷ lines

-- the rest of a physical line followed by the lines after it: if the rest ends in `\`, the `\` is replaced by a space
-- and the next line is joined
abbrev pub physical_line_continuation : ℕ → List ℕ → List Line → List Line
physical_line_continuation number text lines =
    if line_ends_with 92 text
    then logical_lines_with_front number (line_without_last_byte text ++ 32 ∷ []) lines
    else record { number = number; text = text } ∷ lines

-- the lines that physical lines make, if the first of them has this number
abbrev pub numbered_logical_lines : ℕ → List (List ℕ) → List Line
numbered_logical_lines number [] = []
numbered_logical_lines number (line ∷ lines) = physical_line_continuation number (without_comment line)
    (numbered_logical_lines (number + 1) lines)

-- a line with its text trimmed
abbrev pub trimmed_logical_line : Line → Line
trimmed_logical_line line = record { number = line.number; text = trimmed_of_blanks line.text }

-- the logical lines of bytes that follow this many physical lines
abbrev pub logical_lines_after : ℕ → List ℕ → List Line
logical_lines_after count bytes = map trimmed_logical_line (numbered_logical_lines (count + 1) (physical_lines bytes))

-- the logical lines of a file, each with the number of its first physical line
abbrev pub logical_lines : List ℕ → List Line
logical_lines bytes = logical_lines_after 0 bytes

-- the line is not blank
abbrev pub is_nonblank_line : Line → Bool
is_nonblank_line line = not (is_empty line.text)

-- the lines that are not blank
abbrev pub nonblank_lines : List Line → List Line
nonblank_lines lines = filter is_nonblank_line lines
