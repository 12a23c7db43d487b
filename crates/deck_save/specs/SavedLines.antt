-- Texts as the lines of a file.
use Rattle.std.specs.Prelude.{◌==◌, ◌||◌, ◌++◌, ◌∷◌, ℕ, Bool, List, [], not, if◌then◌else◌}
use Rattle.std.specs.List.{flat_map}
use Rattle.def_lines.specs.Lines.{line_ends_with}

-- the bytes that end the line of a text: a line feed; but a text that ends in `\` would continue on the next line, so
-- it is followed by one more `\`, and continues on an empty line
abbrev pub saved_line_end : List ℕ → List ℕ
saved_line_end text = if line_ends_with 92 text then 92 ∷ 10 ∷ 10 ∷ [] else 10 ∷ []

-- a text as a line of a file
abbrev pub saved_line : List ℕ → List ℕ
saved_line text = text ++ saved_line_end text

-- texts as lines, one after another
abbrev pub saved_lines : List (List ℕ) → List ℕ
saved_lines texts = flat_map saved_line texts

-- a byte that stays unchanged in its line: it is no line feed, no carriage return and no `#`
abbrev pub is_saved_line_byte : ℕ → Bool
is_saved_line_byte b = not (b == 10 || b == 13 || b == 35)
