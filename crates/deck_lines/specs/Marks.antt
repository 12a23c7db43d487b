-- Lines of a deck with and without their marks.
use Rattle.std.specs.Prelude.{ℕ, List, [], ◌∷◌, Bool, true, false}
use Rattle.def_lines.specs.declared.line.Line.{Line}
use Rattle.deck_lines.specs.declared.line.DeckLine.{DeckLine}

-- a line that has effect
abbrev pub plain_store_line : ℕ → List ℕ → DeckLine
plain_store_line number text = record { number = number; text = text; mark = false }

-- a line that has no effect, as its notice says
abbrev pub marked_store_line : ℕ → List ℕ → DeckLine
marked_store_line number text = record { number = number; text = text; mark = true }

-- a line of a file with this mark
abbrev pub store_line_with_mark : Bool → Line → DeckLine
store_line_with_mark mark line = record { number = line.number; text = line.text; mark = mark }

-- a line without its mark
abbrev pub store_line_without_mark : DeckLine → Line
store_line_without_mark line = record { number = line.number; text = line.text }

abbrev pub mark_of_store_line : DeckLine → Bool
mark_of_store_line line = line.mark

-- lines, each with its mark
abbrev pub store_lines_with_marks : List Line → List Bool → List DeckLine
store_lines_with_marks (line ∷ lines) (mark ∷ marks) = store_line_with_mark mark line ∷ store_lines_with_marks lines
    marks
store_lines_with_marks _ _ = []
