-- Definitions for private functions: the texts that are saved for lines, given which of the lines are active.
use Rattle.std.specs.Prelude.{ℕ, List, [], Bool, map, if◌then◌else◌}
use Rattle.def_lines.specs.Blanks.{trimmed_of_blanks}
use Rattle.deck_lines.specs.declared.line.DeckLine.{DeckLine}
use Rattle.deck.specs.Messages.{active_lines_by_flags, deck_definition_text, texts_of_deck_lines}

-- the texts that are saved for one line
abbrev pub saved_texts_of_line : Bool → DeckLine → List (List ℕ)
saved_texts_of_line active line = map trimmed_of_blanks (if active then deck_definition_text line else [])

-- the texts that are saved for several lines, each with its flag
abbrev pub saved_texts_of_lines : List Bool → List DeckLine → List (List ℕ)
saved_texts_of_lines flags lines =
    map trimmed_of_blanks (texts_of_deck_lines deck_definition_text (active_lines_by_flags flags lines))
