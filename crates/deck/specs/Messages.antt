-- The messages and definitions in the active lines of a deck.
use Rattle.std.specs.Prelude.{◌++◌, ℕ, List, [], ◌∷◌, Bool, if◌then◌else◌, is_some}
use Rattle.def_lines.specs.Kinds.{LineKindWithArguments, kind_of_line, Message}
use Rattle.deck_lines.specs.Readings.{entry_in_store_line}
use Rattle.deck_lines.specs.declared.line.DeckLine.{DeckLine}
use Rattle.deck.specs.Active.{active_lines}
use Rattle.deck.specs.Decks.{DeckContents}

-- the lines whose flag is true
abbrev pub active_lines_by_flags : List Bool → List DeckLine → List DeckLine
active_lines_by_flags (flag ∷ flags) (line ∷ lines) = if flag then line ∷ active_lines_by_flags flags lines else
    active_lines_by_flags flags lines
active_lines_by_flags _ _ = []

abbrev pub active_lines_of_deck : DeckContents → List DeckLine
active_lines_of_deck d = active_lines_by_flags (active_lines d.settings d.lines) d.lines

-- the texts of lines, one line after another
abbrev pub texts_of_deck_lines : (DeckLine → List (List ℕ)) → List DeckLine → List (List ℕ)
texts_of_deck_lines texts [] = []
texts_of_deck_lines texts (line ∷ lines) = texts line ++ texts_of_deck_lines texts lines

-- the text of a message line
abbrev pub deck_message_of_kind : LineKindWithArguments → List (List ℕ)
deck_message_of_kind (Message text) = text ∷ []
deck_message_of_kind _ = []

abbrev pub deck_message_of_line : DeckLine → List (List ℕ)
deck_message_of_line line = deck_message_of_kind (kind_of_line line.text)

-- the text of a line that defines a key
abbrev pub deck_definition_text : DeckLine → List (List ℕ)
deck_definition_text line = if is_some (entry_in_store_line line) then line.text ∷ [] else []

-- the messages of the active lines of a deck
abbrev pub deck_messages : DeckContents → List (List ℕ)
deck_messages d = texts_of_deck_lines deck_message_of_line (active_lines_of_deck d)

-- the texts of the active lines of a deck that define a key
abbrev pub active_definition_texts : DeckContents → List (List ℕ)
active_definition_texts d = texts_of_deck_lines deck_definition_text (active_lines_of_deck d)
