-- The text of a file that has the definitions of a deck.
use Rattle.std.specs.Prelude.{ℕ, List, length, map, nat_lt, if◌then◌else◌, Result, Ok, Err}
use Rattle.units_io.specs.FileMap.{longest_file}
use Rattle.def_lines.specs.Blanks.{trimmed_of_blanks}
use Rattle.deck.specs.Decks.{DeckContents}
use Rattle.deck.specs.Messages.{active_definition_texts}
use Rattle.deck_save.specs.declared.fault.SaveFault.{SaveFault}
use Rattle.deck_save.specs.declared.fault.SaveFault.TheVariants.{TooLong}
use Rattle.deck_save.specs.SavedLines.{saved_lines}

-- the texts of the active lines that define a key, in order, without blanks at the ends
abbrev pub saved_texts : DeckContents → List (List ℕ)
saved_texts d = map trimmed_of_blanks (active_definition_texts d)

-- the saved text
unfoldable pub saved_text : DeckContents → List ℕ
saved_text d = saved_lines (saved_texts d)

-- the saved text, or `TooLong` if it is too long for a file
abbrev pub saved_file : DeckContents → Result (List ℕ) SaveFault
saved_file d = if nat_lt longest_file (length (saved_text d)) then Err TooLong else Ok (saved_text d)
