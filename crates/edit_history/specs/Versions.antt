-- Versions of a deck.
use Rattle.std.specs.Prelude.{List, []}
use Rattle.deck_lines.specs.declared.line.DeckLine.{DeckLine}
use Rattle.deck.specs.Decks.{DeckContents}
use Rattle.deck.specs.declared.settings.Settings.{Settings}

-- what a history restores of a deck: its lines with their marks, and its settings. Notices are those of the last load
-- or append, and no step changes them
pub record HistoryVersion : Type 0 where
  pub lines : List DeckLine
  pub settings : Settings

abbrev pub history_version : DeckContents → HistoryVersion
history_version d = record { lines = d.lines; settings = d.settings }

-- a deck of this version
abbrev pub deck_of_history_version : HistoryVersion → DeckContents
deck_of_history_version v = record { lines = v.lines; settings = v.settings; notices = [] }
