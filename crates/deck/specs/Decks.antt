-- The view of a deck.
use Rattle.std.specs.Prelude.{ℕ, List}
use Rattle.deck_lines.specs.declared.line.DeckLine.{DeckLine}
use Rattle.deck.specs.declared.settings.Settings.{Settings}

-- the lines and settings of a deck, and the notices of the last load or append
pub record DeckContents : Type 0 where
  pub lines : List DeckLine
  pub settings : Settings
  pub notices : List (List ℕ)
