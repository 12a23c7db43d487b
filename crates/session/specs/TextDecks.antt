-- The decks of texts that are within the limits of a deck.
use Rattle.std.specs.Prelude.{◌==◌, ◌<◌, ◌≤◌, ℕ, List, length}
use Rattle.std.specs.List.{count_by}
use Rattle.units_io.specs.FileMap.{longest_file}
use Rattle.deck_lines.specs.Includes.{excerpt_of_lone_deck_file}
use Rattle.deck.specs.Decks.{DeckContents}
use Rattle.deck.specs.Edits.{deck_with_excerpt}
use Rattle.deck.specs.FileLoads.{empty_deck}
use Rattle.deck.specs.declared.settings.Settings.{Settings}

-- the number of line feeds in a text
abbrev pub line_feeds_of_deck_text : (text : List ℕ) → ℕ
line_feeds_of_deck_text text = count_by (λ b. b == 10) text

-- a text has fewer than 30,000 line feeds, and no more bytes than a file may have
abbrev pub FitsDeck : (text : List ℕ) → Type 0
FitsDeck text = (line_feeds_of_deck_text text < 30000) × (length text ≤ longest_file)

-- the deck of a text that has room, in which every include names an absent file
unfoldable pub text_deck : (name text : List ℕ) → Settings → DeckContents
text_deck name text settings = deck_with_excerpt (excerpt_of_lone_deck_file name text) (empty_deck settings)
