-- Splices, which replace lines by others, and their inverses.
use Rattle.std.specs.Prelude.{◌≡◌, ◌≤◌, ◌+◌, ℕ, List, length, take, drop, Result, Ok, Err}
use Rattle.std.specs.declared.alloc.AllocError.{AllocError}
use Rattle.def_entry.specs.declared.key.Key.{Key}
use Rattle.deck_lines.specs.Exchangeable.{CanExchangeStoredLines}
use Rattle.deck_lines.specs.Origins.{exchanged_store_lines}
use Rattle.deck_lines.specs.declared.line.DeckLine.{DeckLine}
use Rattle.deck.specs.Changes.{IsEditChange}
use Rattle.deck.specs.Decks.{DeckContents}
use Rattle.deck.specs.declared.splice.Splice.{Splice}

-- the `count` lines from a place on
abbrev pub lines_from_deck_place : ℕ → ℕ → List DeckLine → List DeckLine
lines_from_deck_place place count lines = take count (drop place lines)

-- the lines after a splice
abbrev pub spliced_deck_lines : Splice → List DeckLine → List DeckLine
spliced_deck_lines s lines = exchanged_store_lines s.at s.cut s.put lines

-- the deck after a splice
abbrev pub deck_after_splicing : Splice → DeckContents → DeckContents
deck_after_splicing s d = record d { lines = spliced_deck_lines s d.lines; settings = s.settings }

-- a splice can be made in a deck: the places exist, and the resulting lines are closed and within the limits
abbrev pub CanSpliceDeck : Splice → DeckContents → Type 0
CanSpliceDeck s d = CanExchangeStoredLines s.at s.cut s.put d.lines

-- the splice that undoes another
abbrev pub inverse_deck_splice : Splice → DeckContents → Splice
inverse_deck_splice s d = record {
  at = s.at;
  cut = length s.put;
  put = lines_from_deck_place s.at s.cut d.lines;
  settings = d.settings;
}

-- a splice yields its deck, and returns the keys that it changes and its inverse; or it is handed back, and the deck is
-- unchanged
abbrev pub IsDeckSpliced : Splice → DeckContents → DeckContents → Result (List Key × Splice) (Splice × AllocError)
    → Type 0
IsDeckSpliced s old new (Ok done) = (new ≡ deck_after_splicing s old) × IsEditChange old new done.0
    × (done.1 ≡ inverse_deck_splice s old)
IsDeckSpliced s old new (Err refusal) = (new ≡ old) × (refusal.0 ≡ s)

-- law: the inverse of a splice restores the deck
abbrev pub DeckSpliceInverseLaw : Type 0
DeckSpliceInverseLaw =
    (s : Splice) (d : DeckContents) → s.at + s.cut ≤ length d.lines → deck_after_splicing (inverse_deck_splice s d)
    (deck_after_splicing s d) ≡ d
