-- Appending a line that defines a key, and removing it again.
use Rattle.std.specs.Prelude.{◌≡◌, ◌⊎◌, ◌-◌, ◌++◌, ◌∷◌, [], ℕ, List, length, take, Option, Some, Result, Ok, Err}
use Rattle.std.specs.Option.{option_and_then}
use Rattle.def_entry.specs.declared.key.Key.{Key}
use Rattle.def_entry.specs.Entries.{Entry}
use Rattle.deck_lines.specs.Marks.{plain_store_line}
use Rattle.deck_lines.specs.Readings.{entry_in_store_line}
use Rattle.deck_lines.specs.declared.line.DeckLine.{DeckLine}
use Rattle.deck.specs.Changes.{IsEditChange}
use Rattle.deck.specs.Decks.{DeckContents}
use Rattle.deck.specs.Tables.{last_definition_place}
use Rattle.deck.specs.declared.fault.DeckFault.{DeckFault}
use Rattle.deck.specs.declared.fault.DeckFault.TheVariants.{OutOfMemory}

-- the place of the last active line of the key that a line defines
abbrev pub deck_place_of_defined_key : List ℕ → DeckContents → Option ℕ
deck_place_of_defined_key text d = option_and_then (λ e. last_definition_place d.settings d.lines e.0)
    (entry_in_store_line (plain_store_line 0 text))

-- appending a line with this text has this outcome and returns the place of the previous last active line of its key;
-- or it fails with the error of the outcome or with `OutOfMemory`, and the deck is unchanged
abbrev pub IsDeckDefinedOver : Result DeckContents DeckFault → List ℕ → DeckContents → DeckContents
    → Result (List Key × Option ℕ) DeckFault
    → Type 0
IsDeckDefinedOver outcome text old new (Ok done) =
    (outcome ≡ Ok new) × IsEditChange old new done.0 × (done.1 ≡ deck_place_of_defined_key text old)
IsDeckDefinedOver outcome text old new (Err fault) = (new ≡ old) × ((fault ≡ OutOfMemory) ⊎ (outcome ≡ Err fault))

-- the last line defines a key, and the last active line of the key before it has this place, if there is one
pub record CanUndefineDeckLine (uncovered : Option ℕ) (d : DeckContents) : Type 0 where
  pub lines_before : List DeckLine
  pub line : DeckLine
  pub key : Key
  pub entry : Entry
  pub lines : d.lines ≡ lines_before ++ line ∷ []
  pub defines : entry_in_store_line line ≡ Some (key, entry)
  pub place : uncovered ≡ last_definition_place d.settings lines_before key

-- the deck without its last line
abbrev pub deck_without_last_line : DeckContents → DeckContents
deck_without_last_line d = record d { lines = take (length d.lines - 1) d.lines }

-- `text` is the text of the last line
abbrev pub IsTextOfLastDeckLine : List ℕ → DeckContents → Type 0
IsTextOfLastDeckLine text d = (front : List DeckLine) (line : DeckLine) → d.lines ≡ front ++ line ∷ []
    → text ≡ line.text

-- the last line is removed, and the result is the keys that this changes and the text of the line
abbrev pub IsDeckLineRemoved : DeckContents → DeckContents → List Key × List ℕ → Type 0
IsDeckLineRemoved old new done = (new ≡ deck_without_last_line old) × IsEditChange old new done.0 × IsTextOfLastDeckLine
    done.1 old
