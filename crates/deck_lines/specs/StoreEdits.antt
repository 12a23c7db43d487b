-- The lines of a store before and after an edit.
use Rattle.std.specs.Prelude.{◌≤◌, ◌+◌, ℕ, List, length, map, Option}
use Rattle.deck_lines.specs.StoredDefinitions.{IsStoreDefined}
use Rattle.deck_lines.specs.Names.{KeyNumberNames}
use Rattle.deck_lines.specs.Readings.{entry_in_store_line}
use Rattle.deck_lines.specs.Stores.{LineStoreView}
use Rattle.deck_lines.specs.declared.line.DeckLine.{DeckLine}
use Rattle.deck_lines.specs.declared.store.definitions.Definition.{Definition}

-- the lines before and after an edit, and the numbers of keys, which do not change
pub record StoreEdit : Type 0 where
  pub old_lines : List DeckLine
  pub new_lines : List DeckLine
  pub names : KeyNumberNames

-- the stores before and after the edit
abbrev pub store_before : StoreEdit → LineStoreView
store_before edited = record { lines = edited.old_lines; names = edited.names }

abbrev pub store_after : StoreEdit → LineStoreView
store_after edited = record { lines = edited.new_lines; names = edited.names }

-- the edit of a store that changes nothing
abbrev pub store_unedited : LineStoreView → StoreEdit
store_unedited store = record { old_lines = store.lines; new_lines = store.lines; names = store.names }

-- the store has the lines to be replaced, and these are the definitions of the lines to be put, whose keys all have
-- numbers
pub record AreStoreLinesPut (store : LineStoreView) (at cut : ℕ) (put : List DeckLine)
    (definitions : List (Option Definition)) : Type 0 where
  pub range_within : at + cut ≤ length store.lines
  pub definitions_put : IsStoreDefined store.names definitions (map entry_in_store_line put)
