-- The value of an edited table in contracts.
use Rattle.std.specs.Prelude.{◌≡◌, [], Result, Ok, refl}
use Rattle.std.specs.Coded.{Coded, code_by, coded×}
use Rattle.std.specs.FinMap as map_of
use Rattle.deck.specs.Decks.{DeckContents}
use Rattle.deck.specs.Tables.{table_of_deck}
use Rattle.deck.specs.declared.fault.DeckFault.{DeckFault}
use Rattle.def_entry.specs.Tables.{EntryTable}
use Rattle.edit_history.specs.Histories.{UndoStacks}
use Rattle.edit_history.specs.contracts.history.History as history
use Rattle.live_table.specs.TableView.{LiveView}
use Rattle.live_table.specs.contracts.live_table.LiveTable as live_table

-- the live table, and its edits that were made and those that were undone
pub record EditedTableView : Type 0 where
  pub table : LiveView
  pub history : UndoStacks

-- `EditedTableView` is coded as the pair of its parts
abbrev pub edited_table_code : Coded EditedTableView
edited_table_code =
    code_by _ (coded× live_table.the_row.coded history.the_row.coded) (λ e. (e.table, e.history))
    (λ p. record { table = p.0; history = p.1 }) (λ _. refl)

-- a table over a deck, with no name settled and no edit made
abbrev pub edited_table_without_edits : DeckContents → EditedTableView
edited_table_without_edits deck =
    record {
      table = record { deck = deck; kept_outcomes = map_of.empty; reductions = 0 };
      history =
          record { done_steps = []; undone = [] };
    }

-- the table is over the deck of this outcome, with no name settled and no edit made
abbrev pub IsTableLoaded : Result DeckContents DeckFault → EditedTableView → Type 0
IsTableLoaded outcome e = (outcome ≡ Ok e.table.deck) × (e ≡ edited_table_without_edits e.table.deck)

-- the table of definitions that queries use
abbrev pub c_query_table : EditedTableView → EntryTable
c_query_table e = table_of_deck e.table.deck

-- the part of a table that only edits change
abbrev pub c_definitions_of : EditedTableView → DeckContents × UndoStacks
c_definitions_of e = (e.table.deck, e.history)
