-- The effect of edits on the table that C holds.
use Rattle.std.specs.Prelude.{◌≡◌, ◌≢◌, ℕ, Option, Some, None, Ok, ⊤}
use Rattle.deck.specs.Decks.{DeckContents}
use Rattle.edit_history.specs.Calls.{IsEditRecorded}
use Rattle.edited_table.specs.Statuses.{status_code}
use Rattle.edited_table.specs.TableValue.{EditedTableView, c_definitions_of}
use Rattle.edited_table.specs.declared.status.Status.TheVariants as status

-- after an edit the deck is `edit` of the old one, or is unchanged if memory ran out
abbrev pub LeavesCDeck : (result : ℕ) → (DeckContents → DeckContents) → (before after : Option EditedTableView) → Type 0
LeavesCDeck result edit None after = after ≡ None
LeavesCDeck result edit (Some e) None = ⊥
LeavesCDeck result edit (Some e) (Some e') =
    (result ≢ status_code status.NoMemory → e'.table.deck ≡ edit e.table.deck)
    × (result ≡ status_code status.NoMemory → e'.table.deck ≡ e.table.deck)

-- a successful edit is recorded in the history, so that it can be undone; any other edit leaves the history unchanged
abbrev pub NotesCEdit : (result : ℕ) → (before after : Option EditedTableView) → Type 0
NotesCEdit result None after = ⊤
NotesCEdit result (Some e) None = ⊥
NotesCEdit result (Some e) (Some e') =
    (result ≡ status_code status.Done → IsEditRecorded e.history e'.history e.table.deck e'.table.deck (Ok tt))
    × (result ≢ status_code status.Done → e'.history ≡ e.history)

-- the effect of an undo or a redo on a table; if there is no edit to undo or redo, nothing changes
abbrev pub TurnsCTable : (EditedTableView → EditedTableView → Type 0) → (result : ℕ)
    → (before after : Option EditedTableView) → Type 0
TurnsCTable IsTurn result None after = after ≡ None
TurnsCTable IsTurn result (Some e) None = ⊥
TurnsCTable IsTurn result (Some e) (Some e') =
    (result ≡ status_code status.Done → IsTurn e e')
    × (result ≢ status_code status.Done → c_definitions_of e' ≡ c_definitions_of e)
