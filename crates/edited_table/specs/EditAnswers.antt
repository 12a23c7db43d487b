-- The answers to edits, and their effect on the table.
use Rattle.std.specs.Prelude.{◌≡◌, ◌≢◌, ◌++◌, [], ℕ, List, Bool, true, Option, Some, None, Result, Ok, Err, ⊤, codes}
use Rattle.std.specs.declared.alloc.AllocError.{AllocError}
use Rattle.deck.specs.Decks.{DeckContents}
use Rattle.deck.specs.Edits.{deck_after_dropping}
use Rattle.deck.specs.declared.fault.DeckFault.{DeckFault}
use Rattle.deck.specs.declared.fault.DeckFault.TheVariants as fault
use Rattle.def_entry.specs.Faults.{entry_fault_text, is_entry_fault_of_line}
use Rattle.def_entry.specs.declared.fault.EntryFault.{EntryFault}
use Rattle.def_entry.specs.declared.fault.EntryFault.TheVariants as entry
use Rattle.def_entry.specs.declared.key.Key.{Key}
use Rattle.edit_history.specs.Calls.{IsEditRecorded}
use Rattle.edited_table.specs.Faults.{parse_status}
use Rattle.edited_table.specs.Statuses.{status_code}
use Rattle.edited_table.specs.TableValue.{EditedTableView, c_definitions_of}
use Rattle.edited_table.specs.declared.answer.Answer.{Answer}
use Rattle.edited_table.specs.declared.status.Status.{Status}
use Rattle.edited_table.specs.declared.status.Status.TheVariants as status

-- the status of a line that is not an entry
abbrev pub entry_status : EntryFault → Status
entry_status (entry.BadName name) = status.BadName
entry_status entry.BadForm = status.BadDefinition
entry_status entry.BadTable = status.BadTable
entry_status (entry.Parse parse) = parse_status parse
entry_status entry.OutOfMemory = status.NoMemory

-- the answer that refuses an edit; `named` is the key as the caller wrote it
abbrev pub c_refusal_answer : DeckFault → (named : List ℕ) → Answer
c_refusal_answer (fault.BadLine why) named = record { status = entry_status why; text = entry_fault_text why }
c_refusal_answer fault.NoSuchKey named =
    record { status = status.NoSuchDefinition; text = codes "no such definition: " ++ named }
c_refusal_answer fault.DeckFull named = record { status = status.DeckFull; text = codes "deck full" }
c_refusal_answer fault.Absent named = record { status = status.NoSuchFile; text = codes "no file: " ++ named }
c_refusal_answer fault.TooLong named = record { status = status.FileTooLong; text = codes "file too long: " ++ named }
c_refusal_answer fault.ReadFailed named = record { status = status.ReadFailed; text = [] }
c_refusal_answer fault.OutOfMemory named = record { status = status.NoMemory; text = [] }

-- the answer to a successful edit
abbrev pub c_edit_made_answer : Answer
c_edit_made_answer = record { status = status.Done; text = [] }

-- the answer to an edit with this outcome
abbrev pub c_table_edit_answer : Result DeckContents DeckFault → (named : List ℕ) → Answer
c_table_edit_answer (Ok deck) named = c_edit_made_answer
c_table_edit_answer (Err why) named = c_refusal_answer why named

-- the deck after an edit with this outcome
abbrev pub c_deck_after_edit : Result DeckContents DeckFault → DeckContents → DeckContents
c_deck_after_edit (Ok edited) deck = edited
c_deck_after_edit (Err why) deck = deck

-- the outcome of dropping a key, or `None` if the text is not a key
abbrev pub c_drop_outcome : Option Key → DeckContents → Option (Result DeckContents DeckFault)
c_drop_outcome None deck = None
c_drop_outcome (Some key) deck = Some (deck_after_dropping key deck)

abbrev pub c_drop_answer : Option (Result DeckContents DeckFault) → (named : List ℕ) → Answer
c_drop_answer None named = record { status = status.BadKey; text = codes "bad key: " ++ named }
c_drop_answer (Some outcome) named = c_table_edit_answer outcome named

abbrev pub c_deck_after_drop : Option (Result DeckContents DeckFault) → DeckContents → DeckContents
c_deck_after_drop None deck = deck
c_deck_after_drop (Some outcome) deck = c_deck_after_edit outcome deck

-- the answer to an edit that returned this result
abbrev pub c_edited_answer : Result (Unit {0}) DeckFault → (named : List ℕ) → Answer
c_edited_answer (Ok _) named = c_edit_made_answer
c_edited_answer (Err why) named = c_refusal_answer why named

-- whether a refusal has its own message
abbrev pub has_own_c_message : DeckFault → Bool
has_own_c_message (fault.BadLine why) = is_entry_fault_of_line why
has_own_c_message _ = true

abbrev pub HasCMessage : Result (Unit {0}) DeckFault → Type 0
HasCMessage (Ok _) = ⊤
HasCMessage (Err why) = has_own_c_message why ≡ true

-- an edit with this answer leaves the deck `left`; it is recorded in the history exactly if the status is `Done`
pub record IsCEditAnswered (left : DeckContents) (answer : Answer) (before after : EditedTableView) : Type 0 where
  pub deck : after.table.deck ≡ left
  pub change_noted : status_code answer.status ≡ status_code status.Done
      → IsEditRecorded before.history after.history before.table.deck after.table.deck (Ok tt)
  pub no_note : status_code answer.status ≢ status_code status.Done → after.history ≡ before.history
  pub without_text : status_code answer.status ≡ status_code status.Done → answer.text ≡ []
  pub memory : status_code answer.status ≢ status_code status.NoMemory

-- `IsCEditAnswered` if there is an answer; if memory ran out, the definitions are unchanged
abbrev pub IsAnsweredCEdit : (left : DeckContents) → Result Answer AllocError → (before after : EditedTableView)
    → Type 0
IsAnsweredCEdit left (Err _) before after = c_definitions_of after ≡ c_definitions_of before
IsAnsweredCEdit left (Ok answer) before after = IsCEditAnswered left answer before after
