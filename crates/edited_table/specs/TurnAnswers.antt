-- The answers to undos and redos, and their effect on the table.
use Rattle.std.specs.Prelude.{◌≡◌, ◌≢◌, [], ◌∷◌, ℕ, List, Result, Ok, Err, codes}
use Rattle.std.specs.declared.alloc.AllocError.{AllocError}
use Rattle.edit_history.specs.Calls.{IsUndoStepMoved}
use Rattle.edit_history.specs.declared.fault.HistoryFault.{HistoryFault}
use Rattle.edit_history.specs.declared.fault.HistoryFault.TheVariants as history
use Rattle.edit_history.specs.declared.step.Step.{Step}
use Rattle.edited_table.specs.EditAnswers.{c_edit_made_answer}
use Rattle.edited_table.specs.Statuses.{status_code}
use Rattle.edited_table.specs.TableValue.{EditedTableView, c_definitions_of}
use Rattle.edited_table.specs.declared.answer.Answer.{Answer}
use Rattle.edited_table.specs.declared.status.Status.{Status}
use Rattle.edited_table.specs.declared.status.Status.TheVariants as status

-- the answer to an undo or a redo, given the steps that are left
abbrev pub c_turn_answer : Status → (words : List ℕ) → List Step → Answer
c_turn_answer nothing words [] = record { status = nothing; text = words }
c_turn_answer nothing words (step ∷ steps) = c_edit_made_answer

-- the last edit that was made is undone
abbrev pub IsCEditUndone : (before after : EditedTableView) → Type 0
IsCEditUndone before after =
    IsUndoStepMoved before.history.done_steps after.history.done_steps before.history.undone after.history.undone
    before.table.deck
    after.table.deck

-- the last undone edit is redone
abbrev pub IsCEditRedone : (before after : EditedTableView) → Type 0
IsCEditRedone before after =
    IsUndoStepMoved before.history.undone after.history.undone before.history.done_steps after.history.done_steps
    before.table.deck
    after.table.deck

-- the answer to an undo or a redo with this outcome
abbrev pub c_turned_answer : Result (Unit {0}) HistoryFault → Answer
c_turned_answer (Ok _) = c_edit_made_answer
c_turned_answer (Err history.NothingToUndo) =
    record { status = status.NothingToUndo; text = codes "nothing to undo" }
c_turned_answer (Err history.NothingToRedo) =
    record { status = status.NothingToRedo; text = codes "nothing to redo" }
c_turned_answer (Err history.OutOfMemory) = record { status = status.NoMemory; text = [] }

-- an undo or a redo with this answer: the edit is undone or redone exactly if the status is `Done`
pub record IsCTurnAnswered (IsTurn : EditedTableView → EditedTableView → Type 0) (answer : Answer)
    (before after : EditedTableView) : Type 0 where
  pub turn_made : status_code answer.status ≡ status_code status.Done → IsTurn before after
  pub no_turn : status_code answer.status ≢ status_code status.Done → c_definitions_of after ≡ c_definitions_of before
  pub without_text : status_code answer.status ≡ status_code status.Done → answer.text ≡ []

-- `IsCTurnAnswered` if there is an answer; if memory ran out, the definitions are unchanged
abbrev pub IsAnsweredCTurn : (EditedTableView → EditedTableView → Type 0) → Result Answer AllocError
    → (before after : EditedTableView) → Type 0
IsAnsweredCTurn IsTurn (Err _) before after = c_definitions_of after ≡ c_definitions_of before
IsAnsweredCTurn IsTurn (Ok answer) before after = IsCTurnAnswered IsTurn answer before after
