-- The effects of the calls of a history.
use Rattle.std.specs.Prelude.{◌≡◌, ◌∷◌, ◌⊎◌, [], List, Result, Ok, Err}
use Rattle.deck.specs.Decks.{DeckContents}
use Rattle.deck.specs.Splices.{deck_after_splicing}
use Rattle.deck.specs.declared.fault.DeckFault.{DeckFault}
use Rattle.live_table.specs.Calls.{IsAcceptedLiveEdit}
use Rattle.live_table.specs.TableView.{LiveView}
use Rattle.edit_history.specs.Histories.{UndoStacks}
use Rattle.edit_history.specs.Steps.{undo_step_splice, version_after_undo_step}
use Rattle.edit_history.specs.Versions.{history_version}
use Rattle.edit_history.specs.declared.fault.HistoryFault.{HistoryFault}
use Rattle.edit_history.specs.declared.fault.HistoryFault.TheVariants.{OutOfMemory}
use Rattle.edit_history.specs.declared.step.Step.{Step}

-- an accepted edit pushes a step back to the version before it onto the steps done, and nothing is left to redo; a
-- refused edit leaves the history as it is
abbrev pub IsEditRecorded : UndoStacks → UndoStacks → DeckContents → DeckContents → Result (Unit {0}) DeckFault → Type 0
IsEditRecorded old new before after (Ok _) =
    (s : Step) × (new ≡ record { done_steps = s ∷ old.done_steps; undone = [] })
    × (version_after_undo_step s (history_version after) ≡ history_version before)
IsEditRecorded old new before after (Err fault) = new ≡ old

-- the first of some steps was made and removed, and a step back to the version before it was put in front of the others
pub record IsUndoStepMoved (old rest others more : List Step) (before after : DeckContents) : Type 0 where
  pub step : Step
  pub inverse_step : Step
  pub step_taken : old ≡ step ∷ rest
  pub step_put : more ≡ inverse_step ∷ others
  pub splice_applied : after ≡ deck_after_splicing (undo_step_splice step (history_version before)) before
  pub step_restores : version_after_undo_step inverse_step (history_version after) ≡ history_version before

-- the reason why no step was made: there is none, or there is one and memory ran out
abbrev pub IsUndoRefusal : HistoryFault → List Step → HistoryFault → Type 0
IsUndoRefusal nothing steps fault =
    ((fault ≡ nothing) × (steps ≡ [])) ⊎ ((fault ≡ OutOfMemory) × (steps ≡ [] → ⊥))

-- the last edit done is taken back, and the results that this affects are forgotten; or everything is as before
abbrev pub IsUndone : HistoryFault → UndoStacks → UndoStacks → LiveView → LiveView → Result (Unit {0}) HistoryFault
    → Type 0
IsUndone nothing old new before after (Ok _) =
    IsUndoStepMoved old.done_steps new.done_steps old.undone new.undone before.deck after.deck × IsAcceptedLiveEdit
    before after
IsUndone nothing old new before after (Err fault) =
    (new ≡ old) × (after ≡ before) × IsUndoRefusal nothing old.done_steps fault

-- the same history with its two lists swapped
abbrev pub swapped_undo_stacks : UndoStacks → UndoStacks
swapped_undo_stacks h = record { done_steps = h.undone; undone = h.done_steps }
