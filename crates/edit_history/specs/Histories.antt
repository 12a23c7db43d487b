-- What contracts see of a history.
use Rattle.std.specs.Prelude.{◌∷◌, [], ⊤, List}
use Rattle.deck.specs.Decks.{DeckContents}
use Rattle.edit_history.specs.Steps.{CanMakeUndoStep, version_after_undo_step}
use Rattle.edit_history.specs.Versions.{HistoryVersion, history_version}
use Rattle.edit_history.specs.declared.step.Step.{Step}

-- the steps that take back the edits done, the last edit first; and the steps that make the undone edits again, the one
-- undone last first
pub record UndoStacks : Type 0 where
  pub done_steps : List Step
  pub undone : List Step

-- steps that can be made one after another, beginning at a version
abbrev pub IsUndoStepPath : List Step → HistoryVersion → Type 0
IsUndoStepPath [] v = ⊤
IsUndoStepPath (s ∷ steps) v = CanMakeUndoStep s v × IsUndoStepPath steps (version_after_undo_step s v)

-- a history belongs to this deck: the steps of both lists can be made from it
pub record IsHistoryOf (h : UndoStacks) (d : DeckContents) : Type 0 where
  pub done_path : IsUndoStepPath h.done_steps (history_version d)
  pub undone_path : IsUndoStepPath h.undone (history_version d)
