-- A history and its deck as whole versions.
use Rattle.std.specs.Prelude.{◌∷◌, [], List, Option, Some, None}
use Rattle.edit_history.specs.Histories.{UndoStacks}
use Rattle.edit_history.specs.Steps.{version_after_undo_step}
use Rattle.edit_history.specs.Versions.{HistoryVersion}
use Rattle.edit_history.specs.declared.step.Step.{Step}

-- the versions before, the last one first; the present version; and the versions that were undone, the one undone last
-- first
pub record HistoryTimeline : Type 0 where
  pub past : List HistoryVersion
  pub present : HistoryVersion
  pub future : List HistoryVersion

-- the versions that steps give, one after another
abbrev pub undo_step_versions : List Step → HistoryVersion → List HistoryVersion
undo_step_versions [] v = []
undo_step_versions (s ∷ steps) v = version_after_undo_step s v ∷ undo_step_versions steps (version_after_undo_step s v)

-- the versions of a history, and the present one
abbrev pub history_timeline : UndoStacks → HistoryVersion → HistoryTimeline
history_timeline h v =
    record { past = undo_step_versions h.done_steps v; present = v; future = undo_step_versions h.undone v }

-- the timeline after an edit that gives a version
abbrev pub history_timeline_after_edit : HistoryVersion → HistoryTimeline → HistoryTimeline
history_timeline_after_edit v t = record { past = t.present ∷ t.past; present = v; future = [] }

-- the timeline after an undo, if these are the versions before
abbrev pub timeline_undone_to : List HistoryVersion → HistoryTimeline → Option HistoryTimeline
timeline_undone_to [] t = None
timeline_undone_to (v ∷ past) t = Some (record { past = past; present = v; future = t.present ∷ t.future })

abbrev pub timeline_redone_to : List HistoryVersion → HistoryTimeline → Option HistoryTimeline
timeline_redone_to [] t = None
timeline_redone_to (v ∷ future) t = Some (record { past = t.present ∷ t.past; present = v; future = future })

-- the timelines after an undo and after a redo, if there is something to undo or redo
abbrev pub undone_timeline : HistoryTimeline → Option HistoryTimeline
undone_timeline t = timeline_undone_to t.past t

abbrev pub redone_timeline : HistoryTimeline → Option HistoryTimeline
redone_timeline t = timeline_redone_to t.future t
