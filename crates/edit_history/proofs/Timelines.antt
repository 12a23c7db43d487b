-- The calls of a history, described by whole versions.
use Rattle.std.proofs.Common.{◌≡◌, ◌∷◌, inl, inr, [], List, refl, sym, ap, subst, ◌∙◌, Some, None, Ok, Err}
use Rattle.std.proofs.lemmas.Option.{same_Some}
use Rattle.deck.specs.Decks.{DeckContents}
use Rattle.live_table.specs.TableView.{LiveView}
use Rattle.edit_history.specs.Calls.{IsEditRecorded, IsUndoRefusal, IsUndoStepMoved, IsUndone, swapped_undo_stacks}
use Rattle.edit_history.specs.Histories.{UndoStacks}
use Rattle.edit_history.specs.Steps.{version_after_undo_step}
use Rattle.edit_history.specs.Timelines.{HistoryTimeline, history_timeline, history_timeline_after_edit}
use Rattle.edit_history.specs.Timelines.{redone_timeline, timeline_redone_to, undo_step_versions}
use Rattle.edit_history.specs.Timelines.{timeline_undone_to, undone_timeline}
use Rattle.edit_history.specs.Versions.{HistoryVersion, history_version}
use Rattle.edit_history.specs.declared.fault.HistoryFault.{HistoryFault}
use Rattle.edit_history.specs.declared.fault.HistoryFault.TheVariants.{NothingToRedo, NothingToUndo, OutOfMemory}
use Rattle.edit_history.specs.declared.step.Step.{Step}

pub recorded_edit_moves_timeline : (old new : UndoStacks) (before after : DeckContents)
    → IsEditRecorded old new before after (Ok tt)
    → history_timeline new (history_version after) ≡ history_timeline_after_edit (history_version after)
    (history_timeline old (history_version before))
recorded_edit_moves_timeline old new before after (s, is, back) =
    let here = history_version after in
    ap (λ h. history_timeline h here) is
    ∙ ap (λ v. record { past = v ∷ undo_step_versions old.done_steps v; present = here; future = [] })
    back

-- the versions of the steps left, and those of the steps that were added
module _ (steps rest others more : List Step) (before after : DeckContents)
    (moved : IsUndoStepMoved steps rest others more before after) where
  abbrev pub here : HistoryVersion
  here = history_version before

  abbrev pub there : HistoryVersion
  there = history_version after

  pub left : (f : List HistoryVersion → HistoryVersion → List HistoryVersion → HistoryTimeline)
      → f (undo_step_versions rest there) there (undo_step_versions more there) ≡ f
      (undo_step_versions rest (version_after_undo_step moved.step here))
      (version_after_undo_step moved.step here) (here ∷ undo_step_versions others here)
  left f =
      ap (λ ss. f (undo_step_versions rest there) there (undo_step_versions ss there)) moved.step_put
      ∙ ap (λ v. f (undo_step_versions rest there) there (v ∷ undo_step_versions others v)) moved.step_restores
      ∙ ap (λ v. f (undo_step_versions rest v) v (here ∷ undo_step_versions others here))
      (ap history_version moved.splice_applied)

pub undo_moves_timeline : (old new : UndoStacks) (before after : LiveView) → IsUndone NothingToUndo old new before after
    (Ok tt)
    → undone_timeline (history_timeline old (history_version before.deck)) ≡ Some
    (history_timeline new (history_version after.deck))
undo_moves_timeline old new before after (moved, edit) =
    let here = history_version before.deck in
    ap (λ steps. timeline_undone_to (undo_step_versions steps here) (history_timeline old here)) moved.step_taken
    ∙ sym (ap Some (left old.done_steps new.done_steps old.undone new.undone before.deck after.deck moved
    (λ past v future. record { past = past; present = v; future = future })))

pub redo_moves_timeline : (old new : UndoStacks) (before after : LiveView)
    → IsUndone NothingToRedo (swapped_undo_stacks old)
    (swapped_undo_stacks new) before
    after (Ok tt)
    → redone_timeline (history_timeline old (history_version before.deck)) ≡ Some
    (history_timeline new (history_version after.deck))
redo_moves_timeline old new before after (moved, edit) =
    let here = history_version before.deck in
    ap (λ steps. timeline_redone_to (undo_step_versions steps here) (history_timeline old here)) moved.step_taken
    ∙ sym (ap Some (left old.undone new.undone old.done_steps new.done_steps before.deck after.deck moved
    (λ future v past. record { past = past; present = v; future = future })))

no_undo_steps_left : (nothing : HistoryFault) (steps : List Step) → (nothing ≡ OutOfMemory → ⊥)
    → IsUndoRefusal nothing steps nothing
    → steps ≡ []
no_undo_steps_left nothing steps other (inl h) = h.1
no_undo_steps_left nothing steps other (inr h) = absurd (other h.0)

pub refused_undo_has_no_timeline : (old new : UndoStacks) (before after : LiveView)
    → IsUndone NothingToUndo old new before after
    (Err NothingToUndo)
    → undone_timeline (history_timeline old (history_version before.deck)) ≡ None
refused_undo_has_no_timeline old new before after (same, table, refused) =
    let here = history_version before.deck in
    ap (λ steps. timeline_undone_to (undo_step_versions steps here) (history_timeline old here))
    (no_undo_steps_left NothingToUndo old.done_steps (λ e. cc) refused)

pub refused_redo_has_no_timeline : (old new : UndoStacks) (before after : LiveView)
    → IsUndone NothingToRedo (swapped_undo_stacks old) (swapped_undo_stacks new) before after (Err NothingToRedo)
    → redone_timeline (history_timeline old (history_version before.deck)) ≡ None
refused_redo_has_no_timeline old new before after (same, table, refused) =
    let here = history_version before.deck in
    ap (λ steps. timeline_redone_to (undo_step_versions steps here) (history_timeline old here))
    (no_undo_steps_left NothingToRedo old.undone (λ e. cc) refused)

pub redo_restores_undone_timeline : (t u : HistoryTimeline) → undone_timeline t ≡ Some u → redone_timeline u ≡ Some t
redo_restores_undone_timeline t u h = by t.past refl h
  where
    by : (past : List HistoryVersion) → t.past ≡ past → timeline_undone_to past t ≡ Some u → redone_timeline u ≡ Some t
    by [] e g = cc
    by (v ∷ past) e g =
        subst (λ w. redone_timeline w ≡ Some t)
        (same_Some (record { past = past; present = v; future = t.present ∷ t.future }) u g)
        (ap (λ vs. Some (record { past = vs; present = t.present; future = t.future })) (sym e))

pub undo_restores_redone_timeline : (t u : HistoryTimeline) → redone_timeline t ≡ Some u → undone_timeline u ≡ Some t
undo_restores_redone_timeline t u h = by t.future refl h
  where
    by : (future : List HistoryVersion) → t.future ≡ future → timeline_redone_to future t ≡ Some u
        → undone_timeline u ≡ Some t
    by [] e g = cc
    by (v ∷ future) e g =
        subst (λ w. undone_timeline w ≡ Some t)
        (same_Some (record { past = t.present ∷ t.past; present = v; future = future }) u g)
        (ap (λ vs. Some (record { past = t.past; present = t.present; future = vs })) (sym e))
