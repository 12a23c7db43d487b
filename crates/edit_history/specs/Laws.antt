-- Laws of histories.
use Rattle.std.specs.Prelude.{◌≡◌, ◌∷◌, [], Some, None, Ok, Err}
use Rattle.deck.specs.Decks.{DeckContents}
use Rattle.deck.specs.Tables.{table_of_deck}
use Rattle.live_table.specs.TableView.{LiveView}
use Rattle.edit_history.specs.Calls.{IsEditRecorded, IsUndone, swapped_undo_stacks}
use Rattle.edit_history.specs.Histories.{UndoStacks}
use Rattle.edit_history.specs.Timelines.{HistoryTimeline, history_timeline, history_timeline_after_edit}
use Rattle.edit_history.specs.Timelines.{redone_timeline, undone_timeline}
use Rattle.edit_history.specs.Versions.{HistoryVersion, history_version}
use Rattle.edit_history.specs.declared.fault.HistoryFault.TheVariants.{NothingToRedo, NothingToUndo}

-- law: described by whole versions, an accepted edit, an undo and a redo act on the timeline; and there is nothing to
-- undo or redo exactly if the timeline has nothing
pub record HistoryTimelineLaw : Type 0 where
  pub edit : (old new : UndoStacks) (before after : DeckContents) → IsEditRecorded old new before after (Ok tt)
      → history_timeline new (history_version after) ≡ history_timeline_after_edit (history_version after)
      (history_timeline old (history_version before))
  pub undo : (old new : UndoStacks) (before after : LiveView) → IsUndone NothingToUndo old new before after (Ok tt)
      → undone_timeline (history_timeline old (history_version before.deck)) ≡ Some
      (history_timeline new (history_version after.deck))
  pub redo : (old new : UndoStacks) (before after : LiveView)
      → IsUndone NothingToRedo (swapped_undo_stacks old) (swapped_undo_stacks new) before after (Ok tt)
      → redone_timeline (history_timeline old (history_version before.deck)) ≡ Some
      (history_timeline new (history_version after.deck))
  pub no_undo : (old new : UndoStacks) (before after : LiveView)
      → IsUndone NothingToUndo old new before after (Err NothingToUndo)
      → undone_timeline (history_timeline old (history_version before.deck)) ≡ None
  pub no_redo : (old new : UndoStacks) (before after : LiveView)
      → IsUndone NothingToRedo (swapped_undo_stacks old) (swapped_undo_stacks new) before after (Err NothingToRedo)
      → redone_timeline (history_timeline old (history_version before.deck)) ≡ None

-- law: an undo after an accepted edit restores the version before it and all versions before that; a redo after an undo
-- restores the timeline before the undo, and an undo after a redo restores the one before the redo
pub record UndoRedoLaw : Type 0 where
  pub undo : (v : HistoryVersion) (t : HistoryTimeline)
      → undone_timeline (history_timeline_after_edit v t) ≡ Some
      (record { past = t.past; present = t.present; future = v ∷ [] })
  pub redo : (t u : HistoryTimeline) → undone_timeline t ≡ Some u → redone_timeline u ≡ Some t
  pub redo_then_undo : (t u : HistoryTimeline) → redone_timeline t ≡ Some u → undone_timeline u ≡ Some t

-- law: decks of one version have one table, and so every reply to a conversion, a definition, a search or a `?` is the
-- same, because each depends on the table alone
abbrev pub HistoryRepliesLaw : Type 0
HistoryRepliesLaw = (d e : DeckContents) → history_version d ≡ history_version e → table_of_deck d ≡ table_of_deck e
