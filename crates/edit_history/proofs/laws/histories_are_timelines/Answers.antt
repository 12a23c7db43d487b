use Rattle.edit_history.proofs.Timelines.{recorded_edit_moves_timeline, redo_moves_timeline}
use Rattle.edit_history.proofs.Timelines.{refused_redo_has_no_timeline, refused_undo_has_no_timeline}
use Rattle.edit_history.proofs.Timelines.{undo_moves_timeline}
use Rattle.edit_history.proofs.laws.histories_are_timelines.Goals as goal

pub returns : goal.returns
returns c = record {
  edit = recorded_edit_moves_timeline;
  undo = undo_moves_timeline;
  redo =
      redo_moves_timeline;
  no_undo = refused_undo_has_no_timeline;
  no_redo = refused_redo_has_no_timeline;
}
