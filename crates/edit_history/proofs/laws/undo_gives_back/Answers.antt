use Rattle.std.proofs.Common.{refl}
use Rattle.edit_history.proofs.Timelines.{redo_restores_undone_timeline, undo_restores_redone_timeline}
use Rattle.edit_history.proofs.laws.undo_gives_back.Goals as goal

pub returns : goal.returns
returns c = record {
  undo = λ v t. refl;
  redo = redo_restores_undone_timeline;
  redo_then_undo =
      undo_restores_redone_timeline;
}
