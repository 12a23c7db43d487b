use Rattle.std.proofs.Common.{subst}
use Rattle.live_table.specs.TableView.{IsRightLiveView}
use Rattle.live_table.proofs.live_table.LiveTable.outcomes_are_right.Goals as goal

pub returns : goal.returns
returns c = subst IsRightLiveView c.self.view_is c.self.invariant.0.is_sound.is_right
