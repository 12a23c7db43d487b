use Rattle.std.proofs.Common.{subst}
use Rattle.live_table.specs.TableView.{IsRightLiveView}
use Rattle.live_table.proofs.live_table.LiveTable.deck.Goals as goal

pub returns-clause-right : goal.returns-clause-right
returns-clause-right c = subst IsRightLiveView c.self.view_is c.self.invariant.0.is_sound.is_right
