use Rattle.std.proofs.Common.{◌∙◌}
use Rattle.live_table.proofs.AgendaPlaces.{placed_number_is_on_agenda}
use Rattle.live_table.proofs.worklist.Worklist.has.Goals as goal

pub returns : goal.returns
returns c = c.is_some.ensures ∙ placed_number_is_on_agenda c.args.self.now c.args.n c.place_of.result c.place_of.ensures
