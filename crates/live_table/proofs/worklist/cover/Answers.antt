use Rattle.std.proofs.Common.{arith}
use Rattle.std.specs.Result.{is_ok}
use Rattle.live_table.proofs.AgendaPlaces.{filled_agenda_has_same_places}
use Rattle.live_table.proofs.worklist.cover.Goals as goal

pub returns-clause-same : goal.returns-clause-same
returns-clause-same c =
    filled_agenda_has_same_places (is_ok c.resize.result) c.args.places.now.items c.resize.new.self.items c.args.end
    c.args.places.now.len
    c.args.places.now.ok.0
    (let s = c.args.places.now.ok.0 in omega arith) c.resize.ensures.items
