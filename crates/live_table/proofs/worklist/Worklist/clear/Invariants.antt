use Rattle.std.proofs.Common.{length}
use Rattle.live_table.specs.Agendas.{AreAgendaPlaces}
use Rattle.live_table.proofs.worklist.Worklist.clear.Given as goal

abbrev pub invariant-loop-n : goal.invariant-loop-n
invariant-loop-n l = AreAgendaPlaces l.self-inside.places.items l.self-inside.numbers.items

abbrev pub decreases-loop-n : goal.decreases-loop-n
decreases-loop-n l = length l.self-inside.numbers.items
