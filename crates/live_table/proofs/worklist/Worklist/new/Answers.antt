use Rattle.std.proofs.Common.{List, ℕ, sym, subst}
use Rattle.live_table.specs.Agendas.{AreAgendaPlaces}
use Rattle.live_table.proofs.AgendaPlaces.{empty_agenda_has_no_places}
use Rattle.live_table.proofs.worklist.Worklist.new.Goals as goal

pub invariant_of-result : goal.invariant_of-result
invariant_of-result c =
    subst (λ (p : List ℕ × List ℕ). AreAgendaPlaces p.0 p.1)
    (λ i. (sym c.new-2.ensures.items i, sym c.new.ensures.items i))
    empty_agenda_has_no_places
