use Rattle.std.proofs.Common.{◌≡◌, ◌<◌, ◌++◌, ◌∷◌, [], List, ℕ, sym, subst}
use Rattle.live_table.specs.Agendas.{AreAgendaPlaces}
use Rattle.live_table.proofs.AgendaPlaces.{agenda_number_has_room, agenda_places_after_pop}
use Rattle.live_table.proofs.worklist.Worklist.clear.Goals as goal

-- the removed number was the last
last_placed : (places numbers rest : List ℕ) (n : ℕ) → numbers ≡ rest ++ n ∷ [] → AreAgendaPlaces places numbers
    → AreAgendaPlaces places (rest ++ n ∷ [])
last_placed places numbers rest n e m = subst (λ (ns : List ℕ). AreAgendaPlaces places ns) e m

pub index_mut-requires : goal.index_mut-requires
index_mut-requires c =
    subst (λ (k : ℕ). c.in-Some.n < k) (sym c.loop-n.self-inside.places.ok.0)
    (agenda_number_has_room c.loop-n.self-inside.places.items c.pop.new.self.items c.in-Some.n
    (last_placed c.loop-n.self-inside.places.items c.loop-n.self-inside.numbers.items c.pop.new.self.items c.in-Some.n
    c.in-Some.ensures.items c.loop-n.invariant))

pub loop-n-preserved : goal.loop-n-preserved
loop-n-preserved c =
    let m = last_placed c.loop-n.self-inside.places.items c.loop-n.self-inside.numbers.items c.pop.new.self.items
    c.in-Some.n c.in-Some.ensures.items c.loop-n.invariant in
    agenda_places_after_pop c.loop-n.self-inside.places.items c.pop.new.self.items c.in-Some.n
    (agenda_number_has_room c.loop-n.self-inside.places.items c.pop.new.self.items c.in-Some.n m) m
