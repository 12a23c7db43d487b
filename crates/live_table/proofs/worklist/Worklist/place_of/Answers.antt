use Rattle.std.proofs.Common.{◌≡◌, ℕ, List, Option, Some, false, ap, arith, get_or, subst, ◌∙◌}
use Rattle.std.specs.List.{slice_get}
use Rattle.std.specs.Option.{unwrap_or}
use Rattle.std.specs.Prelude.{MatchOption}
use Rattle.name_walk.specs.Faults.{is_on_path}
use Rattle.live_table.proofs.AgendaPlaces.{agenda_entry_gives_place, entry_at_agenda_place}
use Rattle.live_table.proofs.worklist.Worklist.place_of.Goals as goal

pub returns : goal.returns
returns c =
    subst (λ (ns : List ℕ). MatchOption c.checked_sub.result (is_on_path ns c.args.n ≡ false)
    (λ i. slice_get ns i ≡ Some c.args.n)) c.self.view_is
    (agenda_entry_gives_place c.self.inside.places.items c.self.inside.numbers.items c.args.n c.unwrap_or-kept.result
    c.checked_sub.result
    (entry_at_agenda_place c.get.result c.unwrap_or-kept.result
    (c.unwrap_or-kept.ensures ∙ ap (λ (o : Option ℕ). unwrap_or o 0) c.copied.ensures)
    ∙ (c.get.ensures.lookup.4 (omega arith) 0 ∙ ap (λ (ps : List ℕ). get_or ps c.args.n 0) c.deref.ensures.value))
    c.checked_sub.ensures c.self.invariant)
