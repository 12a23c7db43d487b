use Rattle.std.proofs.Common.{◌++◌, ◌∷◌, [], List, ℕ, set, sym, ◌∙◌, ap, subst, arith}
use Rattle.std.proofs.lemmas.Bool.{cond-false}
use Rattle.name_walk.specs.Faults.{is_on_path}
use Rattle.live_table.specs.Agendas.{AreAgendaPlaces}
use Rattle.live_table.proofs.AgendaPlaces.{agenda_places_after_push, same_agenda_places_same_numbers}
use Rattle.live_table.proofs.worklist.Worklist.put.Goals as goal
use Rattle.live_table.proofs.worklist.Worklist.put.Goals.{After-cover}

-- with more room the places are the same
placed : (c : After-cover) → AreAgendaPlaces c.cover.new.places.items c.self.inside.numbers.items
placed c =
    same_agenda_places_same_numbers c.self.inside.places.items c.cover.new.places.items c.self.inside.numbers.items
    c.cover.ensures.same
    c.self.invariant

pub invariant_of-self : goal.invariant_of-self
invariant_of-self c = placed (goal.at.invariant_of-self c).After-cover

pub invariant_of-self-in_err-kept : goal.invariant_of-self-in_err-kept
invariant_of-self-in_err-kept c = placed (goal.at.invariant_of-self-in_err-kept c).After-cover

pub invariant_of-self-in_err-push : goal.invariant_of-self-in_err-push
invariant_of-self-in_err-push c =
    subst (AreAgendaPlaces c.cover.new.places.items) (sym c.in_err-push.ensures.items)
    (placed (goal.at.invariant_of-self-in_err-push c).After-cover)

pub invariant_of-self-2 : goal.invariant_of-self-2
invariant_of-self-2 c =
    subst (λ (ns : List ℕ). AreAgendaPlaces (set c.cover.new.places.items c.args.n c.in_ok-kept.kept) ns)
    (sym c.in_ok-push.ensures.items)
    (agenda_places_after_push c.cover.new.places.items c.self.inside.numbers.items c.args.n c.in_ok-kept.kept
    (let e = c.len.ensures in let k = c.in_ok-kept.ensures in omega (arith, e, k)) c.in_ok-cover.ensures.ok
    (ap (λ (ns : List ℕ). is_on_path ns c.args.n) c.self.view_is ∙ (sym c.has.ensures ∙ c.if-has.false))
    (placed (goal.at.invariant_of-self-2 c).After-cover))

pub returns-clause-ok : goal.returns-clause-ok
returns-clause-ok c =
    c.in_ok-push.ensures.items
    ∙ (ap (λ (ns : List ℕ). ns ++ c.args.n ∷ []) c.self.view_is
    ∙ sym (cond-false (is_on_path c.args.self.now c.args.n) c.args.self.now (c.args.self.now ++ c.args.n ∷ [])
    (sym c.has.ensures ∙ c.if-has.false)))
