use Rattle.std.proofs.Common.{◌≡◌, ◌∷◌, [], ℕ, Ok, Err, Result, None, true, refl, sym, ap, subst}
use Rattle.def_entry.specs.declared.key.Key.{Key}
use Rattle.def_entry.specs.declared.key.Kind.TheVariants as kind
use Rattle.def_entry.specs.Keys.{key as key_named}
use Rattle.def_entry.specs.Tables.{is_entry_present}
use Rattle.deck.specs.Tables.{table_of_deck}
use Rattle.table_names.specs.Faults.{key_fault}
use Rattle.table_names.specs.Meanings.{key_meaning}
use Rattle.live_table.specs.declared.fault.QueryFault.{QueryFault}
use Rattle.live_table.specs.declared.stop.Stop.{Stop}
use Rattle.live_table.specs.Answers as spec
use Rattle.live_table.specs.QueryEffects.{IsLiveKeyQuery, IsSettledKey}
use Rattle.live_table.specs.Calls.{IsLiveQuery}
use Rattle.live_table.specs.TableView.{IsAfterLiveEvents, LiveView}
use Rattle.live_table.specs.States.{AsksKey}
use Rattle.live_table.specs.Stops.{IsLiveStopFault}
use Rattle.live_table.specs.TableContents.{live_view_of_nodes, node_lists}
use Rattle.live_table.proofs.QueryAnswers.{live_answer_without_name_fault}
use Rattle.live_table.proofs.QuerySequence.{whole_event_is_live_query}
use Rattle.live_table.proofs.StopAnswers.{answered_err, answered_ok, named_answer, named_query}
use Rattle.live_table.proofs.live_table.LiveTable.unapply.Goals as goal
use Rattle.live_table.proofs.live_table.LiveTable.unapply.Goals.{After-ask_key-answer}

pub ask_key-answer-requires-clause-present : goal.ask_key-answer-requires-clause-present
ask_key-answer-requires-clause-present g c =
    subst (λ (s : LiveView). is_entry_present (table_of_deck s.deck) (key_named kind.Func c.args.name.now) ≡ true)
    (sym c.self.view_is)
    c.requires

abbrev key : (g : _) → After-ask_key-answer g → Key
key g c = key_named kind.Func c.args.name.now

abbrev before : (g : _) → After-ask_key-answer g → LiveView
before g c = live_view_of_nodes c.self.inside.deck (node_lists c.self.inside.nodes) c.self.inside.reductions

abbrev now : (g : _) → After-ask_key-answer g → LiveView
now g c = live_view_of_nodes c.self.inside.deck (node_lists c.ask_key-answer.new.nodes) c.ask_key-answer.new.reductions

abbrev Holds : (g : _) → After-ask_key-answer g → Result ℕ QueryFault → Type 0
Holds g c answer =
    IsLiveKeyQuery (key g c) (node_lists c.ask_key-answer.new.nodes) answer (before g c) (now g c) c.args.steps.now
    c.ask_key-answer.new.steps

-- ---- the function has a name fault
stopped : (g : _) (c : After-ask_key-answer g) (stop : Stop) → c.ask_key-answer.result ≡ Err stop
    → (q : QueryFault) × IsLiveStopFault (table_of_deck c.self.inside.deck) (node_lists c.ask_key-answer.new.nodes)
    c.ask_key-answer.new.explored.dead_ends.items c.ask_key-answer.new.explored.findings.faults stop q × Holds g c
    (Err q)
stopped g c stop is =
    answered_err (table_of_deck c.self.inside.deck) (node_lists c.ask_key-answer.new.nodes)
    c.ask_key-answer.new.explored.dead_ends.items c.ask_key-answer.new.explored.findings.faults
    (Holds g c) c.ask_key-answer.result stop is c.ask_key-answer.ensures.asked

pub fault_of_stop-requires-clause-nodes : goal.fault_of_stop-requires-clause-nodes
fault_of_stop-requires-clause-nodes g c = c.ask_key-answer.ensures.live.is_sound.numbers

pub fault_of_stop-requires-clause-named : goal.fault_of_stop-requires-clause-named
fault_of_stop-requires-clause-named g c =
    let s = stopped g (goal.at.fault_of_stop-requires-clause-named g c).After-ask_key-answer c.in-Err.stop c.in-Err.is
    in
    (s.0, s.1)

pub returns-in-Err-clause-answer : goal.returns-in-Err-clause-answer
returns-in-Err-clause-answer g c =
    let at = goal.at.returns-in-Err-clause-answer g c in
    let s = stopped g at.After-ask_key-answer c.in-Err.stop c.in-Err.is in
    let a = at.After-ask_key-answer in
    subst (λ (x : LiveView). spec.IsLiveQueryResult (Err c.fault_of_stop.result)
    (spec.live_inverse_answer (table_of_deck x.deck) c.args.name.now
    c.args.value.now)) c.self.view_is
    (named_answer (AsksKey (key g a)) (key_fault (table_of_deck c.self.inside.deck) (key g a))
    (IsSettledKey (node_lists c.ask_key-answer.new.nodes) (key g a)) (before g a) (now g a) c.args.steps.now
    c.ask_key-answer.new.steps s.0 s.2
    (spec.live_inverse_value (key_meaning (table_of_deck c.self.inside.deck) (key g a)) c.args.value.now)
    c.fault_of_stop.result
    (c.fault_of_stop.ensures s.0 s.1))

pub returns-in-Err-clause-after : goal.returns-in-Err-clause-after
returns-in-Err-clause-after g c =
    let at = goal.at.returns-in-Err-clause-after g c in
    let s = stopped g at.After-ask_key-answer c.in-Err.stop c.in-Err.is in
    let a = at.After-ask_key-answer in
    subst (λ (x : LiveView). IsLiveQuery (AsksKey (key g a)) (Err c.fault_of_stop.result) x (now g a) c.args.steps.now
    c.ask_key-answer.new.steps) c.self.view_is
    (named_query (AsksKey (key g a)) (key_fault (table_of_deck c.self.inside.deck) (key g a))
    (IsSettledKey (node_lists c.ask_key-answer.new.nodes) (key g a)) (before g a) (now g a) c.args.steps.now
    c.ask_key-answer.new.steps s.0 s.2 refl c.fault_of_stop.result (c.fault_of_stop.ensures s.0 s.1))

-- ---- the function has no name fault
asked : (g : _) (c : After-ask_key-answer g) (n : ℕ) → c.ask_key-answer.result ≡ Ok n → Holds g c (Ok n)
asked g c n is =
    answered_ok (table_of_deck c.self.inside.deck) (node_lists c.ask_key-answer.new.nodes)
    c.ask_key-answer.new.explored.dead_ends.items c.ask_key-answer.new.explored.findings.faults
    (Holds g c) c.ask_key-answer.result n is c.ask_key-answer.ensures.asked

pub evaluate_inverse-requires-clause-sound : goal.evaluate_inverse-requires-clause-sound
evaluate_inverse-requires-clause-sound g c = (c.ask_key-answer.new.reductions, c.ask_key-answer.ensures.live.is_sound)

pub evaluate_inverse-requires-clause-settled : goal.evaluate_inverse-requires-clause-settled
evaluate_inverse-requires-clause-settled g c =
    (asked g (goal.at.evaluate_inverse-requires-clause-settled g c).After-ask_key-answer c.in-Ok.n c.in-Ok.is).1.1

pub evaluate_inverse-requires-clause-function : goal.evaluate_inverse-requires-clause-function
evaluate_inverse-requires-clause-function g c =
    ap (λ (x : Key). x.kind)
    (sym (asked g (goal.at.evaluate_inverse-requires-clause-function g c).After-ask_key-answer c.in-Ok.n
    c.in-Ok.is).1.0)

pub returns-clause-answer : goal.returns-clause-answer
returns-clause-answer g c =
    let a = asked g (goal.at.returns-clause-answer g c).After-ask_key-answer c.in-Ok.n c.in-Ok.is in
    subst (λ (s : LiveView). spec.IsLiveQueryResult c.evaluate_inverse.result
    (spec.live_inverse_answer (table_of_deck s.deck) c.args.name.now
    c.args.value.now)) c.self.view_is
    (live_answer_without_name_fault (key_fault (table_of_deck c.self.inside.deck) (key_named kind.Func c.args.name.now))
    (spec.live_inverse_value (key_meaning (table_of_deck c.self.inside.deck) (key_named kind.Func c.args.name.now))
    c.args.value.now)
    c.evaluate_inverse.result a.0
    (subst (λ (x : Key). spec.IsLiveQueryResult c.evaluate_inverse.result (spec.live_answer_of_value None
    (spec.live_inverse_value (key_meaning (table_of_deck c.self.inside.deck) x) c.args.value.now)))
    (sym a.1.0) c.evaluate_inverse.ensures))

pub returns-clause-after : goal.returns-clause-after
returns-clause-after g c =
    whole_event_is_live_query (AsksKey (key_named kind.Func c.args.name.now)) c.evaluate_inverse.result c.args.self.now
    (live_view_of_nodes c.self.inside.deck (node_lists c.ask_key-answer.new.nodes) c.ask_key-answer.new.reductions)
    c.args.steps.now
    c.ask_key-answer.new.steps
    (ap (λ (s : LiveView). s.deck) c.self.view_is)
    (subst (λ (s : LiveView). IsAfterLiveEvents (AsksKey (key_named kind.Func c.args.name.now) ∷ []) s
    (live_view_of_nodes c.self.inside.deck (node_lists c.ask_key-answer.new.nodes) c.ask_key-answer.new.reductions)
    c.args.steps.now
    c.ask_key-answer.new.steps) c.self.view_is
    (asked g (goal.at.returns-clause-after g c).After-ask_key-answer c.in-Ok.n c.in-Ok.is).2)
