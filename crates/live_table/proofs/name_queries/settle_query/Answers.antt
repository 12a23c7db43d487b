use Rattle.std.proofs.Common.{List, Ok, Err, Result, ap, inl, inr, refl, subst, sym, ◌∙◌}
use Rattle.std.proofs.lemmas.Result.{err_from_is_err_and}
use Rattle.deck.specs.Tables.{table_of_deck}
use Rattle.live_table.specs.declared.dead_end.DeadEnd.{DeadEnd}
use Rattle.live_table.specs.declared.fault.QueryFault.{QueryFault}
use Rattle.live_table.specs.declared.stop.Stop.TheVariants.{Below}
use Rattle.live_table.specs.QueryEffects.{AreUnsettledNamesClosed, IsLiveQueryAnswered}
use Rattle.live_table.specs.Due.{AreDueToBeSettled}
use Rattle.live_table.specs.Exploration.{is_known_to_exploration}
use Rattle.live_table.specs.KnownFaults.{IsFirstExploredFault}
use Rattle.live_table.specs.Stops.{HoldsOfNamedLiveResult}
use Rattle.live_table.specs.TableContents.{live_view_of_nodes, node_lists}
use Rattle.live_table.proofs.AllExplored.{explored_all}
use Rattle.live_table.proofs.DueOrder.{are_due}
use Rattle.live_table.proofs.KnownFaults.{explored_faults_after_settling}
use Rattle.live_table.proofs.StopAnswers.{no_memory, stopped_below}
use Rattle.live_table.proofs.name_queries.settle_query.Goals as goal
use Rattle.live_table.proofs.name_queries.settle_query.Goals.{In_default}

pub returns-in_err-step-clause-answered : goal.returns-in_err-step-clause-answered
returns-in_err-step-clause-answered g c =
    let p = err_from_is_err_and c.from_residual.result c.from_residual.ensures.1 in
    no_memory (table_of_deck c.args.deck.now) (node_lists c.args.nodes.now) c.first_faulty.new.explored.dead_ends.items
    c.first_faulty.new.explored.findings.faults _ c.from_residual.result (p.1 ∙ ap Err p.2)
    (inl (record { table_after = refl; steps = refl }))

-- ---- a step has a fault
pub returns-in-Some-clause-answered : goal.returns-in-Some-clause-answered
returns-in-Some-clause-answered g c =
    let t = table_of_deck c.args.deck.now in
    let l = node_lists c.args.nodes.now in
    let found = subst (IsFirstExploredFault l c.args.query.now c.first_faulty.new.walker
    c.first_faulty.new.explored.findings.faults) c.in-Some.is c.in_ok-step.ensures.found in
    subst (λ (ends : List DeadEnd). HoldsOfNamedLiveResult t l ends c.first_faulty.new.explored.findings.faults
    (Err (Below c.in-Some.step))
    (λ (answer : Result (Unit {0}) QueryFault). IsLiveQueryAnswered t l c.args.explored.now.dead_ends.items
    c.args.query.now
    answer (live_view_of_nodes c.args.deck.now l c.args.reductions.now)
    (live_view_of_nodes c.args.deck.now l c.args.reductions.now)
    c.args.steps.now c.args.steps.now)) (sym c.first_faulty.ensures.dead_ends)
    (stopped_below t l c.args.explored.now.dead_ends.items c.first_faulty.new.explored.findings.faults
    c.args.query.now c.in-Some.step found.0 found.1 (live_view_of_nodes c.args.deck.now l c.args.reductions.now)
    c.args.steps.now)

-- ---- no step has a fault
closing : (g : _) (c : In_default g) → AreUnsettledNamesClosed (node_lists c.args.nodes.now) c.args.query.now
    c.first_faulty.new.walker
closing g c =
    subst (IsFirstExploredFault (node_lists c.args.nodes.now) c.args.query.now c.first_faulty.new.walker
    c.first_faulty.new.explored.findings.faults) c.in_default.is c.in_ok-step.ensures.found

pub settle-requires-clause-order : goal.settle-requires-clause-order
settle-requires-clause-order g c =
    let explored = explored_all (table_of_deck c.args.deck.now) (node_lists c.args.nodes.now) c.args.explored.now.names
    c.args.scratch.now.worklist c.args.explored.now.dead_ends.items c.requires.live.is_sound.numbers c.requires.all in
    subst (AreDueToBeSettled (table_of_deck c.args.deck.now) (node_lists c.args.nodes.now)) (sym c.order-order.ensures)
    (are_due c.numbered_fault_law.ensures (table_of_deck c.args.deck.now) (node_lists c.args.nodes.now)
    c.args.explored.now.dead_ends.items
    (is_known_to_exploration c.args.nodes.now.settled.items c.args.explored.now.names c.args.scratch.now.worklist)
    c.args.query.now
    c.first_faulty.new.walker c.requires.live.is_sound.numbers explored c.requires.known
    (closing g (goal.at.settle-requires-clause-order g c).In_default).closes)

pub returns-in_err-settle-clause-explored : goal.returns-in_err-settle-clause-explored
returns-in_err-settle-clause-explored g c =
    c.settle.ensures.explored c.first_faulty.new.explored.names c.first_faulty.new.explored.dead_ends.items
    c.first_faulty.ensures.explored

pub returns-in_err-settle-clause-faults : goal.returns-in_err-settle-clause-faults
returns-in_err-settle-clause-faults g c =
    explored_faults_after_settling c.findings_law.ensures (table_of_deck c.args.deck.now) (node_lists c.args.nodes.now)
    (node_lists c.settle.new.nodes)
    c.first_faulty.new.explored.names c.first_faulty.new.explored.findings c.settle.ensures.sound.numbers
    c.settle.ensures.later c.first_faulty.ensures.faults

pub returns-in_err-settle-clause-answered : goal.returns-in_err-settle-clause-answered
returns-in_err-settle-clause-answered g c =
    let p = err_from_is_err_and c.from_residual-in_err-settle.result c.from_residual-in_err-settle.ensures.1 in
    no_memory (table_of_deck c.args.deck.now) (node_lists c.settle.new.nodes)
    c.first_faulty.new.explored.dead_ends.items
    c.first_faulty.new.explored.findings.faults _ c.from_residual-in_err-settle.result (p.1 ∙ ap Err p.2)
    (inr (
      c.order-order.result.now,
      subst (AreUnsettledNamesClosed (node_lists c.args.nodes.now) c.args.query.now) (sym c.order-order.ensures)
          (closing g (goal.at.returns-in_err-settle-clause-answered g c).In_default),
      c.in_err-settle.ensures.settled,
    ))

pub returns-clause-explored : goal.returns-clause-explored
returns-clause-explored g c =
    c.settle.ensures.explored c.first_faulty.new.explored.names c.first_faulty.new.explored.dead_ends.items
    c.first_faulty.ensures.explored

pub returns-clause-faults : goal.returns-clause-faults
returns-clause-faults g c =
    explored_faults_after_settling c.findings_law.ensures (table_of_deck c.args.deck.now) (node_lists c.args.nodes.now)
    (node_lists c.settle.new.nodes)
    c.first_faulty.new.explored.names c.first_faulty.new.explored.findings c.settle.ensures.sound.numbers
    c.settle.ensures.later c.first_faulty.ensures.faults

pub returns-clause-answered : goal.returns-clause-answered
returns-clause-answered g c = record {
  named_answer = Ok tt;
  result_named = refl;
  answer_holds = (
    c.order-order.result.now,
    subst (AreUnsettledNamesClosed (node_lists c.args.nodes.now) c.args.query.now) (sym c.order-order.ensures)
        (closing g (goal.at.returns-clause-answered g c).In_default),
    c.in_ok-settle.ensures.settled,
  );
}
