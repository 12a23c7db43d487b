use Rattle.std.proofs.Common.{◌≡◌, [], List, Some, Result, Ok, Err, IfOk, refl, sym, ◌∙◌, ap, subst, arith}
use Rattle.std.specs.List.{slice_get}
use Rattle.std.proofs.lemmas.Option.{slice_get-get_or}
use Rattle.expr_tree.specs.declared.word_list.WordUse.{WordUse}
use Rattle.deck.specs.Tables.{table_of_deck}
use Rattle.live_table.specs.declared.dead_end.DeadEnd.{DeadEnd}
use Rattle.live_table.specs.declared.query_words.QuerySteps.{QuerySteps}
use Rattle.live_table.specs.Exploration.{AreNodesAdded}
use Rattle.live_table.specs.QueryWords.{AreExploredQuerySteps}
use Rattle.live_table.specs.WordTargets.{is_refused_node_destination}
use Rattle.live_table.specs.TableContents.{node_lists}
use Rattle.live_table.proofs.AddedNames.{two_node_additions_are_one}
use Rattle.live_table.proofs.DestinationSteps.{destination_present, destination_within}
use Rattle.live_table.proofs.QuerySteps.{IsTurn, stepped_added, stepping_cut, stepping_next}
use Rattle.live_table.proofs.query_words.query_steps.Goals as goal
use Rattle.live_table.proofs.query_words.query_steps.Goals.{After-query_destination, After-target_steps}

-- the destination of a word adds these names in this turn
led : (c : After-query_destination) (ends : List DeadEnd)
    → AreNodesAdded (table_of_deck c.args.deck.now) (node_lists c.loop-u.nodes)
    (node_lists c.query_destination.new.nodes)
    c.args.explored.now
    c.loop-u.worklist c.loop-u.worklist ends ends
led c ends =
    c.query_destination.ensures.added c.args.explored.now c.loop-u.worklist ends
    (c.loop-u.invariant.added ends).growth.list_right

pub query_destination-requires : goal.query_destination-requires
query_destination-requires c = (c.loop-u.invariant.added []).growth.nodes

pub returns-in_err-destination-clause-added : goal.returns-in_err-destination-clause-added
returns-in_err-destination-clause-added c ends =
    two_node_additions_are_one (table_of_deck c.args.deck.now) (node_lists c.args.nodes.now) (node_lists c.loop-u.nodes)
    (node_lists c.query_destination.new.nodes)
    c.args.explored.now c.args.worklist.now c.loop-u.worklist c.loop-u.worklist ends ends ends
    (c.loop-u.invariant.added ends) (led (goal.at.returns-in_err-destination-clause-added
    c).After-query_destination ends)

pub target_steps-requires-clause-nodes : goal.target_steps-requires-clause-nodes
target_steps-requires-clause-nodes c = (
  table_of_deck c.args.deck.now,
  (led (goal.at.target_steps-requires-clause-nodes c).After-query_destination
      []).growth.nodes,
)

pub target_steps-requires-clause-within : goal.target_steps-requires-clause-within
target_steps-requires-clause-within c =
    destination_within (table_of_deck c.args.deck.now) c.query_destination.new.nodes.keys c.u-item.result
    c.in_ok-destination.destination
    c.in_ok-destination.ensures.destination

-- this turn, with the word at its place
turn : (c : After-target_steps)
    → IsTurn (table_of_deck c.args.deck.now) (node_lists c.args.nodes.now) (node_lists c.loop-u.nodes)
    (node_lists c.query_destination.new.nodes)
    c.args.explored.now c.args.worklist.now c.loop-u.worklist c.target_steps.new.worklist c.args.words.now
    c.loop-u.steps c.loop-u.u-index c.u-item.result
turn c = record {
  word = ap (λ (xs : List WordUse). slice_get xs c.loop-u.u-index) (sym c.as_slice-u-items.ensures)
      ∙ (slice_get-get_or c.as_slice-u-items.result.now c.loop-u.u-index c.u-item.result (omega arith)
      ∙ ap Some (sym c.u-item.is));
  start = c.loop-u.invariant;
  led = λ ends.
      c.query_destination.ensures.added c.args.explored.now c.loop-u.worklist ends
      (c.loop-u.invariant.added ends).growth.list_right;
  put = λ ends.
      let added = c.query_destination.ensures.added c.args.explored.now c.loop-u.worklist ends
      (c.loop-u.invariant.added ends).growth.list_right in
      c.target_steps.ensures.added (table_of_deck c.args.deck.now) ends added.growth.nodes added.growth.list_right
      (destination_present (table_of_deck c.args.deck.now) c.query_destination.new.nodes.keys c.u-item.result
      c.in_ok-destination.destination
      c.in_ok-destination.ensures.destination);
}

-- the names that the turn adds
added : (c : After-target_steps) (ends : List DeadEnd)
    → AreNodesAdded (table_of_deck c.args.deck.now) (node_lists c.args.nodes.now)
    (node_lists c.query_destination.new.nodes)
    c.args.explored.now
    c.args.worklist.now c.target_steps.new.worklist ends ends
added c ends =
    stepped_added (table_of_deck c.args.deck.now) (node_lists c.args.nodes.now) (node_lists c.loop-u.nodes)
    (node_lists c.query_destination.new.nodes) c.args.explored.now c.args.worklist.now c.loop-u.worklist
    c.target_steps.new.worklist
    c.args.words.now c.loop-u.steps c.loop-u.u-index c.u-item.result (turn c) ends

pub returns-in_err-word-clause-added : goal.returns-in_err-word-clause-added
returns-in_err-word-clause-added c = added (goal.at.returns-in_err-word-clause-added c).After-target_steps

pub returns-in_default-clause-added : goal.returns-in_default-clause-added
returns-in_default-clause-added c = added (goal.at.returns-in_default-clause-added c).After-target_steps

pub returns-in_err-push_steps-clause-added : goal.returns-in_err-push_steps-clause-added
returns-in_err-push_steps-clause-added c = added (goal.at.returns-in_err-push_steps-clause-added c).After-target_steps

-- a property of the only result that there can be
of_result : {A E : Type 0} (P : A → Type 0) (r : Result A E) (x : A) → IfOk r (λ y. y ≡ x) → P x → IfOk r P
of_result P (Ok y) x is holds = subst P (sym is) holds
of_result P (Err e) x is holds = is

pub returns-in_default-clause-steps : goal.returns-in_default-clause-steps
returns-in_default-clause-steps c =
    let end : DeadEnd = record {
      text = c.u-item.result.text;
      is_refused = is_refused_node_destination c.in_ok-destination.destination;
    } in
    of_result (λ (query : QuerySteps). AreExploredQuerySteps (table_of_deck c.args.deck.now)
    (node_lists c.query_destination.new.nodes) c.args.explored.now c.target_steps.new.worklist c.args.words.now
    query.steps query.end) c.cut_before.result (record { steps = c.loop-u.steps; end = Some end })
    c.cut_before.ensures
    (stepping_cut (table_of_deck c.args.deck.now) (node_lists c.args.nodes.now) (node_lists c.loop-u.nodes)
    (node_lists c.query_destination.new.nodes) c.args.explored.now c.args.worklist.now c.loop-u.worklist
    c.target_steps.new.worklist
    c.args.words.now c.loop-u.steps c.loop-u.u-index c.u-item.result
    (turn (goal.at.returns-in_default-clause-steps c).After-target_steps) c.in_ok-destination.destination
    c.in_ok-destination.ensures.destination
    (sym c.in_default.is ∙ c.in_ok-word.ensures.steps) end refl)

pub loop-u-preserved : goal.loop-u-preserved
loop-u-preserved c =
    stepping_next (table_of_deck c.args.deck.now) (node_lists c.args.nodes.now) (node_lists c.loop-u.nodes)
    (node_lists c.query_destination.new.nodes) c.args.explored.now c.args.worklist.now c.loop-u.worklist
    c.target_steps.new.worklist
    c.args.words.now c.loop-u.steps c.loop-u.u-index c.u-item.result
    (turn (goal.at.loop-u-preserved c).After-target_steps) c.in_ok-destination.destination
    c.in_ok-destination.ensures.destination
    c.in_ok-word.ensures.known c.in-Some.word (sym c.in-Some.is ∙ c.in_ok-word.ensures.steps) c.push_steps.new.steps
    c.in_ok-push_steps.ensures
