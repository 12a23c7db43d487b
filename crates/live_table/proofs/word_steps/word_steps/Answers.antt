use Rattle.std.proofs.Common.{length, sym, ◌∙◌}
use Rattle.deck.specs.Tables.{table_of_deck}
use Rattle.live_table.specs.TableContents.{node_lists}
use Rattle.live_table.proofs.AddedNames.{no_nodes_are_added, two_node_additions_are_one}
use Rattle.live_table.proofs.DestinationSteps.{destination_present, destination_within}
use Rattle.live_table.proofs.DestinationSteps.{node_destination_is_query_destination, nowhere_written}
use Rattle.live_table.proofs.DestinationSteps.{steps_looked, steps_written}
use Rattle.live_table.proofs.LookedKeys.{dead_end_needs_no_node_looks}
use Rattle.live_table.proofs.WrittenSteps.{all_ok}
use Rattle.live_table.proofs.word_steps.word_steps.Goals as goal

pub returns-in_err-destination-clause-added : goal.returns-in_err-destination-clause-added
returns-in_err-destination-clause-added c = c.destination_of.ensures.added c.args.explored.now c.args.worklist.now
    c.args.dead_ends.now.items c.requires.listed

pub target_steps-requires-clause-nodes : goal.target_steps-requires-clause-nodes
target_steps-requires-clause-nodes c = (
  table_of_deck c.args.deck.now,
  (c.destination_of.ensures.added c.args.explored.now c.args.worklist.now c.args.dead_ends.now.items
      c.requires.listed).growth.nodes,
)

pub target_steps-requires-clause-within : goal.target_steps-requires-clause-within
target_steps-requires-clause-within c =
    let t = table_of_deck c.args.deck.now in
    let keys = c.destination_of.new.nodes.keys in
    destination_within t keys c.args.u.now c.in_ok-destination.destination
    (node_destination_is_query_destination t keys c.args.u.now c.args.nodes.now.gathered
    c.destination_of.new.nodes.gathered
    c.in_ok-destination.destination
    c.in_ok-destination.ensures.destination)

pub returns-in_err-steps-clause-added : goal.returns-in_err-steps-clause-added
returns-in_err-steps-clause-added c =
    let t = table_of_deck c.args.deck.now in
    let l = node_lists c.destination_of.new.nodes in
    let ends = c.args.dead_ends.now.items in
    let a = c.destination_of.ensures.added c.args.explored.now c.args.worklist.now ends c.requires.listed in
    two_node_additions_are_one t (node_lists c.args.nodes.now) l l c.args.explored.now c.args.worklist.now
    c.args.worklist.now
    c.target_steps.new.worklist ends ends ends a
    (c.target_steps.ensures.added t ends a.growth.nodes a.growth.list_right
    (destination_present t l.keys c.args.u.now c.in_ok-destination.destination
    (node_destination_is_query_destination t l.keys c.args.u.now c.args.nodes.now.gathered
    c.destination_of.new.nodes.gathered
    c.in_ok-destination.destination
    c.in_ok-destination.ensures.destination)))

-- ---- a word with targets
pub returns-in-Some-clause-added : goal.returns-in-Some-clause-added
returns-in-Some-clause-added c =
    let t = table_of_deck c.args.deck.now in
    let l = node_lists c.destination_of.new.nodes in
    let ends = c.args.dead_ends.now.items in
    let a = c.destination_of.ensures.added c.args.explored.now c.args.worklist.now ends c.requires.listed in
    two_node_additions_are_one t (node_lists c.args.nodes.now) l l c.args.explored.now c.args.worklist.now
    c.args.worklist.now
    c.target_steps.new.worklist ends ends ends a
    (c.target_steps.ensures.added t ends a.growth.nodes a.growth.list_right
    (destination_present t l.keys c.args.u.now c.in_ok-destination.destination
    (node_destination_is_query_destination t l.keys c.args.u.now c.args.nodes.now.gathered
    c.destination_of.new.nodes.gathered
    c.in_ok-destination.destination
    c.in_ok-destination.ensures.destination)))

pub returns-in-Some-clause-written : goal.returns-in-Some-clause-written
returns-in-Some-clause-written c =
    let t = table_of_deck c.args.deck.now in
    let l = node_lists c.destination_of.new.nodes in
    steps_written t l c.args.explored.now c.target_steps.new.worklist c.args.dead_ends.now.items c.args.u.now
    c.in_ok-destination.destination c.in-Some.steps
    (node_destination_is_query_destination t l.keys c.args.u.now c.args.nodes.now.gathered
    c.destination_of.new.nodes.gathered
    c.in_ok-destination.destination
    c.in_ok-destination.ensures.destination)
    c.in_ok-steps.ensures.known (sym c.in-Some.is ∙ c.in_ok-steps.ensures.steps)

pub returns-in-Some-clause-looks : goal.returns-in-Some-clause-looks
returns-in-Some-clause-looks c all =
    steps_looked (table_of_deck c.args.deck.now) c.destination_of.new.nodes.keys c.args.u.now c.args.nodes.now.gathered
    c.destination_of.new.nodes.gathered c.in_ok-destination.destination c.in-Some.steps
    c.in_ok-destination.ensures.destination
    (sym c.in-Some.is ∙ c.in_ok-steps.ensures.steps)

-- ---- a word that leads nowhere
pub returns-in-None-clause-added : goal.returns-in-None-clause-added
returns-in-None-clause-added c =
    let t = table_of_deck c.args.deck.now in
    let l = node_lists c.destination_of.new.nodes in
    let ends = c.args.dead_ends.now.items in
    let more = c.put_dead_end.new.dead_ends.items in
    let list = c.target_steps.new.worklist in
    let a = c.destination_of.ensures.added c.args.explored.now c.args.worklist.now ends c.requires.listed in
    let b = c.target_steps.ensures.added t ends a.growth.nodes a.growth.list_right
    (destination_present t l.keys c.args.u.now c.in_ok-destination.destination
    (node_destination_is_query_destination t l.keys c.args.u.now c.args.nodes.now.gathered
    c.destination_of.new.nodes.gathered
    c.in_ok-destination.destination
    c.in_ok-destination.ensures.destination)) in
    two_node_additions_are_one t (node_lists c.args.nodes.now) l l c.args.explored.now c.args.worklist.now
    c.args.worklist.now list ends
    ends
    more a
    (two_node_additions_are_one t l l l c.args.explored.now c.args.worklist.now list list ends ends more b
    (no_nodes_are_added t l c.args.explored.now list ends more b.growth.nodes b.growth.list_right
    c.put_dead_end.ensures.more))

pub returns-in-None-clause-written : goal.returns-in-None-clause-written
returns-in-None-clause-written c =
    let t = table_of_deck c.args.deck.now in
    let l = node_lists c.destination_of.new.nodes in
    all_ok c.put_dead_end.result _ _ _ _ c.put_dead_end.ensures.put c.put_dead_end.ensures.first
    c.put_dead_end.ensures.second
    (λ x put p q. nowhere_written t l c.args.explored.now c.target_steps.new.worklist c.args.dead_ends.now.items
    c.args.u.now c.put_dead_end.new.dead_ends.items c.in_ok-destination.destination x.first x.second
    (node_destination_is_query_destination t l.keys c.args.u.now c.args.nodes.now.gathered
    c.destination_of.new.nodes.gathered
    c.in_ok-destination.destination
    c.in_ok-destination.ensures.destination)
    (sym c.in-None.is ∙ c.in_ok-steps.ensures.steps) put p q)

pub returns-in-None-clause-looks : goal.returns-in-None-clause-looks
returns-in-None-clause-looks c =
    all_ok c.put_dead_end.result _ _ _ _ c.put_dead_end.ensures.put c.put_dead_end.ensures.first
    c.put_dead_end.ensures.second
    (λ x put p q. dead_end_needs_no_node_looks (table_of_deck c.args.deck.now) c.destination_of.new.nodes.keys
    c.args.u.now
    x.first x.second
    (length c.args.dead_ends.now.items) c.args.nodes.now.gathered c.destination_of.new.nodes.gathered p)
