use Rattle.std.proofs.Common.{◌<◌, length, arith}
use Rattle.deck.specs.Tables.{table_of_deck}
use Rattle.live_table.specs.TableContents.{node_lists}
use Rattle.live_table.proofs.TriedNumbers.{added_nodes_are_sound, first_node_keys_gather_next}
use Rattle.live_table.proofs.TriedNumbers.{node_name_additions_in_turn}
use Rattle.live_table.proofs.tried_numbers.gather_others.Goals as goal

pub number_at-requires-clause-nodes : goal.number_at-requires-clause-nodes
number_at-requires-clause-nodes c =
    added_nodes_are_sound (table_of_deck c.args.deck.now) (node_lists c.args.nodes.now) (node_lists c.loop-place.nodes)
    c.loop-place.invariant.added

pub returns-in_err-n-clause-added : goal.returns-in_err-n-clause-added
returns-in_err-n-clause-added c =
    node_name_additions_in_turn (table_of_deck c.args.deck.now) (node_lists c.args.nodes.now)
    (node_lists c.loop-place.nodes)
    (node_lists c.number_at.new.nodes) c.loop-place.invariant.added c.number_at.ensures.added

pub returns-in_err-put-clause-added : goal.returns-in_err-put-clause-added
returns-in_err-put-clause-added c =
    node_name_additions_in_turn (table_of_deck c.args.deck.now) (node_lists c.args.nodes.now)
    (node_lists c.loop-place.nodes)
    (node_lists c.number_at.new.nodes) c.loop-place.invariant.added c.number_at.ensures.added

pub loop-place-preserved : goal.loop-place-preserved
loop-place-preserved c =
    let within : c.loop-place.place < length c.args.tried.now =
    omega (arith, c.loop-place-test.true, c.saturating_sub-place-end.ensures, c.len.ensures) in
    first_node_keys_gather_next (table_of_deck c.args.deck.now) (node_lists c.args.nodes.now)
    (node_lists c.loop-place.nodes)
    (node_lists c.number_at.new.nodes) c.args.tried.now c.args.nodes.now.gathered c.loop-place.nodes.gathered
    c.number_at.new.nodes.gathered c.put.new.self c.loop-place.place c.in_ok-n.n c.loop-place.invariant
    c.number_at.ensures.added within c.in_ok-n.ensures.number c.number_at.ensures.gathered c.in_ok-put.ensures.ok
