use Rattle.std.proofs.Common.{◌≤◌, ◌-◌, ℕ, length, ap, subst, sym}
use Rattle.deck.specs.Tables.{table_of_deck}
use Rattle.name_lookup.specs.declared.targets.Targets.{Targets}
use Rattle.name_lookup.specs.Targets.{last_lookup_keys, lookup_target_count}
use Rattle.live_table.specs.declared.word_targets.Destination.TheVariants.{Two}
use Rattle.live_table.specs.WordTargets.{LeadsToNodeKeys}
use Rattle.live_table.specs.TableContents.{node_lists}
use Rattle.live_table.proofs.TriedNumbers.{added_names_keep_node_keys, added_nodes_are_sound}
use Rattle.live_table.proofs.TriedNumbers.{lead_to_last_two_node_keys, node_name_additions_in_turn}
use Rattle.live_table.proofs.tried_numbers.number_targets.Goals as goal

pub number_at-requires-in-LastTwo-2-clause-nodes : goal.number_at-requires-in-LastTwo-2-clause-nodes
number_at-requires-in-LastTwo-2-clause-nodes c =
    added_nodes_are_sound (table_of_deck c.args.deck.now) (node_lists c.args.nodes.now)
    (node_lists c.number_at-in-LastTwo.new.nodes)
    c.number_at-in-LastTwo.ensures.added

pub returns-in_err-m-in-LastTwo-clause-added : goal.returns-in_err-m-in-LastTwo-clause-added
returns-in_err-m-in-LastTwo-clause-added c =
    node_name_additions_in_turn (table_of_deck c.args.deck.now) (node_lists c.args.nodes.now)
    (node_lists c.number_at-in-LastTwo.new.nodes)
    (node_lists c.number_at-in-LastTwo-2.new.nodes) c.number_at-in-LastTwo.ensures.added
    c.number_at-in-LastTwo-2.ensures.added

pub returns-in_ok-m-in-LastTwo-clause-added : goal.returns-in_ok-m-in-LastTwo-clause-added
returns-in_ok-m-in-LastTwo-clause-added c =
    node_name_additions_in_turn (table_of_deck c.args.deck.now) (node_lists c.args.nodes.now)
    (node_lists c.number_at-in-LastTwo.new.nodes)
    (node_lists c.number_at-in-LastTwo-2.new.nodes) c.number_at-in-LastTwo.ensures.added
    c.number_at-in-LastTwo-2.ensures.added

pub returns-in_ok-m-in-LastTwo-clause-destination : goal.returns-in_ok-m-in-LastTwo-clause-destination
returns-in_ok-m-in-LastTwo-clause-destination c =
    let keys = c.number_at-in-LastTwo-2.new.nodes.keys in
    subst (λ (which : Targets). LeadsToNodeKeys keys (last_lookup_keys (lookup_target_count which) c.args.tried.now)
    (Two c.in_ok-n-in-LastTwo.n c.in_ok-m-in-LastTwo.m)) (sym c.in-LastTwo.is)
    (lead_to_last_two_node_keys c.number_at-in-LastTwo.new.nodes.keys keys c.args.tried.now
    (c.len-in-LastTwo.result - 2)
    (c.len-in-LastTwo-2.result - 1) c.in_ok-n-in-LastTwo.n c.in_ok-m-in-LastTwo.m
    (subst (λ (which : Targets). lookup_target_count which ≤ length c.args.tried.now) c.in-LastTwo.is c.requires.enough)
    (ap (λ (x : ℕ). x - 2) c.len-in-LastTwo.ensures) (ap (λ (x : ℕ). x - 1) c.len-in-LastTwo-2.ensures)
    (added_names_keep_node_keys (table_of_deck c.args.deck.now) (node_lists c.number_at-in-LastTwo.new.nodes)
    (node_lists c.number_at-in-LastTwo-2.new.nodes) c.number_at-in-LastTwo-2.ensures.added)
    c.in_ok-n-in-LastTwo.ensures.number c.in_ok-m-in-LastTwo.ensures.number)
