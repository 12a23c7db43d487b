use Rattle.std.proofs.Common.{◌≡◌, true, [], subst, refl}
use Rattle.def_entry.specs.declared.key.Key.{Key}
use Rattle.def_entry.specs.Tables.{is_entry_present}
use Rattle.deck.specs.Tables.{table_of_deck}
use Rattle.live_table.specs.TableContents.{node_lists}
use Rattle.live_table.proofs.AddedNames.{two_node_additions_are_one}
use Rattle.live_table.proofs.KeyNumbers.{nodes_are_flagged_by_table}
use Rattle.live_table.proofs.numbered_keys.put_key.Goals as goal

pub number-requires : goal.number-requires
number-requires c = nodes_are_flagged_by_table (table_of_deck c.args.deck.now) c.args.nodes.now
    c.requires.nodes.flags_right

pub returns-in_err-n-clause-added : goal.returns-in_err-n-clause-added
returns-in_err-n-clause-added c ends =
    c.number.ensures.kept.numbered_names (table_of_deck c.args.deck.now) refl c.requires.nodes c.args.explored.now
    c.args.worklist.now
    ends
    c.requires.listed

pub put_target-requires-clause-nodes : goal.put_target-requires-clause-nodes
put_target-requires-clause-nodes c = (
  table_of_deck c.args.deck.now,
  (c.number.ensures.kept.numbered_names (table_of_deck c.args.deck.now) refl c.requires.nodes c.args.explored.now
      c.args.worklist.now []
      c.requires.listed).growth.nodes,
)

pub returns-in_err-put_target-clause-added : goal.returns-in_err-put_target-clause-added
returns-in_err-put_target-clause-added c ends =
    let t = table_of_deck c.args.deck.now in
    let a = c.number.ensures.kept.numbered_names t refl c.requires.nodes c.args.explored.now c.args.worklist.now ends
    c.requires.listed in
    two_node_additions_are_one t (node_lists c.args.nodes.now) (node_lists c.number.new.nodes)
    (node_lists c.number.new.nodes)
    c.args.explored.now c.args.worklist.now c.args.worklist.now c.put_target.new.worklist ends ends ends a
    (c.put_target.ensures.added t ends a.growth.nodes a.growth.list_right
    (subst (λ (k : Key). is_entry_present t k ≡ true) c.in_ok-n.ensures.number.1 c.requires.present))

pub returns-clause-added : goal.returns-clause-added
returns-clause-added c ends =
    let t = table_of_deck c.args.deck.now in
    let a = c.number.ensures.kept.numbered_names t refl c.requires.nodes c.args.explored.now c.args.worklist.now ends
    c.requires.listed in
    two_node_additions_are_one t (node_lists c.args.nodes.now) (node_lists c.number.new.nodes)
    (node_lists c.number.new.nodes)
    c.args.explored.now c.args.worklist.now c.args.worklist.now c.put_target.new.worklist ends ends ends a
    (c.put_target.ensures.added t ends a.growth.nodes a.growth.list_right
    (subst (λ (k : Key). is_entry_present t k ≡ true) c.in_ok-n.ensures.number.1 c.requires.present))
