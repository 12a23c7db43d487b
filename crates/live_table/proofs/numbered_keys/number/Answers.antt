use Rattle.std.proofs.Common.{refl}
use Rattle.def_entry.specs.Keys.{key as key_named}
use Rattle.def_entry.specs.SameKeys.{is_entry_key_among}
use Rattle.live_table.proofs.KeyNumbers.{new_number_grows_node_keys, nodes_with_number_are_flagged}
use Rattle.live_table.proofs.KeyNumbers.{numbered_key_extends_nodes}
use Rattle.live_table.proofs.numbered_keys.number.Goals as goal

pub returns-clause-kept : goal.returns-clause-kept
returns-clause-kept g c =
    let keys = g.P.Present.keys c.args.table.now in
    let k = key_named c.args.kind c.args.name.now in
    numbered_key_extends_nodes keys c.args.nodes.now c.add.new.self k (is_entry_key_among keys k) c.in_ok-n.n
    c.in_ok-n.ensures.ok refl
    c.add.ensures.gathered

pub returns-clause-flagged : goal.returns-clause-flagged
returns-clause-flagged g c =
    let keys = g.P.Present.keys c.args.table.now in
    let k = key_named c.args.kind c.args.name.now in
    nodes_with_number_are_flagged keys c.args.nodes.now c.add.new.self k (is_entry_key_among keys k) c.in_ok-n.n
    c.in_ok-n.ensures.ok refl
    c.requires

pub returns-clause-more : goal.returns-clause-more
returns-clause-more g c =
    let keys = g.P.Present.keys c.args.table.now in
    let k = key_named c.args.kind c.args.name.now in
    new_number_grows_node_keys c.args.nodes.now c.add.new.self k (is_entry_key_among keys k) c.in_ok-n.n
    c.in_ok-n.ensures.ok
