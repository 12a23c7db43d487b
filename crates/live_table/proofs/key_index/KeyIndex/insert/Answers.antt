use Rattle.std.proofs.Common.{List, subst}
use Rattle.def_entry.specs.Keys.{key}
use Rattle.def_entry.specs.declared.key.Key.{Key}
use Rattle.live_table.specs.KeyIndex.{IsNodeKeyAdded, decoded_node_keys}
use Rattle.live_table.proofs.IndexKeys.{key_gets_number}
use Rattle.live_table.proofs.key_index.KeyIndex.insert.Goals as goal

pub returns-clause-ok : goal.returns-clause-ok
returns-clause-ok c =
    let k = key c.args.kind c.args.name.now in
    subst (λ (keys : List Key). IsNodeKeyAdded k keys (decoded_node_keys c.insert_full.new.self.keys)
    c.in_ok-number.number
    c.in_ok-number.is_new) c.self.view_is
    (key_gets_number c.self.inside.wanted.capacity c.self.inside.keys.keys c.insert_full.new.self.keys k
    c.in_ok-bytes.bytes
    c.self.invariant c.in_ok-bytes.ensures c.in_ok-number.ensures.keys c.in_ok-number.number c.in_ok-number.is_new
    c.in_ok-number.ensures.added c.in_ok-number.ensures.stored)
