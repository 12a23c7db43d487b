use Rattle.std.proofs.Common.{◌≡◌, ◌≤◌, Some, List, false, length, slice_get, subst, arith}
use Rattle.std.specs.Prelude.{MatchOption}
use Rattle.def_entry.specs.Keys.{key}
use Rattle.def_entry.specs.SameKeys.{is_entry_key_among}
use Rattle.def_entry.specs.declared.key.Key.{Key}
use Rattle.live_table.specs.KeyIndex.{node_key_bytes}
use Rattle.live_table.proofs.IndexKeys.{number_in, too_long}
use Rattle.live_table.proofs.key_index.KeyIndex.number_of.Goals as goal

pub returns-then-capacity-name-clause-number : goal.returns-then-capacity-name-clause-number
returns-then-capacity-name-clause-number c =
    let room : c.self.inside.wanted.capacity ≤ length c.args.name.now = omega (
      arith,
      c.capacity.ensures.value,
      c.if-capacity-name.true,
    ) in
    subst (λ (keys : List Key). is_entry_key_among keys (key c.args.kind c.args.name.now) ≡ false) c.self.view_is
    (too_long c.self.inside.wanted.capacity c.self.inside.keys.keys (key c.args.kind c.args.name.now) c.self.invariant
    room)

pub returns-clause-number : goal.returns-clause-number
returns-clause-number c =
    let k = key c.args.kind c.args.name.now in
    let written : c.overwrite.new.bytes.items ≡ node_key_bytes k = rw c.unwrap.ensures at c.overwrite.ensures.ok in
    subst (λ (keys : List Key). MatchOption c.get_index_of.result (is_entry_key_among keys k ≡ false)
    (λ n. slice_get keys n ≡ Some k)) c.self.view_is
    (number_in c.self.inside.wanted.capacity c.self.inside.keys.keys k c.overwrite.new.bytes.items
    c.get_index_of.result c.self.invariant written c.get_index_of.ensures.index c.get_index_of.ensures.found)
