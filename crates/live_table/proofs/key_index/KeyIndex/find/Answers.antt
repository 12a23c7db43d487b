use Rattle.std.proofs.Common.{◌≡◌, Some, List, false, slice_get, subst}
use Rattle.std.specs.Prelude.{MatchOption}
use Rattle.def_entry.specs.Keys.{key}
use Rattle.def_entry.specs.SameKeys.{is_entry_key_among}
use Rattle.def_entry.specs.declared.key.Key.{Key}
use Rattle.live_table.proofs.IndexKeys.{number_in}
use Rattle.live_table.proofs.key_index.KeyIndex.find.Goals as goal

pub returns : goal.returns
returns c =
    let k = key c.args.kind c.args.name.now in
    subst (λ (keys : List Key). MatchOption c.get_index_of.result (is_entry_key_among keys k ≡ false)
    (λ n. slice_get keys n ≡ Some k)) c.self.view_is
    (number_in c.self.inside.wanted.capacity c.self.inside.keys.keys k c.in_ok-wanted.wanted.items
    c.get_index_of.result c.self.invariant c.in_ok-wanted.ensures c.get_index_of.ensures.index
    c.get_index_of.ensures.found)
