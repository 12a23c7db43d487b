use Rattle.std.proofs.Common.{◌≤◌, length}
use Rattle.def_entry.specs.SameKeys.{is_entry_key_among}
use Rattle.name_lookup.proofs.Prefixing.{AreTried}
use Rattle.name_lookup.proofs.key_search.Search.try_prefixes.Given as goal

abbrev pub invariant-loop-len : goal.invariant-loop-len
invariant-loop-len g l = record {
  within : l.len ≤ length l.word;
  tried : AreTried (is_entry_key_among (g.P.Present.keys l.self.table.now)) l.word (g.L.Looking.looked l.fn.looking)
      (g.L.Looking.looked l.looking) l.len;
  ready : g.L.Looking.can_look (g.P.Present.keys l.self.table.now) l.looking;
  kept : (start : g.row.L.Denot) → g.L.Looking.is_kept (g.P.Present.keys l.self.table.now) start l.fn.looking
      → g.L.Looking.is_kept (g.P.Present.keys l.self.table.now) start l.looking;
}

abbrev pub decreases-loop-len : goal.decreases-loop-len
decreases-loop-len g l = l.len
