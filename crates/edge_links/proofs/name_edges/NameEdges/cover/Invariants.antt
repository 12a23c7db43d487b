use Rattle.std.proofs.Common.{◌≡◌, ◌-◌, ◌≤◌, max}
use Rattle.edge_links.proofs.name_edges.NameEdges.cover.Given as goal

abbrev pub invariant-loop-alloc : goal.invariant-loop-alloc
invariant-loop-alloc l = record {
  rest : l.self ≡ record l.fn.self { names = l.self.names };
  no_less : l.fn.self.names ≤ l.self.names;
  within : l.self.names ≤ max l.fn.self.names l.count;
}

abbrev pub decreases-loop-alloc : goal.decreases-loop-alloc
decreases-loop-alloc l = l.count - l.self.names
