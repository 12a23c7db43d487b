use Rattle.std.proofs.Common.{◌≡◌, ◌+◌, ℕ, map, take}
use Rattle.edge_links.specs.Edges.{link_edge_count}
use Rattle.edge_links.specs.NameNodes.{edge_to}
use Rattle.edge_links.proofs.user_edges.link_all.Given as goal

abbrev pub invariant-loop-key : goal.invariant-loop-key
invariant-loop-key l = record {
  edges : (x y : ℕ) → link_edge_count l.links.edges x y
      ≡ link_edge_count (map (edge_to l.remainder l.user) (take l.key-index l.keys)) x y + link_edge_count
      l.fn.links.edges x y;
  spare : l.links.spare + l.key-index ≡ l.fn.links.spare;
  nodes : l.links.nodes ≡ l.fn.links.nodes;
}
