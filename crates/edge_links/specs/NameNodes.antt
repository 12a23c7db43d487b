-- The two nodes of each name.
use Rattle.std.specs.Prelude.{◌≡◌, ◌&&◌, ℕ, ◌+◌, ◌*◌, ◌/◌, ◌%◌, ◌^◌, ◌≤◌, nat_eq, if◌then◌else◌, List, [], ◌∷◌}
use Rattle.edge_links.specs.Edges.{LinkEdge, link_edge, link_edge_count, LinkGraph}
use Rattle.edge_links.specs.NameGraphs.{NameEdgeGraph}

-- the edge from a node to the node of a key that has this remainder
abbrev pub edge_to : ℕ → ℕ → ℕ → LinkEdge
edge_to remainder user key = link_edge user (key * 2 + remainder)

-- the edges from first nodes to first nodes (remainder 0) or to second nodes (remainder 1), by the numbers of the names
abbrev pub edges_to : ℕ → List LinkEdge → List LinkEdge
edges_to remainder [] = []
edges_to remainder (e ∷ es) =
    if nat_eq (e.user % 2) 0 && nat_eq (e.key % 2) remainder
    then link_edge (e.user / 2) (e.key / 2) ∷ edges_to remainder es
    else edges_to remainder es

-- the graph of names; a last node without a partner belongs to no name yet
abbrev pub name_edge_graph : LinkGraph → NameEdgeGraph
name_edge_graph g = record { names = g.nodes / 2; uses = edges_to 0 g.edges; looks = edges_to 1 g.edges }

-- no second node is a user
pub record AreEdgeNodes (g : LinkGraph) : Type 0 where
  pub users : (x y : ℕ) → link_edge_count g.edges (x * 2 + 1) y ≡ 0
  pub fits : g.nodes ≤ 2 ^ 64
