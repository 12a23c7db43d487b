-- The view of places: the edges between the nodes whose heads they connect.
use Rattle.std.specs.Prelude.{◌≡◌, ◌==◌, ◌||◌, ℕ, zero, suc, ◌-◌, ◌<◌, if◌then◌else◌, List, [], ◌∷◌, ◌++◌, length}
use Rattle.std.specs.Prelude.{false, slice_index, slice_index_or}
use Rattle.edge_links.specs.Edges.{LinkEdge, link_edge, LinkGraph}
use Rattle.edge_links.specs.Owners.{LinkOwners, IsLinkHead, link_owned_count}

-- the edge at a place, if it is one
abbrev pub link_edge_at : LinkOwners → ℕ → List LinkEdge
link_edge_at s p =
    if (slice_index s.users p == p) || (slice_index s.users p == 0) then []
    else (link_edge (slice_index s.names (slice_index s.users p)) (slice_index s.names (slice_index s.keys p)) ∷ [])

-- the edges at the first n places
abbrev pub link_edges_below : LinkOwners → ℕ → List LinkEdge
link_edges_below s zero = []
link_edges_below s (suc n) = link_edge_at s n ++ link_edges_below s n

abbrev pub link_graph_of : LinkOwners → List ℕ → LinkGraph
link_graph_of s nodes = record {
  nodes = length nodes;
  edges = link_edges_below s (length s.users);
  spare = link_owned_count 0 s.users - 1;
}

-- each node is the name of its place, which is a head, each head is the place of its name, and no place is waiting
pub record AreLinks (s : LinkOwners) (nodes : List ℕ) : Type 0 where
  pub size : length s.names ≡ length s.users
  pub places : (i : ℕ) → i < length nodes
      → IsLinkHead s (slice_index nodes i) × (slice_index s.names (slice_index nodes i) ≡ i)
  pub head_of_name : (x : ℕ) → IsLinkHead s x
      → (slice_index s.names x < length nodes) × (slice_index nodes (slice_index s.names x) ≡ x)
  pub idle : (x : ℕ) → slice_index_or s.waits x false ≡ false
