-- Edges, and the view of linked edges.
use Rattle.std.specs.Prelude.{◌≡◌, ◌&&◌, ℕ, ◌+◌, nat_eq, if◌then◌else◌, List, [], ◌∷◌}

-- an edge from a user to a key that it looked at
pub record LinkEdge : Type 0 where
  pub user : ℕ
  pub key : ℕ

abbrev pub link_edge : ℕ → ℕ → LinkEdge
link_edge user key = record { user = user; key = key }

-- the number of edges from a user to a key
abbrev pub link_edge_count : List LinkEdge → ℕ → ℕ → ℕ
link_edge_count [] user key = 0
link_edge_count (e ∷ es) user key = (if nat_eq e.user user && nat_eq e.key key then 1 else 0) + link_edge_count es user
    key

-- two lists have the same edges, in any order
abbrev pub AreSameLinkEdges : List LinkEdge → List LinkEdge → Type 0
AreSameLinkEdges es ds = (user key : ℕ) → link_edge_count es user key ≡ link_edge_count ds user key

-- the number of nodes, the edges, whose order does not matter, and the number of edges for which there is more room
pub record LinkGraph : Type 0 where
  pub nodes : ℕ
  pub edges : List LinkEdge
  pub spare : ℕ
