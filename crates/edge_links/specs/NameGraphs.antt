-- The view of edges between names.
use Rattle.std.specs.Prelude.{ℕ, List}
use Rattle.edge_links.specs.Edges.{LinkEdge}

-- the number of names, which names use which, and which names looked at which other keys
pub record NameEdgeGraph : Type 0 where
  pub names : ℕ
  pub uses : List LinkEdge
  pub looks : List LinkEdge
