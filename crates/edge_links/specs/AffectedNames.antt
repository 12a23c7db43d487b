-- The names that a change of a key affects.
use Rattle.std.specs.Prelude.{◌≡◌, ◌⊎◌, ℕ, List, Contains}
use Rattle.edge_links.specs.Edges.{LinkEdge, link_edge_count}
use Rattle.edge_links.specs.Reach.{HasLinkEdge, LinkReaches}
use Rattle.edge_links.specs.NameGraphs.{NameEdgeGraph}

-- the name n is m, or uses it directly or through other names
abbrev pub NeedsByEdges : NameEdgeGraph → ℕ → ℕ → Type 0
NeedsByEdges g n m = (n ≡ m) ⊎ LinkReaches g.uses n m

-- a change of the key affects n: n needs the name of the key, or a name that looked at the key
abbrev pub IsAffectedByEdges : NameEdgeGraph → ℕ → ℕ → Type 0
IsAffectedByEdges g key n = NeedsByEdges g n key ⊎ ((m : ℕ) × HasLinkEdge g.looks m key × NeedsByEdges g n m)

-- a change of one of several keys affects n
abbrev pub AreAffectedByEdges : NameEdgeGraph → List ℕ → ℕ → Type 0
AreAffectedByEdges g keys n = (key : ℕ) × Contains keys key × IsAffectedByEdges g key n

-- the edges from affected users are removed, and all other edges stay
pub record AreEdgesCut (Affected : ℕ → Type 0) (old new : List LinkEdge) : Type 0 where
  pub affected_cleared : (x y : ℕ) → Affected x → link_edge_count new x y ≡ 0
  pub others_unchanged : (x y : ℕ) → (Affected x → ⊥) → link_edge_count new x y ≡ link_edge_count old x y

-- the edges from affected names are removed, and everything else stays
pub record ForgetsNameEdges (Affected : ℕ → Type 0) (old new : NameEdgeGraph) : Type 0 where
  pub names : new.names ≡ old.names
  pub uses : AreEdgesCut Affected old.uses new.uses
  pub looks : AreEdgesCut Affected old.looks new.looks
