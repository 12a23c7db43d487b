-- Laws of forgetting and of linking.
use Rattle.std.specs.Prelude.{◌≡◌, ◌⊎◌, ◌↔◌, ◌++◌, ℕ, Bool, List, [], ◌∷◌, map, Contains}
use Rattle.edge_links.specs.Edges.{LinkEdge, link_edge, AreSameLinkEdges}
use Rattle.edge_links.specs.Reach.{AreMarksCleared, HasLinkEdge}
use Rattle.edge_links.specs.AffectedNames.{AreAffectedByEdges, ForgetsNameEdges, IsAffectedByEdges}
use Rattle.edge_links.specs.NameGraphs.{NameEdgeGraph}

-- law: without a changed key nothing is forgotten; a list of one key affects what the key affects; and forgetting some
-- keys and then others forgets exactly what all of them together affect, and clears no other mark
pub record ForgettingEdgesLaw : Type 0 where
  pub no_key_given : (g : NameEdgeGraph) → ForgetsNameEdges (AreAffectedByEdges g []) g g
  pub none_cleared : (g : NameEdgeGraph) (marks : ℕ → Bool) → AreMarksCleared (AreAffectedByEdges g []) marks marks
  pub one_key : (g : NameEdgeGraph) (key n : ℕ) → AreAffectedByEdges g (key ∷ []) n ↔ IsAffectedByEdges g key n
  pub more_keys : (keys others : List ℕ) (old mid new : NameEdgeGraph)
      → ForgetsNameEdges (AreAffectedByEdges old keys) old mid → ForgetsNameEdges (AreAffectedByEdges mid others) mid
      new
      → ForgetsNameEdges (AreAffectedByEdges old (keys ++ others)) old new
  pub more_cleared : (keys others : List ℕ) (old mid : NameEdgeGraph) (marks then now : ℕ → Bool)
      → ForgetsNameEdges (AreAffectedByEdges old keys) old mid
      → AreMarksCleared (AreAffectedByEdges old keys) marks then → AreMarksCleared (AreAffectedByEdges mid others) then
      now
      → AreMarksCleared (AreAffectedByEdges old (keys ++ others)) marks now

-- law: a linked name has the edges that were added, and all earlier edges stay
abbrev pub AddedEdgesLaw : Type 0
AddedEdgesLaw = (user : ℕ) (keys : List ℕ) (old new : List LinkEdge)
    → AreSameLinkEdges new (map (link_edge user) keys ++ old)
    → (x y : ℕ) → HasLinkEdge new x y ↔ (((x ≡ user) × Contains keys y) ⊎ HasLinkEdge old x y)
