-- The names that a query newly closes.
use Rattle.std.specs.Prelude.{◌≡◌, ◌⊎◌, ◌↔◌, ℕ, Bool, List, [], ◌∷◌, ◌++◌, nat_eq, Contains}
use Rattle.std.specs.List.{IsDistinct}
use Rattle.name_walk.specs.declared.step.Step.{Step}
use Rattle.name_walk.specs.declared.step.Step.TheVariants.{To}
use Rattle.name_walk.specs.ClosedNames.{IsClosedInGraph, IsSettledInGraph, IsSettledOrWalked}
use Rattle.name_walk.specs.Steps.{Graph, GraphLeadsTo, GraphReaches}

-- a name to which a step of the query leads, or one that such a name reaches
abbrev pub IsReachedInGraph : Graph → List Step → ℕ → Type 0
IsReachedInGraph g query n = (r : ℕ) × Contains query (To r) × ((n ≡ r) ⊎ GraphReaches g r n)

-- each name leads only to names that are settled or come before it
abbrev pub AreOrderedInGraph : Graph → List Bool → List ℕ → List ℕ → Type 0
AreOrderedInGraph g settled before [] = Unit {0}
AreOrderedInGraph g settled before (n ∷ ns) =
    ((m : ℕ) → GraphLeadsTo g n m → IsSettledOrWalked settled before m) × AreOrderedInGraph g settled (before ++ n ∷ [])
    ns

-- the names that the query reaches and that are not settled, each once, targets before users; all are closed
pub record AreNewlyClosedByWalk (g : Graph) (settled : List Bool) (query : List Step) (names : List ℕ) : Type 0 where
  pub names_closed : (n : ℕ) → Contains names n → IsClosedInGraph g n
  pub names_reached : (n : ℕ) → Contains names n ↔ (IsReachedInGraph g query n × (IsSettledInGraph settled n → ⊥))
  pub names_listed_once : IsDistinct nat_eq names
  pub targets_before : AreOrderedInGraph g settled [] names
