-- Laws of settled names.
use Rattle.std.specs.Prelude.{◌≡◌, ◌↔◌, ◌≤◌, ℕ, Bool, List, length}
use Rattle.name_walk.specs.declared.step.Step.{Step}
use Rattle.name_walk.specs.ClosedNames.{AreSettledInGraph, IsSettledInGraph, IsSettledOrWalked}
use Rattle.name_walk.specs.NewlyClosed.{AreNewlyClosedByWalk, IsReachedInGraph}
use Rattle.name_walk.specs.Steps.{Graph, GraphReaches, graph_steps}

-- law: every name that a settled name reaches is settled. Every name that a query reaches is settled or among the
-- names that the query newly closes, and the settled names together with these may be settled. Adding names, and
-- changing the steps of names that are not settled, does not matter.
pub record SettledGraphLaw : Type 0 where
  pub below_settled : (g : Graph) (settled : List Bool) → AreSettledInGraph g settled
      → (n m : ℕ) → IsSettledInGraph settled n → GraphReaches g n m → IsSettledInGraph settled m
  pub query_settled : (g : Graph) (settled : List Bool) (query : List Step) (names : List ℕ)
      → AreNewlyClosedByWalk g settled query names → (n : ℕ) → IsReachedInGraph g query n
      → IsSettledOrWalked settled names n
  pub settled_grow : (g : Graph) (old new : List Bool) (query : List Step) (names : List ℕ)
      → AreSettledInGraph g old → AreNewlyClosedByWalk g old query names
      → ((n : ℕ) → IsSettledInGraph new n ↔ IsSettledOrWalked old names n) → AreSettledInGraph g new
  pub other_graph : (g h : Graph) (old new : List Bool) → AreSettledInGraph g old → length g ≤ length h
      → ((n : ℕ) → IsSettledInGraph new n ↔ IsSettledInGraph old n)
      → ((n : ℕ) → IsSettledInGraph old n → graph_steps h n ≡ graph_steps g n)
      → AreSettledInGraph h new
