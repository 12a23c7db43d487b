-- Closed names and settled names.
use Rattle.std.specs.Prelude.{◌≡◌, ◌⊎◌, ℕ, zero, suc, Bool, true, List, length, Some, slice_get, Contains}
use Rattle.std.specs.List.{AllByRecursion}
use Rattle.name_walk.specs.declared.step.Step.{Step}
use Rattle.name_walk.specs.declared.step.Step.TheVariants.{Nowhere, To}
use Rattle.name_walk.specs.Steps.{Graph, GraphLeadsTo, graph_steps}

-- a step leads to a name with this property
abbrev pub WalkStepLeadsInto : (ℕ → Type 0) → Step → Type 0
WalkStepLeadsInto Holds (Nowhere w) = ⊥
WalkStepLeadsInto Holds (To n) = Holds n

-- each way down from a name ends within k names, and no step on it leads nowhere
abbrev pub WalksEndWithin : Graph → ℕ → ℕ → Type 0
WalksEndWithin g zero n = ⊥
WalksEndWithin g (suc k) n = AllByRecursion (WalkStepLeadsInto (WalksEndWithin g k)) (graph_steps g n)

-- a name is closed: each way down from it ends within as many names as the graph has
abbrev pub IsClosedInGraph : Graph → ℕ → Type 0
IsClosedInGraph g n = WalksEndWithin g (length g) n

-- a name is marked as settled
abbrev pub IsSettledInGraph : List Bool → ℕ → Type 0
IsSettledInGraph settled n = slice_get settled n ≡ Some true

-- each settled name is closed, and the names that it leads to are settled
abbrev pub AreSettledInGraph : Graph → List Bool → Type 0
AreSettledInGraph g settled =
    (n : ℕ) → IsSettledInGraph settled n
    → IsClosedInGraph g n × ((m : ℕ) → GraphLeadsTo g n m → IsSettledInGraph settled m)

-- a name is settled or one of these names
abbrev pub IsSettledOrWalked : List Bool → List ℕ → ℕ → Type 0
IsSettledOrWalked settled names n = IsSettledInGraph settled n ⊎ Contains names n
