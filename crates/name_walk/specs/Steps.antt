-- Numbered names, and the steps of each.
use Rattle.std.specs.Prelude.{◌<◌, ℕ, List, [], length, slice_index_or, Contains}
use Rattle.name_walk.specs.declared.step.Step.{Step}
use Rattle.name_walk.specs.declared.step.Step.TheVariants.{To}

-- the steps of each name
abbrev pub Graph : Type 0
Graph = List (List Step)

-- the steps of one name, or no steps if no name has the number
abbrev pub graph_steps : Graph → ℕ → List Step
graph_steps g n = slice_index_or g n []

-- the name n leads to m by one of its steps
abbrev pub GraphLeadsTo : Graph → ℕ → ℕ → Type 0
GraphLeadsTo g n m = Contains (graph_steps g n) (To m)

-- the name n leads to m by one or more steps
pub data GraphReaches (g : Graph) : ℕ → ℕ → Type 0 where
  at_once : {n m : ℕ} → GraphLeadsTo g n m → GraphReaches g n m
  further : {n x m : ℕ} → GraphLeadsTo g n x → GraphReaches g x m → GraphReaches g n m

-- the steps lead only to names of the graph, or nowhere
abbrev pub StayInGraph : Graph → List Step → Type 0
StayInGraph g xs = (m : ℕ) → Contains xs (To m) → m < length g

-- all steps of the graph lead only to names of the graph, or nowhere
abbrev pub AreStepsInGraph : Graph → Type 0
AreStepsInGraph g = (n : ℕ) → StayInGraph g (graph_steps g n)
