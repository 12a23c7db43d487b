-- The ranks of the names to which steps lead.
use Rattle.std.specs.Prelude.{ℕ, max, List, [], ◌∷◌, Option, Some, None, slice_get}
use Rattle.name_walk.specs.declared.step.Step.{Step}
use Rattle.name_walk.specs.declared.step.Step.TheVariants.{Nowhere, To}
use Rattle.live_table.specs.declared.callee.Callee.{Callee}

abbrev pub node_rank : Option Callee → ℕ
node_rank None = 0
node_rank (Some c) = c.rank

abbrev pub node_step_rank : List Callee → Step → ℕ
node_step_rank callees (Nowhere t) = 0
node_step_rank callees (To n) = node_rank (slice_get callees n)

-- the greatest rank, or 0 if there are none
abbrev pub greatest_node_step_rank : List Callee → List Step → ℕ
greatest_node_step_rank callees [] = 0
greatest_node_step_rank callees (x ∷ xs) = max (node_step_rank callees x) (greatest_node_step_rank callees xs)

-- a callee with another rank
abbrev pub node_callee_with_rank : ℕ → Callee → Callee
node_callee_with_rank rank c = record { rank = rank; starts = c.starts }
