-- Laws of closed names.
use Rattle.std.specs.Prelude.{◌≡◌, ◌↔◌, ◌<◌, ℕ, suc, List, [], ◌∷◌, length, None, Contains}
use Rattle.name_walk.specs.declared.step.Step.TheVariants.{To}
use Rattle.name_walk.specs.ClosedNames.{IsClosedInGraph, WalksEndWithin}
use Rattle.name_walk.specs.Faults.{steps_fault_after_path}
use Rattle.name_walk.specs.Paths.{IsNamePath}
use Rattle.name_walk.specs.Steps.{AreStepsInGraph, Graph, GraphReaches}

-- law: a name is closed exactly if it has no fault. The number of names within which its ways end does not matter. The
-- names that it reaches are closed, and it does not reach itself. It has no fault after any path that leads to it.
pub record ClosedGraphNameLaw : Type 0 where
  pub faultless_closed : (g : Graph) → AreStepsInGraph g → (n : ℕ) → n < length g
      → IsClosedInGraph g n ↔ (steps_fault_after_path g [] (To n ∷ []) ≡ None)
  pub any_depth : (g : Graph) → AreStepsInGraph g → (k n : ℕ) → n < length g → WalksEndWithin g k n
      → IsClosedInGraph g n
  pub deeper : (g : Graph) (k n : ℕ) → WalksEndWithin g k n → WalksEndWithin g (suc k) n
  pub reached_closed : (g : Graph) (k n m : ℕ) → WalksEndWithin g k n → GraphReaches g n m → WalksEndWithin g k m
  pub no_cycle : (g : Graph) (k n : ℕ) → WalksEndWithin g k n → GraphReaches g n n → ⊥
  pub any_path : (g : Graph) → AreStepsInGraph g → (k n : ℕ) → n < length g → WalksEndWithin g k n
      → (p : List ℕ) → IsNamePath g p → ((q : ℕ) → Contains p q → GraphReaches g q n)
      → steps_fault_after_path g p (To n ∷ []) ≡ None
