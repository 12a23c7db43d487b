-- The rest of a walk: the steps of open names, and the remaining steps of each frame.
use Rattle.std.proofs.Common.{◌≡◌, ℕ, zero, suc, ◌+◌, ◌-◌, ◌<◌, ◌≤◌, List, [], ◌∷◌, ◌++◌, length, set, Some, refl}
use Rattle.std.proofs.Common.{arith}
use Rattle.std.specs.List.{slice_get}
use Rattle.name_walk.specs.declared.mark.Mark.{Mark}
use Rattle.name_walk.specs.declared.mark.Mark.TheVariants.{Closed, OnPath, Open}
use Rattle.name_walk.specs.declared.traces.Frame.{Frame}
use Rattle.name_walk.specs.Steps.{Graph, graph_steps}

-- the steps of all names that are open
abbrev pub open_weight : List Mark → Graph → ℕ
open_weight [] h = 0
open_weight (m ∷ ms) [] = 0
open_weight (Open ∷ ms) (w ∷ ws) = 2 + length w + open_weight ms ws
open_weight (OnPath ∷ ms) (w ∷ ws) = open_weight ms ws
open_weight (Closed ∷ ms) (w ∷ ws) = open_weight ms ws

-- putting an open name on the path reduces the weight by its steps
entering_reduces_walk_weight : (ms : List Mark) (h : Graph) (n : ℕ) → slice_get ms n ≡ Some Open → n < length h
    → open_weight (set ms n OnPath) h + (2 + length (graph_steps h n)) ≡ open_weight ms h
entering_reduces_walk_weight [] h n e l = cc
entering_reduces_walk_weight (m ∷ ms) [] n e l = absurd (omega arith)
entering_reduces_walk_weight (Open ∷ ms) (w ∷ ws) zero e l = omega arith
entering_reduces_walk_weight (OnPath ∷ ms) (w ∷ ws) zero e l = cc
entering_reduces_walk_weight (Closed ∷ ms) (w ∷ ws) zero e l = cc
entering_reduces_walk_weight (Open ∷ ms) (w ∷ ws) (suc n) e l =
    omega (arith, entering_reduces_walk_weight ms ws n e (omega arith))
entering_reduces_walk_weight (OnPath ∷ ms) (w ∷ ws) (suc n) e l = entering_reduces_walk_weight ms ws n e (omega arith)
entering_reduces_walk_weight (Closed ∷ ms) (w ∷ ws) (suc n) e l = entering_reduces_walk_weight ms ws n e (omega arith)

-- closing a name does not change the weight
closing_keeps_walk_weight : (ms : List Mark) (h : Graph) (n : ℕ) → slice_get ms n ≡ Some OnPath
    → open_weight (set ms n Closed) h ≡ open_weight ms h
closing_keeps_walk_weight [] h n e = cc
closing_keeps_walk_weight (m ∷ ms) [] zero e = refl
closing_keeps_walk_weight (m ∷ ms) [] (suc n) e = refl
closing_keeps_walk_weight (Open ∷ ms) (w ∷ ws) zero e = cc
closing_keeps_walk_weight (OnPath ∷ ms) (w ∷ ws) zero e = refl
closing_keeps_walk_weight (Closed ∷ ms) (w ∷ ws) zero e = cc
closing_keeps_walk_weight (Open ∷ ms) (w ∷ ws) (suc n) e = omega (arith, closing_keeps_walk_weight ms ws n e)
closing_keeps_walk_weight (OnPath ∷ ms) (w ∷ ws) (suc n) e = closing_keeps_walk_weight ms ws n e
closing_keeps_walk_weight (Closed ∷ ms) (w ∷ ws) (suc n) e = closing_keeps_walk_weight ms ws n e

module _ (g : Graph) where
  abbrev pub frame_weight : ℕ → ℕ → ℕ
  frame_weight name place = 1 + length (graph_steps g name) - place

  abbrev pub frames_weight : List Frame → ℕ
  frames_weight [] = 0
  frames_weight (f ∷ fs) = frame_weight f.name f.place + frames_weight fs

  abbrev pub weight : List Mark → List Frame → ℕ → ℕ → ℕ
  weight ms fs name place = open_weight ms g + frames_weight fs + frame_weight name place

  frames_more : (fs : List Frame) (f : Frame)
      → frames_weight (fs ++ f ∷ []) ≡ frames_weight fs + frame_weight f.name f.place
  frames_more [] f = omega arith
  frames_more (h ∷ fs) f = omega (arith, frames_more fs f)

  pub pass_less : (ms : List Mark) (fs : List Frame) (name place : ℕ) → place < length (graph_steps g name)
      → weight ms fs name (place + 1) < weight ms fs name place
  pass_less ms fs name place h = omega arith

  pub enter_less : (ms : List Mark) (fs : List Frame) (f : Frame) (m : ℕ) → slice_get ms m ≡ Some Open → m < length g
      → weight (set ms m OnPath) (fs ++ f ∷ []) m 0 < weight ms fs f.name f.place
  enter_less ms fs f m e l = omega (arith, entering_reduces_walk_weight ms g m e l, frames_more fs f)

  pub leave_less : (ms : List Mark) (fs : List Frame) (f : Frame) (name place : ℕ) → slice_get ms name ≡ Some OnPath
      → place ≤ length (graph_steps g name)
      → weight (set ms name Closed) fs f.name (f.place + 1) < weight ms (fs ++ f ∷ []) name place
  leave_less ms fs f name place e l = omega (arith, closing_keeps_walk_weight ms g name e, frames_more fs f)
