-- The fault that is still to be met, in the current name and in each frame above it.
use Rattle.std.proofs.Common.{◌≡◌, ℕ, ◌+◌, ◌-◌, List, [], ◌∷◌, ◌++◌, length, drop, Option, Some, None, sym, ◌∙◌, ap}
use Rattle.std.proofs.Common.{subst, append_assoc}
use Rattle.std.specs.List.{slice_get}
use Rattle.std.specs.Option.{option_or}
use Rattle.name_walk.specs.declared.step.Step.{Step}
use Rattle.name_walk.specs.declared.step.Step.TheVariants.{To}
use Rattle.name_walk.specs.declared.traces.Frame.{Frame}
use Rattle.name_walk.specs.Faults.{NameFault, path_fault_at_name, path_fault_at_step, path_fault_within}
use Rattle.name_walk.specs.Faults.{steps_fault_after_path}
use Rattle.name_walk.specs.Traces.{path_of_frames}
use Rattle.name_walk.specs.Steps.{Graph, graph_steps}
use Rattle.general_lemmas.proofs.Places.{drop_at}

module _ (g : Graph) where
  abbrev pub pending : List ℕ → List Frame → ℕ → ℕ → Option NameFault
  pending p [] name place = steps_fault_after_path g (p ++ name ∷ []) (drop place (graph_steps g name))
  pending p (f ∷ fs) name place =
      option_or (pending (p ++ f.name ∷ []) fs name place)
      (steps_fault_after_path g (p ++ f.name ∷ []) (drop (f.place + 1) (graph_steps g f.name)))

  -- the fault that a frame adds
  abbrev above : List ℕ → Frame → Option NameFault → Option NameFault
  above p f o = option_or o (steps_fault_after_path g (p ++ f.name ∷ []) (drop (f.place + 1) (graph_steps g f.name)))

  abbrev rest : List ℕ → ℕ → ℕ → Option NameFault → Option NameFault
  rest p name place o = option_or o (steps_fault_after_path g (p ++ name ∷ []) (drop (place + 1) (graph_steps g name)))

  at_here : (p : List ℕ) (name place : ℕ) (s : Step) → slice_get (graph_steps g name) place ≡ Some s
      → steps_fault_after_path g p (drop place (graph_steps g name))
      ≡ option_or (path_fault_at_step (path_fault_within g (length g - length p)) p s)
      (steps_fault_after_path g p (drop (place + 1) (graph_steps g name)))
  at_here p name place s e = ap (λ xs. steps_fault_after_path g p xs) (drop_at (graph_steps g name) place s e)

  longer : (p P : List ℕ) (f : Frame) (fs : List Frame) (name : ℕ) → P ≡ p ++ path_of_frames (f ∷ fs) name
      → P ≡ (p ++ f.name ∷ []) ++ path_of_frames fs name
  longer p P f fs name q = q ∙ sym (append_assoc p (f.name ∷ []) (path_of_frames fs name))

  -- P is the whole path
  pub pass_pending : (p P : List ℕ) (fs : List Frame) (name place : ℕ) (s : Step) → P ≡ p ++ path_of_frames fs name
      → slice_get (graph_steps g name) place ≡ Some s → path_fault_at_step (path_fault_within g (length g - length P)) P
      s ≡ None
      → pending p fs name place ≡ pending p fs name (place + 1)
  pass_pending p P [] name place s q e h =
      at_here (p ++ name ∷ []) name place s e
      ∙ ap (rest p name place)
      (subst (λ (r : List ℕ). path_fault_at_step (path_fault_within g (length g - length r)) r s ≡ None) q h)
  pass_pending p P (f ∷ fs) name place s q e h =
      ap (above p f) (pass_pending (p ++ f.name ∷ []) P fs name place s (longer p P f fs name q) e h)

  pub fault_pending : (p P : List ℕ) (fs : List Frame) (name place : ℕ) (s : Step) (x : NameFault)
      → P ≡ p ++ path_of_frames fs name
      → slice_get (graph_steps g name) place ≡ Some s → path_fault_at_step (path_fault_within g (length g - length P)) P
      s ≡ Some x
      → pending p fs name place ≡ Some x
  fault_pending p P [] name place s x q e h =
      at_here (p ++ name ∷ []) name place s e
      ∙ ap (rest p name place)
      (subst (λ (r : List ℕ). path_fault_at_step (path_fault_within g (length g - length r)) r s ≡ Some x) q h)
  fault_pending p P (f ∷ fs) name place s x q e h =
      ap (above p f) (fault_pending (p ++ f.name ∷ []) P fs name place s x (longer p P f fs name q) e h)

  pub enter_pending : (p P : List ℕ) (fs : List Frame) (name place m : ℕ) → P ≡ p ++ path_of_frames fs name
      → slice_get (graph_steps g name) place ≡ Some (To m)
      → path_fault_at_name (path_fault_within g (length g - length P)) P m ≡ steps_fault_after_path g (P ++ m ∷ [])
      (graph_steps g m)
      → pending p fs name place ≡ pending p (fs ++ record { name = name; place = place } ∷ []) m 0
  enter_pending p P [] name place m q e h =
      at_here (p ++ name ∷ []) name place (To m) e
      ∙ ap (rest p name place)
      (subst (λ (r : List ℕ). path_fault_at_name (path_fault_within g (length g - length r)) r
      m ≡ steps_fault_after_path g (r ++ m ∷ [])
      (graph_steps g m)) q
      h)
  enter_pending p P (f ∷ fs) name place m q e h =
      ap (above p f) (enter_pending (p ++ f.name ∷ []) P fs name place m (longer p P f fs name q) e h)

  pub leave_pending : (p : List ℕ) (fs : List Frame) (f : Frame) (name place : ℕ) → drop place (graph_steps g name) ≡ []
      → pending p (fs ++ f ∷ []) name place ≡ pending p fs f.name (f.place + 1)
  leave_pending p [] f name place e = ap (λ xs. above p f (steps_fault_after_path g (p ++ f.name ∷ [] ++ name ∷ []) xs))
      e
  leave_pending p (h ∷ fs) f name place e = ap (above p h) (leave_pending (p ++ h.name ∷ []) fs f name place e)
