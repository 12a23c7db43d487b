-- The names of a path, whose faults are recorded from the last name up.
use Rattle.std.proofs.Common.{◌≡◌, ℕ, ◌<◌, List, [], ◌∷◌, ◌++◌, length, set, Option, Some, refl, sym, ◌∙◌, ap}
use Rattle.std.proofs.Common.{subst, nat_eq, append_assoc, length-set, Contains}
use Rattle.std.proofs.lemmas.List.Elements.{Contains-append_left}
use Rattle.std.specs.List.{IsDistinct, slice_get}
use Rattle.name_walk.specs.declared.step.Step.{Step}
use Rattle.name_walk.specs.declared.step.Step.TheVariants.{To}
use Rattle.name_walk.specs.declared.traces.Frame.{Frame}
use Rattle.name_walk.specs.declared.trail.Ending.{Ending}
use Rattle.name_walk.specs.declared.trail.FaultyStep.{FaultyStep}
use Rattle.name_walk.specs.PathRecords.{ArePathFaultsNoted, ending_of_path, path_end_for, path_ending_above}
use Rattle.name_walk.specs.PathRecords.{step_down_path}
use Rattle.name_walk.specs.Traces.{WalkTrace, path_of_frames, walk_trace_with_frame, walk_trace_without_frames}
use Rattle.name_walk.specs.Trails.{Faults}
use Rattle.name_walk.proofs.Distinct.{distinct_apart}
use Rattle.name_walk.proofs.Links.{frame_makes_path_longer, current_name_is_on_path}
use Rattle.general_lemmas.proofs.Places.{get_set_same, get_set_other}
use Rattle.general_lemmas.proofs.Members.{member_first, member_later}

-- recording the fault of another name does not change the records of some names
noted_path_faults_stay : (fs : Faults) (n : ℕ) (v : Option FaultyStep) (ending : Ending) (x : Step) (ns : List ℕ)
    → (Contains ns n → ⊥)
    → ArePathFaultsNoted fs ending x ns → ArePathFaultsNoted (set fs n v) ending x ns
noted_path_faults_stay fs n v ending x [] apart h = tt
noted_path_faults_stay fs n v ending x (k ∷ ns) apart h = (
  get_set_other fs n k v (λ e. apart (member_first n k ns (sym e))) ∙ h.0,
  noted_path_faults_stay fs n v ending x ns (λ i. apart (member_later n k ns i)) h.1,
)

-- the faults of the names below are recorded, and no others
pub record IsNoting (old now : WalkTrace) (fs hs : Faults) (last : ℕ) (last_step : Step) (last_ending : Ending)
    (name : ℕ) (step : Step) (ending : Ending) : Type 0 where
  pub below : List ℕ
  pub whole : path_of_frames now.frames name ++ below ≡ path_of_frames old.frames last
  pub noted : ArePathFaultsNoted hs last_ending last_step below
  pub others : (n : ℕ) → (Contains below n → ⊥) → slice_get hs n ≡ slice_get fs n
  pub size : length hs ≡ length fs
  pub step_is : step ≡ step_down_path last_step below
  pub ending_is : ending ≡ ending_of_path last_ending below
  pub traces : walk_trace_without_frames now ≡ walk_trace_without_frames old

module _ (old : WalkTrace) (fs : Faults) (last : ℕ) (x : Step) (last_ending : Ending)
    (once : IsDistinct nat_eq (path_of_frames old.frames last))
    (there : (n : ℕ) → Contains (path_of_frames old.frames last) n → n < length fs) where
  module _ (now : WalkTrace) (hs : Faults) (name : ℕ) (step : Step) (ending : Ending)
      (h : IsNoting old now fs hs last x last_ending name step ending) where
    here_member : Contains (path_of_frames old.frames last) name
    here_member =
        subst (λ (ns : List ℕ). Contains ns name) h.whole
        (Contains-append_left (path_of_frames now.frames name) h.below name (current_name_is_on_path now.frames name))

    pub noting_there : name < length hs
    noting_there = subst (λ (k : ℕ). name < k) (sym h.size) (there name here_member)

    apart : Contains h.below name → ⊥
    apart i =
        distinct_apart (path_of_frames now.frames name) h.below
        (subst (λ (ns : List ℕ). IsDistinct nat_eq ns) (sym h.whole) once)
        name (current_name_is_on_path now.frames name) i

    abbrev noted_now : Faults
    noted_now = set hs name (Some (record { step = step; end = path_end_for ending name }))

    pub noted_one : ArePathFaultsNoted noted_now last_ending x (name ∷ h.below)
    noted_one = (
      get_set_same hs name (Some (record { step = step; end = path_end_for ending name })) noting_there
          ∙ (λ i. Some (Some (record { step = h.step_is i; end = path_end_for (h.ending_is i) name }))),
      noted_path_faults_stay hs name (Some (record { step = step; end = path_end_for ending name })) last_ending x
          h.below apart
          h.noted,
    )

    others_one : (n : ℕ) → (Contains (name ∷ h.below) n → ⊥) → slice_get noted_now n ≡ slice_get fs n
    others_one n out =
        get_set_other hs name n (Some (record { step = step; end = path_end_for ending name }))
        (λ e. out (member_first n name h.below e))
        ∙ h.others n (λ i. out (member_later n name h.below i))

    size_one : length noted_now ≡ length fs
    size_one = length-set hs name (Some (record { step = step; end = path_end_for ending name })) ∙ h.size

    pub noting_next : (later : WalkTrace) (frame : Frame) → now ≡ walk_trace_with_frame later frame
        → IsNoting old later fs noted_now last x last_ending frame.name (To name) (path_ending_above ending name)
    noting_next later frame e = record {
      below = name ∷ h.below;
      whole = sym (append_assoc (path_of_frames later.frames frame.name) (name ∷ []) h.below)
          ∙ (ap (λ ns. ns ++ h.below)
          (sym (frame_makes_path_longer later.frames frame name) ∙ ap (λ (t : WalkTrace). path_of_frames t.frames name)
          (sym e)) ∙ h.whole);
      noted = noted_one;
      others = others_one;
      size = size_one;
      step_is = refl;
      ending_is = ap (λ d. path_ending_above d name) h.ending_is;
      traces = ap walk_trace_without_frames (sym e) ∙ h.traces;
    }

    -- if no frame is left, the faults of all names are recorded
    module _ (top : now.frames ≡ []) where
      whole_is : name ∷ h.below ≡ path_of_frames old.frames last
      whole_is = ap (λ (fs : List Frame). path_of_frames fs name ++ h.below) (sym top) ∙ h.whole

      pub noting_all : ArePathFaultsNoted noted_now last_ending x (path_of_frames old.frames last)
      noting_all = subst (λ (ns : List ℕ). ArePathFaultsNoted noted_now last_ending x ns) whole_is noted_one

      pub noting_others : (n : ℕ) → (Contains (path_of_frames old.frames last) n → ⊥)
          → slice_get noted_now n ≡ slice_get fs n
      noting_others n out = others_one n (λ i. out (subst (λ (ns : List ℕ). Contains ns n) whole_is i))
