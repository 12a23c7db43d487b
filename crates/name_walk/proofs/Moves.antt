-- The moves of a visit, and how they change its traces.
use Rattle.std.proofs.Common.{◌≡◌, ℕ, ◌+◌, ◌^◌, ◌<◌, ◌≤◌, Bool, true, List, [], ◌∷◌, ◌++◌, length, set, Some, sym, ◌∙◌}
use Rattle.std.proofs.Common.{ap, subst, inl, inr}
use Rattle.std.specs.List.{slice_get}
use Rattle.std.proofs.lemmas.Option.{slice_get_within}
use Rattle.name_walk.specs.declared.mark.Mark.TheVariants.{Closed, OnPath, Open}
use Rattle.name_walk.specs.declared.step.Step.TheVariants.{Nowhere, To}
use Rattle.name_walk.specs.declared.traces.Frame.{Frame}
use Rattle.name_walk.specs.Faults.{Cycle, DeadEnd, is_on_path, path_from_name, steps_fault_after_path}
use Rattle.name_walk.specs.Nets.{IsConsistentGraph}
use Rattle.name_walk.specs.Steps.{Graph, graph_steps}
use Rattle.name_walk.specs.Traces.{AreWalkNamesEntered, WalkTrace, path_of_frames, walk_trace_with_closed}
use Rattle.name_walk.specs.Traces.{walk_trace_with_entered, walk_trace_with_frame}
use Rattle.name_walk.specs.Visits.{IsBetweenWalkVisits, IsFaultlessWalkVisit, IsWalkMarkFound}
use Rattle.name_walk.proofs.Going.{HaveRoom, IsGoing, begin, cycle, dead_end, enter, finish, is_on, leave, name_marked}
use Rattle.name_walk.proofs.Going.{name_there, ordering_after, pass}
use Rattle.name_walk.proofs.Links.{frame}
use Rattle.name_walk.proofs.Weights.{enter_less, leave_less, weight}
use Rattle.general_lemmas.proofs.Members.{member_at}

-- a visit is at a step of a name
abbrev pub IsGoingAt : Graph → List Bool → ℕ → List ℕ → WalkTrace → ℕ → ℕ → Type 0
IsGoingAt g s start before t name place = IsGoing g s start before t.marks t.entered_names t.order t.frames name place

-- the measure of the rest of the visit
abbrev pub weight_at : Graph → WalkTrace → ℕ → ℕ → ℕ
weight_at g t name place = weight g t.marks t.frames name place

module _ {g : Graph} {s : List Bool} (net : IsConsistentGraph g s) {start : ℕ} where
  pub begin_at : (t new : WalkTrace) → IsBetweenWalkVisits g s t → IsWalkMarkFound s t.marks start Open
      → new ≡ walk_trace_with_entered t start
      → IsGoingAt g s start t.order new start 0
  begin_at t new b fresh e =
      let going : List Frame → Type 0 =
      λ fs. IsGoing g s start t.order (set t.marks start OnPath) (t.entered_names ++ start ∷ []) t.order fs start 0 in
      subst (λ (x : WalkTrace). IsGoingAt g s start t.order x start 0) (sym e)
      (subst going (sym b.frames)
      (begin g s net start t.order t.marks t.entered_names b.in_target_order b.off_path fresh.0 fresh.1))

  module _ {before : List ℕ} {t : WalkTrace} {name place : ℕ} (go : IsGoingAt g s start before t name place) where
    on_path : slice_get t.marks name ≡ Some OnPath
    on_path = name_marked g s net start before t.marks t.entered_names t.order t.frames name place go

    pub there_at : (name < length g) × (name < length t.marks)
    there_at = (
      name_there g s net start before t.marks t.entered_names t.order t.frames name place go,
      slice_get_within t.marks name OnPath on_path,
    )

    -- a name to which a step leads is in range
    pub next_at : (m : ℕ) → slice_get (graph_steps g name) place ≡ Some (To m)
        → (m < length g) × (m < length s) × (m < length t.marks)
    next_at m e =
        let there : m < length g = net.steps_in_range name m (member_at _ _ _ e) in (
          there,
          subst (λ (k : ℕ). m < k) (sym net.mark_per_name) there,
          subst (λ (k : ℕ). m < k) (sym go.in_target_order.mark_per_name) there,
        )

    pub dead_end_at : (w : ℕ) → slice_get (graph_steps g name) place ≡ Some (Nowhere w)
        → steps_fault_after_path g [] (To start ∷ []) ≡ Some (DeadEnd w (Some name))
    dead_end_at w e = dead_end g s net start before t.marks t.entered_names t.order t.frames name place go w e

    pub is_on_at : (m : ℕ) (fs : List Frame) → slice_get t.marks m ≡ Some OnPath → fs ≡ t.frames
        → is_on_path (path_of_frames fs name) m ≡ true
    is_on_at m fs found e =
        subst (λ (hs : List Frame). is_on_path (path_of_frames hs name) m ≡ true) (sym e)
        (is_on g s net start before t.marks t.entered_names t.order t.frames name place go m found)

    pub cycle_at : (m : ℕ) (fs : List Frame) (names : List ℕ) → slice_get (graph_steps g name) place ≡ Some (To m)
        → slice_get t.marks m ≡ Some OnPath → fs ≡ t.frames → names ≡ path_from_name m (path_of_frames fs name) ++ m ∷
        []
        → steps_fault_after_path g [] (To start ∷ []) ≡ Some (Cycle names)
    cycle_at m fs names e found same chain =
        cycle g s net start before t.marks t.entered_names t.order t.frames name place go m e found
        ∙ ap (λ xs. Some (Cycle xs))
        (ap (λ (hs : List Frame). path_from_name m (path_of_frames hs name) ++ m ∷ []) (sym same) ∙ sym chain)

    pub pass_at : (m : ℕ) → slice_get (graph_steps g name) place ≡ Some (To m) → IsWalkMarkFound s t.marks m Closed
        → IsGoingAt g s start before t name (place + 1)
    pass_at m e found =
        pass g s net start before t.marks t.entered_names t.order t.frames name place go m e
        (elim found [ inl d ↦ inl d | inr d ↦ inr ((go.in_target_order.marked_in_order m).0 d) ])

    pub enter_at : (m : ℕ) (pushed new : WalkTrace) → slice_get (graph_steps g name) place ≡ Some (To m)
        → IsWalkMarkFound s t.marks m Open
        → place + 1 < 2 ^ 64 → pushed ≡ walk_trace_with_frame t (frame name place)
        → new ≡ walk_trace_with_entered pushed m
        → IsGoingAt g s start before new m 0 × (weight_at g new m 0 < weight_at g t name place)
    enter_at m pushed new e found fits push entering =
        let is : new ≡ walk_trace_with_entered (walk_trace_with_frame t (frame name place)) m =
        entering ∙ ap (λ (x : WalkTrace). walk_trace_with_entered x m) push in (
          subst (λ (x : WalkTrace). IsGoingAt g s start before x m 0) (sym is)
              (enter g s net start before t.marks t.entered_names t.order t.frames name place go m e found.1 found.0
              fits),
          subst (λ (x : WalkTrace). weight_at g x m 0 < weight_at g t name place) (sym is)
              (enter_less g t.marks t.frames (frame name place) m found.1 (next_at m e).0),
        )

    module _ (full : length (graph_steps g name) ≤ place) {closed : WalkTrace}
        (close : closed ≡ walk_trace_with_closed t name) where
      pub entered_at : (new : WalkTrace) → new ≡ closed → AreWalkNamesEntered new.marks new.entered_names
      entered_at new same =
          subst (λ (x : WalkTrace). AreWalkNamesEntered x.marks x.entered_names) (sym (same ∙ close))
          (ordering_after g s net start before t.marks t.entered_names t.order t.frames name place go
          full).names_entered

      pub finish_at : (old new : WalkTrace) → old.order ≡ before → new ≡ closed → closed.frames ≡ []
          → IsFaultlessWalkVisit g s start old new
      finish_at old new same popped none =
          let top : t.frames ≡ [] = sym (ap (λ (x : WalkTrace). x.frames) close) ∙ none in
          let going : List Frame → Type 0 = λ fs. IsGoing g s start before t.marks t.entered_names t.order fs name place
          in
          let ended : List Frame
          → Type 0 = λ fs. IsFaultlessWalkVisit g s start old (record (walk_trace_with_closed t name) { frames = fs })
          in
          subst (λ (x : WalkTrace). IsFaultlessWalkVisit g s start old x) (sym (popped ∙ close))
          (subst ended (sym top)
          (finish g s net start before t.marks t.entered_names t.order name place old same (subst going top go) full))

      module _ (f : Frame) (new : WalkTrace) (pop : closed ≡ walk_trace_with_frame new f) where
        frames_are : t.frames ≡ new.frames ++ f ∷ []
        frames_are = ap (λ (x : WalkTrace). x.frames) (sym close ∙ pop)

        new_is : record (walk_trace_with_closed t name) { frames = new.frames } ≡ new
        new_is = ap (λ (x : WalkTrace). record x { frames = new.frames }) (sym close ∙ pop)

        pub leave_at : IsGoingAt g s start before new f.name (f.place + 1)
        leave_at =
            let going : List Frame → Type 0 = λ fs. IsGoing g s start before t.marks t.entered_names t.order fs name
            place in
            subst (λ (x : WalkTrace). IsGoingAt g s start before x f.name (f.place + 1)) new_is
            (leave g s net start before t.marks t.entered_names t.order new.frames f name place
            (subst going frames_are go) full)

        pub leave_less_at : weight_at g new f.name (f.place + 1) < weight_at g t name place
        leave_less_at =
            let less : List Frame → Type 0 =
            λ fs. weight g (set t.marks name Closed) new.frames f.name (f.place + 1) < weight g t.marks fs name place in
            subst (λ (x : WalkTrace). weight_at g x f.name (f.place + 1) < weight_at g t name place) new_is
            (subst less (sym frames_are) (leave_less g t.marks new.frames f name place on_path go.way.within))

        pub room_at : f.place + 1 < 2 ^ 64
        room_at = last_room new.frames f (subst HaveRoom frames_are go.way.room)
          where
            last_room : (fs : List Frame) (h : Frame) → HaveRoom (fs ++ h ∷ []) → h.place + 1 < 2 ^ 64
            last_room [] h r = r.0
            last_room (x ∷ fs) h r = last_room fs h r.1
