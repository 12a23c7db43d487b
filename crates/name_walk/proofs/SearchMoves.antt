-- The moves of a search, and how they change its traces.
use Rattle.std.proofs.Common.{◌≡◌, ℕ, ◌+◌, ◌^◌, ◌<◌, ◌≤◌, Bool, false, true, List, [], ◌∷◌, ◌++◌, length, set, Some}
use Rattle.std.proofs.Common.{sym, ◌∙◌, ap, subst, inl, inr, arith, Contains}
use Rattle.std.specs.List.{slice_get}
use Rattle.std.proofs.lemmas.Option.{slice_get_within}
use Rattle.name_walk.specs.declared.mark.Mark.TheVariants.{Closed, OnPath}
use Rattle.name_walk.specs.declared.step.Step.{Step}
use Rattle.name_walk.specs.declared.step.Step.TheVariants.{To}
use Rattle.name_walk.specs.declared.traces.Frame.{Frame}
use Rattle.name_walk.specs.declared.trail.Ending.{Ending}
use Rattle.name_walk.specs.Findings.{CanClearWalk}
use Rattle.name_walk.specs.Nets.{IsConsistentGraph}
use Rattle.name_walk.specs.PathRecords.{ArePathFaultsNoted}
use Rattle.name_walk.specs.Searches.{IsBetweenWalkSearches, IsOpenForWalk, IsPathEnding, IsSearchedByWalk}
use Rattle.name_walk.specs.Steps.{Graph, graph_steps}
use Rattle.name_walk.specs.Traces.{WalkTrace, path_of_frames, walk_trace_with_closed, walk_trace_with_entered}
use Rattle.name_walk.specs.Traces.{walk_trace_with_frame, walk_trace_without_frames}
use Rattle.name_walk.specs.Trails.{Faults}
use Rattle.name_walk.specs.Visits.{IsWalkMarkFound}
use Rattle.name_walk.proofs.Going.{HaveRoom}
use Rattle.name_walk.proofs.Links.{current_name_is_on_path, frame}
use Rattle.name_walk.proofs.Moves.{weight_at}
use Rattle.name_walk.proofs.SearchMarks.{walk_marks_can_be_cleared}
use Rattle.name_walk.proofs.SearchInvariant.{IsSeeking, close_clear, fault_clear, seek_begin, seek_enter, seek_fault}
use Rattle.name_walk.proofs.SearchInvariant.{seek_finish, seek_leave, seek_pass, seek_there}
use Rattle.name_walk.proofs.Weights.{enter_less, leave_less, pass_less, weight}
use Rattle.name_walk.proofs.Members.{member_on_path}
use Rattle.general_lemmas.proofs.Members.{member_at}

-- a search is at a step of a name
abbrev pub IsSeekingAt : Graph → List Bool → ℕ → WalkTrace → WalkTrace → Faults → ℕ → ℕ → Type 0
IsSeekingAt g s start old t fs name place =
    IsSeeking g s start old t.marks t.entered_names t.order fs t.frames name place

module _ {g : Graph} {s : List Bool} (net : IsConsistentGraph g s) {start : ℕ} {old : WalkTrace} {fs : Faults} where
  pub begin_seek : (new : WalkTrace) → IsBetweenWalkSearches g s old fs → IsOpenForWalk s old.marks fs start
      → new ≡ walk_trace_with_entered old start
      → IsSeekingAt g s start old new fs start 0
  begin_seek new b o e =
      let seeking : List Frame → Type 0 =
      λ hs. IsSeeking g s start old (set old.marks start OnPath) (old.entered_names ++ start ∷ []) old.order fs hs start
      0 in
      subst (λ (x : WalkTrace). IsSeekingAt g s start old x fs start 0) (sym e)
      (subst seeking (sym b.consistent.frames) (seek_begin g s net start old fs b o))

  module _ {t : WalkTrace} {name place : ℕ} (go : IsSeekingAt g s start old t fs name place) where
    pub name_there : name < length g
    name_there = seek_there g s net start old fs t.marks t.entered_names t.order t.frames name place go

    pub pass_seek : (m : ℕ) → slice_get (graph_steps g name) place ≡ Some (To m) → IsWalkMarkFound s t.marks m Closed
        → IsSeekingAt g s start old t fs name (place + 1)
    pass_seek m e found =
        seek_pass g s net start old fs t.marks t.entered_names t.order t.frames name place go m e
        (elim found [ inl d ↦ inl d | inr d ↦ inr (go.marks.closed m d) ])

    pub enter_seek : (m : ℕ) (pushed new : WalkTrace) → slice_get (graph_steps g name) place ≡ Some (To m)
        → IsOpenForWalk s t.marks fs m → place + 1 < 2 ^ 64 → pushed ≡ walk_trace_with_frame t (frame name place)
        → new ≡ walk_trace_with_entered pushed m → IsSeekingAt g s start old new fs m 0
    enter_seek m pushed new e o fits push entering =
        subst (λ (x : WalkTrace). IsSeekingAt g s start old x fs m 0)
        (sym (entering ∙ ap (λ (x : WalkTrace). walk_trace_with_entered x m) push))
        (seek_enter g s net start old fs t.marks t.entered_names t.order t.frames name place go m e o fits)

    pub clear_seek : (new : WalkTrace) → new ≡ t → CanClearWalk new.marks new.entered_names fs
    clear_seek new e =
        subst (λ (x : WalkTrace). CanClearWalk x.marks x.entered_names fs) (sym e)
        (walk_marks_can_be_cleared t.marks t.entered_names t.order fs _ go.marks)

    module _ (full : length (graph_steps g name) ≤ place) {closed : WalkTrace}
        (close : closed ≡ walk_trace_with_closed t name) where
      pub clear_closed : (new : WalkTrace) → new ≡ closed → CanClearWalk new.marks new.entered_names fs
      clear_closed new same =
          subst (λ (x : WalkTrace). CanClearWalk x.marks x.entered_names fs) (sym (same ∙ close))
          (close_clear g s net start old fs t.marks t.entered_names t.order t.frames name place go full)

      pub finish_seek : (new : WalkTrace) → new ≡ closed → closed.frames ≡ []
          → IsSearchedByWalk g s start old new fs fs false
      finish_seek new popped none =
          let top : t.frames ≡ [] = sym (ap (λ (x : WalkTrace). x.frames) close) ∙ none in
          let seeking : List Frame → Type 0 =
          λ hs. IsSeeking g s start old t.marks t.entered_names t.order fs hs name place in
          let ended : List Frame → Type 0 =
          λ hs. IsSearchedByWalk g s start old (record (walk_trace_with_closed t name) { frames = hs }) fs fs false in
          subst (λ (x : WalkTrace). IsSearchedByWalk g s start old x fs fs false) (sym (popped ∙ close))
          (subst ended (sym top)
          (seek_finish g s net start old fs t.marks t.entered_names t.order name place (subst seeking top go) full))

      pub leave_seek : (f : Frame) (new : WalkTrace) → closed ≡ walk_trace_with_frame new f
          → IsSeekingAt g s start old new fs f.name (f.place + 1)
      leave_seek f new pop =
          let frames : t.frames ≡ new.frames ++ f ∷ [] = ap (λ (x : WalkTrace). x.frames) (sym close ∙ pop) in
          let is : record (walk_trace_with_closed t name) { frames = new.frames } ≡ new =
          ap (λ (x : WalkTrace). record x { frames = new.frames }) (sym close ∙ pop) in
          let seeking : List Frame → Type 0 =
          λ hs. IsSeeking g s start old t.marks t.entered_names t.order fs hs name place in
          subst (λ (x : WalkTrace). IsSeekingAt g s start old x fs f.name (f.place + 1)) is
          (seek_leave g s net start old fs t.marks t.entered_names t.order new.frames f name place
          (subst seeking frames go) full)

      pub room_seek : (f : Frame) (new : WalkTrace) → closed ≡ walk_trace_with_frame new f → f.place + 1 < 2 ^ 64
      room_seek f new pop =
          let frames : t.frames ≡ new.frames ++ f ∷ [] = ap (λ (x : WalkTrace). x.frames) (sym close ∙ pop) in
          last_room new.frames f (subst HaveRoom frames go.way.room)
        where
          last_room : (hs : List Frame) (h : Frame) → HaveRoom (hs ++ h ∷ []) → h.place + 1 < 2 ^ 64
          last_room [] h r = r.0
          last_room (x ∷ hs) h r = last_room hs h r.1

      pub leave_less_seek : (f : Frame) (new : WalkTrace) → closed ≡ walk_trace_with_frame new f
          → weight_at g new f.name (f.place + 1) < weight_at g t name place
      leave_less_seek f new pop =
          let frames : t.frames ≡ new.frames ++ f ∷ [] = ap (λ (x : WalkTrace). x.frames) (sym close ∙ pop) in
          let is : record (walk_trace_with_closed t name) { frames = new.frames } ≡ new =
          ap (λ (x : WalkTrace). record x { frames = new.frames }) (sym close ∙ pop) in
          let less : List Frame → Type 0 =
          λ hs. weight g (set t.marks name Closed) new.frames f.name (f.place + 1) < weight g t.marks hs name place in
          subst (λ (x : WalkTrace). weight_at g x f.name (f.place + 1) < weight_at g t name place) is
          (subst less (sym frames)
          (leave_less g t.marks new.frames f name place (go.marks.on_path name (current_name_is_on_path t.frames name))
          go.way.within))

    -- a name to which a step leads is in range
    pub next_there : (m : ℕ) → slice_get (graph_steps g name) place ≡ Some (To m)
        → (m < length s) × (m < length t.marks) × (m < length fs)
    next_there m e =
        let there : m < length g = net.steps_in_range name m (member_at _ _ _ e) in
        let ms : length g ≤ length t.marks = go.marks_size in
        let hs : length g ≤ length fs = go.faults_size in
        (subst (λ (k : ℕ). m < k) (sym net.mark_per_name) there, omega arith, omega arith)

    pub enter_less_seek : (m : ℕ) (pushed new : WalkTrace) → slice_get (graph_steps g name) place ≡ Some (To m)
        → IsOpenForWalk s t.marks fs m → pushed ≡ walk_trace_with_frame t (frame name place)
        → new ≡ walk_trace_with_entered pushed m
        → weight_at g new m 0 < weight_at g t name place
    enter_less_seek m pushed new e o push entering =
        subst (λ (x : WalkTrace). weight_at g x m 0 < weight_at g t name place)
        (sym (entering ∙ ap (λ (x : WalkTrace). walk_trace_with_entered x m) push))
        (enter_less g t.marks t.frames (frame name place) m o.mark (net.steps_in_range name m (member_at _ _ _ e)))

    pub pass_less_seek : (x : Step) → slice_get (graph_steps g name) place ≡ Some x
        → weight_at g t name (place + 1) < weight_at g t name place
    pass_less_seek x e = pass_less g t.marks t.frames name place (slice_get_within _ _ _ e)

    pub path_there_seek : (n : ℕ) → Contains (path_of_frames t.frames name) n → n < length fs
    path_there_seek n i =
        let l : n < length g = go.way.is_path.names_in_graph n (member_on_path (path_of_frames t.frames name) n i) in
        let k : length g ≤ length fs = go.faults_size in
        omega arith

    module _ (hs : Faults) (x : Step) (ending : Ending) (at : slice_get (graph_steps g name) place ≡ Some x)
        (is : IsPathEnding t.marks fs name x ending)
        (noted : ArePathFaultsNoted hs ending x (path_of_frames t.frames name))
        (others : (n : ℕ) → (Contains (path_of_frames t.frames name) n → ⊥) → slice_get hs n ≡ slice_get fs n)
        (size : length hs ≡ length fs) (new : WalkTrace) (same : new ≡ walk_trace_without_frames t) where
      pub fault_clear_seek : CanClearWalk new.marks new.entered_names hs
      fault_clear_seek =
          subst (λ (y : WalkTrace). CanClearWalk y.marks y.entered_names hs) (sym same)
          (fault_clear g s net start old fs hs t.marks t.entered_names t.order t.frames name place go x ending at is
          noted
          others size)

      pub fault_seek : IsSearchedByWalk g s start old new fs hs true
      fault_seek =
          subst (λ (y : WalkTrace). IsSearchedByWalk g s start old y fs hs true) (sym same)
          (seek_fault g s net start old fs hs t.marks t.entered_names t.order t.frames name place go x ending at is
          noted
          others size)
