-- A running search, and the invariant that each of its moves preserves.
use Rattle.std.proofs.Common.{◌≡◌, ◌⊎◌, ℕ, suc, ◌+◌, ◌^◌, ◌<◌, ◌≤◌, Bool, true, false, List, [], ◌∷◌, ◌++◌, length}
use Rattle.std.proofs.Common.{take, set, Some, refl, sym, ◌∙◌, ap, subst, inl, inr, arith, nat_eq, length-set, Contains}
use Rattle.std.specs.List.{IsDistinct, slice_get}
use Rattle.std.proofs.lemmas.Bool.{false_from_ne_true}
use Rattle.std.proofs.lemmas.List.{take_all}
use Rattle.std.proofs.lemmas.List.Elements.{Contains-append_left, Contains-push, Contains-push_cases}
use Rattle.std.proofs.lemmas.Option.{slice_get_within}
use Rattle.name_walk.specs.declared.mark.Mark.{Mark}
use Rattle.name_walk.specs.declared.mark.Mark.TheVariants.{Closed, OnPath, Open}
use Rattle.name_walk.specs.declared.step.Step.{Step}
use Rattle.name_walk.specs.declared.step.Step.TheVariants.{Nowhere, To}
use Rattle.name_walk.specs.declared.traces.Frame.{Frame}
use Rattle.name_walk.specs.declared.trail.Ending.{Ending}
use Rattle.name_walk.specs.declared.trail.Ending.TheVariants.{At, Ring}
use Rattle.name_walk.specs.ClosedNames.{IsClosedInGraph, IsSettledInGraph, IsSettledOrWalked, WalkStepLeadsInto}
use Rattle.name_walk.specs.Faults.{is_on_path}
use Rattle.name_walk.specs.Findings.{CanClearWalk}
use Rattle.name_walk.specs.Nets.{IsConsistentGraph}
use Rattle.name_walk.specs.PathRecords.{ArePathFaultsNoted}
use Rattle.name_walk.specs.Paths.{IsNamePath}
use Rattle.name_walk.specs.Searches.{IsBetweenWalkSearches, IsOpenForWalk, IsPathEnding, IsSearchedByWalk}
use Rattle.name_walk.specs.Steps.{Graph, GraphLeadsTo, GraphReaches, at_once, further, graph_steps}
use Rattle.name_walk.specs.Traces.{WalkTrace, path_of_frames}
use Rattle.name_walk.specs.Trails.{AreWalkFindings, AreWalkTrails, Faults, IsFaultyInWalk, IsStepAfterSoundSteps}
use Rattle.name_walk.specs.Visits.{IsBelowInGraph}
use Rattle.name_walk.proofs.ClosedPaths.{any_depth, walk_step_leads_into_weaker}
use Rattle.name_walk.proofs.Faults.{empty_path, path_extends_by_name}
use Rattle.name_walk.proofs.Going.{HaveRoom}
use Rattle.name_walk.proofs.Links.{AreDone, AreLinked, frame, frame_keeps_path_head, head, path_ends_with_current_name}
use Rattle.name_walk.proofs.Links.{walked_steps_stay_walked, linked_more, linked_pop, linked_push, linked_reach}
use Rattle.name_walk.proofs.Links.{frame_makes_path_longer, path_head_is_on_path, current_name_is_on_path}
use Rattle.name_walk.proofs.Lists.{all_at, all_map, distinct_last}
use Rattle.name_walk.proofs.Marks.{entered_again, marked_name_was_entered_by_walk}
use Rattle.name_walk.proofs.PathFaults.{PathEnds, noted_faulty, path_findings, path_trails, still_faulty}
use Rattle.name_walk.proofs.DoneNames.{done_closed}
use Rattle.name_walk.proofs.SearchMarks.{AreMarks, walk_marks_after_closing, walk_marks_after_entering}
use Rattle.name_walk.proofs.SearchMarks.{walk_marks_can_be_cleared}
use Rattle.name_walk.proofs.Members.{member_on_path, member_or, on_path_member}
use Rattle.general_lemmas.proofs.Places.{take_at}
use Rattle.general_lemmas.proofs.Properties.{all_append, all_front, distinct_front}
use Rattle.general_lemmas.proofs.Members.{no_member, member_at}

-- the path, whose frames have the places of the steps by which it goes on
pub record IsOnTrail (g : Graph) (s : List Bool) (start : ℕ) (os : List ℕ) (frames : List Frame) (name place : ℕ)
    : Type 0 where
  pub is_path : IsNamePath g (path_of_frames frames name)
  pub begins : head frames name ≡ start
  pub linked : AreLinked g s os frames name
  pub passed : AreDone s os (take place (graph_steps g name))
  pub within : place ≤ length (graph_steps g name)
  pub room : HaveRoom frames

pub record IsSeeking (g : Graph) (s : List Bool) (start : ℕ) (old : WalkTrace) (ms : List Mark) (es os : List ℕ)
    (fs : Faults) (frames : List Frame) (name place : ℕ) : Type 0 where
  pub are : AreWalkFindings g s os fs
  pub trails : AreWalkTrails fs
  pub marks : AreMarks ms es os fs (path_of_frames frames name)
  pub way : IsOnTrail g s start os frames name place
  pub marks_size : length g ≤ length ms
  pub faults_size : length g ≤ length fs
  pub kept : (n : ℕ) → Contains old.order n → Contains os n
  pub from : (n : ℕ) → Contains es n
      → Contains old.entered_names n ⊎ (IsBelowInGraph g start n × (IsSettledInGraph s n → ⊥))

-- a name that is done stays done after one more name is closed
walked_stays_after_closing : (s : List Bool) (os : List ℕ) (n m : ℕ) → IsSettledOrWalked s os m
    → IsSettledOrWalked s (os ++ n ∷ []) m
walked_stays_after_closing s os n m (inl e) = inl e
walked_stays_after_closing s os n m (inr i) = inr (Contains-append_left os (n ∷ []) m i)

sound_steps_before_stay_sound : (g : Graph) (s : List Bool) (os : List ℕ) (k n : ℕ) (x : Step)
    → IsStepAfterSoundSteps g s os n x
    → IsStepAfterSoundSteps g s (os ++ k ∷ []) n x
sound_steps_before_stay_sound g s os k n x a = record {
  place = a.place;
  step_at = a.step_at;
  earlier_done = walked_steps_stay_walked s os k (take a.place (graph_steps g n)) a.earlier_done;
}

walk_findings_after_closing : (g : Graph) (s : List Bool) (os : List ℕ) (fs : Faults) (n : ℕ)
    → AreWalkFindings g s os fs
    → IsClosedInGraph g n → ((m : ℕ) → GraphLeadsTo g n m → IsSettledOrWalked s os m)
    → AreWalkFindings g s (os ++ n ∷ []) fs
walk_findings_after_closing g s os fs n are closed below = record {
  names_sound = λ k i. elim (Contains-push_cases os n k i) [
    | inl j ↦ ((are.names_sound k j).0, λ m l. walked_stays_after_closing s os n m ((are.names_sound k j).1 m l))
    | inr e ↦ subst (λ (q : ℕ).
        IsClosedInGraph g q × ((m : ℕ) → GraphLeadsTo g q m → IsSettledOrWalked s (os ++ n ∷ []) m)) e
        (closed, λ m l. walked_stays_after_closing s os n m (below m l))
  ];
  first_faults = λ k c e. sound_steps_before_stay_sound g s os n k c.step (are.first_faults k c e);
}

module _ (g : Graph) (s : List Bool) (net : IsConsistentGraph g s) (start : ℕ) (old : WalkTrace) where
  -- ---- the start
  pub seek_begin : (fs : Faults) → IsBetweenWalkSearches g s old fs → IsOpenForWalk s old.marks fs start
      → IsSeeking g s start old (set old.marks start OnPath) (old.entered_names ++ start ∷ []) old.order fs [] start 0
  seek_begin fs b o =
      let there : start < length g =
      (let c : start < length s = slice_get_within s start false o.not_settled in
      subst (λ (k : ℕ). start < k) net.mark_per_name c) in
      record {
        are = b.findings_right;
        trails = b.consistent.trails;
        marks = walk_marks_after_entering old.marks old.entered_names old.order fs [] start (record {
          entered = b.consistent.can_clear.names_entered;
          within = b.consistent.can_clear.names_within;
          noted = b.consistent.can_clear.faulty_entered;
          closed = b.consistent.marked_in_order;
          sound = b.consistent.order_entered;
          marked = λ n e. inr (b.consistent.off_path n e);
          on_path = λ n i. absurd (no_member n i);
          fresh = λ n i f. no_member n i;
        }) o.mark (let l : length g ≤ length fs = b.fault_room in omega arith) o.not_faulty;
        way = record {
          is_path = path_extends_by_name g [] start (empty_path g) refl there;
          begins = refl;
          linked = tt;
          passed = tt;
          within = omega arith;
          room = tt;
        };
        marks_size = subst (λ (k : ℕ). length g ≤ k) (sym (length-set old.marks start OnPath)) b.marks;
        faults_size = b.fault_room;
        kept = λ n i. i;
        from = λ n i. elim (Contains-push_cases old.entered_names start n i) [
          | inl j ↦ inl j
          | inr e ↦ inr (
            inl (sym e),
            λ q. let f : slice_get s n ≡ Some false = ap (slice_get s) (sym e) ∙ o.not_settled in cc,
          )
        ];
      }

  module _ (fs : Faults) (ms : List Mark) (es os : List ℕ) (frames : List Frame) (name place : ℕ)
      (go : IsSeeking g s start old ms es os fs frames name place) where
    pub seek_there : name < length g
    seek_there = go.way.is_path.names_in_graph name
        (member_on_path (path_of_frames frames name) name (current_name_is_on_path frames name))

    seek_mark : slice_get ms name ≡ Some OnPath
    seek_mark = go.marks.on_path name (current_name_is_on_path frames name)

    seek_below : IsBelowInGraph g start name
    seek_below =
        elim (linked_reach g s os frames name go.way.linked (head frames name) (path_head_is_on_path frames name)) [
          | inl e ↦ inl (sym e ∙ go.way.begins)
          | inr r ↦ inr (subst (λ (x : ℕ). GraphReaches g x name) go.way.begins r)
        ]

    -- ---- passing a step to a name that is done
    pub seek_pass : (m : ℕ) → slice_get (graph_steps g name) place ≡ Some (To m) → IsSettledOrWalked s os m
        → IsSeeking g s start old ms es os fs frames name (place + 1)
    seek_pass m e d = record {
      are = go.are;
      trails = go.trails;
      marks = go.marks;
      way = record {
        is_path = go.way.is_path;
        begins = go.way.begins;
        linked = go.way.linked;
        passed = subst (λ (xs : List Step). AreDone s os xs) (sym (take_at (graph_steps g name) place (To m) e))
            (all_append (WalkStepLeadsInto (IsSettledOrWalked s os)) (take place (graph_steps g name))
            (To m ∷ []) go.way.passed (d, tt));
        within = let l : place < length (graph_steps g name) = slice_get_within _ _ _ e in omega arith;
        room = go.way.room;
      };
      marks_size = go.marks_size;
      faults_size = go.faults_size;
      kept = go.kept;
      from = go.from;
    }

    -- ---- entering an open name
    below_next : (m : ℕ) → GraphLeadsTo g name m → IsBelowInGraph g start m
    below_next m l = elim seek_below [
      | inl e ↦ inr (subst (λ (x : ℕ). GraphReaches g x m) e (at_once l))
      | inr r ↦ inr (onward_to r l)
    ]
      where
        onward_to : {a b : ℕ} → GraphReaches g a b → GraphLeadsTo g b m → GraphReaches g a m
        onward_to (at_once k) j = further k (at_once j)
        onward_to (further k r) j = further k (onward_to r j)

    pub seek_enter : (m : ℕ) → slice_get (graph_steps g name) place ≡ Some (To m) → IsOpenForWalk s ms fs m
        → place + 1 < 2 ^ 64
        → IsSeeking g s start old (set ms m OnPath) (es ++ m ∷ []) os fs (frames ++ frame name place ∷ []) m 0
    seek_enter m e o fits =
        let leads : GraphLeadsTo g name m = member_at _ _ _ e in
        let there : m < length g = net.steps_in_range name m leads in
        let p : path_of_frames (frames ++ frame name place ∷ []) m ≡ path_of_frames frames name ++ m ∷ [] =
        frame_makes_path_longer frames (frame name place) m in
        let new : is_on_path (path_of_frames frames name) m ≡ false =
        false_from_ne_true _ (λ f. let a : slice_get ms m ≡ Some OnPath =
        go.marks.on_path m (on_path_member (path_of_frames frames name) m f) in
        let b : slice_get ms m ≡ Some Open = o.mark in
        cc) in
        record {
          are = go.are;
          trails = go.trails;
          marks = subst (λ (q : List ℕ). AreMarks (set ms m OnPath) (es ++ m ∷ []) os fs q) (sym p)
              (walk_marks_after_entering ms es os fs (path_of_frames frames name) m go.marks o.mark
              (let l : length g ≤ length fs = go.faults_size in omega arith) o.not_faulty);
          way = record {
            is_path = subst (λ (q : List ℕ). IsNamePath g q) (sym p)
                (path_extends_by_name g (path_of_frames frames name) m go.way.is_path new there);
            begins = frame_keeps_path_head frames (frame name place) m ∙ go.way.begins;
            linked = linked_push g s os frames (frame name place) m go.way.linked e go.way.passed;
            passed = tt;
            within = omega arith;
            room = all_append (λ (f : Frame). f.place + 1 < 2 ^ 64) frames (frame name place ∷ []) go.way.room
                (fits, tt);
          };
          marks_size = subst (λ (k : ℕ). length g ≤ k) (sym (length-set ms m OnPath)) go.marks_size;
          faults_size = go.faults_size;
          kept = go.kept;
          from = λ n i. elim (Contains-push_cases es m n i) [
            | inl j ↦ go.from n j
            | inr q ↦ inr (
              subst (λ (k : ℕ). IsBelowInGraph g start k) q (below_next m leads),
              λ t. let f : slice_get s n ≡ Some false = ap (slice_get s) (sym q) ∙ o.not_settled in cc,
            )
          ];
        }

    -- ---- after all steps of the name are passed
    module _ (full : length (graph_steps g name) ≤ place) where
      all_done : AreDone s os (graph_steps g name)
      all_done = subst (λ (xs : List Step). AreDone s os xs) (take_all place (graph_steps g name) full) go.way.passed

      name_closes : IsClosedInGraph g name
      name_closes = any_depth g net.steps_in_range (suc (length g)) name seek_there
          (all_map (WalkStepLeadsInto (IsSettledOrWalked s os)) (WalkStepLeadsInto (IsClosedInGraph g))
          (walk_step_leads_into_weaker (IsSettledOrWalked s os) (IsClosedInGraph g)
          (done_closed g s net.settled_right os (λ n i. (go.are.names_sound n i).0)))
          (graph_steps g name) all_done)

      pub close_findings : AreWalkFindings g s (os ++ name ∷ []) fs
      close_findings = walk_findings_after_closing g s os fs name go.are name_closes
          (λ m l. all_at (WalkStepLeadsInto (IsSettledOrWalked s os)) (graph_steps g name) (To m) all_done l)

      pub close_clear : CanClearWalk (set ms name Closed) es fs
      close_clear =
          let here : name < length ms = slice_get_within ms name OnPath seek_mark in
          record {
            names_entered = entered_again ms name here Closed es
                (marked_name_was_entered_by_walk OnPath (λ q. cc) ms es name go.marks.entered seek_mark)
                go.marks.entered;
            names_within = go.marks.within;
            faulty_entered = go.marks.noted;
          }

      pub close_size : length g ≤ length (set ms name Closed)
      close_size = subst (λ (k : ℕ). length g ≤ k) (sym (length-set ms name Closed)) go.marks_size

      pub close_kept : (n : ℕ) → Contains old.order n → Contains (os ++ name ∷ []) n
      close_kept n i = Contains-append_left os (name ∷ []) n (go.kept n i)

  -- ---- leaving a name for the one above it
  pub seek_leave : (fs : Faults) (ms : List Mark) (es os : List ℕ) (frames : List Frame) (f : Frame) (name place : ℕ)
      → IsSeeking g s start old ms es os fs (frames ++ f ∷ []) name place → length (graph_steps g name) ≤ place
      → IsSeeking g s start old (set ms name Closed) es (os ++ name ∷ []) fs frames f.name (f.place + 1)
  seek_leave fs ms es os frames f name place go full =
      let pop = linked_pop g s os frames f name go.way.linked in
      let p : path_of_frames (frames ++ f ∷ []) name ≡ path_of_frames frames f.name ++ name ∷ [] =
      frame_makes_path_longer frames f name in
      let once : IsDistinct nat_eq (path_of_frames frames f.name ++ name ∷ []) =
      subst (λ (q : List ℕ). IsDistinct nat_eq q) p go.way.is_path.names_differ in
      let apart : Contains (path_of_frames frames f.name) name → ⊥ = distinct_last (path_of_frames frames f.name) name
      once in
      let short : f.place < length (graph_steps g f.name) = slice_get_within _ _ _ pop.1 in
      let up : (n : ℕ) → Contains (path_of_frames frames f.name) n → Contains (path_of_frames (frames ++ f ∷ []) name) n
      =
      λ n i. subst (λ (q : List ℕ). Contains q n) (sym p)
      (Contains-append_left (path_of_frames frames f.name) (name ∷ []) n i) in
      record {
        are = close_findings fs ms es os (frames ++ f ∷ []) name place go full;
        trails = go.trails;
        marks = walk_marks_after_closing ms es os fs (path_of_frames frames f.name) name
            (subst (λ (q : List ℕ). AreMarks ms es os fs q) p go.marks) apart;
        way = record {
          is_path = record {
            names_differ = distinct_front (path_of_frames frames f.name) (name ∷ []) once;
            names_in_graph = λ q e. go.way.is_path.names_in_graph q (member_on_path _ q (up q (on_path_member _ q e)));
          };
          begins = sym (frame_keeps_path_head frames f name) ∙ go.way.begins;
          linked = linked_more g s os name frames f.name pop.0;
          passed = subst (λ (xs : List Step). AreDone s (os ++ name ∷ []) xs)
              (sym (take_at (graph_steps g f.name) f.place (To name) pop.1))
              (all_append (WalkStepLeadsInto (IsSettledOrWalked s (os ++ name ∷ [])))
              (take f.place (graph_steps g f.name)) (To name ∷ [])
              (walked_steps_stay_walked s os name _ pop.2) (inr (Contains-push os name), tt));
          within = omega arith;
          room = all_front (λ (h : Frame). h.place + 1 < 2 ^ 64) frames (f ∷ []) go.way.room;
        };
        marks_size = close_size fs ms es os (frames ++ f ∷ []) name place go full;
        faults_size = go.faults_size;
        kept = close_kept fs ms es os (frames ++ f ∷ []) name place go full;
        from = go.from;
      }

  -- ---- leaving the first name, which is sound
  pub seek_finish : (fs : Faults) (ms : List Mark) (es os : List ℕ) (name place : ℕ)
      → IsSeeking g s start old ms es os fs [] name place → length (graph_steps g name) ≤ place
      → IsSearchedByWalk g s start old
      (record { marks = set ms name Closed; entered_names = es; order = os ++ name ∷ []; frames = [] }) fs fs false
  seek_finish fs ms es os name place go full =
      let m : AreMarks (set ms name Closed) es (os ++ name ∷ []) fs [] =
      walk_marks_after_closing ms es os fs [] name go.marks (λ i. no_member name i) in
      record {
        state_between = record {
          findings_right = close_findings fs ms es os [] name place go full;
          consistent = record {
            can_clear = walk_marks_can_be_cleared (set ms name Closed) es (os ++ name ∷ []) fs [] m;
            marked_in_order = m.closed;
            order_entered = m.sound;
            trails = go.trails;
            off_path = λ n e. elim (m.marked n e) [ inl i ↦ absurd (no_member n i) | inr f ↦ f ];
            frames = refl;
          };
          marks = close_size fs ms es os [] name place go full;
          fault_room = go.faults_size;
        };
        more = record {
          order_grows = close_kept fs ms es os [] name place go full;
          faults_grow = λ n f. f;
          names = go.from;
        };
        decision = inr (subst (λ (x : ℕ). Contains (os ++ name ∷ []) x) go.way.begins (Contains-push os name));
      }

  -- ---- meeting a fault, which is recorded for the names of the path
  module _ (fs hs : Faults) (ms : List Mark) (es os : List ℕ) (frames : List Frame) (name place : ℕ)
      (go : IsSeeking g s start old ms es os fs frames name place) (x : Step) (ending : Ending)
      (at : slice_get (graph_steps g name) place ≡ Some x) (is : IsPathEnding ms fs name x ending) where
    path_once : IsDistinct nat_eq (path_of_frames frames name)
    path_once = go.way.is_path.names_differ

    ends_so : (y : Step) (d : Ending) → IsPathEnding ms fs name y d → PathEnds fs (path_of_frames frames name) name y d
    ends_so (Nowhere w) d h = (h, path_ends_with_current_name [] frames name)
    ends_so (To m) (At e) h = h
    ends_so (To m) (Ring k) h = (
      h.0,
      elim (go.marks.marked m h.1) [ inl i ↦ i | inr f ↦ absurd (h.2 f) ],
    )

    module _ (noted : ArePathFaultsNoted hs ending x (path_of_frames frames name))
        (others : (n : ℕ) → (Contains (path_of_frames frames name) n → ⊥) → slice_get hs n ≡ slice_get fs n)
        (size : length hs ≡ length fs) where
      more_faulty : (n : ℕ) → IsFaultyInWalk fs n → IsFaultyInWalk hs n
      more_faulty =
          still_faulty fs hs ending x (path_of_frames frames name) noted others go.marks.fresh path_once go.trails

      all_noted : (n : ℕ) → IsFaultyInWalk hs n → Contains es n
      all_noted n f = elim (member_or (path_of_frames frames name) n) [
        | inl i ↦ marked_name_was_entered_by_walk OnPath (λ q. cc) ms es n go.marks.entered (go.marks.on_path n i)
        | inr out ↦ go.marks.noted n (f.0, sym (others n out) ∙ f.1)
      ]

      -- the marks of the path may stay
      pub fault_clear : CanClearWalk ms es hs
      fault_clear = record {
        names_entered = go.marks.entered;
        names_within = λ n i. subst (λ (k : ℕ). n < k) (sym size) (go.marks.within n i);
        faulty_entered = all_noted;
      }

      pub seek_fault : IsSearchedByWalk g s start old
          (record { marks = ms; entered_names = es; order = os; frames = [] }) fs hs true
      seek_fault = record {
        state_between = record {
          findings_right = path_findings fs hs ending x (path_of_frames frames name) noted others go.marks.fresh
              path_once
              go.trails
              g s os frames name refl go.way.linked
              (record { place = place; step_at = at; earlier_done = go.way.passed }) go.are;
          consistent = record {
            can_clear = fault_clear;
            marked_in_order = go.marks.closed;
            order_entered = go.marks.sound;
            trails = path_trails fs hs ending x (path_of_frames frames name) noted others go.marks.fresh path_once
                go.trails
                name (ends_so x ending is);
            off_path = λ n e. elim (go.marks.marked n e) [
              | inl i ↦ noted_faulty hs ending x (path_of_frames frames name) noted n i
              | inr f ↦ more_faulty n f
            ];
            frames = refl;
          };
          marks = go.marks_size;
          fault_room = subst (λ (k : ℕ). length g ≤ k) (sym size) go.faults_size;
        };
        more = record { order_grows = go.kept; faults_grow = more_faulty; names = go.from };
        decision = subst (λ (n : ℕ). IsFaultyInWalk hs n) go.way.begins
            (noted_faulty hs ending x (path_of_frames frames name) noted (head frames name)
            (path_head_is_on_path frames name));
      }
