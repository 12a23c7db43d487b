-- A running visit, and the invariant that each of its moves preserves.
use Rattle.std.proofs.Common.{◌≡◌, ◌⊎◌, ℕ, suc, ◌+◌, ◌-◌, ◌^◌, ◌<◌, ◌≤◌, Bool, true, false, List, [], ◌∷◌, ◌++◌, length}
use Rattle.std.proofs.Common.{take, drop, set, Some, None, refl, sym, ◌∙◌, ap, subst, inl, inr, arith, nat_eq, Contains}
use Rattle.std.specs.List.{AllByRecursion, IsDistinct, slice_get}
use Rattle.std.proofs.lemmas.Bool.{cond-true, false_from_ne_true}
use Rattle.std.proofs.lemmas.List.{take_all, drop_all}
use Rattle.std.proofs.lemmas.List.Elements.{Contains-append_left, Contains-push}
use Rattle.std.proofs.lemmas.Option.{slice_get_within}
use Rattle.name_walk.specs.declared.mark.Mark.{Mark}
use Rattle.name_walk.specs.declared.mark.Mark.TheVariants.{Closed, OnPath, Open}
use Rattle.name_walk.specs.declared.step.Step.{Step}
use Rattle.name_walk.specs.declared.step.Step.TheVariants.{Nowhere, To}
use Rattle.name_walk.specs.declared.traces.Frame.{Frame}
use Rattle.name_walk.specs.ClosedNames.{IsClosedInGraph, IsSettledInGraph, IsSettledOrWalked, WalkStepLeadsInto}
use Rattle.name_walk.specs.Faults.{Cycle, DeadEnd, is_on_path, path_fault_at_name, path_fault_within, path_from_name}
use Rattle.name_walk.specs.Faults.{steps_fault_after_path}
use Rattle.name_walk.specs.Nets.{IsConsistentGraph}
use Rattle.name_walk.specs.Paths.{IsNamePath}
use Rattle.name_walk.specs.Steps.{Graph, GraphLeadsTo, GraphReaches, at_once, graph_steps}
use Rattle.name_walk.specs.Traces.{WalkTrace, path_of_frames}
use Rattle.name_walk.specs.Visits.{AreInWalkOrder, IsBelowInGraph, IsFaultlessWalkVisit}
use Rattle.name_walk.proofs.ClosedPaths.{any_depth, graph_reach_is_transitive, name_closed, walk_step_leads_into_weaker}
use Rattle.name_walk.proofs.Faults.{empty_path, fault_at_path_name, path_extends_by_name}
use Rattle.name_walk.proofs.Links.{AreDone, AreLinked, walked_steps_stay_walked, head, frame_keeps_path_head, frame}
use Rattle.name_walk.proofs.Links.{linked_more, path_ends_with_current_name, linked_pop, linked_push, linked_reach}
use Rattle.name_walk.proofs.Links.{frame_makes_path_longer, current_name_is_on_path, path_head_is_on_path}
use Rattle.name_walk.proofs.Lists.{all_at, all_map, distinct_last}
use Rattle.name_walk.proofs.Marks.{AreMarked, marked_pop, marked_push, walk_marks_exclude_each_other}
use Rattle.name_walk.proofs.WalkOrder.{either_new, ordering_close, ordering_enter}
use Rattle.name_walk.proofs.PendingFault.{enter_pending, fault_pending, leave_pending, pass_pending, pending}
use Rattle.name_walk.proofs.DoneNames.{done_closed}
use Rattle.name_walk.proofs.Members.{member_on_path, on_path_member}
use Rattle.general_lemmas.proofs.Places.{take_at}
use Rattle.general_lemmas.proofs.Properties.{all_append, all_front, distinct_front}
use Rattle.general_lemmas.proofs.Options.{or_none}
use Rattle.general_lemmas.proofs.Members.{no_member, member_cases, member_at}

-- the place of each frame can be passed
abbrev pub HaveRoom : List Frame → Type 0
HaveRoom fs = AllByRecursion (λ (f : Frame). f.place + 1 < 2 ^ 64) fs

-- the invariant of the frames, the current name and the place of its next step
pub record IsOnWay (g : Graph) (s : List Bool) (start : ℕ) (ms : List Mark) (os : List ℕ) (fs : List Frame)
    (name place : ℕ) : Type 0 where
  pub answer : pending g [] fs name place ≡ steps_fault_after_path g [] (To start ∷ [])
  pub is_path : IsNamePath g (path_of_frames fs name)
  pub begins : head fs name ≡ start
  pub linked : AreLinked g s os fs name
  pub passed : AreDone s os (take place (graph_steps g name))
  pub within : place ≤ length (graph_steps g name)
  pub on_path : AreMarked OnPath ms (path_of_frames fs name)
  pub fresh_path : (n : ℕ) → Contains (path_of_frames fs name) n → IsSettledInGraph s n → ⊥
  pub room : HaveRoom fs

-- the invariant of a visit, including the names that it has closed; `before` is the order at its start
pub record IsGoing (g : Graph) (s : List Bool) (start : ℕ) (before : List ℕ)
    (ms : List Mark) (es os : List ℕ) (fs : List Frame) (name place : ℕ) : Type 0 where
  pub way : IsOnWay g s start ms os fs name place
  pub in_target_order : AreInWalkOrder g s ms es os
  pub from : (n : ℕ) → Contains os n → Contains before n ⊎ IsBelowInGraph g start n
  pub kept : (n : ℕ) → Contains before n → Contains os n

module _ (g : Graph) (s : List Bool) (net : IsConsistentGraph g s) (start : ℕ) (before : List ℕ) where
  -- ---- the start
  pub begin : (ms : List Mark) (es : List ℕ) → AreInWalkOrder g s ms es before
      → ((n : ℕ) → slice_get ms n ≡ Some OnPath → ⊥)
      → slice_get s start ≡ Some false → slice_get ms start ≡ Some Open
      → IsGoing g s start before (set ms start OnPath) (es ++ start ∷ []) before [] start 0
  begin ms es h off unsettled is_open =
      let here : start < length ms = slice_get_within ms start Open is_open in
      let there : start < length g = subst (λ (k : ℕ). start < k) h.mark_per_name here in
      record {
        way = record {
          answer = sym (fault_at_path_name g [] start (empty_path g) refl there) ∙ sym (or_none _);
          is_path = path_extends_by_name g [] start (empty_path g) refl there;
          begins = refl;
          linked = tt;
          passed = tt;
          within = omega arith;
          on_path = marked_push ms start here OnPath [] (λ n. (λ e. absurd (off n e), λ i. absurd (no_member n i)));
          fresh_path = λ n i. elim (member_cases n start [] i) [
            | inl e ↦ λ t. absurd (let f : slice_get s n ≡ Some false = ap (slice_get s) e ∙ unsettled in cc)
            | inr j ↦ absurd (no_member n j)
          ];
          room = tt;
        };
        in_target_order = ordering_enter g s ms es before start h is_open;
        from = λ n i. inl i;
        kept = λ n i. i;
      }

  module _ (ms : List Mark) (es os : List ℕ) (fs : List Frame) (name place : ℕ)
      (go : IsGoing g s start before ms es os fs name place) where
    pub name_there : name < length g
    name_there = go.way.is_path.names_in_graph name
        (member_on_path (path_of_frames fs name) name (current_name_is_on_path fs name))

    pub name_marked : slice_get ms name ≡ Some OnPath
    name_marked = (go.way.on_path name).1 (current_name_is_on_path fs name)

    pub name_below : IsBelowInGraph g start name
    name_below =
        elim (linked_reach g s os fs name go.way.linked (head fs name) (path_head_is_on_path fs name)) [
          | inl e ↦ inl (sym e ∙ go.way.begins)
          | inr r ↦ inr (subst (λ (x : ℕ). GraphReaches g x name) go.way.begins r)
        ]

    -- ---- passing a step to a name that is done
    pub pass : (m : ℕ) → slice_get (graph_steps g name) place ≡ Some (To m) → IsSettledOrWalked s os m
        → IsGoing g s start before ms es os fs name (place + 1)
    pass m e d =
        let leads : GraphLeadsTo g name m = member_at _ _ _ e in
        let none : path_fault_at_name (path_fault_within g (length g - length (path_of_frames fs name)))
        (path_of_frames fs name) m ≡ None =
        name_closed g net.steps_in_range (length g) (path_of_frames fs name) m
        (done_closed g s net.settled_right os go.in_target_order.names_closed m d)
        (net.steps_in_range name m leads) go.way.is_path
        (λ q i. elim (linked_reach g s os fs name go.way.linked q i) [
          | inl f ↦ subst (λ (x : ℕ). GraphReaches g x m) (sym f) (at_once leads)
          | inr r ↦ graph_reach_is_transitive r (at_once leads)
        ]) in
        let short : place < length (graph_steps g name) = slice_get_within _ _ _ e in
        record {
          way = record {
            answer = sym (pass_pending g [] (path_of_frames fs name) fs name place (To m) refl e none) ∙ go.way.answer;
            is_path = go.way.is_path;
            begins = go.way.begins;
            linked = go.way.linked;
            passed = subst (λ (xs : List Step). AreDone s os xs) (sym (take_at (graph_steps g name) place (To m) e))
                (all_append (WalkStepLeadsInto (IsSettledOrWalked s os)) (take place (graph_steps g name))
                (To m ∷ []) go.way.passed
                (d, tt));
            within = omega arith;
            on_path = go.way.on_path;
            fresh_path = go.way.fresh_path;
            room = go.way.room;
          };
          in_target_order = go.in_target_order;
          from = go.from;
          kept = go.kept;
        }

    -- ---- entering an open name
    pub enter : (m : ℕ) → slice_get (graph_steps g name) place ≡ Some (To m) → slice_get ms m ≡ Some Open
        → slice_get s m ≡ Some false
        → place + 1 < 2 ^ 64
        → IsGoing g s start before (set ms m OnPath) (es ++ m ∷ []) os (fs ++ frame name place ∷ []) m 0
    enter m e is_open unsettled fits =
        let leads : GraphLeadsTo g name m = member_at _ _ _ e in
        let there : m < length g = net.steps_in_range name m leads in
        let here : m < length ms = slice_get_within ms m Open is_open in
        let apart : Contains (path_of_frames fs name) m
        → ⊥ = walk_marks_exclude_each_other OnPath Open ms (path_of_frames fs name) go.way.on_path (λ q. cc) m is_open
        in
        let new : is_on_path (path_of_frames fs name) m ≡ false =
        false_from_ne_true _ (λ f. apart (on_path_member (path_of_frames fs name) m f)) in
        let p : path_of_frames (fs ++ frame name place ∷ []) m ≡ path_of_frames fs name ++ m ∷ [] =
        frame_makes_path_longer fs (frame name place) m in
        record {
          way = record {
            answer = sym (enter_pending g [] (path_of_frames fs name) fs name place m refl e
                (fault_at_path_name g (path_of_frames fs name) m go.way.is_path new there))
                ∙ go.way.answer;
            is_path = subst (λ (q : List ℕ). IsNamePath g q) (sym p)
                (path_extends_by_name g (path_of_frames fs name) m go.way.is_path new there);
            begins = frame_keeps_path_head fs (frame name place) m ∙ go.way.begins;
            linked = linked_push g s os fs (frame name place) m go.way.linked e go.way.passed;
            passed = tt;
            within = omega arith;
            on_path = subst (λ (q : List ℕ). AreMarked OnPath (set ms m OnPath) q) (sym p)
                (marked_push ms m here OnPath (path_of_frames fs name) go.way.on_path);
            fresh_path = subst (λ (q : List ℕ). (n : ℕ) → Contains q n → IsSettledInGraph s n → ⊥) (sym p)
                (either_new {P = λ n. IsSettledInGraph s n → ⊥} (path_of_frames fs name) m go.way.fresh_path (λ t. cc));
            room = all_append (λ (f : Frame). f.place + 1 < 2 ^ 64) fs (frame name place ∷ []) go.way.room (fits, tt);
          };
          in_target_order = ordering_enter g s ms es os m go.in_target_order is_open;
          from = go.from;
          kept = go.kept;
        }

    -- ---- meeting a fault
    pub dead_end : (w : ℕ) → slice_get (graph_steps g name) place ≡ Some (Nowhere w)
        → steps_fault_after_path g [] (To start ∷ []) ≡ Some (DeadEnd w (Some name))
    dead_end w e =
        sym go.way.answer
        ∙ fault_pending g [] (path_of_frames fs name) fs name place (Nowhere w) (DeadEnd w (Some name)) refl e
        (ap (λ o. Some (DeadEnd w o)) (path_ends_with_current_name [] fs name))

    pub is_on : (m : ℕ) → slice_get ms m ≡ Some OnPath → is_on_path (path_of_frames fs name) m ≡ true
    is_on m marked = member_on_path (path_of_frames fs name) m ((go.way.on_path m).0 marked)

    pub cycle : (m : ℕ) → slice_get (graph_steps g name) place ≡ Some (To m) → slice_get ms m ≡ Some OnPath
        → steps_fault_after_path g [] (To start ∷ []) ≡ Some
        (Cycle (path_from_name m (path_of_frames fs name) ++ m ∷ []))
    cycle m e marked =
        sym go.way.answer
        ∙ fault_pending g [] (path_of_frames fs name) fs name place (To m)
        (Cycle (path_from_name m (path_of_frames fs name) ++ m ∷ [])) refl e
        (cond-true (is_on_path (path_of_frames fs name) m) _ _ (is_on m marked))

    -- ---- after all steps of the name are passed
    module _ (full : length (graph_steps g name) ≤ place) where
      all_done : AreDone s os (graph_steps g name)
      all_done = subst (λ (xs : List Step). AreDone s os xs) (take_all place (graph_steps g name) full) go.way.passed

      name_closes : IsClosedInGraph g name
      name_closes =
          any_depth g net.steps_in_range (suc (length g)) name name_there
          (all_map (WalkStepLeadsInto (IsSettledOrWalked s os)) (WalkStepLeadsInto (IsClosedInGraph g))
          (walk_step_leads_into_weaker (IsSettledOrWalked s os) (IsClosedInGraph g)
          (done_closed g s net.settled_right os go.in_target_order.names_closed))
          (graph_steps g name) all_done)

      pub ordering_after : AreInWalkOrder g s (set ms name Closed) es (os ++ name ∷ [])
      ordering_after =
          ordering_close g s ms es os name go.in_target_order name_marked name_closes
          (go.way.fresh_path name (current_name_is_on_path fs name))
          (λ m l. all_at (WalkStepLeadsInto (IsSettledOrWalked s os)) (graph_steps g name) (To m) all_done l)

      from_after : (n : ℕ) → Contains (os ++ name ∷ []) n → Contains before n ⊎ IsBelowInGraph g start n
      from_after = either_new {P = λ n. Contains before n ⊎ IsBelowInGraph g start n} os name go.from (inr name_below)

      kept_after : (n : ℕ) → Contains before n → Contains (os ++ name ∷ []) n
      kept_after n i = Contains-append_left os (name ∷ []) n (go.kept n i)

      nothing_left : drop place (graph_steps g name) ≡ []
      nothing_left = drop_all place (graph_steps g name) full

  -- ---- leaving a name for the one above it
  pub leave : (ms : List Mark) (es os : List ℕ) (fs : List Frame) (f : Frame) (name place : ℕ)
      → IsGoing g s start before ms es os (fs ++ f ∷ []) name place → length (graph_steps g name) ≤ place
      → IsGoing g s start before (set ms name Closed) es (os ++ name ∷ []) fs f.name (f.place + 1)
  leave ms es os fs f name place go full =
      let pop = linked_pop g s os fs f name go.way.linked in
      let p : path_of_frames (fs ++ f ∷ []) name ≡ path_of_frames fs f.name ++ name ∷ [] =
      frame_makes_path_longer fs f name in
      let once : IsDistinct nat_eq (path_of_frames fs f.name ++ name ∷ []) =
      subst (λ (q : List ℕ). IsDistinct nat_eq q) p go.way.is_path.names_differ in
      let apart : Contains (path_of_frames fs f.name) name → ⊥ = distinct_last (path_of_frames fs f.name) name once in
      let here : name < length ms =
      slice_get_within ms name OnPath (name_marked ms es os (fs ++ f ∷ []) name place go) in
      let short : f.place < length (graph_steps g f.name) = slice_get_within _ _ _ pop.1 in
      let up : (n : ℕ) → Contains (path_of_frames fs f.name) n → Contains (path_of_frames (fs ++ f ∷ []) name) n =
      λ n i. subst (λ (q : List ℕ). Contains q n) (sym p)
      (Contains-append_left (path_of_frames fs f.name) (name ∷ []) n i) in
      record {
        way = record {
          answer = sym (leave_pending g [] fs f name place (nothing_left ms es os (fs ++ f ∷ []) name place go full))
              ∙ go.way.answer;
          is_path = record {
            names_differ = distinct_front (path_of_frames fs f.name) (name ∷ []) once;
            names_in_graph = λ q e. go.way.is_path.names_in_graph q (member_on_path _ q (up q (on_path_member _ q e)));
          };
          begins = sym (frame_keeps_path_head fs f name) ∙ go.way.begins;
          linked = linked_more g s os name fs f.name pop.0;
          passed = subst (λ (xs : List Step). AreDone s (os ++ name ∷ []) xs)
              (sym (take_at (graph_steps g f.name) f.place (To name) pop.1))
              (all_append (WalkStepLeadsInto (IsSettledOrWalked s (os ++ name ∷ [])))
              (take f.place (graph_steps g f.name)) (To name ∷ [])
              (walked_steps_stay_walked s os name _ pop.2) (inr (Contains-push os name), tt));
          within = omega arith;
          on_path = marked_pop ms name here OnPath Closed (path_of_frames fs f.name)
              (subst (λ (q : List ℕ). AreMarked OnPath ms q) p go.way.on_path) (λ q. cc) apart;
          fresh_path = λ n i. go.way.fresh_path n (up n i);
          room = all_front (λ (f : Frame). f.place + 1 < 2 ^ 64) fs (f ∷ []) go.way.room;
        };
        in_target_order = ordering_after ms es os (fs ++ f ∷ []) name place go full;
        from = from_after ms es os (fs ++ f ∷ []) name place go full;
        kept = kept_after ms es os (fs ++ f ∷ []) name place go full;
      }

  -- ---- leaving the first name
  pub finish : (ms : List Mark) (es os : List ℕ) (name place : ℕ) (old : WalkTrace) → old.order ≡ before
      → IsGoing g s start before ms es os [] name place → length (graph_steps g name) ≤ place
      → IsFaultlessWalkVisit g s start old
      (record { marks = set ms name Closed; entered_names = es; order = os ++ name ∷ []; frames = [] })
  finish ms es os name place old same go full =
      let here : name < length ms = slice_get_within ms name OnPath (name_marked ms es os [] name place go) in
      let off : AreMarked OnPath (set ms name Closed) [] =
      marked_pop ms name here OnPath Closed [] go.way.on_path (λ q. cc) (λ i. no_member name i) in
      record {
        without_fault = sym go.way.answer ∙ ap (λ xs. steps_fault_after_path g (name ∷ []) xs)
            (nothing_left ms es os [] name place go full);
        state_between = record {
          in_target_order = ordering_after ms es os [] name place go full;
          off_path = λ n e. no_member n ((off n).0 e);
          frames = refl;
        };
        adds = record {
          new_below = λ n i. elim (from_after ms es os [] name place go full n i) [
            | inl j ↦ inl (subst (λ (xs : List ℕ). Contains xs n) (sym same) j)
            | inr b ↦ inr b
          ];
          old_kept = λ n i. kept_after ms es os [] name place go full n (subst (λ (xs : List ℕ). Contains xs n) same i);
          start_added = subst (λ (x : ℕ). Contains (os ++ name ∷ []) x) go.way.begins (Contains-push os name);
        };
      }
