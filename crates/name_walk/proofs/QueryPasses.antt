-- The steps of a query that a walk has passed.
use Rattle.std.proofs.Common.{◌≡◌, ◌⊎◌, ℕ, zero, suc, ◌+◌, ◌-◌, ◌<◌, Bool, List, [], ◌∷◌, ◌++◌, length, take, replicate}
use Rattle.std.proofs.Common.{◌≤◌, Some, None, refl, sym, ◌∙◌, ap, subst, inl, inr, arith, length-append, Contains}
use Rattle.std.specs.List.{slice_get}
use Rattle.std.proofs.lemmas.List.{length-replicate, length-take, take_all}
use Rattle.std.proofs.lemmas.List.Elements.{Contains-append_left, Contains-push, Contains-push_cases}
use Rattle.std.proofs.lemmas.Option.{slice_get_within}
use Rattle.name_walk.specs.declared.mark.Mark.{Mark}
use Rattle.name_walk.specs.declared.mark.Mark.TheVariants.{Closed, OnPath, Open}
use Rattle.name_walk.specs.declared.step.Step.{Step}
use Rattle.name_walk.specs.declared.step.Step.TheVariants.{To}
use Rattle.name_walk.specs.ClosedNames.{IsSettledInGraph, IsSettledOrWalked}
use Rattle.name_walk.specs.Faults.{NameFault, path_fault_at_step, path_fault_within, steps_fault_after_path}
use Rattle.name_walk.specs.Nets.{IsConsistentGraph}
use Rattle.name_walk.specs.NewlyClosed.{AreNewlyClosedByWalk, IsReachedInGraph}
use Rattle.name_walk.specs.Steps.{Graph}
use Rattle.name_walk.specs.Traces.{IsIdleWalk, WalkTrace, walk_trace_with_names, walk_trace_without_order}
use Rattle.name_walk.specs.Visits.{AreInWalkOrder, IsBetweenWalkVisits, IsFaultlessWalkVisit, IsWalkMarkFound}
use Rattle.name_walk.proofs.ClosedPaths.{name_closed}
use Rattle.name_walk.proofs.Faults.{empty_path}
use Rattle.name_walk.proofs.Lists.{first_at, first_push}
use Rattle.name_walk.proofs.WalkOrder.{ordering_start}
use Rattle.name_walk.proofs.DoneNames.{done_below, done_closed}
use Rattle.general_lemmas.proofs.Places.{take_at}
use Rattle.general_lemmas.proofs.Options.{or_none}
use Rattle.general_lemmas.proofs.Members.{no_member}

-- these steps of a query have no fault, they reach the names that were closed, and each leads to a name that is done
pub record ArePassed (g : Graph) (s : List Bool) (query : List Step) (t : WalkTrace) : Type 0 where
  pub between : IsBetweenWalkVisits g s t
  pub none : steps_fault_after_path g [] query ≡ None
  pub reached : (n : ℕ) → Contains t.order n → IsReachedInGraph g query n
  pub done : (n : ℕ) → Contains query (To n) → IsSettledOrWalked s t.order n

-- open marks with new open marks appended are all open
open_walk_marks_stay_open : (n : ℕ) (marks : List Mark) (k : ℕ)
    → ((m : ℕ) → m < length marks → slice_get marks m ≡ Some Open)
    → (m : ℕ) → m < length (take n marks ++ replicate k Open)
    → slice_get (take n marks ++ replicate k Open) m ≡ Some Open
open_walk_marks_stay_open zero marks zero h m l = absurd (omega arith)
open_walk_marks_stay_open zero marks (suc k) h zero l = refl
open_walk_marks_stay_open zero marks (suc k) h (suc m) l = open_walk_marks_stay_open zero marks k h m (omega arith)
open_walk_marks_stay_open (suc n) [] zero h m l = absurd (omega arith)
open_walk_marks_stay_open (suc n) [] (suc k) h zero l = refl
open_walk_marks_stay_open (suc n) [] (suc k) h (suc m) l = open_walk_marks_stay_open (suc n) [] k h m (omega arith)
open_walk_marks_stay_open (suc n) (x ∷ marks) k h zero l = h 0 (omega arith)
open_walk_marks_stay_open (suc n) (x ∷ marks) k h (suc m) l = open_walk_marks_stay_open n marks k
    (λ q j. h (suc q) (omega arith)) m (omega arith)

-- marks that are cut or extended have the wanted length
covered_walk_marks_have_length : (n : ℕ) (marks : List Mark)
    → length (take n marks ++ replicate (n - length marks) Open) ≡ n
covered_walk_marks_have_length n marks =
    let both = length-append (take n marks) (replicate (n - length marks) Open) in
    let front = length-take n marks in
    let back = length-replicate (n - length marks) Open in
    omega arith

-- an idle walk stays idle when it covers n names
covered_idle_walk_is_idle : (n : ℕ) (t : WalkTrace) → IsIdleWalk t → IsIdleWalk (walk_trace_with_names n t)
covered_idle_walk_is_idle n t idle = record {
  are_open = open_walk_marks_stay_open n t.marks (n - length t.marks) idle.are_open;
  none_entered = idle.none_entered;
  frames = idle.frames;
}

-- an idle walk that covers the names and forgets its order is between two steps
pub idle_walk_is_between_searches : (g : Graph) (s : List Bool) (t covered new : WalkTrace) → IsIdleWalk t
    → covered ≡ walk_trace_with_names (length g) t
    → new ≡ walk_trace_without_order covered
    → IsBetweenWalkVisits g s new
idle_walk_is_between_searches g s t covered new idle c e =
    still_between g s covered new (subst IsIdleWalk (sym c) (covered_idle_walk_is_idle (length g) t idle))
    (ap (λ (x : WalkTrace). length x.marks) c ∙ covered_walk_marks_have_length (length g) t.marks) e
  where
    still_between : (g : Graph) (s : List Bool) (t new : WalkTrace) → IsIdleWalk t → length t.marks ≡ length g
        → new ≡ walk_trace_without_order t → IsBetweenWalkVisits g s new
    still_between g s t new idle size e = subst (λ (x : WalkTrace). IsBetweenWalkVisits g s x) (sym e) (record {
      in_target_order = subst (λ (es : List ℕ). AreInWalkOrder g s t.marks es []) (sym idle.none_entered)
          (ordering_start g s t.marks size idle.are_open);
      off_path = λ n h. let o : slice_get t.marks n ≡ Some Open =
          idle.are_open n (slice_get_within t.marks n OnPath h) in absurd (cc);
      frames = idle.frames;
    })

-- at the start no step is passed
pub no_walk_step_passed_at_start : (g : Graph) (s : List Bool) (t : WalkTrace) → IsBetweenWalkVisits g s t
    → t.order ≡ [] → ArePassed g s [] t
no_walk_step_passed_at_start g s t b e = record {
  between = b;
  none = refl;
  reached = λ n i. absurd (no_member n (subst (λ (xs : List ℕ). Contains xs n) e i));
  done = λ n i. absurd (no_member (To n) i);
}

module _ (g : Graph) (s : List Bool) (query : List Step) where
  reached_push : (x : Step) (n : ℕ) → IsReachedInGraph g query n → IsReachedInGraph g (query ++ x ∷ []) n
  reached_push x n w = (w.0, Contains-append_left query (x ∷ []) (To w.0) w.1, w.2)

  last_step : (n r : ℕ) → Contains (query ++ To n ∷ []) (To r) → Contains query (To r) ⊎ (r ≡ n)
  last_step n r i = elim (Contains-push_cases query (To n) (To r) i) [ inl j ↦ inl j | inr e ↦ inr (cc) ]

  none_push : (x : Step) → steps_fault_after_path g [] query ≡ None → steps_fault_after_path g [] (x ∷ []) ≡ None
      → steps_fault_after_path g [] (query ++ x ∷ []) ≡ None
  none_push x e h =
      first_push (path_fault_at_step (path_fault_within g (length g - 0)) []) query x e
      ∙ (sym (or_none (path_fault_at_step (path_fault_within g (length g - 0)) [] x)) ∙ h)

  -- a step to a name that is done is passed
  pub passed_done : (net : IsConsistentGraph g s) (t : WalkTrace) (n : ℕ) → ArePassed g s query t → n < length g
      → IsSettledOrWalked s t.order n
      → ArePassed g s (query ++ To n ∷ []) t
  passed_done net t n p there d = record {
    between = p.between;
    none = none_push (To n) p.none (or_none _ ∙ name_closed g net.steps_in_range (length g) [] n
        (done_closed g s net.settled_right t.order p.between.in_target_order.names_closed n d) there (empty_path g)
        (λ q i. absurd (no_member q i)));
    reached = λ m i. reached_push (To n) m (p.reached m i);
    done = λ r i. elim (last_step n r i)
        [ inl j ↦ p.done r j | inr e ↦ subst (λ (x : ℕ). IsSettledOrWalked s t.order x) (sym e) d ];
  }

  -- a step to a name that was visited without a fault is passed
  pub passed_visit : (old new : WalkTrace) (n : ℕ) → ArePassed g s query old → IsFaultlessWalkVisit g s n old new
      → ArePassed g s (query ++ To n ∷ []) new
  passed_visit old new n p v = record {
    between = v.state_between;
    none = none_push (To n) p.none v.without_fault;
    reached = λ m i. elim (v.adds.new_below m i) [
      | inl j ↦ reached_push (To n) m (p.reached m j)
      | inr b ↦ (n, Contains-push query (To n), b)
    ];
    done = λ r i. elim (last_step n r i) [
      | inl j ↦ elim (p.done r j) [ inl e ↦ inl e | inr k ↦ inr (v.adds.old_kept r k) ]
      | inr e ↦ inr (subst (λ (x : ℕ). Contains new.order x) (sym e) v.adds.start_added)
    ];
  }

  -- after all steps are passed, the order has the names that the query newly closes
  pub newly_closed : IsConsistentGraph g s → (t : WalkTrace) → ArePassed g s query t
      → AreNewlyClosedByWalk g s query t.order
  newly_closed net t p = record {
    names_closed = p.between.in_target_order.names_closed;
    names_reached = λ n. (
      λ i. (p.reached n i, p.between.in_target_order.names_not_settled n i),
      λ h. only_new n (done_reached n h.0) h.1,
    );
    names_listed_once = p.between.in_target_order.names_differ;
    targets_before = p.between.in_target_order.targets_before;
  }
    where
      only_new : (n : ℕ) → IsSettledOrWalked s t.order n → (IsSettledInGraph s n → ⊥) → Contains t.order n
      only_new n (inl e) u = absurd (u e)
      only_new n (inr i) u = i

      done_reached : (n : ℕ) → IsReachedInGraph g query n → IsSettledOrWalked s t.order n
      done_reached n w = elim w.2 [
        | inl e ↦ subst (λ (x : ℕ). IsSettledOrWalked s t.order x) (sym e) (p.done w.0 w.1)
        | inr r ↦ done_below g s net.settled_right t.order p.between.in_target_order.targets_before (p.done w.0 w.1) r
      ]

-- the fault of the next step is the fault of the query, if the steps before it have none
pub next_step_fault_is_walk_fault : (g : Graph) (query : List Step) (i : ℕ) (x : Step) (f : NameFault)
    → steps_fault_after_path g [] (take i query) ≡ None
    → slice_get query i ≡ Some x → steps_fault_after_path g [] (x ∷ []) ≡ Some f
    → steps_fault_after_path g [] query ≡ Some f
next_step_fault_is_walk_fault g query i x f none e h =
    first_at (path_fault_at_step (path_fault_within g (length g - 0)) []) query i x f none e
    (sym (or_none (path_fault_at_step (path_fault_within g (length g - 0)) [] x)) ∙ h)

-- if a name is not on a path and not open, it is found closed
pub walk_finds_closed_name : (s : List Bool) (ms : List Mark) (n : ℕ) (m : Mark) → IsWalkMarkFound s ms n m
    → (m ≡ Open → ⊥)
    → (slice_get ms n ≡ Some OnPath → ⊥) → IsWalkMarkFound s ms n Closed
walk_finds_closed_name s ms n Open found ne off = absurd (ne refl)
walk_finds_closed_name s ms n OnPath found ne off = absurd (off found)
walk_finds_closed_name s ms n Closed found ne off = found

-- ---- one step further in a query
module _ {g : Graph} {s : List Bool} (net : IsConsistentGraph g s) (query : List Step) (i : ℕ) {n : ℕ} {t : WalkTrace}
    (passed : ArePassed g s (take i query) t) (here : slice_get query i ≡ Some (To n)) where
  pub next_done : n < length g → IsWalkMarkFound s t.marks n Closed → ArePassed g s (take (i + 1) query) t
  next_done there found =
      subst (λ (xs : List Step). ArePassed g s xs t) (sym (take_at query i (To n) here))
      (passed_done g s (take i query) net t n passed there
      (elim found [ inl d ↦ inl d | inr d ↦ inr ((passed.between.in_target_order.marked_in_order n).0 d) ]))

  pub next_visit : (new : WalkTrace) → IsFaultlessWalkVisit g s n t new → ArePassed g s (take (i + 1) query) new
  next_visit new v =
      subst (λ (xs : List Step). ArePassed g s xs new) (sym (take_at query i (To n) here))
      (passed_visit g s (take i query) t new n passed v)

-- if all steps are passed, they have no fault, and the order has the newly closed names
pub all_walk_steps_are_passed : (g : Graph) (s : List Bool) → IsConsistentGraph g s
    → (query : List Step) (i : ℕ) (t : WalkTrace)
    → ArePassed g s (take i query) t
    → length query ≤ i → (steps_fault_after_path g [] query ≡ None) × AreNewlyClosedByWalk g s query t.order
all_walk_steps_are_passed g s net query i t p end =
    let q : ArePassed g s query t = subst (λ (xs : List Step). ArePassed g s xs t) (take_all i query end) p in
    (q.none, newly_closed g s query net t q)
