-- Ways to faults, and the faults at their ends.
use Rattle.std.proofs.Common.{◌≡◌, ℕ, zero, suc, ◌<◌, ◌-◌, Bool, false, List, [], ◌∷◌, ◌++◌, length, take, Option}
use Rattle.std.proofs.Common.{Some, None, sym, ◌∙◌, ap, subst, inl, inr, arith, nat_eq, append_assoc, Contains}
use Rattle.std.specs.List.{IsDistinct, slice_get, last_or}
use Rattle.std.proofs.lemmas.Bool.{cond-true, false_from_ne_true}
use Rattle.std.proofs.lemmas.List.Elements.{Contains-append_left, Contains-push_cases}
use Rattle.name_walk.specs.declared.step.Step.{Step}
use Rattle.name_walk.specs.declared.step.Step.TheVariants.{Nowhere, To}
use Rattle.name_walk.specs.declared.trail.FaultyStep.{FaultyStep}
use Rattle.name_walk.specs.ClosedNames.{IsClosedInGraph, IsSettledOrWalked, WalkStepLeadsInto}
use Rattle.name_walk.specs.Faults.{Cycle, DeadEnd, NameFault, is_on_path, path_fault_at_step, path_fault_within}
use Rattle.name_walk.specs.Faults.{path_from_name, steps_fault_after_path}
use Rattle.name_walk.specs.Nets.{IsConsistentGraph}
use Rattle.name_walk.specs.Paths.{IsNamePath}
use Rattle.name_walk.specs.Steps.{Graph, GraphLeadsTo, GraphReaches, at_once, graph_steps}
use Rattle.name_walk.specs.Trails.{AreWalkFindings, Faults, FollowsFaultyWalk, GoesByFaultyStep, IsFaultyInWalk}
use Rattle.name_walk.specs.Trails.{IsStepAfterSoundSteps}
use Rattle.name_walk.proofs.ClosedPaths.{graph_reach_is_transitive, name_closed}
use Rattle.name_walk.proofs.Faults.{fault_at_path_name}
use Rattle.name_walk.proofs.Lists.{all_at, distinct_last, first_at, none_from}
use Rattle.name_walk.proofs.DoneNames.{done_closed}
use Rattle.name_walk.proofs.Members.{member_on_path, on_path_member, take_member}
use Rattle.general_lemmas.proofs.Properties.{distinct_front}
use Rattle.general_lemmas.proofs.Options.{or_none}
use Rattle.general_lemmas.proofs.Members.{no_member, member_cases, member_at}

some_same : {A : Type 0} (a b : A) → Some (Some a) ≡ Some (Some b) → a ≡ b
some_same a b e = cc

-- a name with a step is in the graph
pub name_with_step_is_in_graph : (g : Graph) (n i : ℕ) (x : Step) → slice_get (graph_steps g n) i ≡ Some x
    → n < length g
name_with_step_is_in_graph [] n i x e = cc
name_with_step_is_in_graph (v ∷ g) zero i x e = omega arith
name_with_step_is_in_graph (v ∷ g) (suc n) i x e = let h : n < length g = name_with_step_is_in_graph g n i x e in
    omega arith

module _ (fs : Faults) where
  -- a name has at most one faulty step
  pub one_step : (n : ℕ) (x y : Step) → GoesByFaultyStep fs n x → GoesByFaultyStep fs n y → x ≡ y
  one_step n x y a b =
      sym a.2 ∙ (ap (λ (c : FaultyStep). c.step) (some_same a.0 b.0 (sym a.1 ∙ b.1)) ∙ b.2)

  -- two ways can be joined
  pub follows_join : (n : ℕ) (xs : List ℕ) (m : ℕ) (ys : List ℕ) (x : Step) → FollowsFaultyWalk fs n xs (To m)
      → FollowsFaultyWalk fs m ys x → FollowsFaultyWalk fs n (xs ++ m ∷ ys) x
  follows_join n [] m ys x a b = (a, b)
  follows_join n (k ∷ xs) m ys x a b = (a.0, follows_join k xs m ys x a.1 b)

  pub follows_split : (n : ℕ) (xs : List ℕ) (m : ℕ) (ys : List ℕ) (x : Step) → FollowsFaultyWalk fs n (xs ++ m ∷ ys) x
      → FollowsFaultyWalk fs n xs (To m) × FollowsFaultyWalk fs m ys x
  follows_split n [] m ys x h = h
  follows_split n (k ∷ xs) m ys x h = let r = follows_split k xs m ys x h.1 in ((h.0, r.0), r.1)

  -- each name on a way has a fault
  pub all_faulty : (n : ℕ) (ms : List ℕ) (x : Step) → FollowsFaultyWalk fs n ms x → (k : ℕ) → Contains (n ∷ ms) k
      → IsFaultyInWalk fs k
  all_faulty n [] x h k i = elim (member_cases k n [] i) [
    | inl e ↦ subst (λ (j : ℕ). IsFaultyInWalk fs j) (sym e) (h.0, h.1)
    | inr j ↦ absurd (no_member k j)
  ]
  all_faulty n (m ∷ ms) x h k i = elim (member_cases k n (m ∷ ms) i) [
    | inl e ↦ subst (λ (j : ℕ). IsFaultyInWalk fs j) (sym e) (h.0.0, h.0.1)
    | inr j ↦ all_faulty m ms x h.1 k j
  ]

-- a way stays a way if the faulty steps that were known stay
pub faulty_walk_stays : (fs hs : Faults) → ((n : ℕ) (c : FaultyStep) → slice_get fs n ≡ Some (Some c)
    → slice_get hs n ≡ Some (Some c)) → (n : ℕ) (ms : List ℕ) (x : Step) → FollowsFaultyWalk fs n ms x
    → FollowsFaultyWalk hs n ms x
faulty_walk_stays fs hs same n [] x h = (h.0, same n h.0 h.1, h.2)
faulty_walk_stays fs hs same n (m ∷ ms) x h =
    ((h.0.0, same n h.0.0 h.0.1, h.0.2), faulty_walk_stays fs hs same m ms x h.1)

-- the front of a path is a path
pub front_of_path_is_path : (g : Graph) (p q : List ℕ) → IsNamePath g (p ++ q) → IsNamePath g p
front_of_path_is_path g p q h = record {
  names_differ = distinct_front p q h.names_differ;
  names_in_graph = λ n e.
      h.names_in_graph n (member_on_path (p ++ q) n (Contains-append_left p q n (on_path_member p n e)));
}

module _ (g : Graph) (s : List Bool) (net : IsConsistentGraph g s) (os : List ℕ) (fs : Faults)
    (are : AreWalkFindings g s os fs) where
  -- a name that is done is closed
  pub is_closed : (n : ℕ) → IsSettledOrWalked s os n → IsClosedInGraph g n
  is_closed n d = done_closed g s net.settled_right os (λ m i. (are.names_sound m i).0) n d

  -- a name with a fault is in the graph
  pub faulty_there : (n : ℕ) → IsFaultyInWalk fs n → n < length g
  faulty_there n f = let a = are.first_faults n f.0 f.1 in name_with_step_is_in_graph g n a.place f.0.step a.step_at

  -- the first step of a name that has a fault
  pub first_step : (n : ℕ) (x : Step) → GoesByFaultyStep fs n x → IsStepAfterSoundSteps g s os n x
  first_step n x b = subst (λ (y : Step). IsStepAfterSoundSteps g s os n y) b.2 (are.first_faults n b.0 b.1)

  module _ (p : List ℕ) (n : ℕ) (path : IsNamePath g (p ++ n ∷ []))
      (reach : (q : ℕ) → Contains p q → GraphReaches g q n) where
    longer_reach : (m : ℕ) → GraphLeadsTo g n m → (q : ℕ) → Contains (p ++ n ∷ []) q → GraphReaches g q m
    longer_reach m l q i = elim (Contains-push_cases p n q i) [
      | inl j ↦ graph_reach_is_transitive (reach q j) (at_once l)
      | inr e ↦ subst (λ (k : ℕ). GraphReaches g k m) e (at_once l)
    ]

    -- a step before the first faulty step has no fault on the path
    none_before : (x : Step) → Contains (graph_steps g n) x → WalkStepLeadsInto (IsSettledOrWalked s os) x
        → path_fault_at_step (path_fault_within g (length g - length (p ++ n ∷ []))) (p ++ n ∷ []) x ≡ None
    none_before (Nowhere w) i h = absurd h
    none_before (To m) i h =
        name_closed g net.steps_in_range (length g) (p ++ n ∷ []) m (is_closed m h) (net.steps_in_range n m i) path
        (longer_reach m i)

    -- the fault of a name is that of its first step with a fault
    at_first : (x : Step) (f : NameFault) → IsStepAfterSoundSteps g s os n x
        → path_fault_at_step (path_fault_within g (length g - length (p ++ n ∷ []))) (p ++ n ∷ []) x ≡ Some f
        → steps_fault_after_path g p (To n ∷ []) ≡ Some f
    at_first x f a h =
        let new : is_on_path p n ≡ false =
        false_from_ne_true (is_on_path p n) (λ e. distinct_last p n path.names_differ (on_path_member p n e)) in
        or_none _
        ∙ (fault_at_path_name g p n (front_of_path_is_path g p (n ∷ []) path) new
        (name_with_step_is_in_graph g n a.place x a.step_at)
        ∙ first_at (path_fault_at_step (path_fault_within g (length g - length (p ++ n ∷ []))) (p ++ n ∷ []))
        (graph_steps g n) a.place x
        f
        (none_from (path_fault_at_step (path_fault_within g (length g - length (p ++ n ∷ []))) (p ++ n ∷ []))
        (take a.place (graph_steps g n))
        (λ y i. none_before y (take_member a.place (graph_steps g n) y i)
        (all_at (WalkStepLeadsInto (IsSettledOrWalked s os)) (take a.place (graph_steps g n)) y a.earlier_done i)))
        a.step_at h)

  -- the fault of a name is the one at the end of its way
  pub way_fault : (p : List ℕ) (n : ℕ) (ms : List ℕ) (x : Step) (f : NameFault) → IsNamePath g (p ++ n ∷ ms)
      → ((q : ℕ) → Contains p q → GraphReaches g q n) → FollowsFaultyWalk fs n ms x
      → ((deeper : List ℕ → ℕ → Option NameFault) → path_fault_at_step deeper (p ++ n ∷ ms) x ≡ Some f)
      → steps_fault_after_path g p (To n ∷ []) ≡ Some f
  way_fault p n [] x f path reach h gives =
      at_first p n path reach x f (first_step n x h)
      (gives (path_fault_within g (length g - length (p ++ n ∷ []))))
  way_fault p n (m ∷ ms) x f path reach h gives =
      let a : IsStepAfterSoundSteps g s os n (To m) = first_step n (To m) h.0 in
      let same : (p ++ n ∷ []) ++ m ∷ ms ≡ p ++ n ∷ m ∷ ms = append_assoc p (n ∷ []) (m ∷ ms) in
      let long : IsNamePath g ((p ++ n ∷ []) ++ m ∷ ms) = subst (λ (q : List ℕ). IsNamePath g q) (sym same) path in
      let short : IsNamePath g (p ++ n ∷ []) = front_of_path_is_path g (p ++ n ∷ []) (m ∷ ms) long in
      at_first p n short reach (To m) f a
      (sym (or_none _)
      ∙ way_fault (p ++ n ∷ []) m ms x f long (longer_reach p n short reach m (member_at _ _ _ a.step_at)) h.1
      (λ deeper. subst (λ (q : List ℕ). path_fault_at_step deeper q x ≡ Some f) (sym same) (gives deeper)))

  -- the names of a way are a path
  pub way_path : (n : ℕ) (ms : List ℕ) (x : Step) → FollowsFaultyWalk fs n ms x → IsDistinct nat_eq (n ∷ ms)
      → IsNamePath g (n ∷ ms)
  way_path n ms x h once = record {
    names_differ = once;
    names_in_graph = λ k e. faulty_there k (all_faulty fs n ms x h k (on_path_member (n ∷ ms) k e));
  }

  -- a way to a word that leads nowhere gives a dead end
  pub dead_end_fault : (n : ℕ) (ms : List ℕ) (w e : ℕ) → FollowsFaultyWalk fs n ms (Nowhere w)
      → IsDistinct nat_eq (n ∷ ms)
      → last_or None (n ∷ ms) ≡ Some e → steps_fault_after_path g [] (To n ∷ []) ≡ Some (DeadEnd w (Some e))
  dead_end_fault n ms w e h once is =
      way_fault [] n ms (Nowhere w) (DeadEnd w (Some e)) (way_path n ms (Nowhere w) h once)
      (λ q i. absurd (no_member q i)) h
      (λ deeper. ap (λ (o : Option ℕ). Some (DeadEnd w o)) is)

  -- a way into a ring gives a cycle
  pub ring_fault : (n : ℕ) (ms : List ℕ) (e : ℕ) → FollowsFaultyWalk fs n ms (To e) → IsDistinct nat_eq (n ∷ ms)
      → Contains (n ∷ ms) e → steps_fault_after_path g [] (To n ∷ []) ≡ Some
      (Cycle (path_from_name e (n ∷ ms) ++ e ∷ []))
  ring_fault n ms e h once i =
      way_fault [] n ms (To e) (Cycle (path_from_name e (n ∷ ms) ++ e ∷ [])) (way_path n ms (To e) h once)
      (λ q j. absurd (no_member q j)) h
      (λ deeper. cond-true (is_on_path (n ∷ ms) e) (Some (Cycle (path_from_name e (n ∷ ms) ++ e ∷ [])))
      (deeper ((n ∷ ms) ++ e ∷ []) e)
      (member_on_path (n ∷ ms) e i))
