-- When findings stay right.
use Rattle.std.proofs.Common.{◌≡◌, ℕ, zero, suc, ◌+◌, ◌<◌, ◌≤◌, Bool, List, [], ◌∷◌, length, take, Some, refl, sym}
use Rattle.std.proofs.Common.{subst, inl, inr, arith, Contains}
use Rattle.std.specs.List.{AllByRecursion, slice_get}
use Rattle.std.proofs.lemmas.Bool.{cases_lt}
use Rattle.std.proofs.lemmas.Option.{slice_get_within}
use Rattle.name_walk.specs.declared.mark.Mark.TheVariants.{Closed, OnPath, Open}
use Rattle.name_walk.specs.declared.step.Step.{Step}
use Rattle.name_walk.specs.declared.step.Step.TheVariants.{Nowhere, To}
use Rattle.name_walk.specs.declared.trail.FaultyStep.{FaultyStep}
use Rattle.name_walk.specs.ClosedNames.{IsClosedInGraph, IsSettledInGraph, IsSettledOrWalked, WalkStepLeadsInto}
use Rattle.name_walk.specs.ClosedNames.{WalksEndWithin}
use Rattle.name_walk.specs.Findings.{AreNoWalkFindings, AreRightWalkFindings, IsConsistentWalkTrace, WalkFindings}
use Rattle.name_walk.specs.FindingsLaws.{WalkFindingsLaw}
use Rattle.name_walk.specs.Nets.{IsConsistentGraph}
use Rattle.name_walk.specs.Steps.{Graph, GraphLeadsTo, graph_steps}
use Rattle.name_walk.specs.Traces.{IsIdleWalk, WalkTrace}
use Rattle.name_walk.specs.Trails.{AreWalkFindings, Faults, IsFaultyInWalk, IsStepAfterSoundSteps}
use Rattle.name_walk.proofs.ClosedPaths.{any_depth, ends_longer, walk_step_leads_into_weaker}
use Rattle.name_walk.proofs.Lists.{all_map, all_map_in}
use Rattle.general_lemmas.proofs.Members.{no_member}

-- a name that is not in the graph has no steps
no_steps_outside_graph : (g : Graph) (n : ℕ) → length g ≤ n → graph_steps g n ≡ []
no_steps_outside_graph [] n l = refl
no_steps_outside_graph (v ∷ g) zero l = absurd (omega arith)
no_steps_outside_graph (v ∷ g) (suc n) l = no_steps_outside_graph g n (omega arith)

-- names are added, more names are settled, and the steps of the names about which something is known are the same
module _ (g h : Graph) (s r : List Bool) (os : List ℕ) (fs : Faults) (are : AreWalkFindings g s os fs)
    (net : IsConsistentGraph h r)
    (more : length g ≤ length h) (settled : (n : ℕ) → IsSettledInGraph s n → IsSettledInGraph r n)
    (sound_same : (n : ℕ) → Contains os n → graph_steps h n ≡ graph_steps g n)
    (faulty_same : (n : ℕ) → IsFaultyInWalk fs n → graph_steps h n ≡ graph_steps g n) where
  still_done : (n : ℕ) → IsSettledOrWalked s os n → IsSettledOrWalked r os n
  still_done n (inl e) = inl (settled n e)
  still_done n (inr i) = inr i

  next_ends : (k m : ℕ) → IsSettledOrWalked s os m → (Contains os m → WalksEndWithin h (k + length h) m)
      → WalksEndWithin h (k + length h) m
  next_ends k m (inl d) f = ends_longer h (length h) k m ((net.settled_right m (settled m d)).0)
  next_ends k m (inr j) f = f j

  -- ways down from a sound name go through sound names, and then through settled ones
  still_ends : (k n : ℕ) → Contains os n → WalksEndWithin g k n → WalksEndWithin h (k + length h) n
  still_ends zero n i e = absurd e
  still_ends (suc k) n i e =
      let depth : suc (k + length h) ≡ suc k + length h = omega arith in
      subst (λ (j : ℕ). WalksEndWithin h j n) depth
      (subst (λ (xs : List Step). AllByRecursion (WalkStepLeadsInto (WalksEndWithin h (k + length h))) xs)
      (sym (sound_same n i))
      (all_map_in (WalkStepLeadsInto (WalksEndWithin g k)) (WalkStepLeadsInto (WalksEndWithin h (k + length h)))
      (graph_steps g n)
      (into_there k (λ m l f. next_ends k m ((are.names_sound n i).1 m l) (λ j. still_ends k m j f))) e))
    where
      into_there : (j : ℕ) → ((m : ℕ) → GraphLeadsTo g n m → WalksEndWithin g j m → WalksEndWithin h (j + length h) m)
          → (x : Step)
          → Contains (graph_steps g n) x → WalkStepLeadsInto (WalksEndWithin g j) x
          → WalkStepLeadsInto (WalksEndWithin h (j + length h)) x
      into_there j f (Nowhere w) a q = q
      into_there j f (To m) a q = f m a q

  -- a name ends only within a positive depth
  some_depth : (k n : ℕ) → WalksEndWithin g k n → 0 < k
  some_depth zero n e = absurd e
  some_depth (suc k) n e = omega arith

  ends_at_once : (k n : ℕ) → 0 < k → graph_steps h n ≡ [] → WalksEndWithin h k n
  ends_at_once zero n l e = absurd (omega arith)
  ends_at_once (suc k) n l e =
      subst (λ (xs : List Step). AllByRecursion (WalkStepLeadsInto (WalksEndWithin h k)) xs) (sym e) tt

  still_closed : (n : ℕ) → Contains os n → IsClosedInGraph h n
  still_closed n i = elim (cases_lt n (length h)) [
    | inl there ↦ any_depth h net.steps_in_range (length g + length h) n there
        (still_ends (length g) n i (are.names_sound n i).0)
    | inr beyond ↦ ends_at_once (length h) n
        (let some : 0 < length g = some_depth (length g) n (are.names_sound n i).0 in omega arith)
        (no_steps_outside_graph h n beyond)
  ]

  still_first : (n : ℕ) (c : FaultyStep) → slice_get fs n ≡ Some (Some c) → IsStepAfterSoundSteps h r os n c.step
  still_first n c e =
      let a : IsStepAfterSoundSteps g s os n c.step = are.first_faults n c e in
      let same : graph_steps h n ≡ graph_steps g n = faulty_same n (c, e) in
      record {
        place = a.place;
        step_at = subst (λ (xs : List Step). slice_get xs a.place ≡ Some c.step) (sym same) a.step_at;
        earlier_done = subst (λ (xs : List Step). AllByRecursion (WalkStepLeadsInto (IsSettledOrWalked r os))
            (take a.place xs))
            (sym same)
            (all_map (WalkStepLeadsInto (IsSettledOrWalked s os)) (WalkStepLeadsInto (IsSettledOrWalked r os))
            (walk_step_leads_into_weaker (IsSettledOrWalked s os) (IsSettledOrWalked r os) still_done)
            (take a.place (graph_steps g n)) a.earlier_done);
      }

  still_are : AreWalkFindings h r os fs
  still_are = record {
    names_sound = λ n i. (
      still_closed n i,
      λ m l. still_done m ((are.names_sound n i).1 m
          (subst (λ (xs : List Step). Contains xs (To m)) (sound_same n i) l)),
    );
    first_faults = still_first;
  }

-- empty findings are right
pub no_walk_findings_are_right : (g : Graph) (s : List Bool) (f : WalkFindings) → AreNoWalkFindings f
    → AreRightWalkFindings g s f
no_walk_findings_are_right g s f h = record {
  findings_right = record {
    names_sound = λ n i. absurd (no_member n (subst (λ (ns : List ℕ). Contains ns n) h.no_sound_names i));
    first_faults = λ n c e. absurd (h.no_faults n (c, e));
  };
  sound_named = λ n i. absurd (no_member n (subst (λ (ns : List ℕ). Contains ns n) h.no_sound_names i));
  faulty_named = λ n q. absurd (h.no_faults n q);
}

walk_findings_stay_right : (g h : Graph) (s r : List Bool) (f : WalkFindings) → AreRightWalkFindings g s f
    → IsConsistentGraph h r
    → length g ≤ length h
    → ((n : ℕ) → IsSettledInGraph s n → IsSettledInGraph r n)
    → ((n : ℕ) → Contains f.names n → graph_steps h n ≡ graph_steps g n)
    → AreRightWalkFindings h r f
walk_findings_stay_right g h s r f right net more settled same = record {
  findings_right = still_are g h s r f.sound_names f.faults right.findings_right net more settled
      (λ n i. same n (right.sound_named n i))
      (λ n q. same n (right.faulty_named n q));
  sound_named = right.sound_named;
  faulty_named = right.faulty_named;
}

-- the law of findings
pub walk_findings_law_holds : WalkFindingsLaw
walk_findings_law_holds = record { nothing = no_walk_findings_are_right; still = walk_findings_stay_right }

-- if no name has a mark or a fault, the marks and faults are consistent
pub idle_walk_trace_is_consistent : (t : WalkTrace) (fs : Faults) → IsIdleWalk t → t.order ≡ []
    → ((n : ℕ) → IsFaultyInWalk fs n → ⊥)
    → IsConsistentWalkTrace t fs
idle_walk_trace_is_consistent t fs idle none faultless = record {
  can_clear = record {
    names_entered = record {
      names_within = λ n i. absurd (no_name n i);
      open_or_listed = λ n l.
          inl (idle.are_open n l);
    };
    names_within = λ n i. absurd (no_name n i);
    faulty_entered = λ n f. absurd (faultless n f);
  };
  marked_in_order = λ n e. let o : slice_get t.marks n ≡ Some Open =
      idle.are_open n (slice_get_within t.marks n Closed e) in
      absurd (cc);
  order_entered = λ n i. absurd (no_member n (subst (λ (ns : List ℕ). Contains ns n) none i));
  trails = record {
    leads_to_faulty = λ n m b. absurd (faultless n (b.0, b.1));
    trails = λ n c e. absurd (faultless n (c, e));
  };
  off_path = λ n e. let o : slice_get t.marks n ≡ Some Open = idle.are_open n (slice_get_within t.marks n OnPath e) in
      absurd (cc);
  frames = idle.frames;
}
  where
    no_name : (n : ℕ) → Contains t.entered_names n → ⊥
    no_name n i = no_member n (subst (λ (ns : List ℕ). Contains ns n) idle.none_entered i)
