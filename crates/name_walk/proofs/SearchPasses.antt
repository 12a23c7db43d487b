-- The steps of a query that a search has passed.
use Rattle.std.proofs.Common.{◌≡◌, ℕ, ◌+◌, ◌-◌, ◌<◌, ◌≤◌, Bool, true, false, List, [], ◌∷◌, ◌++◌, length, take}
use Rattle.std.proofs.Common.{Some, None, refl, sym, ◌∙◌, ap, subst, inl, inr, Contains}
use Rattle.std.specs.List.{slice_get}
use Rattle.std.proofs.lemmas.List.{take_all}
use Rattle.std.proofs.lemmas.List.Elements.{Contains-append_left, Contains-push}
use Rattle.name_walk.specs.declared.step.Step.{Step}
use Rattle.name_walk.specs.declared.step.Step.TheVariants.{Nowhere, To}
use Rattle.name_walk.specs.Faults.{Cycle, DeadEnd, NameFault, path_fault_at_step, path_fault_within, path_from_name}
use Rattle.name_walk.specs.Faults.{steps_fault_after_path}
use Rattle.name_walk.specs.Findings.{AreWalkedFromQuery, IsFirstFaultyWalkStep}
use Rattle.name_walk.specs.Nets.{IsConsistentGraph}
use Rattle.name_walk.specs.NewlyClosed.{IsReachedInGraph}
use Rattle.name_walk.specs.Searches.{AreMoreWalkFindings, IsBetweenWalkSearches, IsSearchedByWalk}
use Rattle.name_walk.specs.Steps.{Graph}
use Rattle.name_walk.specs.Traces.{WalkTrace}
use Rattle.name_walk.specs.Trails.{AreWalkFindings, AreWalkTrails, Faults, FaultyWalkEndsAt, FollowsFaultyWalk}
use Rattle.name_walk.specs.Trails.{IsFaultyInWalk, IsWalkTrail}
use Rattle.name_walk.proofs.ClosedPaths.{name_closed}
use Rattle.name_walk.proofs.Faults.{empty_path}
use Rattle.name_walk.proofs.Lists.{first_push}
use Rattle.name_walk.proofs.QueryPasses.{next_step_fault_is_walk_fault}
use Rattle.name_walk.proofs.Trails.{dead_end_fault, is_closed, ring_fault}
use Rattle.name_walk.proofs.Members.{take_member}
use Rattle.general_lemmas.proofs.Places.{take_at}
use Rattle.general_lemmas.proofs.Members.{no_member}

-- the fault of a name that has one
pub record HasFault (g : Graph) (n : ℕ) : Type 0 where
  pub own : NameFault
  pub is : steps_fault_after_path g [] (To n ∷ []) ≡ Some own

-- these steps of a query have no fault
pub record ArePassedBy (g : Graph) (s : List Bool) (query : List Step) (old now : WalkTrace) (fs : Faults) : Type 0
  where
    pub between : IsBetweenWalkSearches g s now fs
    pub none : steps_fault_after_path g [] query ≡ None
    pub names : AreWalkedFromQuery g s query old.entered_names now.entered_names

module _ (g : Graph) (s : List Bool) (net : IsConsistentGraph g s) where
  trail_has : (os : List ℕ) (fs : Faults) → AreWalkFindings g s os fs → (n e : ℕ) (t : IsWalkTrail fs n e) (x : Step)
      → t.step ≡ x → HasFault g n
  trail_has os fs are n e t (Nowhere w) is = record {
    own = DeadEnd w (Some e);
    is = dead_end_fault g s net os fs are n t.names w e
        (subst (λ (y : Step). FollowsFaultyWalk fs n t.names y) is t.follows_faults)
        t.names_differ
        (subst (λ (y : Step). FaultyWalkEndsAt (n ∷ t.names) y e) is t.ends_at);
  }
  trail_has os fs are n e t (To m) is =
      let end : (m ≡ e) × Contains (n ∷ t.names) e = subst (λ (y : Step). FaultyWalkEndsAt (n ∷ t.names) y e) is
      t.ends_at in
      record {
        own = Cycle (path_from_name e (n ∷ t.names) ++ e ∷ []);
        is = ring_fault g s net os fs are n t.names e
            (subst (λ (y : Step). FollowsFaultyWalk fs n t.names y) (is ∙ ap To end.0) t.follows_faults) t.names_differ
            end.1;
      }

  pub has_fault : (os : List ℕ) (fs : Faults) → AreWalkFindings g s os fs → AreWalkTrails fs → (n : ℕ)
      → IsFaultyInWalk fs n
      → HasFault g n
  has_fault os fs are trails n f =
      let t = trails.trails n f.0 f.1 in trail_has os fs are n f.0.end t t.step refl

  pub passed_none : (t : WalkTrace) (fs : Faults) → IsBetweenWalkSearches g s t fs → ArePassedBy g s [] t t fs
  passed_none t fs b = record { between = b; none = refl; names = λ n i. inl i }

  reached_more : (query : List Step) (x : Step) (n : ℕ) → IsReachedInGraph g query n
      → IsReachedInGraph g (query ++ x ∷ []) n
  reached_more query x n w = (w.0, Contains-append_left query (x ∷ []) (To w.0) w.1, w.2)

  -- after one more name is searched, each known name was known before or is reached by the query
  names_more : (query : List Step) (n : ℕ) (old now later : WalkTrace) (fs hs : Faults)
      → AreWalkedFromQuery g s query old.entered_names now.entered_names → AreMoreWalkFindings g s n now later fs hs
      → AreWalkedFromQuery g s (query ++ To n ∷ []) old.entered_names later.entered_names
  names_more query n old now later fs hs names more k i = elim (more.names k i) [
    | inl j ↦ elim (names k j) [ inl q ↦ inl q | inr r ↦ inr (reached_more query (To n) k r.0, r.1) ]
    | inr r ↦ inr ((n, Contains-push query (To n), r.0), r.1)
  ]

  names_whole : (query : List Step) (i : ℕ) (old now : List ℕ) → AreWalkedFromQuery g s (take i query) old now
      → AreWalkedFromQuery g s query old now
  names_whole query i old now names n j = elim (names n j) [
    | inl q ↦ inl q
    | inr r ↦ inr ((r.0.0, take_member i query (To r.0.0) r.0.1, r.0.2), r.1)
  ]

  module _ (query : List Step) (i : ℕ) (old now : WalkTrace) (fs : Faults)
      (p : ArePassedBy g s (take i query) old now fs)
    where
      -- a step to a name without a fault is passed
      pub passed_next : (n : ℕ) → slice_get query i ≡ Some (To n) → n < length g → (later : WalkTrace) (hs : Faults)
          → IsSearchedByWalk g s n now later fs hs false → ArePassedBy g s (take (i + 1) query) old later hs
      passed_next n e there later hs h =
          subst (λ (xs : List Step). ArePassedBy g s xs old later hs) (sym (take_at query i (To n) e))
          (record {
            between = h.state_between;
            none = first_push (path_fault_at_step (path_fault_within g (length g - 0)) []) (take i query) (To n) p.none
                ∙ name_closed g net.steps_in_range (length g) [] n
                (is_closed g s net later.order hs h.state_between.findings_right n h.decision) there (empty_path g)
                (λ q j. absurd (no_member q j));
            names = names_more (take i query) n old now later fs hs p.names h.more;
          })

      -- a step that leads nowhere is the first faulty step
      pub passed_nowhere : (w : ℕ) → slice_get query i ≡ Some (Nowhere w) → IsFirstFaultyWalkStep g query fs
          (Some (Nowhere w))
      passed_nowhere w e = (
        record {
          fault_there = DeadEnd w None;
          of_step = refl;
          of_query = next_step_fault_is_walk_fault g query i (Nowhere w) (DeadEnd w None) p.none e refl;
        },
        tt,
      )

      pub passed_names : AreWalkedFromQuery g s query old.entered_names now.entered_names
      passed_names = names_whole query i old.entered_names now.entered_names p.names

      -- the next step leads to a name with a fault
      module _ (n : ℕ) (e : slice_get query i ≡ Some (To n)) (later : WalkTrace) (hs : Faults)
          (h : IsSearchedByWalk g s n now later fs hs true) where
        pub passed_faulty : IsFirstFaultyWalkStep g query hs (Some (To n))
        passed_faulty =
            let f : HasFault g n =
            has_fault later.order hs h.state_between.findings_right h.state_between.consistent.trails n h.decision in (
              record {
                fault_there = f.own;
                of_step = f.is;
                of_query = next_step_fault_is_walk_fault g query i (To n) f.own p.none e f.is;
              },
              h.decision,
            )

        pub faulty_names : AreWalkedFromQuery g s query old.entered_names later.entered_names
        faulty_names =
            names_whole query (i + 1) old.entered_names later.entered_names
            (subst (λ (xs : List Step). AreWalkedFromQuery g s xs old.entered_names later.entered_names)
            (sym (take_at query i (To n) e))
            (names_more (take i query) n old now later fs hs p.names h.more))

      -- if all steps are passed, the query has no fault
      pub passed_whole : length query ≤ i → steps_fault_after_path g [] query ≡ None
      passed_whole end = subst (λ (xs : List Step). steps_fault_after_path g [] xs ≡ None) (take_all i query end) p.none
