-- Rings of names, and the faults of the names that lead to them.
use Rattle.std.proofs.Common.{◌≡◌, ℕ, Bool, List, [], ◌∷◌, ◌++◌, Some}
use Rattle.std.proofs.Common.{refl, sym, ◌∙◌, ap, subst, inl, inr, nat_eq, Contains, None}
use Rattle.std.specs.List.{IsDistinct, slice_get, last_or}
use Rattle.std.proofs.lemmas.Bool.{cond-true, cond-false, eq-eqb, ne_eqb}
use Rattle.std.proofs.lemmas.Option.{slice_get_within, same_Some}
use Rattle.std.proofs.lemmas.List.Elements.{Contains-append_right}
use Rattle.name_walk.specs.declared.step.Step.{Step}
use Rattle.name_walk.specs.declared.step.Step.TheVariants.{Nowhere, To}
use Rattle.name_walk.specs.declared.trail.FaultyStep.{FaultyStep}
use Rattle.name_walk.specs.Faults.{Cycle, DeadEnd, path_from_name, steps_fault_after_path}
use Rattle.name_walk.specs.Nets.{IsConsistentGraph}
use Rattle.name_walk.specs.Rings.{IsFaultyWalkWay, IsWalkFaultRing}
use Rattle.name_walk.specs.Steps.{Graph}
use Rattle.name_walk.specs.Trails.{AreWalkFindings, AreWalkTrails, Faults, FaultyWalkEndsAt, FollowsFaultyWalk}
use Rattle.name_walk.specs.Trails.{GoesByFaultyStep, IsFaultyInWalk, IsWalkTrail}
use Rattle.name_walk.proofs.Distinct.{distinct_apart, distinct_back, path_splits_at_name}
use Rattle.name_walk.proofs.Trails.{all_faulty, dead_end_fault, follows_split, one_step, ring_fault}
use Rattle.general_lemmas.proofs.Members.{no_member, member_first, member_later, member_cases}

equal_walk_steps_have_one_target : (a b : ℕ) → To a ≡ To b → a ≡ b
equal_walk_steps_have_one_target a b e = cc

-- the last name of a list is a member of the list
last_path_name_is_member : (ns : List ℕ) (e : ℕ) → last_or None ns ≡ Some e → Contains ns e
last_path_name_is_member [] e h = absurd (cc)
last_path_name_is_member (n ∷ []) e h = member_first e n [] (sym (same_Some n e h))
last_path_name_is_member (n ∷ m ∷ ns) e h = member_later e n (m ∷ ns) (last_path_name_is_member (m ∷ ns) e h)

-- the part of a list from a name on, if the name does not occur earlier
path_from_name_after_split : (front : List ℕ) (e : ℕ) (back : List ℕ) → (Contains front e → ⊥)
    → path_from_name e (front ++ e ∷ back) ≡ e ∷ back
path_from_name_after_split [] e back out = cond-true (nat_eq e e) (e ∷ back) (path_from_name e back) (eq-eqb e e refl)
path_from_name_after_split (n ∷ front) e back out =
    cond-false (nat_eq n e) (n ∷ front ++ e ∷ back) (path_from_name e (front ++ e ∷ back))
    (ne_eqb n e (λ q. out (member_first e n front (sym q))))
    ∙ path_from_name_after_split front e back (λ i. out (member_later e n front i))

-- the faulty steps of some names lead from the first to the last, and then to e
abbrev LeadInto : Faults → ℕ → List ℕ → Type 0
LeadInto fs e [] = ⊥
LeadInto fs e (k ∷ ks) = FollowsFaultyWalk fs k ks (To e)

module _ (fs : Faults) where
  -- the last name of a way takes its last step
  last_goes : (n : ℕ) (ms : List ℕ) (x : Step) (e : ℕ) → FollowsFaultyWalk fs n ms x → last_or None (n ∷ ms) ≡ Some e
      → GoesByFaultyStep fs e x
  last_goes n [] x e h l = subst (λ (k : ℕ). GoesByFaultyStep fs k x) (same_Some n e l) h
  last_goes n (m ∷ ms) x e h l = last_goes m ms x e h.1 l

  -- each name of a way into a ring leads to a name
  each_leads : (n : ℕ) (ms : List ℕ) (y : ℕ) → FollowsFaultyWalk fs n ms (To y) → (k : ℕ) → Contains (n ∷ ms) k
      → (m : ℕ) × GoesByFaultyStep fs k (To m)
  each_leads n [] y h k i = elim (member_cases k n [] i) [
    | inl e ↦ (y, subst (λ (j : ℕ). GoesByFaultyStep fs j (To y)) (sym e) h)
    | inr j ↦ absurd (no_member k j)
  ]
  each_leads n (m ∷ ms) y h k i = elim (member_cases k n (m ∷ ms) i) [
    | inl e ↦ (m, subst (λ (j : ℕ). GoesByFaultyStep fs j (To m)) (sym e) h.0)
    | inr j ↦ each_leads m ms y h.1 k j
  ]

  -- a way to a name that it does not go through, from the name to which the first step leads
  way_of : (e n : ℕ) (ms : List ℕ) (here : ℕ) → FollowsFaultyWalk fs n ms (To e) → GoesByFaultyStep fs n (To here)
      → (Contains ms e → ⊥)
      → IsFaultyWalkWay fs e here ms
  way_of e n [] here h goes out = equal_walk_steps_have_one_target here e (one_step fs n (To here) (To e) goes h)
  way_of e n (m ∷ ms) here h goes out =
      let next : (j : ℕ) × GoesByFaultyStep fs m (To j) = each_leads m ms e h.1 m (member_first m m ms refl) in (
        equal_walk_steps_have_one_target here m (one_step fs n (To here) (To m) goes h.0),
        λ q. out (member_first e m ms (sym q)),
        (next.0, next.1, way_of e m ms next.0 h.1 next.1 (λ i. out (member_later e m ms i))),
      )

  -- there is at most one way to a name
  way_one : (e here : ℕ) (xs ys : List ℕ) → IsFaultyWalkWay fs e here xs → IsFaultyWalkWay fs e here ys → xs ≡ ys
  way_one e here [] [] a b = refl
  way_one e here [] (y ∷ ys) a b = absurd (b.1 (sym b.0 ∙ a))
  way_one e here (x ∷ xs) [] a b = absurd (a.1 (sym a.0 ∙ b))
  way_one e here (x ∷ xs) (y ∷ ys) a b =
      let same : x ≡ y = sym a.0 ∙ b.0 in
      let goes : GoesByFaultyStep fs x (To b.2.0) = subst (λ (k : ℕ). GoesByFaultyStep fs k (To b.2.0)) (sym same) b.2.1
      in
      let next : a.2.0 ≡ b.2.0 = equal_walk_steps_have_one_target a.2.0 b.2.0
      (one_step fs x (To a.2.0) (To b.2.0) a.2.1 goes) in
      let rest : xs ≡ ys =
      way_one e b.2.0 xs ys (subst (λ (k : ℕ). IsFaultyWalkWay fs e k xs) next a.2.2) b.2.2 in
      λ i. same i ∷ rest i

  -- a way into a ring, from the first name of the ring on
  ring_part : (front : List ℕ) (e : ℕ) (back : List ℕ) → LeadInto fs e (front ++ e ∷ back)
      → FollowsFaultyWalk fs e back (To e)
  ring_part [] e back h = h
  ring_part (k ∷ front) e back h = (follows_split fs k front e back (To e) h).1

  from_ring : (n : ℕ) (names front : List ℕ) (e : ℕ) (back : List ℕ) → n ∷ names ≡ front ++ e ∷ back
      → FollowsFaultyWalk fs n names (To e) → FollowsFaultyWalk fs e back (To e)
  from_ring n names front e back same h = ring_part front e back (subst (λ (ns : List ℕ). LeadInto fs e ns) same h)

  -- the name at which a fault occurs has a fault
  module _ (n e : ℕ) (t : IsWalkTrail fs n e) where
    end_faulty : IsFaultyInWalk fs e
    end_faulty = by_step t.step refl
      where
        by_step : (x : Step) → t.step ≡ x → IsFaultyInWalk fs e
        by_step (Nowhere w) q =
            all_faulty fs n t.names t.step t.follows_faults e
            (last_path_name_is_member (n ∷ t.names) e
            (subst (λ (y : Step). FaultyWalkEndsAt (n ∷ t.names) y e) q t.ends_at))
        by_step (To m) q =
            let ends : (m ≡ e) × Contains (n ∷ t.names) e = subst (λ (y : Step). FaultyWalkEndsAt (n ∷ t.names) y e) q
            t.ends_at
            in
            all_faulty fs n t.names t.step t.follows_faults e ends.1

    -- a name whose word leads nowhere ends the way
    dead_end_is : (w : ℕ) → GoesByFaultyStep fs e (Nowhere w) → (g : Graph) (s : List Bool) (os : List ℕ)
        → IsConsistentGraph g s
        → AreWalkFindings g s os fs → steps_fault_after_path g [] (To n ∷ []) ≡ Some (DeadEnd w (Some e))
    dead_end_is w goes g s os net are = by_step t.step refl
      where
        by_step : (x : Step) → t.step ≡ x → steps_fault_after_path g [] (To n ∷ []) ≡ Some (DeadEnd w (Some e))
        by_step (Nowhere v) q =
            let ends : last_or None (n ∷ t.names) ≡ Some e = subst (λ (y : Step). FaultyWalkEndsAt (n ∷ t.names) y e) q
            t.ends_at
            in
            let follows : FollowsFaultyWalk fs n t.names (Nowhere v) =
            subst (λ (y : Step). FollowsFaultyWalk fs n t.names y) q t.follows_faults in
            let same : Nowhere v ≡ Nowhere w =
            one_step fs e (Nowhere v) (Nowhere w) (last_goes n t.names (Nowhere v) e follows ends) goes in
            dead_end_fault g s net os fs are n t.names w e
            (subst (λ (y : Step). FollowsFaultyWalk fs n t.names y) same follows) t.names_differ ends
        by_step (To m) q =
            let ends : (m ≡ e) × Contains (n ∷ t.names) e = subst (λ (y : Step). FaultyWalkEndsAt (n ∷ t.names) y e) q
            t.ends_at
            in
            let leads : (j : ℕ) × GoesByFaultyStep fs e (To j) =
            each_leads n t.names m (subst (λ (y : Step). FollowsFaultyWalk fs n t.names y) q t.follows_faults) e ends.1
            in
            let same : To leads.0 ≡ Nowhere w = one_step fs e (To leads.0) (Nowhere w) leads.1 goes in
            absurd (cc)

-- a way from a name into a ring that begins with another name
pub record LeadsToRing (fs : Faults) (n e here : ℕ) : Type 0 where
  pub rest : List ℕ
  pub ring : IsWalkFaultRing fs e here rest
  pub is_fault : (g : Graph) (s : List Bool) (os : List ℕ) → IsConsistentGraph g s → AreWalkFindings g s os fs
      → steps_fault_after_path g [] (To n ∷ []) ≡ Some (Cycle ((e ∷ rest) ++ e ∷ []))

module _ (fs : Faults) (n e : ℕ) (t : IsWalkTrail fs n e) (here : ℕ) (goes : GoesByFaultyStep fs e (To here)) where
  ring_from : FollowsFaultyWalk fs n t.names (To e) → (front back : List ℕ) → n ∷ t.names ≡ front ++ e ∷ back
      → LeadsToRing fs n e here
  ring_from follows front back whole =
      let once : IsDistinct nat_eq (front ++ e ∷ back) = subst (λ (ns : List ℕ). IsDistinct nat_eq ns) whole
      t.names_differ in
      let own : IsDistinct nat_eq (e ∷ back) = distinct_back front (e ∷ back) once in
      let round : FollowsFaultyWalk fs e back (To e) = from_ring fs n t.names front e back whole follows in
      let named : path_from_name e (n ∷ t.names) ≡ e ∷ back =
      ap (path_from_name e) whole
      ∙ path_from_name_after_split front e back
      (λ i. distinct_apart front (e ∷ back) once e i (member_first e e back refl)) in
      record {
        rest = back;
        ring = record {
          way = way_of fs e e back here round goes
              (λ i. distinct_apart (e ∷ []) back own e (member_first e e [] refl) i);
          names_differ = own;
          names_in_faults = λ k i. let f = all_faulty fs e back (To e) round k i in
              slice_get_within fs k (Some f.0) f.1;
        };
        is_fault = λ g s os net are.
            ring_fault g s net os fs are n t.names e follows t.names_differ
            (subst (λ (ns : List ℕ). Contains ns e) (sym whole) (in_middle front))
            ∙ ap (λ (ns : List ℕ). Some (Cycle (ns ++ e ∷ []))) named;
      }
    where
      in_middle : (xs : List ℕ) → Contains (xs ++ e ∷ back) e
      in_middle xs = Contains-append_right xs (e ∷ back) e (member_first e e back refl)

  pub ring_is : LeadsToRing fs n e here
  ring_is = by_step t.step refl
    where
      by_step : (x : Step) → t.step ≡ x → LeadsToRing fs n e here
      by_step (Nowhere v) q =
          let ends : last_or None (n ∷ t.names) ≡ Some e = subst (λ (y : Step). FaultyWalkEndsAt (n ∷ t.names) y e) q
          t.ends_at in
          let follows : FollowsFaultyWalk fs n t.names (Nowhere v) =
          subst (λ (y : Step). FollowsFaultyWalk fs n t.names y) q t.follows_faults in
          let same : Nowhere v ≡ To here =
          one_step fs e (Nowhere v) (To here) (last_goes fs n t.names (Nowhere v) e follows ends) goes in
          absurd (cc)
      by_step (To m) q =
          let ends : (m ≡ e) × Contains (n ∷ t.names) e = subst (λ (y : Step). FaultyWalkEndsAt (n ∷ t.names) y e) q
          t.ends_at in
          let follows : FollowsFaultyWalk fs n t.names (To e) =
          subst (λ (y : Step). FollowsFaultyWalk fs n t.names y) (q ∙ ap To ends.0) t.follows_faults in
          let r = path_splits_at_name (n ∷ t.names) e ends.1 in
          ring_from follows r.front r.back r.whole

-- ---- the names of a fault, given the way of a name to it
module _ (fs : Faults) (trails : AreWalkTrails fs) (n : ℕ) (c : FaultyStep) (is : slice_get fs n ≡ Some (Some c)) where
  pub end_of : IsFaultyInWalk fs c.end
  end_of = end_faulty fs n c.end (trails.trails n c is)

  module _ (d : FaultyStep) (end_is : slice_get fs c.end ≡ Some (Some d)) where
    pub dead_end_of : (w : ℕ) → d.step ≡ Nowhere w → (g : Graph) (s : List Bool) (os : List ℕ) → IsConsistentGraph g s
        → AreWalkFindings g s os fs → steps_fault_after_path g [] (To n ∷ []) ≡ Some (DeadEnd w (Some c.end))
    dead_end_of w q g s os net are =
        dead_end_is fs n c.end (trails.trails n c is) w (d, end_is, q) g s os net are

    pub ring_of : (here : ℕ) → d.step ≡ To here → LeadsToRing fs n c.end here
    ring_of here q = ring_is fs n c.end (trails.trails n c is) here (d, end_is, q)

-- the names of the ring are those of its only way
pub walk_ring_names_are_of_its_way : (fs : Faults) (n e here : ℕ) (rest names : List ℕ) → LeadsToRing fs n e here
    → IsFaultyWalkWay fs e here rest
    → names ≡ (e ∷ rest) ++ e ∷ [] → (g : Graph) (s : List Bool) (os : List ℕ) → IsConsistentGraph g s
    → AreWalkFindings g s os fs
    → steps_fault_after_path g [] (To n ∷ []) ≡ Some (Cycle names)
walk_ring_names_are_of_its_way fs n e here rest names r way is g s os net are =
    let same : r.rest ≡ rest = way_one fs e here r.rest rest r.ring.way way in
    r.is_fault g s os net are
    ∙ ap (λ (ns : List ℕ). Some (Cycle ns)) (ap (λ (ns : List ℕ). (e ∷ ns) ++ e ∷ []) same ∙ sym is)
