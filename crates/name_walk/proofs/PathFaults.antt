-- What is known after the faults of the names of a path were recorded.
use Rattle.std.proofs.Common.{◌≡◌, ◌⊎◌, ℕ, Bool, true, false, List, [], ◌∷◌, ◌++◌, Some, refl, sym, ◌∙◌, ap, subst}
use Rattle.std.proofs.Common.{inl, inr, nat_eq, append_assoc, Contains, None}
use Rattle.std.specs.List.{IsDistinct, slice_get, last_or}
use Rattle.std.proofs.lemmas.Bool.{cases_Bool, cond-true, cond-false, eq-eqb, ne_eqb}
use Rattle.std.proofs.lemmas.List.Elements.{Contains-append_right, Contains-append_cases}
use Rattle.name_walk.specs.declared.step.Step.{Step}
use Rattle.name_walk.specs.declared.step.Step.TheVariants.{Nowhere, To}
use Rattle.name_walk.specs.declared.traces.Frame.{Frame}
use Rattle.name_walk.specs.declared.trail.Ending.{Ending}
use Rattle.name_walk.specs.declared.trail.Ending.TheVariants.{At, Ring}
use Rattle.name_walk.specs.declared.trail.FaultyStep.{FaultyStep}
use Rattle.name_walk.specs.Faults.{is_on_path}
use Rattle.name_walk.specs.PathRecords.{ArePathFaultsNoted, ending_of_path, path_end_for, path_ending_above}
use Rattle.name_walk.specs.PathRecords.{step_down_path}
use Rattle.name_walk.specs.Steps.{Graph}
use Rattle.name_walk.specs.Traces.{path_of_frames}
use Rattle.name_walk.specs.Trails.{AreWalkFindings, AreWalkTrails, Faults, FaultyWalkEndsAt, FollowsFaultyWalk}
use Rattle.name_walk.specs.Trails.{GoesByFaultyStep, IsFaultyInWalk, IsStepAfterSoundSteps, IsWalkTrail}
use Rattle.name_walk.proofs.Distinct.{distinct_append, distinct_apart, distinct_back, last_back, path_splits_at_name}
use Rattle.name_walk.proofs.Links.{AreLinked, head}
use Rattle.name_walk.proofs.Trails.{all_faulty, faulty_walk_stays, follows_join, follows_split}
use Rattle.name_walk.proofs.Members.{member_on_path, member_or, on_path_member}
use Rattle.general_lemmas.proofs.Properties.{distinct_front}
use Rattle.general_lemmas.proofs.Members.{no_member, member_first, member_later, member_cases}

two_same : {A : Type 0} (a b : A) → Some (Some a) ≡ Some (Some b) → a ≡ b
two_same a b e = cc

equal_steps_have_one_target : (a b : ℕ) → To a ≡ To b → a ≡ b
equal_steps_have_one_target a b e = cc

-- ---- endings
path_ending_above_end : (e : ℕ) (below : List ℕ) → ending_of_path (At e) below ≡ At e
path_ending_above_end e [] = refl
path_ending_above_end e (n ∷ below) = ap (λ d. path_ending_above d n) (path_ending_above_end e below)

path_ending_stays_on_ring : (m : ℕ) (below : List ℕ) → (Contains below m → ⊥) → ending_of_path (Ring m) below ≡ Ring m
path_ending_stays_on_ring m [] out = refl
path_ending_stays_on_ring m (n ∷ below) out =
    ap (λ d. path_ending_above d n) (path_ending_stays_on_ring m below (λ i. out (member_later m n below i)))
    ∙ cond-false (nat_eq n m) (At m) (Ring m) (ne_eqb n m (λ e. out (member_first m n below (sym e))))

path_ending_leaves_ring : (m : ℕ) (below : List ℕ) → Contains below m → ending_of_path (Ring m) below ≡ At m
path_ending_leaves_ring m [] i = absurd (no_member m i)
path_ending_leaves_ring m (n ∷ below) i = elim (cases_Bool (is_on_path below m)) [
  | inl t ↦ ap (λ d. path_ending_above d n) (path_ending_leaves_ring m below (on_path_member below m t))
  | inr f ↦ ap (λ d. path_ending_above d n) (path_ending_stays_on_ring m below (not_below f))
      ∙ cond-true (nat_eq n m) (At m) (Ring m) (eq-eqb n m (is_head f i))
]
  where
    not_below : is_on_path below m ≡ false → Contains below m → ⊥
    not_below f j = let t : is_on_path below m ≡ true = member_on_path below m j in cc

    is_head : is_on_path below m ≡ false → Contains (n ∷ below) m → n ≡ m
    is_head f j = elim (member_cases m n below j) [ inl e ↦ sym e | inr k ↦ absurd (not_below f k) ]

-- ---- the records of a path
module _ (hs : Faults) (ending : Ending) (x : Step) where
  noted_back : (front back : List ℕ) → ArePathFaultsNoted hs ending x (front ++ back)
      → ArePathFaultsNoted hs ending x back
  noted_back [] back h = h
  noted_back (n ∷ front) back h = noted_back front back h.1

  pub noted_faulty : (ns : List ℕ) → ArePathFaultsNoted hs ending x ns → (n : ℕ) → Contains ns n → IsFaultyInWalk hs n
  noted_faulty [] h n i = absurd (no_member n i)
  noted_faulty (k ∷ ns) h n i = elim (member_cases n k ns i) [
    | inl e ↦ subst (λ (j : ℕ). IsFaultyInWalk hs j) (sym e)
        (record { step = step_down_path x ns; end = path_end_for (ending_of_path ending ns) k }, h.0)
    | inr j ↦ noted_faulty ns h.1 n j
  ]

  noted_follows : (n : ℕ) (below : List ℕ) → ArePathFaultsNoted hs ending x (n ∷ below) → FollowsFaultyWalk hs n below x
  noted_follows n [] h = (record { step = x; end = path_end_for ending n }, h.0, refl)
  noted_follows n (m ∷ below) h = (
    (record { step = To m; end = path_end_for (ending_of_path ending (m ∷ below)) n }, h.0, refl),
    noted_follows m below h.1,
  )

  -- the faulty step of a recorded name leads to a name with a fault, or nowhere
  noted_leads : (ns : List ℕ) → ArePathFaultsNoted hs ending x ns → ((k : ℕ) → Contains ns k → IsFaultyInWalk hs k)
      → ((m : ℕ) → x ≡ To m → IsFaultyInWalk hs m) → (n m : ℕ) → Contains ns n → GoesByFaultyStep hs n (To m)
      → IsFaultyInWalk hs m
  noted_leads [] h all ends n m i b = absurd (no_member n i)
  noted_leads (k ∷ ns) h all ends n m i b = elim (member_cases n k ns i) [
    | inl e ↦ first_leads k ns h all ends m (b.0, sym (ap (slice_get hs) e) ∙ b.1, b.2)
    | inr j ↦ noted_leads ns h.1 (λ l q. all l (member_later l k ns q)) ends n m j b
  ]
    where
      first_leads : (k : ℕ) (ns : List ℕ) → ArePathFaultsNoted hs ending x (k ∷ ns)
          → ((j : ℕ) → Contains (k ∷ ns) j → IsFaultyInWalk hs j) → ((m : ℕ) → x ≡ To m → IsFaultyInWalk hs m)
          → (m : ℕ) → GoesByFaultyStep hs k (To m) → IsFaultyInWalk hs m
      first_leads k [] h all ends m b =
          let c : FaultyStep = record { step = x; end = path_end_for ending k } in
          let same : b.0 ≡ c = two_same b.0 c (sym b.1 ∙ h.0) in
          ends m (sym (ap (λ (d : FaultyStep). d.step) same) ∙ b.2)
      first_leads k (j ∷ ns) h all ends m b =
          let c : FaultyStep = record { step = To j; end = path_end_for (ending_of_path ending (j ∷ ns)) k } in
          let same : b.0 ≡ c = two_same b.0 c (sym b.1 ∙ h.0) in
          subst (λ (i : ℕ). IsFaultyInWalk hs i)
          (equal_steps_have_one_target j m (sym (ap (λ (d : FaultyStep). d.step) same) ∙ b.2))
          (all j (member_later j k (j ∷ ns) (member_first j j ns refl)))

-- ---- the first steps of a path
module _ (g : Graph) (s : List Bool) (os : List ℕ) (x : Step) where
  abbrev AreFirst : List ℕ → Type 0
  AreFirst [] = Unit {0}
  AreFirst (n ∷ below) = IsStepAfterSoundSteps g s os n (step_down_path x below) × AreFirst below

  down_head : (fs : List Frame) (name : ℕ) → step_down_path x (path_of_frames fs name) ≡ To (head fs name)
  down_head [] name = refl
  down_head (f ∷ fs) name = refl

  linked_first : (fs : List Frame) (name : ℕ) → AreLinked g s os fs name → IsStepAfterSoundSteps g s os name x
      → AreFirst (path_of_frames fs name)
  linked_first [] name l a = (a, tt)
  linked_first (f ∷ fs) name l a = (
    subst (λ (y : Step). IsStepAfterSoundSteps g s os f.name y) (sym (down_head fs name))
        (record { place = f.place; step_at = l.0; earlier_done = l.1 }),
    linked_first fs name l.2 a,
  )

  first_noted : (hs : Faults) (ending : Ending) (ns : List ℕ) → ArePathFaultsNoted hs ending x ns → AreFirst ns
      → (n : ℕ)
      (c : FaultyStep) → Contains ns n → slice_get hs n ≡ Some (Some c) → IsStepAfterSoundSteps g s os n c.step
  first_noted hs ending [] h a n c i e = absurd (no_member n i)
  first_noted hs ending (k ∷ ns) h a n c i e = elim (member_cases n k ns i) [
    | inl q ↦ let d : FaultyStep =
        record { step = step_down_path x ns; end = path_end_for (ending_of_path ending ns) k } in
        let same : c ≡ d = two_same c d (sym e ∙ (ap (slice_get hs) q ∙ h.0)) in
        subst (λ (v : ℕ × Step). IsStepAfterSoundSteps g s os v.0 v.1)
        (λ j. (sym q j, ap (λ (b : FaultyStep). b.step) (sym same) j)) a.0
    | inr j ↦ first_noted hs ending ns h.1 a.1 n c j e
  ]

-- how a path ends by the step of its last name
abbrev pub PathEnds : Faults → List ℕ → ℕ → Step → Ending → Type 0
PathEnds fs ns here (Nowhere w) d = (d ≡ At here) × (last_or None ns ≡ Some here)
PathEnds fs ns here (To m) (At e) = (c : FaultyStep) × (slice_get fs m ≡ Some (Some c)) × (c.end ≡ e)
PathEnds fs ns here (To m) (Ring k) = (k ≡ m) × Contains ns m

-- ---- the ways from the names of a path
module _ (fs hs : Faults) (ending : Ending) (x : Step) (ns : List ℕ) (noted : ArePathFaultsNoted hs ending x ns)
    (others : (n : ℕ) → (Contains ns n → ⊥) → slice_get hs n ≡ slice_get fs n)
    (fresh : (n : ℕ) → Contains ns n → IsFaultyInWalk fs n → ⊥) (once : IsDistinct nat_eq ns) (old : AreWalkTrails fs)
  where
    is_noted : (n : ℕ) → Contains ns n ⊎ (Contains ns n → ⊥)
    is_noted n = member_or ns n

    -- what was known about names is still known
    still : (n : ℕ) (c : FaultyStep) → slice_get fs n ≡ Some (Some c) → slice_get hs n ≡ Some (Some c)
    still n c e = others n (λ i. fresh n i (c, e)) ∙ e

    pub still_faulty : (n : ℕ) → IsFaultyInWalk fs n → IsFaultyInWalk hs n
    still_faulty n f = (f.0, still n f.0 f.1)

    -- what is known about other names was known before
    before : (n : ℕ) (c : FaultyStep) → (Contains ns n → ⊥) → slice_get hs n ≡ Some (Some c)
        → slice_get fs n ≡ Some (Some c)
    before n c out e = sym (others n out) ∙ e

    trail_still : (n e : ℕ) → IsWalkTrail fs n e → IsWalkTrail hs n e
    trail_still n e t = record {
      names = t.names;
      step = t.step;
      follows_faults = faulty_walk_stays fs hs still n t.names t.step t.follows_faults;
      names_differ = t.names_differ;
      ends_at = t.ends_at;
    }

    -- a part of the path
    module _ (front : List ℕ) (n : ℕ) (back : List ℕ) (whole : ns ≡ front ++ n ∷ back) where
      here_noted : ArePathFaultsNoted hs ending x (n ∷ back)
      here_noted = noted_back hs ending x front (n ∷ back)
          (subst (λ (ks : List ℕ). ArePathFaultsNoted hs ending x ks) whole noted)

      here_once : IsDistinct nat_eq (front ++ n ∷ back)
      here_once = subst (λ (ks : List ℕ). IsDistinct nat_eq ks) whole once

      back_once : IsDistinct nat_eq (n ∷ back)
      back_once = distinct_back front (n ∷ back) here_once

      here_follows : FollowsFaultyWalk hs n back x
      here_follows = noted_follows hs ending x n back here_noted

      here_ends : (c : FaultyStep) → slice_get hs n ≡ Some (Some c) → c.end
          ≡ path_end_for (ending_of_path ending back) n
      here_ends c e =
          let d : FaultyStep = record
          { step = step_down_path x back; end = path_end_for (ending_of_path ending back) n }
          in
          ap (λ (b : FaultyStep). b.end) (two_same c d (sym e ∙ here_noted.0))

      in_whole : (k : ℕ) → Contains (front ++ n ∷ back) k → Contains ns k
      in_whole k i = subst (λ (ks : List ℕ). Contains ks k) (sym whole) i

      -- a way to a word that leads nowhere
      to_dead_end : (w e : ℕ) → x ≡ Nowhere w → last_or None ns ≡ Some e → IsWalkTrail hs n e
      to_dead_end w e is final = record {
        names = back;
        step = Nowhere w;
        follows_faults = subst (λ (y : Step). FollowsFaultyWalk hs n back y) is here_follows;
        names_differ = back_once;
        ends_at = sym (last_back front n back) ∙ (ap (last_or None) (sym whole) ∙ final);
      }

      -- a way to a name that is known to have a fault
      ends_further : (m : ℕ) (ms : List ℕ) (y : Step) (e : ℕ) → FaultyWalkEndsAt (m ∷ ms) y e
          → FaultyWalkEndsAt ((n ∷ back) ++ m ∷ ms) y e
      ends_further m ms (Nowhere w) e h = last_back (n ∷ back) m ms ∙ h
      ends_further m ms (To k) e h = (h.0, Contains-append_right (n ∷ back) (m ∷ ms) e h.1)

      to_known : (m e : ℕ) → x ≡ To m → IsWalkTrail fs m e → IsWalkTrail hs n e
      to_known m e is t =
          let new : FollowsFaultyWalk hs m t.names t.step = faulty_walk_stays fs hs still m t.names t.step
          t.follows_faults in
          record {
            names = back ++ m ∷ t.names;
            step = t.step;
            follows_faults = follows_join hs n back m t.names t.step
                (subst (λ (y : Step). FollowsFaultyWalk hs n back y) is here_follows)
                new;
            names_differ = distinct_append (n ∷ back) (m ∷ t.names) back_once t.names_differ
                (λ k i j. fresh k (in_whole k (Contains-append_right front (n ∷ back) k i))
                (all_faulty fs m t.names t.step t.follows_faults k j));
            ends_at = ends_further m t.names t.step e t.ends_at;
          }

      -- a way into a ring below the name
      to_ring : (m : ℕ) → x ≡ To m → Contains (n ∷ back) m → IsWalkTrail hs n m
      to_ring m is i = record {
        names = back;
        step = To m;
        follows_faults = subst (λ (y : Step). FollowsFaultyWalk hs n back y) is here_follows;
        names_differ = back_once;
        ends_at = (refl, i);
      }

    -- the way of a name in a ring, below the first name of the ring
    in_ring : (m n : ℕ) (a b back : List ℕ) → x ≡ To m → ns ≡ a ++ m ∷ (b ++ n ∷ back) → IsWalkTrail hs n n
    in_ring m n a b back is whole =
        let all : FollowsFaultyWalk hs m (b ++ n ∷ back) (To m) =
        subst (λ (y : Step). FollowsFaultyWalk hs m (b ++ n ∷ back) y) is (here_follows a m (b ++ n ∷ back) whole) in
        let parts : FollowsFaultyWalk hs m b (To n) × FollowsFaultyWalk hs n back (To m) = follows_split hs m b n back
        (To m) all in
        let apart : IsDistinct nat_eq ((m ∷ b) ++ n ∷ back) = back_once a m (b ++ n ∷ back) whole in
        record {
          names = back ++ m ∷ b;
          step = To n;
          follows_faults = follows_join hs n back m b (To n) parts.1 parts.0;
          names_differ = distinct_append (n ∷ back) (m ∷ b) (distinct_back (m ∷ b) (n ∷ back) apart)
              (front_once (m ∷ b) (n ∷ back) apart) (λ k i j. distinct_apart (m ∷ b) (n ∷ back) apart k j i);
          ends_at = (refl, member_first n n (back ++ m ∷ b) refl);
        }
      where
        front_once : (xs ys : List ℕ) → IsDistinct nat_eq (xs ++ ys) → IsDistinct nat_eq xs
        front_once xs ys h = distinct_front xs ys h

    -- the name at which the fault of a name occurs is the one given by the ending
    end_is : (front : List ℕ) (n : ℕ) (back : List ℕ) → ns ≡ front ++ n ∷ back → (d : Ending)
        → ending_of_path ending back ≡ d → (c : FaultyStep) → slice_get hs n ≡ Some (Some c) → c.end ≡ path_end_for d n
    end_is front n back whole d same c e = here_ends front n back whole c e ∙ ap (λ q. path_end_for q n) same

    trail_in_ring : (m : ℕ) → x ≡ To m → ending ≡ Ring m → Contains ns m
        → (n : ℕ) (c : FaultyStep) (front back : List ℕ)
        → ns ≡ front ++ n ∷ back → slice_get hs n ≡ Some (Some c) → Contains back m ⊎ (Contains back m → ⊥)
        → IsWalkTrail hs n c.end
    trail_in_ring m xe de i n c front back whole e (inl j) =
        subst (λ (k : ℕ). IsWalkTrail hs n k)
        (sym (end_is front n back whole (At m) (ap (λ d. ending_of_path d back) de ∙ path_ending_leaves_ring m back j) c
        e))
        (to_ring front n back whole m xe (member_later m n back j))
    trail_in_ring m xe de i n c front back whole e (inr out) =
        subst (λ (k : ℕ). IsWalkTrail hs n k)
        (sym (end_is front n back whole (Ring m)
        (ap (λ d. ending_of_path d back) de ∙ path_ending_stays_on_ring m back out) c e))
        (elim (Contains-append_cases front (n ∷ back) m (subst (λ (ks : List ℕ). Contains ks m) whole i)) [
          | inl j ↦ above_here j
          | inr j ↦ elim (member_cases m n back j) [
            | inl q ↦ subst (λ (k : ℕ).
                IsWalkTrail hs n k) q (to_ring front n back whole m xe (member_first m n back q))
            | inr k ↦ absurd (out k)
          ]
        ])
      where
        above_here : Contains front m → IsWalkTrail hs n n
        above_here j =
            let r = path_splits_at_name front m j in
            in_ring m n r.front r.back back xe
            (whole ∙ (ap (λ (ks : List ℕ). ks ++ n ∷ back) r.whole ∙ append_assoc r.front (m ∷ r.back) (n ∷ back)))

    trail_by : (here : ℕ) (y : Step) (d : Ending) → x ≡ y → ending ≡ d → PathEnds fs ns here y d → (n : ℕ)
        (c : FaultyStep) → Contains ns n → slice_get hs n ≡ Some (Some c) → IsWalkTrail hs n c.end
    trail_by here (Nowhere w) d xe de p n c i e =
        let r = path_splits_at_name ns n i in
        subst (λ (k : ℕ). IsWalkTrail hs n k)
        (sym (end_is r.front n r.back r.whole (At here)
        (ap (λ q. ending_of_path q r.back) (de ∙ p.0) ∙ path_ending_above_end here r.back) c e))
        (to_dead_end r.front n r.back r.whole w here xe p.1)
    trail_by here (To m) (At f) xe de p n c i e =
        let r = path_splits_at_name ns n i in
        subst (λ (k : ℕ). IsWalkTrail hs n k)
        (sym (end_is r.front n r.back r.whole (At f)
        (ap (λ q. ending_of_path q r.back) de ∙ path_ending_above_end f r.back) c e))
        (to_known r.front n r.back r.whole m f xe (subst (λ (k : ℕ). IsWalkTrail fs m k) p.2 (old.trails m p.0 p.1)))
    trail_by here (To m) (Ring k) xe de p n c i e =
        let r = path_splits_at_name ns n i in
        trail_in_ring m xe (de ∙ ap Ring p.0) p.1 n c r.front r.back r.whole e
        (member_or r.back m)

    last_leads : (here : ℕ) (y : Step) (d : Ending) → PathEnds fs ns here y d → (m : ℕ) → y ≡ To m → IsFaultyInWalk hs m
    last_leads here (Nowhere w) d p m e = absurd (cc)
    last_leads here (To k) (At f) p m e =
        subst (λ (j : ℕ). IsFaultyInWalk hs j) (equal_steps_have_one_target k m e) (still_faulty k (p.0, p.1))
    last_leads here (To k) (Ring j) p m e =
        subst (λ (j : ℕ). IsFaultyInWalk hs j) (equal_steps_have_one_target k m e)
        (noted_faulty hs ending x ns noted k p.1)

    pub path_trails : (here : ℕ) → PathEnds fs ns here x ending → AreWalkTrails hs
    path_trails here p = record {
      leads_to_faulty = λ n m b. elim (is_noted n) [
        | inl i ↦ noted_leads hs ending x ns noted (noted_faulty hs ending x ns noted)
            (last_leads here x ending p) n m i b
        | inr out ↦ still_faulty m (old.leads_to_faulty n m (b.0, before n b.0 out b.1, b.2))
      ];
      trails = λ n c e. elim (is_noted n) [
        | inl i ↦ trail_by here x ending refl refl p n c i e
        | inr out ↦ trail_still n c.end (old.trails n c (before n c out e))
      ];
    }

    pub path_findings : (g : Graph) (s : List Bool) (os : List ℕ) (frames : List Frame) (name : ℕ)
        → ns ≡ path_of_frames frames name → AreLinked g s os frames name → IsStepAfterSoundSteps g s os name x
        → AreWalkFindings g s os fs
        → AreWalkFindings g s os hs
    path_findings g s os frames name same linked at are = record {
      names_sound = are.names_sound;
      first_faults = λ n c e. elim (is_noted n) [
        | inl i ↦ first_noted g s os x hs ending (path_of_frames frames name)
            (subst (λ (ks : List ℕ). ArePathFaultsNoted hs ending x ks) same noted)
            (linked_first g s os x frames name linked at) n
            c
            (subst (λ (ks : List ℕ). Contains ks n) same i) e
        | inr out ↦ are.first_faults n c (before n c out e)
      ];
    }
