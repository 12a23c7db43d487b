-- Added names, about which nothing is known.
use Rattle.std.proofs.Common.{◌≡◌, ◌⊎◌, ℕ, zero, suc, ◌+◌, ◌-◌, ◌<◌, ◌≤◌, Bool, List, [], ◌∷◌, ◌++◌, length, take}
use Rattle.std.proofs.Common.{replicate, Some, refl, sym, ◌∙◌, ap, subst, inl, inr, arith, length-append, Contains}
use Rattle.std.specs.List.{slice_get}
use Rattle.std.proofs.lemmas.List.{length-replicate, take_all}
use Rattle.std.proofs.lemmas.Option.{slice_get_within}
use Rattle.name_walk.specs.declared.mark.Mark.{Mark}
use Rattle.name_walk.specs.declared.mark.Mark.TheVariants.{Closed, OnPath, Open}
use Rattle.name_walk.specs.Findings.{CanClearWalk, IsConsistentWalkTrace}
use Rattle.name_walk.specs.Searches.{AreWalkFaultsCovered, AreWalkMarksCovered, IsBetweenWalkSearches}
use Rattle.name_walk.specs.Steps.{Graph}
use Rattle.name_walk.specs.Traces.{AreWalkNamesEntered, WalkTrace, walk_trace_with_names}
use Rattle.name_walk.specs.Trails.{AreWalkFindings, Faults, IsFaultyInWalk, IsWalkTrail}
use Rattle.name_walk.proofs.Trails.{faulty_walk_stays}

module _ {A : Type 0} (v : A) where
  -- each element of a list of copies is the copied element
  of_copies : (k i : ℕ) (w : A) → slice_get (replicate k v) i ≡ Some w → w ≡ v
  of_copies zero i w e = cc
  of_copies (suc k) zero w e = cc
  of_copies (suc k) (suc i) w e = of_copies k i w e

  -- an element of a list followed by copies is an element of the list or the copied element
  of_front : (xs : List A) (k i : ℕ) (w : A) → slice_get (xs ++ replicate k v) i ≡ Some w
      → (slice_get xs i ≡ Some w) ⊎ (w ≡ v)
  of_front [] k i w e = inr (of_copies k i w e)
  of_front (x ∷ xs) k zero w e = inl e
  of_front (x ∷ xs) k (suc i) w e = of_front xs k i w e

  pub of_longer : (xs : List A) (n i : ℕ) (w : A) → length xs ≤ n
      → slice_get (take n xs ++ replicate (n - length xs) v) i ≡ Some w → (slice_get xs i ≡ Some w) ⊎ (w ≡ v)
  of_longer xs n i w l e =
      of_front xs (n - length xs) i w
      (ap (λ (ys : List A). slice_get (ys ++ replicate (n - length xs) v) i) (sym (take_all n xs l)) ∙ e)

  front_still : (xs ys : List A) (i : ℕ) (w : A) → slice_get xs i ≡ Some w → slice_get (xs ++ ys) i ≡ Some w
  front_still [] ys i w e = cc
  front_still (x ∷ xs) ys zero w e = e
  front_still (x ∷ xs) ys (suc i) w e = front_still xs ys i w e

  pub in_longer : (xs : List A) (n i : ℕ) (w : A) → length xs ≤ n → slice_get xs i ≡ Some w
      → slice_get (take n xs ++ replicate (n - length xs) v) i ≡ Some w
  in_longer xs n i w l e =
      ap (λ (ys : List A). slice_get (ys ++ replicate (n - length xs) v) i) (take_all n xs l)
      ∙ front_still xs (replicate (n - length xs) v) i w e

  pub longer_length : (xs : List A) (n : ℕ) → length xs ≤ n
      → length (take n xs ++ replicate (n - length xs) v) ≡ n
  longer_length xs n l =
      ap (λ (ys : List A). length (ys ++ replicate (n - length xs) v)) (take_all n xs l)
      ∙ (let both : length (xs ++ replicate (n - length xs) v) ≡ length xs + length (replicate (n - length xs) v) =
      length-append xs (replicate (n - length xs) v) in
      let back : length (replicate (n - length xs) v) ≡ n - length xs = length-replicate (n - length xs) v in
      omega arith)

-- the element at a place of a list
pub record Element {A : Type 0} (xs : List A) (i : ℕ) : Type 0 where
  pub value : A
  pub is : slice_get xs i ≡ Some value

element_at : {A : Type 0} (xs : List A) (i : ℕ) → i < length xs → Element xs i
element_at [] i l = absurd (omega arith)
element_at (x ∷ xs) zero l = record { value = x; is = refl }
element_at (x ∷ xs) (suc i) l = let r = element_at xs i (omega arith) in record { value = r.value; is = r.is }

-- marks cover themselves
pub walk_marks_cover_themselves : (t : WalkTrace) → AreWalkMarksCovered t t
walk_marks_cover_themselves t = record {
  marks = λ n m d e. e;
  names_entered = λ h. h;
  names = refl;
  order = refl;
  frames = refl;
}

entered_stays_with_more_walk_marks : (ms : List Mark) (es : List ℕ) (n : ℕ) → length ms ≤ n → AreWalkNamesEntered ms es
    → AreWalkNamesEntered (take n ms ++ replicate (n - length ms) Open) es
entered_stays_with_more_walk_marks ms es n l h = record {
  names_within = λ k i. let a : k < length ms = h.names_within k i in
      let b : length (take n ms ++ replicate (n - length ms) Open) ≡ n = longer_length Open ms n l in omega arith;
  open_or_listed = λ k j. let r = element_at (take n ms ++ replicate (n - length ms) Open) k j in
      elim (of_longer Open ms n k r.value l r.is) [
        | inl e ↦ elim (h.open_or_listed k (slice_get_within ms k r.value e)) [
          | inl o ↦ inl (in_longer Open ms n k Open l o)
          | inr i ↦ inr i
        ]
        | inr q ↦ inl (r.is ∙ ap Some q)
      ];
}

-- marks for more names cover marks
pub more_walk_marks_cover_marks : (n : ℕ) (t : WalkTrace) → length t.marks ≤ n
    → AreWalkMarksCovered t (walk_trace_with_names n t)
more_walk_marks_cover_marks n t l = record {
  marks = λ k m d e. elim (of_longer Open t.marks n k m l e) [ inl q ↦ q | inr q ↦ absurd (d q) ];
  names_entered = entered_stays_with_more_walk_marks t.marks t.entered_names n l;
  names = refl;
  order = refl;
  frames = refl;
}

pub walk_faults_cover_themselves : (fs : Faults) → AreWalkFaultsCovered fs fs
walk_faults_cover_themselves fs =
    record { new_faults = λ n c e. e; old_faults = λ n c e. e; fault_list_grows = omega arith }

-- ---- what is known after names are added
module _ (old new : WalkTrace) (fs hs : Faults) (m : AreWalkMarksCovered old new) (f : AreWalkFaultsCovered fs hs) where
  is_old : (n : ℕ) → IsFaultyInWalk hs n → IsFaultyInWalk fs n
  is_old n h = (h.0, f.new_faults n h.0 h.1)

  is_new : (n : ℕ) → IsFaultyInWalk fs n → IsFaultyInWalk hs n
  is_new n h = (h.0, f.old_faults n h.0 h.1)

  pub covered_clear : CanClearWalk old.marks old.entered_names fs → CanClearWalk new.marks new.entered_names hs
  covered_clear h = record {
    names_entered = m.names_entered h.names_entered;
    names_within = λ n i. let a : n < length fs = h.names_within n (subst (λ (es : List ℕ). Contains es n) m.names i) in
        let b : length fs ≤ length hs = f.fault_list_grows in omega arith;
    faulty_entered = λ n g. subst (λ (es : List ℕ). Contains es n) (sym m.names) (h.faulty_entered n (is_old n g));
  }

  trail_new : (n e : ℕ) → IsWalkTrail fs n e → IsWalkTrail hs n e
  trail_new n e t = record {
    names = t.names;
    step = t.step;
    follows_faults = faulty_walk_stays fs hs f.old_faults n t.names t.step t.follows_faults;
    names_differ = t.names_differ;
    ends_at = t.ends_at;
  }

  pub covered_consistent : IsConsistentWalkTrace old fs → IsConsistentWalkTrace new hs
  covered_consistent k = record {
    can_clear = covered_clear k.can_clear;
    marked_in_order = λ n e. subst (λ (os : List ℕ). Contains os n) (sym m.order)
        (k.marked_in_order n (m.marks n Closed (λ q. cc) e));
    order_entered = λ n i. subst (λ (es : List ℕ). Contains es n) (sym m.names)
        (k.order_entered n (subst (λ (os : List ℕ). Contains os n) m.order i));
    trails = record {
      leads_to_faulty = λ n j b. is_new j (k.trails.leads_to_faulty n j (b.0, f.new_faults n b.0 b.1, b.2));
      trails = λ n c e. trail_new n c.end (k.trails.trails n c (f.new_faults n c e));
    };
    off_path = λ n e. is_new n (k.off_path n (m.marks n OnPath (λ q. cc) e));
    frames = m.frames ∙ k.frames;
  }

  pub covered_findings : (g : Graph) (s : List Bool) → AreWalkFindings g s old.order fs
      → AreWalkFindings g s new.order hs
  covered_findings g s are =
      subst (λ (os : List ℕ). AreWalkFindings g s os hs) (sym m.order)
      (record { names_sound = are.names_sound; first_faults = λ n c e. are.first_faults n c (f.new_faults n c e) })

  pub covered_between : (g : Graph) (s : List Bool) → IsConsistentWalkTrace old fs → AreWalkFindings g s old.order fs
      → length g ≤ length new.marks → length g ≤ length hs → IsBetweenWalkSearches g s new hs
  covered_between g s k are ms fs_size = record {
    findings_right = covered_findings g s are;
    consistent = covered_consistent k;
    marks = ms;
    fault_room = fs_size;
  }
