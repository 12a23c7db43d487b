-- The marks of a running search.
use Rattle.std.proofs.Common.{◌≡◌, ◌⊎◌, ℕ, ◌<◌, List, [], ◌∷◌, ◌++◌, length}
use Rattle.std.proofs.Common.{set, Some, sym, ◌∙◌, ap, subst, inl, inr, Contains}
use Rattle.std.specs.List.{slice_get}
use Rattle.std.proofs.lemmas.Bool.{cases_eq}
use Rattle.std.proofs.lemmas.Option.{slice_get_within}
use Rattle.std.proofs.lemmas.List.Elements.{Contains-append_left, Contains-push, Contains-push_cases}
use Rattle.name_walk.specs.declared.mark.Mark.{Mark}
use Rattle.name_walk.specs.declared.mark.Mark.TheVariants.{Closed, OnPath, Open}
use Rattle.name_walk.specs.Findings.{CanClearWalk}
use Rattle.name_walk.specs.Traces.{AreWalkNamesEntered}
use Rattle.name_walk.specs.Trails.{Faults, IsFaultyInWalk}
use Rattle.name_walk.proofs.Marks.{entered_again, entered_push, marked_name_was_entered_by_walk}
use Rattle.general_lemmas.proofs.Places.{get_set_same, get_set_other}

-- the mark of the name at which one was put, and of any other
walk_mark_after_set : (ms : List Mark) (n : ℕ) (v : Mark) (k : ℕ) (w : Mark) → n < length ms
    → slice_get (set ms n v) k ≡ Some w
    → ((k ≡ n) × (w ≡ v)) ⊎ ((k ≡ n → ⊥) × (slice_get ms k ≡ Some w))
walk_mark_after_set ms n v k w l e = elim (cases_eq k n) [
  | inl q ↦ inl (q, is_put q)
  | inr ne ↦ inr (ne, sym (get_set_other ms n k v ne) ∙ e)
]
  where
    is_put : k ≡ n → w ≡ v
    is_put q =
        let f : slice_get (set ms n v) k ≡ Some v = ap (slice_get (set ms n v)) q ∙ get_set_same ms n v l in
        cc

-- one thing about marks and the names that have one
pub record AreMarks (ms : List Mark) (es os : List ℕ) (fs : Faults) (ps : List ℕ) : Type 0 where
  pub entered : AreWalkNamesEntered ms es
  pub within : (n : ℕ) → Contains es n → n < length fs
  pub noted : (n : ℕ) → IsFaultyInWalk fs n → Contains es n
  pub closed : (n : ℕ) → slice_get ms n ≡ Some Closed → Contains os n
  pub sound : (n : ℕ) → Contains os n → Contains es n
  pub marked : (n : ℕ) → slice_get ms n ≡ Some OnPath → Contains ps n ⊎ IsFaultyInWalk fs n
  pub on_path : (n : ℕ) → Contains ps n → slice_get ms n ≡ Some OnPath
  pub fresh : (n : ℕ) → Contains ps n → IsFaultyInWalk fs n → ⊥

-- the marks can be cleared
pub walk_marks_can_be_cleared : (ms : List Mark) (es os : List ℕ) (fs : Faults) (ps : List ℕ) → AreMarks ms es os fs ps
    → CanClearWalk ms es fs
walk_marks_can_be_cleared ms es os fs ps h =
    record { names_entered = h.entered; names_within = h.within; faulty_entered = h.noted }

-- an open name is put on the path
pub walk_marks_after_entering : (ms : List Mark) (es os : List ℕ) (fs : Faults) (ps : List ℕ) (m : ℕ)
    → AreMarks ms es os fs ps
    → slice_get ms m ≡ Some Open → m < length fs → (IsFaultyInWalk fs m → ⊥)
    → AreMarks (set ms m OnPath) (es ++ m ∷ []) os fs (ps ++ m ∷ [])
walk_marks_after_entering ms es os fs ps m h is_open there faultless =
    let here : m < length ms = slice_get_within ms m Open is_open in
    record {
      entered = entered_push ms m here OnPath es h.entered;
      within = λ n i. elim (Contains-push_cases es m n i)
          [ inl j ↦ h.within n j | inr e ↦ subst (λ (k : ℕ). k < length fs) e there ];
      noted = λ n f. Contains-append_left es (m ∷ []) n (h.noted n f);
      closed = λ n e. elim (walk_mark_after_set ms m OnPath n Closed here e)
          [ inl q ↦ absurd (let d : Closed ≡ OnPath = q.1 in cc) | inr q ↦ h.closed n q.1 ];
      sound = λ n i. Contains-append_left es (m ∷ []) n (h.sound n i);
      marked = λ n e. elim (walk_mark_after_set ms m OnPath n OnPath here e) [
        | inl q ↦ inl (subst (λ (k : ℕ). Contains (ps ++ m ∷ []) k) (sym q.0) (Contains-push ps m))
        | inr q ↦ elim (h.marked n q.1) [ inl i ↦ inl (Contains-append_left ps (m ∷ []) n i) | inr f ↦ inr f ]
      ];
      on_path = λ n i. elim (Contains-push_cases ps m n i) [
        | inl j ↦ get_set_other ms m n OnPath (λ q. let a : slice_get ms m ≡ Some OnPath =
            ap (slice_get ms) (sym q) ∙ h.on_path n j in cc) ∙ h.on_path n j
        | inr e ↦ ap (slice_get (set ms m OnPath)) (sym e) ∙ get_set_same ms m OnPath here
      ];
      fresh = λ n i f. elim (Contains-push_cases ps m n i)
          [ inl j ↦ h.fresh n j f | inr e ↦ faultless (subst (λ (k : ℕ). IsFaultyInWalk fs k) (sym e) f) ];
    }

-- the last name of the path is closed
pub walk_marks_after_closing : (ms : List Mark) (es os : List ℕ) (fs : Faults) (ps : List ℕ) (m : ℕ)
    → AreMarks ms es os fs (ps ++ m ∷ []) → (Contains ps m → ⊥) → AreMarks (set ms m Closed) es (os ++ m ∷ []) fs ps
walk_marks_after_closing ms es os fs ps m h apart =
    let mark : slice_get ms m ≡ Some OnPath = h.on_path m (Contains-push ps m) in
    let here : m < length ms = slice_get_within ms m OnPath mark in
    let there : Contains es m = marked_name_was_entered_by_walk OnPath (λ q. cc) ms es m h.entered mark in
    record {
      entered = entered_again ms m here Closed es there h.entered;
      within = h.within;
      noted = h.noted;
      closed = λ n e. elim (walk_mark_after_set ms m Closed n Closed here e) [
        | inl q ↦ subst (λ (k : ℕ). Contains (os ++ m ∷ []) k) (sym q.0) (Contains-push os m)
        | inr q ↦ Contains-append_left os (m ∷ []) n (h.closed n q.1)
      ];
      sound = λ n i. elim (Contains-push_cases os m n i)
          [ inl j ↦ h.sound n j | inr e ↦ subst (λ (k : ℕ). Contains es k) e there ];
      marked = λ n e. elim (walk_mark_after_set ms m Closed n OnPath here e) [
        | inl q ↦ absurd (let d : OnPath ≡ Closed = q.1 in cc)
        | inr q ↦ elim (h.marked n q.1) [
          | inl i ↦ elim (Contains-push_cases ps m n i) [ inl j ↦ inl j | inr d ↦ absurd (q.0 (sym d)) ]
          | inr f ↦ inr f
        ]
      ];
      on_path = λ n i. get_set_other ms m n Closed (λ q. apart (subst (λ (k : ℕ). Contains ps k) q i))
          ∙ h.on_path n (Contains-append_left ps (m ∷ []) n i);
      fresh = λ n i f. h.fresh n (Contains-append_left ps (m ∷ []) n i) f;
    }
