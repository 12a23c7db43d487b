-- Faults that are cleared.
use Rattle.std.proofs.Common.{◌≡◌, ℕ, ◌+◌, ◌<◌, ◌≤◌, zero, suc, List, [], ◌∷◌, length, set, drop, Some, None}
use Rattle.std.proofs.Common.{sym, ◌∙◌, ap, subst, inl, inr, length-set, get_or, Contains}
use Rattle.std.specs.List.{slice_get}
use Rattle.std.proofs.lemmas.Bool.{cases_eq}
use Rattle.std.proofs.lemmas.List.{drop_all, drop_more}
use Rattle.name_walk.specs.declared.trail.FaultyStep.{FaultyStep}
use Rattle.name_walk.specs.Trails.{Faults, IsFaultyInWalk}
use Rattle.general_lemmas.proofs.Places.{get_set_other}
use Rattle.general_lemmas.proofs.Members.{no_member, member_cases}

-- each name that is still known to have a fault is among the remaining names
pub record IsClearing (es : List ℕ) (fs hs : Faults) (i : ℕ) : Type 0 where
  pub size : length hs ≡ length fs
  pub left : (n : ℕ) → IsFaultyInWalk hs n → Contains (drop i es) n

module _ (es : List ℕ) (fs hs : Faults) (i : ℕ) (h : IsClearing es fs hs i) (l : i < length es) where
  pub clearing_next : IsClearing es fs (set hs (get_or es i 0) None) (i + 1)
  clearing_next = record {
    size = length-set hs (get_or es i 0) None ∙ h.size;
    left = λ n f. elim (cases_eq n (get_or es i 0)) [
      | inl q ↦ absurd (gone n f q)
      | inr ne ↦ elim (member_cases n (get_or es i 0) (drop (i + 1) es)
          (subst (λ (ns : List ℕ). Contains ns n) (drop_more es i 0 l)
          (h.left n (f.0, sym (get_set_other hs (get_or es i 0) n None ne) ∙ f.1))))
          [ inl e ↦ absurd (ne e) | inr j ↦ j ]
    ];
  }
    where
      gone : (n : ℕ) → IsFaultyInWalk (set hs (get_or es i 0) None) n → n ≡ get_or es i 0 → ⊥
      gone n f q = cleared hs (get_or es i 0) f.0 (ap (slice_get (set hs (get_or es i 0) None)) (sym q) ∙ f.1)
        where
          cleared : (xs : Faults) (k : ℕ) (c : FaultyStep) → slice_get (set xs k None) k ≡ Some (Some c) → ⊥
          cleared [] k c e = cc
          cleared (x ∷ xs) zero c e = cc
          cleared (x ∷ xs) (suc k) c e = cleared xs k c e

pub walk_clearing_leaves_no_fault : (es : List ℕ) (fs hs : Faults) (i : ℕ) → IsClearing es fs hs i → length es ≤ i
    → (n : ℕ)
    → IsFaultyInWalk hs n → ⊥
walk_clearing_leaves_no_fault es fs hs i h end n f =
    no_member n (subst (λ (ns : List ℕ). Contains ns n) (drop_all i es end) (h.left n f))
