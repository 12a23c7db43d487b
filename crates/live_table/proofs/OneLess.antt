-- One settled name fewer.
use Rattle.std.proofs.Common.{◌≡◌, ◌+◌, ◌-◌, ◌<◌, ℕ, zero, suc, Bool, true, false, List, [], ◌∷◌, filter, length, set}
use Rattle.std.proofs.Common.{Option, Some, None, is_some, sym, ◌∙◌, ap, inl, inr, arith}
use Rattle.std.specs.List.{slice_get}
use Rattle.std.specs.Prelude.{count_by}
use Rattle.std.proofs.lemmas.Bool.{cases_eq}
use Rattle.std.proofs.lemmas.List.{length-set, map-set}
use Rattle.std.proofs.lemmas.List.Sums.{length-filter}
use Rattle.std.proofs.lemmas.Option.{slice_get_within}
use Rattle.tree_eval.specs.declared.outcome.Outcome.{Outcome}
use Rattle.live_table.specs.OutcomesLeft.{AreSettledNumbersLeft}
use Rattle.general_lemmas.proofs.Places.{get_set_same, get_set_other}

-- a flag that is cleared is one fewer
cleared_settled_flag_is_one_fewer : (bs : List Bool) (n : ℕ) → slice_get bs n ≡ Some true
    → length (filter (λ b. b) (set bs n false)) + 1 ≡ length
    (filter (λ b. b) bs)
cleared_settled_flag_is_one_fewer [] n e = cc
cleared_settled_flag_is_one_fewer (true ∷ bs) zero e = omega arith
cleared_settled_flag_is_one_fewer (false ∷ bs) zero e = cc
cleared_settled_flag_is_one_fewer (true ∷ bs) (suc n) e = let r = cleared_settled_flag_is_one_fewer bs n e in
    omega (arith, r)
cleared_settled_flag_is_one_fewer (false ∷ bs) (suc n) e = cleared_settled_flag_is_one_fewer bs n e

-- the count after a flag is cleared is one less
cleared_settled_flag_lowers_count : (bs : List Bool) (n : ℕ) → slice_get bs n ≡ Some true
    → count_by (λ b. b) (set bs n false) + 1 ≡ count_by
    (λ b. b) bs
cleared_settled_flag_lowers_count bs n e =
    ap (λ k. k + 1) (sym (length-filter (λ b. b) (set bs n false)))
    ∙ (cleared_settled_flag_is_one_fewer bs n e ∙ length-filter (λ b. b) bs)

module _ (settled : List Bool) (count rest n : ℕ) (outcomes : List (Option Outcome))
    (is : slice_get settled n ≡ Some true)
    (less : rest ≡ count - 1) where
  counted : count ≡ count_by (λ b. b) settled → rest ≡ count_by (λ b. b) (set settled n false)
  counted e = let r = cleared_settled_flag_lowers_count settled n is in omega (arith, e, r, less)

  none_else : (m : ℕ) (o : Outcome) → slice_get (set outcomes n None) m ≡ Some (Some o)
      → slice_get outcomes m ≡ Some (Some o)
  none_else m o e = elim (cases_eq m n) [
    | inr ne ↦ sym (get_set_other outcomes n m None ne) ∙ e
    | inl q ↦
        let s : n < length outcomes = size (slice_get_within (set outcomes n None) m (Some o) e) q in
        let z : Some None ≡ Some (Some o) = sym (get_set_same outcomes n None s)
        ∙ (ap (slice_get (set outcomes n None)) (sym q) ∙ e) in cc
  ]
    where
      size : m < length (set outcomes n None) → m ≡ n → n < length outcomes
      size l q = let e : length (set outcomes n None) ≡ length outcomes = length-set outcomes n None in
          omega (arith, l, q, e)

  pub one_less : AreSettledNumbersLeft settled (set settled n false) count rest outcomes (set outcomes n None)
  one_less = record {
    same_length = length-set settled n false;
    outcome_count = length-set outcomes n None;
    count_right = counted;
    marks_right = λ e. ap (λ (bs : List Bool). set bs n false) e ∙ sym (map-set is_some outcomes n None);
    outcomes = none_else;
  }
