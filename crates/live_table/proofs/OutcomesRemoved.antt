-- Outcomes of which some are removed, by their keys.
use Rattle.std.proofs.Common.{◌≡◌, ◌<◌, ℕ, suc, Bool, true, false, cond, List, [], ◌∷◌, length}
use Rattle.std.proofs.Common.{Option, Some, None, refl, sym, ◌∙◌, ap, subst, arith}
use Rattle.std.specs.FinMap as map_of
use Rattle.std.proofs.lemmas.Bool.{true≢false}
use Rattle.std.specs.List.{slice_get}
use Rattle.std.specs.Ordering.{eq_by_cmp}
use Rattle.def_entry.specs.declared.key.Key.{Key}
use Rattle.def_entry.specs.KeyOrder.{key_cmp}
use Rattle.def_entry.proofs.SameKeys.{key_order}
use Rattle.tree_eval.specs.declared.outcome.Outcome.{Outcome}
use Rattle.live_table.specs.TableContents.{cached_outcomes_of, node_key_at, with_optional_cached_outcome}
use Rattle.live_table.proofs.OutcomesByKey.{AreApart, cached_insert_is_read_back, cached_insert_keeps_other_keys}
use Rattle.live_table.proofs.OutcomesByKey.{first_node_key_is_apart, key_without_node_is_not_cached}
use Rattle.live_table.proofs.OutcomesByKey.{node_keys_apart_without_first}
use Rattle.live_table.proofs.Outcomes.{cached_outcomes_left_by_test, equal_cached_keys_tie, tied_cached_keys_are_equal}

-- each number has its previous outcome, or none if its key does not pass the test
abbrev pub AreTaken : (Key → Bool) → List Key → List (Option Outcome) → List (Option Outcome) → Type 0
AreTaken stays ks os new = (n : ℕ) (x y : Option Outcome) → n < length ks → slice_get os n ≡ Some x
    → slice_get new n ≡ Some y
    → y ≡ cond (stays (node_key_at ks n)) x None

-- if both branches are `None`, so is the result
none_either : (b : Bool) (x y : Option Outcome) → x ≡ None → y ≡ None → x ≡ cond b y None
none_either true x y e f = e ∙ sym f
none_either false x y e f = e

-- removing outcomes leaves those of the keys that pass the test
outcome_by_key_after_forgetting : (stays : Key → Bool) (ks : List Key) (os new : List (Option Outcome)) → AreApart ks
    → length os ≡ length ks
    → length new ≡ length ks
    → AreTaken stays ks os new → (q : Key) → map_of.get (cached_outcomes_of ks new) q ≡ cond (stays q)
    (map_of.get (cached_outcomes_of ks os) q) None
outcome_by_key_after_forgetting stays [] os new a h j t q = none_either (stays q) _ _ (map_of.get-empty key_cmp q)
    (map_of.get-empty key_cmp q)
outcome_by_key_after_forgetting stays (k ∷ ks) [] new a h j t q = absurd (omega (arith, h))
outcome_by_key_after_forgetting stays (k ∷ ks) (x ∷ os) [] a h j t q = absurd (omega (arith, j))
outcome_by_key_after_forgetting stays (k ∷ ks) (x ∷ os) (y ∷ new) a h j t q =
    by (outcome_by_key_after_forgetting stays ks os new (node_keys_apart_without_first k ks a) (omega (arith, h))
    (omega (arith, j))
    (λ n u v l e f. t (suc n) u v (omega (arith, l)) e f) q)
    (eq_by_cmp key_cmp q k) refl
  where
    gone : (zs : List (Option Outcome)) → map_of.get (cached_outcomes_of ks zs) k ≡ None
    gone zs = key_without_node_is_not_cached ks zs k (λ n l. first_node_key_is_apart k ks a n l)

    here : q ≡ k → map_of.get (with_optional_cached_outcome k y (cached_outcomes_of ks new)) q ≡ cond (stays q)
        (map_of.get (with_optional_cached_outcome k x (cached_outcomes_of ks os)) q)
        None
    here e =
        subst (λ (z : Key). map_of.get (with_optional_cached_outcome k y (cached_outcomes_of ks new)) z ≡ cond (stays z)
        (map_of.get (with_optional_cached_outcome k x (cached_outcomes_of ks os)) z) None) (sym e)
        (cached_insert_is_read_back (cached_outcomes_of ks new) k y (gone new)
        ∙ (t 0 x y (omega arith) refl refl
        ∙ ap (λ z. cond (stays k) z None) (sym (cached_insert_is_read_back (cached_outcomes_of ks os) k x (gone os)))))

    there : map_of.get (cached_outcomes_of ks new) q ≡ cond (stays q) (map_of.get (cached_outcomes_of ks os) q) None
        → (q ≡ k → ⊥) → map_of.get (with_optional_cached_outcome k y (cached_outcomes_of ks new)) q ≡ cond (stays q)
        (map_of.get (with_optional_cached_outcome k x (cached_outcomes_of ks os)) q) None
    there rest ne =
        cached_insert_keeps_other_keys (cached_outcomes_of ks new) k q y ne
        ∙ (rest
        ∙ ap (λ z. cond (stays q) z None) (sym (cached_insert_keeps_other_keys (cached_outcomes_of ks os) k q x ne)))

    by : map_of.get (cached_outcomes_of ks new) q ≡ cond (stays q) (map_of.get (cached_outcomes_of ks os) q) None
        → (b : Bool) → eq_by_cmp key_cmp q k ≡ b
        → map_of.get (with_optional_cached_outcome k y (cached_outcomes_of ks new)) q ≡ cond (stays q)
        (map_of.get (with_optional_cached_outcome k x (cached_outcomes_of ks os)) q) None
    by rest true e = here (tied_cached_keys_are_equal q k e)
    by rest false e = there rest (λ f. true≢false (sym (equal_cached_keys_tie q k f) ∙ e))

-- only the outcomes of the keys that pass the test are still stored
pub cached_outcomes_after_forgetting : (stays : Key → Bool) (ks : List Key) (os new : List (Option Outcome))
    → AreApart ks
    → length os ≡ length ks → length new ≡ length ks
    → AreTaken stays ks os new → cached_outcomes_of ks new ≡ map_of.retain_keys (cached_outcomes_of ks os) stays
cached_outcomes_after_forgetting stays ks os new a h j t = map_of.same_map key_order.total_order key_order.equal_keys _
    _ (λ q.
    outcome_by_key_after_forgetting stays ks os new a h j t q
    ∙ sym (cached_outcomes_left_by_test (cached_outcomes_of ks os) stays q))
