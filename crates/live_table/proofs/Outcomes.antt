-- The outcomes of names after outcomes are inserted or removed.
use Rattle.std.proofs.Common.{◌≡◌, ◌⊎◌, Bool, true, false, cond, List, [], ◌∷◌, Contains, Some, None, refl, sym, ◌∙◌}
use Rattle.std.proofs.Common.{ap, subst, inl, inr}
use Rattle.std.specs.Cmp.{Equal-is, tied_itself}
use Rattle.std.specs.FinMap as map_of
use Rattle.std.specs.Ordering.{eq_by_cmp, is_eq}
use Rattle.def_entry.specs.declared.key.Key.{Key}
use Rattle.def_entry.specs.KeyOrder.{key_cmp}
use Rattle.def_entry.specs.Tables.{EntryTable}
use Rattle.def_entry.proofs.SameKeys.{key_order}
use Rattle.table_names.specs.Meanings.{outcome}
use Rattle.live_table.specs.States.{CachedOutcomes, with_cached_outcomes}
use Rattle.general_lemmas.proofs.Members.{no_member, member_first, member_later, member_cases}

-- equal keys compare as equal
pub equal_cached_keys_tie : (k l : Key) → k ≡ l → eq_by_cmp key_cmp k l ≡ true
equal_cached_keys_tie k l e = subst (λ (x : Key). eq_by_cmp key_cmp k x ≡ true) e
    (ap is_eq (tied_itself key_order.total_order k))

-- keys that compare as equal are equal
pub tied_cached_keys_are_equal : (k l : Key) → eq_by_cmp key_cmp k l ≡ true → k ≡ l
tied_cached_keys_are_equal k l e = key_order.equal_keys k l ((Equal-is (key_cmp k l)).0 e)

module _ (table : EntryTable) where
  pub inserted : (kept : CachedOutcomes) (k n : Key) → map_of.get (map_of.insert kept k (outcome table k)) n ≡ cond
      (eq_by_cmp key_cmp n k) (Some (outcome table k)) (map_of.get kept n)
  inserted kept k n = map_of.get-insert key_order.total_order kept k (outcome table k) n

  -- an inserted key has its outcome, any other key its previous one
  pub put_in : (keys : List Key) (kept : CachedOutcomes) (n : Key)
      → Contains keys n ⊎ (map_of.get kept n ≡ Some (outcome table n))
      → map_of.get (with_cached_outcomes table keys kept) n ≡ Some (outcome table n)
  put_in [] kept n (inl i) = absurd (no_member n i)
  put_in [] kept n (inr e) = e
  put_in (k ∷ keys) kept n h = put_in keys (map_of.insert kept k (outcome table k)) n (here h)
    where
      own : n ≡ k → map_of.get (map_of.insert kept k (outcome table k)) n ≡ Some (outcome table n)
      own e =
          inserted kept k n
          ∙ (ap (λ b. cond b (Some (outcome table k)) (map_of.get kept n)) (equal_cached_keys_tie n k e)
          ∙ ap (λ (x : Key). Some (outcome table x)) (sym e))

      had : (b : Bool) → eq_by_cmp key_cmp n k ≡ b → map_of.get kept n ≡ Some (outcome table n)
          → cond b (Some (outcome table k)) (map_of.get kept n) ≡ Some (outcome table n)
      had true q e = ap (λ (x : Key). Some (outcome table x)) (sym (tied_cached_keys_are_equal n k q))
      had false q e = e

      here : Contains (k ∷ keys) n ⊎ (map_of.get kept n ≡ Some (outcome table n))
          → Contains keys n ⊎ (map_of.get (map_of.insert kept k (outcome table k)) n ≡ Some (outcome table n))
      here (inl i) = elim (member_cases n k keys i) [ inl e ↦ inr (own e) | inr j ↦ inl j ]
      here (inr e) = inr (inserted kept k n ∙ had (eq_by_cmp key_cmp n k) refl e)

  pub left_out : (keys : List Key) (kept : CachedOutcomes) (n : Key) → (Contains keys n → ⊥)
      → map_of.get (with_cached_outcomes table keys kept) n ≡ map_of.get kept n
  left_out [] kept n out = refl
  left_out (k ∷ keys) kept n out =
      left_out keys (map_of.insert kept k (outcome table k)) n (λ i. out (member_later n k keys i))
      ∙ (inserted kept k n ∙ by (eq_by_cmp key_cmp n k) refl)
    where
      by : (b : Bool) → eq_by_cmp key_cmp n k ≡ b → cond b (Some (outcome table k)) (map_of.get kept n) ≡ map_of.get
          kept n
      by true q = absurd (out (member_first n k keys (tied_cached_keys_are_equal n k q)))
      by false q = refl

-- the outcomes that a test of keys leaves
pub cached_outcomes_left_by_test : (kept : CachedOutcomes) (p : Key → Bool) (n : Key)
    → map_of.get (map_of.retain_keys kept p) n ≡ cond (p n)
    (map_of.get kept n) None
cached_outcomes_left_by_test kept p n = map_of.get-retain_keys kept p n (λ x e. ap p (sym (key_order.equal_keys n x e)))
