-- A list with one number replaced, as a function.
use Rattle.std.proofs.Common.{◌≡◌, ℕ, ◌<◌, List, length, set, get_or, sym, ◌∙◌, ap, subst, inl, inr, nat_eq}
use Rattle.std.proofs.Common.{get_or-set_same, get_or-set_other}
use Rattle.std.proofs.lemmas.Bool.{cond-true, cond-false, cases_eq, eq-eqb, ne_eqb}
use Rattle.edge_links.specs.Rings.{update_at, IsLinkRing}

-- the number at the index is the new one
pub updated_number_is_new : (f : ℕ → ℕ) (i v k : ℕ) → k ≡ i → update_at f i v k ≡ v
updated_number_is_new f i v k e = cond-true (nat_eq k i) _ _ (eq-eqb k i e)

-- the numbers at all other indices do not change
pub update_keeps_other_numbers : (f : ℕ → ℕ) (i v k : ℕ) → (k ≡ i → ⊥) → update_at f i v k ≡ f k
update_keeps_other_numbers f i v k ne = cond-false (nat_eq k i) _ _ (ne_eqb k i ne)

-- replacing a number in a list is replacing it in its function
pub list_set_is_update : (xs : List ℕ) (i v : ℕ) → i < length xs
    → ◌≡◌ {A = ℕ → ℕ} (λ k. get_or (set xs i v) k 0) (update_at (λ k. get_or xs k 0) i v)
list_set_is_update xs i v h j k = at k j
  where
    at : (k : ℕ) → get_or (set xs i v) k 0 ≡ update_at (λ k. get_or xs k 0) i v k
    at k =
        elim (cases_eq k i) [
          | inl e ↦ ap (λ m. get_or (set xs i v) m 0) e
              ∙ (get_or-set_same xs i v 0 h ∙ sym (updated_number_is_new (λ k. get_or xs k 0) i v k e))
          | inr ne ↦ get_or-set_other xs i k v 0 ne ∙ sym (update_keeps_other_numbers (λ k. get_or xs k 0) i v k ne)
        ]

-- equal lists, as functions, give the same ring
pub equal_lists_make_same_link_ring : (n m : ℕ) (next prev owner next' prev' owner' : ℕ → ℕ) → n ≡ m → next' ≡ next
    → prev' ≡ prev
    → owner' ≡ owner
    → IsLinkRing n next prev owner → IsLinkRing m next' prev' owner'
equal_lists_make_same_link_ring n m next prev owner next' prev' owner' e f g h r =
    subst (λ (k : ℕ). IsLinkRing k next' prev' owner') e
    (subst (λ (x : ℕ → ℕ). IsLinkRing n x prev' owner') (sym f)
    (subst (λ (x : ℕ → ℕ). IsLinkRing n next x owner') (sym g)
    (subst (λ (x : ℕ → ℕ). IsLinkRing n next prev x) (sym h) r)))
