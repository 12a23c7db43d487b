-- One more place, which owns itself.
use Rattle.std.proofs.Common.{◌≡◌, ℕ, ◌+◌, ◌<◌, [], ◌∷◌, ◌++◌, length, get_or, refl, sym, ◌∙◌, ap, subst, arith}
use Rattle.std.proofs.Common.{inl, inr}
use Rattle.std.proofs.lemmas.Bool.{cases_eq}
use Rattle.std.proofs.lemmas.List.{get_or_append_left, get_or_push, length_push}
use Rattle.edge_links.specs.Columns.{LinkRing, link_ring_with_alone, no_link_ring}
use Rattle.edge_links.specs.Rings.{IsLinkRing, AreLinkRings}

-- the empty lists are rings
pub empty_lists_are_link_rings : AreLinkRings no_link_ring
empty_lists_are_link_rings = record {
  sizes = (refl, refl);
  ring = record {
    next_in = λ p l. absurd (omega arith);
    prev_in = λ p l. absurd (omega arith);
    prev_of_next = λ p l. absurd (omega arith);
    next_of_prev = λ p l. absurd (omega arith);
    own_in = λ p l. absurd (omega arith);
    same_owner = λ p l. absurd (omega arith);
    top = λ p l. absurd (omega arith);
    rank = λ p. p;
    falls = λ p l _. absurd (omega arith);
  };
}

-- a place is an old one or the new one
pub old_or_new_link_place : (n : ℕ) (P : ℕ → Type 0) → ((p : ℕ) → p < n → P p) → P n → (p : ℕ) → p < n + 1 → P p
old_or_new_link_place n P old new p l =
    elim (cases_eq p n) [
      | inl e ↦ subst P (sym e) new
      | inr ne ↦ old p (omega arith)
    ]

-- a ring with one more place, which is alone, is a ring
grown_link_ring_is_ring : (n : ℕ) (next prev owner next2 prev2 owner2 : ℕ → ℕ) → IsLinkRing n next prev owner
    → ((p : ℕ) → p < n → next2 p ≡ next p) → ((p : ℕ) → p < n → prev2 p ≡ prev p)
    → ((p : ℕ) → p < n → owner2 p ≡ owner p)
    → next2 n ≡ n → prev2 n ≡ n → owner2 n ≡ n → IsLinkRing (n + 1) next2 prev2 owner2
grown_link_ring_is_ring n next prev owner next2 prev2 owner2 r sn sp so en ep eo = record {
  next_in = old_or_new_link_place n (λ p. next2 p < n + 1) (λ p l. let a = sn p l in let b = r.next_in p l in
      omega arith)
      (omega arith);
  prev_in = old_or_new_link_place n (λ p. prev2 p < n + 1) (λ p l. let a = sp p l in let b = r.prev_in p l in
      omega arith)
      (omega arith);
  prev_of_next = old_or_new_link_place n (λ p. prev2 (next2 p) ≡ p)
      (λ p l. ap prev2 (sn p l) ∙ (sp (next p) (r.next_in p l) ∙ r.prev_of_next p l))
      (ap prev2 en ∙ ep);
  next_of_prev = old_or_new_link_place n (λ p. next2 (prev2 p) ≡ p)
      (λ p l. ap next2 (sp p l) ∙ (sn (prev p) (r.prev_in p l) ∙ r.next_of_prev p l))
      (ap next2 ep ∙ en);
  own_in = old_or_new_link_place n (λ p. owner2 p < n + 1) (λ p l. let a = so p l in let b = r.own_in p l in
      omega arith)
      (omega arith);
  same_owner = old_or_new_link_place n (λ p. owner2 (next2 p) ≡ owner2 p) (λ p l. ap owner2 (sn p l) ∙
      (so (next p) (r.next_in p l) ∙ (r.same_owner p l ∙ sym (so p l)))) (ap owner2 en);
  top = old_or_new_link_place n (λ p. owner2 (owner2 p) ≡ owner2 p)
      (λ p l. ap owner2 (so p l) ∙ (so (owner p) (r.own_in p l) ∙ (r.top p l ∙ sym (so p l)))) (ap owner2 eo);
  rank = r.rank;
  falls = old_or_new_link_place n (λ p. (owner2 p ≡ p → ⊥) → r.rank (prev2 p) < r.rank p)
      (λ p l f. subst (λ x. r.rank x < r.rank p) (sym (sp p l)) (r.falls p l (λ e. f (so p l ∙ e))))
      (λ f. absurd (f eo));
}

-- rings with one more place, which is alone, are rings
pub grown_link_rings_are_rings : (r : LinkRing) (n : ℕ) → AreLinkRings r → n ≡ length r.owner
    → AreLinkRings (link_ring_with_alone r n)
grown_link_rings_are_rings r n are e =
    let next_size : length r.next ≡ n = are.sizes.0 ∙ sym e in
    let prev_size : length r.prev ≡ n = are.sizes.1 ∙ sym e in
    let old : IsLinkRing n (λ k. get_or r.next k 0) (λ k. get_or r.prev k 0) (λ k. get_or r.owner k 0) =
    subst (λ m. IsLinkRing m (λ k. get_or r.next k 0) (λ k. get_or r.prev k 0) (λ k. get_or r.owner k 0))
    (sym e) are.ring in
    let size : n + 1 ≡ length (r.owner ++ n ∷ []) = let a = length_push r.owner n in omega arith in
    record {
      sizes = (
        let a = length_push r.next n in let b = length_push r.owner n in omega arith,
        let a = length_push r.prev n in let b = length_push r.owner n in
            omega arith,
      );
      ring = subst (λ m. IsLinkRing m (λ k. get_or (r.next ++ n ∷ []) k 0) (λ k. get_or (r.prev ++ n ∷ []) k 0)
          (λ k. get_or (r.owner ++ n ∷ []) k 0)) size
          (grown_link_ring_is_ring n (λ k. get_or r.next k 0) (λ k. get_or r.prev k 0) (λ k. get_or r.owner k 0)
          (λ k. get_or (r.next ++ n ∷ []) k 0)
          (λ k. get_or (r.prev ++ n ∷ []) k 0) (λ k. get_or (r.owner ++ n ∷ []) k 0)
          old (λ p l. get_or_append_left r.next (n ∷ []) 0 p (omega arith))
          (λ p l. get_or_append_left r.prev (n ∷ []) 0 p (omega arith))
          (λ p l. get_or_append_left r.owner (n ∷ []) 0 p (omega arith)) (get_or_push r.next n 0 n next_size)
          (get_or_push r.prev n 0 n prev_size)
          (get_or_push r.owner n 0 n (sym e)));
    }
