-- A place leaves its ring and is then alone.
use Rattle.std.proofs.Common.{◌≡◌, ℕ, zero, suc, ◌<◌, length, set, get_or, refl, sym, ◌∙◌, ap, subst, arith, inl, inr}
use Rattle.std.proofs.Common.{length-set}
use Rattle.std.proofs.lemmas.Bool.{cases_eq}
use Rattle.edge_links.specs.Columns.{LinkRing}
use Rattle.edge_links.specs.Rings.{update_at, IsLinkRing, AreLinkRings}
use Rattle.edge_links.proofs.ListPuts.{updated_number_is_new, update_keeps_other_numbers, list_set_is_update}
use Rattle.edge_links.proofs.ListPuts.{equal_lists_make_same_link_ring}

module _ (n : ℕ) (next prev owner : ℕ → ℕ) (r : IsLinkRing n next prev owner) where
  -- a head whose neighbour is itself owns no other place
  alone_within : (d h p : ℕ) → h < n → next h ≡ h → p < n → owner p ≡ h → r.rank p < d → p ≡ h
  alone_within zero h p l e q o b = absurd (omega arith)
  alone_within (suc d) h p l e q o b =
      elim (cases_eq (owner p) p) [
        | inl f ↦ sym f ∙ o
        | inr ne ↦
            let f : r.rank (prev p) < r.rank p = r.falls p q ne in
            let m : prev p < n = r.prev_in p q in
            let g : owner (prev p) ≡ h = sym (r.same_owner (prev p) m) ∙ (ap owner (r.next_of_prev p q) ∙ o) in
            let k : prev p ≡ h = alone_within d h (prev p) l e m g (omega arith) in
            sym (r.next_of_prev p q) ∙ (ap next k ∙ e)
      ]

  pub lone_member : (h p : ℕ) → h < n → next h ≡ h → p < n → owner p ≡ h → p ≡ h
  lone_member h p l e q o = alone_within (suc (r.rank p)) h p l e q o (omega arith)

  -- e is removed
  module _ (e : ℕ) (there : e < n) (no_head : owner e ≡ e → ⊥) where
    abbrev before : ℕ
    before = prev e

    abbrev after : ℕ
    after = next e

    abbrev pub next2 : ℕ → ℕ
    next2 = update_at (update_at next before after) e e

    abbrev pub prev2 : ℕ → ℕ
    prev2 = update_at (update_at prev after before) e e

    abbrev pub owner2 : ℕ → ℕ
    owner2 = update_at owner e e

    pub before_in : before < n
    before_in = r.prev_in e there

    pub after_in : after < n
    after_in = r.next_in e there

    before_e : before ≡ e → ⊥
    before_e q = let a : r.rank before ≡ r.rank e = ap r.rank q in let b = r.falls e there no_head in omega arith

    after_e : after ≡ e → ⊥
    after_e q = before_e (ap prev (sym q) ∙ r.prev_of_next e there)

    at_e : next2 e ≡ e
    at_e = updated_number_is_new (update_at next before after) e e e refl

    at_before : next2 before ≡ after
    at_before = update_keeps_other_numbers (update_at next before after) e e before before_e
        ∙ updated_number_is_new next before after before refl

    at_other : (x : ℕ) → (x ≡ before → ⊥) → (x ≡ e → ⊥) → next2 x ≡ next x
    at_other x a b = update_keeps_other_numbers (update_at next before after) e e x b
        ∙ update_keeps_other_numbers next before after x a

    back_e : prev2 e ≡ e
    back_e = updated_number_is_new (update_at prev after before) e e e refl

    back_after : prev2 after ≡ before
    back_after = update_keeps_other_numbers (update_at prev after before) e e after after_e
        ∙ updated_number_is_new prev after before after refl

    back_other : (x : ℕ) → (x ≡ after → ⊥) → (x ≡ e → ⊥) → prev2 x ≡ prev x
    back_other x a b = update_keeps_other_numbers (update_at prev after before) e e x b
        ∙ update_keeps_other_numbers prev after before x a

    own_e : owner2 e ≡ e
    own_e = updated_number_is_new owner e e e refl

    own_other : (x : ℕ) → (x ≡ e → ⊥) → owner2 x ≡ owner x
    own_other x a = update_keeps_other_numbers owner e e x a

    own_before : owner before ≡ owner e
    own_before = sym (r.same_owner before before_in) ∙ ap owner (r.next_of_prev e there)

    not_next_e : (x : ℕ) → x < n → (x ≡ before → ⊥) → next x ≡ e → ⊥
    not_next_e x l f q = f (sym (r.prev_of_next x l) ∙ ap prev q)

    not_next_after : (x : ℕ) → x < n → (x ≡ e → ⊥) → next x ≡ after → ⊥
    not_next_after x l f q = f (sym (r.prev_of_next x l) ∙ (ap prev q ∙ r.prev_of_next e there))

    not_prev_e : (x : ℕ) → x < n → (x ≡ after → ⊥) → prev x ≡ e → ⊥
    not_prev_e x l f q = f (sym (r.next_of_prev x l) ∙ ap next q)

    not_prev_before : (x : ℕ) → x < n → (x ≡ e → ⊥) → prev x ≡ before → ⊥
    not_prev_before x l f q = f (sym (r.next_of_prev x l) ∙ (ap next q ∙ r.next_of_prev e there))

    pub not_owner : (x : ℕ) → x < n → owner x ≡ e → ⊥
    not_owner x l q = no_head (ap owner (sym q) ∙ (r.top x l ∙ q))

    by_next : (P : ℕ → Type 0) → P e → P before → ((x : ℕ) → x < n → (x ≡ before → ⊥) → (x ≡ e → ⊥) → P x) → (x : ℕ)
        → x < n → P x
    by_next P a b d x l =
        elim (cases_eq x e) [
          | inl q ↦ subst P (sym q) a
          | inr x-e ↦ elim (cases_eq x before) [ inl q ↦ subst P (sym q) b | inr x-b ↦ d x l x-b x-e ]
        ]

    by_prev : (P : ℕ → Type 0) → P e → P after → ((x : ℕ) → x < n → (x ≡ after → ⊥) → (x ≡ e → ⊥) → P x) → (x : ℕ)
        → x < n → P x
    by_prev P a b d x l =
        elim (cases_eq x e) [
          | inl q ↦ subst P (sym q) a
          | inr x-e ↦ elim (cases_eq x after) [ inl q ↦ subst P (sym q) b | inr x-a ↦ d x l x-a x-e ]
        ]

    pub left : IsLinkRing n next2 prev2 owner2
    left = record {
      next_in = by_next (λ x. next2 x < n) (subst (λ y. y < n) (sym at_e) there)
          (subst (λ y. y < n) (sym at_before) after_in)
          (λ x l a b. subst (λ y. y < n) (sym (at_other x a b)) (r.next_in x l));
      prev_in = by_prev (λ x. prev2 x < n) (subst (λ y. y < n) (sym back_e) there)
          (subst (λ y. y < n) (sym back_after) before_in)
          (λ x l a b. subst (λ y. y < n) (sym (back_other x a b)) (r.prev_in x l));
      prev_of_next = by_next (λ x. prev2 (next2 x) ≡ x) (ap prev2 at_e ∙ back_e) (ap prev2 at_before ∙ back_after)
          (λ x l a b. ap prev2 (at_other x a b)
          ∙ (back_other (next x) (not_next_after x l b) (not_next_e x l a) ∙ r.prev_of_next x l));
      next_of_prev = by_prev (λ x. next2 (prev2 x) ≡ x) (ap next2 back_e ∙ at_e) (ap next2 back_after ∙ at_before)
          (λ x l a b. ap next2 (back_other x a b)
          ∙ (at_other (prev x) (not_prev_before x l b) (not_prev_e x l a) ∙ r.next_of_prev x l));
      own_in = λ x l. elim (cases_eq x e) [
        | inl q ↦ subst (λ y. y < n) (sym (ap owner2 q ∙ own_e)) there
        | inr ne ↦ subst (λ y. y < n) (sym (own_other x ne)) (r.own_in x l)
      ];
      same_owner = by_next (λ x. owner2 (next2 x) ≡ owner2 x) (ap owner2 at_e)
          (ap owner2 at_before
          ∙ (own_other after after_e ∙ (r.same_owner e there ∙ (sym own_before ∙ sym (own_other before before_e)))))
          (λ x l a b. ap owner2 (at_other x a b)
          ∙ (own_other (next x) (not_next_e x l a) ∙ (r.same_owner x l ∙ sym (own_other x b))));
      top = λ x l. elim (cases_eq x e) [
        | inl q ↦ ap owner2 (ap owner2 q ∙ own_e) ∙ (own_e ∙ sym (ap owner2 q ∙ own_e))
        | inr ne ↦ ap owner2 (own_other x ne)
            ∙ (own_other (owner x) (not_owner x l) ∙ (r.top x l ∙ sym (own_other x ne)))
      ];
      rank = r.rank;
      falls = by_prev (λ x. (owner2 x ≡ x → ⊥) → r.rank (prev2 x) < r.rank x)
          (λ f. absurd (f own_e))
          (λ f. let a : r.rank (prev2 after) ≡ r.rank before = ap r.rank back_after in
          let b : r.rank before < r.rank e = r.falls e there no_head in
          let d : r.rank (prev after) < r.rank after = r.falls after after_in (λ q. f (own_other after after_e ∙ q)) in
          let g : r.rank (prev after) ≡ r.rank e = ap r.rank (r.prev_of_next e there) in omega arith)
          (λ x l a b f.
          let d : r.rank (prev2 x) ≡ r.rank (prev x) = ap r.rank (back_other x a b) in
          let g : r.rank (prev x) < r.rank x = r.falls x l (λ q. f (own_other x b ∙ q)) in omega arith);
    }

-- the ring with the place e removed
abbrev pub without : LinkRing → ℕ → LinkRing
without r e = record {
  next = set (set r.next (get_or r.prev e 0) (get_or r.next e 0)) e e;
  prev = set (set r.prev (get_or r.next e 0) (get_or r.prev e 0)) e e;
  owner = set r.owner e e;
}

-- a place that is not a head leaves its ring
pub link_ring_after_leave : (r : LinkRing) (e : ℕ) → AreLinkRings r → e < length r.owner → (get_or r.owner e 0 ≡ e → ⊥)
    → AreLinkRings (without r e)
link_ring_after_leave r e are there no_head =
    let n : ℕ = length r.owner in
    let next : ℕ → ℕ = λ k. get_or r.next k 0 in
    let prev : ℕ → ℕ = λ k. get_or r.prev k 0 in
    let owner : ℕ → ℕ = λ k. get_or r.owner k 0 in
    let b : ℕ = prev e in
    let a : ℕ = next e in
    let ls : length r.next ≡ n = are.sizes.0 in
    let ms : length r.prev ≡ n = are.sizes.1 in
    let bn : b < n = before_in n next prev owner are.ring e there no_head in
    let an : a < n = after_in n next prev owner are.ring e there no_head in
    let l1 : length (set r.next b a) ≡ n = length-set r.next b a ∙ ls in
    let m1 : length (set r.prev a b) ≡ n = length-set r.prev a b ∙ ms in
    let n2 : ◌≡◌ {A = ℕ → ℕ} (λ k. get_or (set (set r.next b a) e e) k 0)
    (next2 n next prev owner are.ring e there no_head) =
    list_set_is_update (set r.next b a) e e (omega arith) ∙ ap (λ (f : ℕ → ℕ). update_at f e e)
    (list_set_is_update r.next b a (omega arith))
    in
    let p2 : ◌≡◌ {A = ℕ → ℕ} (λ k. get_or (set (set r.prev a b) e e) k 0)
    (prev2 n next prev owner are.ring e there no_head) =
    list_set_is_update (set r.prev a b) e e (omega arith) ∙ ap (λ (f : ℕ → ℕ). update_at f e e)
    (list_set_is_update r.prev a b (omega arith))
    in
    let o2 : ◌≡◌ {A = ℕ → ℕ} (λ k. get_or (set r.owner e e) k 0) (owner2 n next prev owner are.ring e there no_head) =
    list_set_is_update r.owner e e there in
    let z : n ≡ length (set r.owner e e) = sym (length-set r.owner e e) in
    record {
      sizes = (length-set (set r.next b a) e e ∙ (l1 ∙ z), length-set (set r.prev a b) e e ∙ (m1 ∙ z));
      ring = equal_lists_make_same_link_ring _ _ _ _ _ _ _ _ z n2 p2 o2
          (left n next prev owner are.ring e there no_head);
    }
