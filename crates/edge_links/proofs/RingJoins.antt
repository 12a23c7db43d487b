-- A head that owns only itself moves into another ring.
use Rattle.std.proofs.Common.{◌≡◌, ℕ, ◌+◌, ◌<◌, ◌≤◌, length, set, get_or, refl, sym, ◌∙◌, ap, subst, arith, inl, inr}
use Rattle.std.proofs.Common.{length-set}
use Rattle.std.proofs.lemmas.Bool.{cases_eq}
use Rattle.edge_links.specs.Columns.{LinkRing}
use Rattle.edge_links.specs.Rings.{update_at, IsLinkRing, AreLinkRings}
use Rattle.edge_links.proofs.ListPuts.{updated_number_is_new, update_keeps_other_numbers, list_set_is_update}
use Rattle.edge_links.proofs.ListPuts.{equal_lists_make_same_link_ring}

module _ (n : ℕ) (next prev owner : ℕ → ℕ) (r : IsLinkRing n next prev owner) (e h : ℕ) (there : e < n)
    (head_there : h < n)
    (apart : e ≡ h → ⊥)
    (is_own : owner e ≡ e) (alone : (p : ℕ) → p < n → owner p ≡ e → p ≡ e) (is_head : owner h ≡ h) where
  abbrev pub first : ℕ
  first = next h

  abbrev pub next2 : ℕ → ℕ
  next2 = update_at (update_at next e first) h e

  abbrev pub prev2 : ℕ → ℕ
  prev2 = update_at (update_at prev e h) first e

  abbrev pub owner2 : ℕ → ℕ
  owner2 = update_at owner e h

  next_e : next e ≡ e
  next_e = alone (next e) (r.next_in e there) (r.same_owner e there ∙ is_own)

  prev_e : prev e ≡ e
  prev_e = ap prev (sym next_e) ∙ r.prev_of_next e there

  own_first : owner first ≡ h
  own_first = r.same_owner h head_there ∙ is_head

  first_e : first ≡ e → ⊥
  first_e q = apart (sym is_own ∙ (ap owner (sym q) ∙ own_first))

  pub first_in : first < n
  first_in = r.next_in h head_there

  not_next_e : (x : ℕ) → x < n → (x ≡ e → ⊥) → next x ≡ e → ⊥
  not_next_e x l f q = f (sym (r.prev_of_next x l) ∙ (ap prev q ∙ prev_e))

  not_prev_e : (x : ℕ) → x < n → (x ≡ e → ⊥) → prev x ≡ e → ⊥
  not_prev_e x l f q = f (sym (r.next_of_prev x l) ∙ (ap next q ∙ next_e))

  not_next_first : (x : ℕ) → x < n → (x ≡ h → ⊥) → next x ≡ first → ⊥
  not_next_first x l f q = f (sym (r.prev_of_next x l) ∙ (ap prev q ∙ r.prev_of_next h head_there))

  not_prev_h : (x : ℕ) → x < n → (x ≡ first → ⊥) → prev x ≡ h → ⊥
  not_prev_h x l f q = f (sym (r.next_of_prev x l) ∙ ap next q)

  at_h : next2 h ≡ e
  at_h = updated_number_is_new (update_at next e first) h e h refl

  at_e : next2 e ≡ first
  at_e = update_keeps_other_numbers (update_at next e first) h e e apart ∙ updated_number_is_new next e first e refl

  at_other : (x : ℕ) → (x ≡ h → ⊥) → (x ≡ e → ⊥) → next2 x ≡ next x
  at_other x a b = update_keeps_other_numbers (update_at next e first) h e x a
      ∙ update_keeps_other_numbers next e first x b

  before_first : prev2 first ≡ e
  before_first = updated_number_is_new (update_at prev e h) first e first refl

  before_e : prev2 e ≡ h
  before_e = update_keeps_other_numbers (update_at prev e h) first e e (λ q. first_e (sym q))
      ∙ updated_number_is_new prev e h e refl

  before_other : (x : ℕ) → (x ≡ first → ⊥) → (x ≡ e → ⊥) → prev2 x ≡ prev x
  before_other x a b = update_keeps_other_numbers (update_at prev e h) first e x a
      ∙ update_keeps_other_numbers prev e h x b

  own_e : owner2 e ≡ h
  own_e = updated_number_is_new owner e h e refl

  own_other : (x : ℕ) → (x ≡ e → ⊥) → owner2 x ≡ owner x
  own_other x a = update_keeps_other_numbers owner e h x a

  own_h : owner2 h ≡ h
  own_h = own_other h (λ q. apart (sym q)) ∙ is_head

  abbrev rank2 : ℕ → ℕ
  rank2 x = update_at (update_at (λ k. r.rank k + 2) e 1) h 0 x

  rank_h : rank2 h ≡ 0
  rank_h = updated_number_is_new (update_at (λ k. r.rank k + 2) e 1) h 0 h refl

  rank_e : rank2 e ≡ 1
  rank_e = update_keeps_other_numbers (update_at (λ k. r.rank k + 2) e 1) h 0 e apart
      ∙ updated_number_is_new (λ k. r.rank k + 2) e 1 e refl

  rank_other : (x : ℕ) → (x ≡ h → ⊥) → (x ≡ e → ⊥) → rank2 x ≡ r.rank x + 2
  rank_other x a b = update_keeps_other_numbers (update_at (λ k. r.rank k + 2) e 1) h 0 x a
      ∙ update_keeps_other_numbers (λ k. r.rank k + 2) e 1 x b

  rank_le : (x : ℕ) → (x ≡ e → ⊥) → rank2 x ≤ r.rank x + 2
  rank_le x b =
      elim (cases_eq x h) [
        | inl q ↦ let f : rank2 x ≡ 0 = ap rank2 q ∙ rank_h in omega arith
        | inr ne ↦ let f : rank2 x ≡ r.rank x + 2 = rank_other x ne b in omega arith
      ]

  by_next : (P : ℕ → Type 0) → P h → P e → ((x : ℕ) → x < n → (x ≡ h → ⊥) → (x ≡ e → ⊥) → P x) → (x : ℕ) → x < n → P x
  by_next P a b d x l =
      elim (cases_eq x h) [
        | inl q ↦ subst P (sym q) a
        | inr x-h ↦ elim (cases_eq x e) [ inl q ↦ subst P (sym q) b | inr x-e ↦ d x l x-h x-e ]
      ]

  by_prev : (P : ℕ → Type 0) → P first → P e → ((x : ℕ) → x < n → (x ≡ first → ⊥) → (x ≡ e → ⊥) → P x) → (x : ℕ) → x < n
      → P x
  by_prev P a b d x l =
      elim (cases_eq x first) [
        | inl q ↦ subst P (sym q) a
        | inr x-f ↦ elim (cases_eq x e) [ inl q ↦ subst P (sym q) b | inr x-e ↦ d x l x-f x-e ]
      ]

  no_h : (x : ℕ) → (x ≡ e → ⊥) → (owner2 x ≡ x → ⊥) → (owner x ≡ x → ⊥) × (x ≡ h → ⊥)
  no_h x ne f = (λ q. f (own_other x ne ∙ q), λ q. f (ap owner2 q ∙ (own_h ∙ sym q)))

  pub joined : IsLinkRing n next2 prev2 owner2
  joined = record {
    next_in = by_next (λ x. next2 x < n) (subst (λ y. y < n) (sym at_h) there) (subst (λ y. y < n) (sym at_e) first_in)
        (λ x l a b. subst (λ y. y < n) (sym (at_other x a b)) (r.next_in x l));
    prev_in = by_prev (λ x. prev2 x < n) (subst (λ y. y < n) (sym before_first) there)
        (subst (λ y. y < n) (sym before_e) head_there)
        (λ x l a b. subst (λ y. y < n) (sym (before_other x a b)) (r.prev_in x l));
    prev_of_next = by_next (λ x. prev2 (next2 x) ≡ x) (ap prev2 at_h ∙ before_e) (ap prev2 at_e ∙ before_first)
        (λ x l a b. ap prev2 (at_other x a b)
        ∙ (before_other (next x) (not_next_first x l a) (not_next_e x l b) ∙ r.prev_of_next x l));
    next_of_prev = by_prev (λ x. next2 (prev2 x) ≡ x) (ap next2 before_first ∙ at_e) (ap next2 before_e ∙ at_h)
        (λ x l a b. ap next2 (before_other x a b)
        ∙ (at_other (prev x) (not_prev_h x l a) (not_prev_e x l b) ∙ r.next_of_prev x l));
    own_in = λ x l. elim (cases_eq x e) [
      | inl q ↦ subst (λ y. y < n) (sym (ap owner2 q ∙ own_e)) head_there
      | inr ne ↦ subst (λ y. y < n) (sym (own_other x ne)) (r.own_in x l)
    ];
    same_owner = by_next (λ x. owner2 (next2 x) ≡ owner2 x) (ap owner2 at_h ∙ (own_e ∙ sym own_h))
        (ap owner2 at_e ∙ (own_other first first_e ∙ (own_first ∙ sym own_e)))
        (λ x l a b. ap owner2 (at_other x a b)
        ∙ (own_other (next x) (not_next_e x l b) ∙ (r.same_owner x l ∙ sym (own_other x b))));
    top = λ x l. elim (cases_eq x e) [
      | inl q ↦ let a : owner2 x ≡ h = ap owner2 q ∙ own_e in ap owner2 a ∙ (own_h ∙ sym a)
      | inr ne ↦ ap owner2 (own_other x ne)
          ∙ (own_other (owner x) (λ q. ne (alone x l q)) ∙ (r.top x l ∙ sym (own_other x ne)))
    ];
    rank = rank2;
    falls = by_prev (λ x. (owner2 x ≡ x → ⊥) → rank2 (prev2 x) < rank2 x)
        (λ f. let a : rank2 (prev2 first) ≡ 1 = ap rank2 before_first ∙ rank_e in
        let b : rank2 first ≡ r.rank first + 2 = rank_other first (no_h first first_e f).1 first_e in omega arith)
        (λ f. let a : rank2 (prev2 e) ≡ 0 = ap rank2 before_e ∙ rank_h in omega (arith, rank_e))
        (λ x l x-f x-e f.
        let k : (owner x ≡ x → ⊥) × (x ≡ h → ⊥) = no_h x x-e f in
        let a : rank2 (prev2 x) ≡ rank2 (prev x) = ap rank2 (before_other x x-f x-e) in
        let b : rank2 (prev x) ≤ r.rank (prev x) + 2 = rank_le (prev x) (not_prev_e x l x-e) in
        let c : rank2 x ≡ r.rank x + 2 = rank_other x k.1 x-e in
        let d : r.rank (prev x) < r.rank x = r.falls x l k.0 in omega arith);
  }

-- the ring with the place e after the head h
abbrev pub with_joined : LinkRing → ℕ → ℕ → LinkRing
with_joined r e h = record {
  next = set (set r.next e (get_or r.next h 0)) h e;
  prev = set (set r.prev e h) (get_or r.next h 0) e;
  owner = set r.owner e h;
}

-- a place that was alone joins the ring of another
pub link_ring_after_join : (r : LinkRing) (e h : ℕ) → AreLinkRings r → e < length r.owner → h < length r.owner
    → (e ≡ h → ⊥)
    → get_or r.owner e 0 ≡ e
    → ((p : ℕ) → p < length r.owner → get_or r.owner p 0 ≡ e → p ≡ e) → get_or r.owner h 0 ≡ h
    → AreLinkRings (with_joined r e h)
link_ring_after_join r e h are there head_there apart is_own alone is_head =
    let n : ℕ = length r.owner in
    let next : ℕ → ℕ = λ k. get_or r.next k 0 in
    let prev : ℕ → ℕ = λ k. get_or r.prev k 0 in
    let owner : ℕ → ℕ = λ k. get_or r.owner k 0 in
    let f : ℕ = next h in
    let ls : length r.next ≡ n = are.sizes.0 in
    let ms : length r.prev ≡ n = are.sizes.1 in
    let fn : f < n = are.ring.next_in h head_there in
    let l1 : length (set r.next e f) ≡ n = length-set r.next e f ∙ ls in
    let m1 : length (set r.prev e h) ≡ n = length-set r.prev e h ∙ ms in
    let n2 : ◌≡◌ {A = ℕ → ℕ} (λ k. get_or (set (set r.next e f) h e) k 0)
    (next2 n next prev owner are.ring e h there head_there apart is_own alone is_head) =
    list_set_is_update (set r.next e f) h e (omega arith) ∙ ap (λ (g : ℕ → ℕ). update_at g h e)
    (list_set_is_update r.next e f (omega arith))
    in
    let p2 : ◌≡◌ {A = ℕ → ℕ} (λ k. get_or (set (set r.prev e h) f e) k 0)
    (prev2 n next prev owner are.ring e h there head_there apart is_own alone is_head) =
    list_set_is_update (set r.prev e h) f e (omega arith) ∙ ap (λ (g : ℕ → ℕ). update_at g f e)
    (list_set_is_update r.prev e h (omega arith))
    in
    let o2 : ◌≡◌ {A = ℕ → ℕ} (λ k. get_or (set r.owner e h) k 0)
    (owner2 n next prev owner are.ring e h there head_there apart is_own alone is_head) =
    list_set_is_update r.owner e h there in
    let z : n ≡ length (set r.owner e h) = sym (length-set r.owner e h) in
    record {
      sizes = (length-set (set r.next e f) h e ∙ (l1 ∙ z), length-set (set r.prev e h) f e ∙ (m1 ∙ z));
      ring = equal_lists_make_same_link_ring _ _ _ _ _ _ _ _ z n2 p2 o2
          (joined n next prev owner are.ring e h there head_there apart is_own alone is_head);
    }
