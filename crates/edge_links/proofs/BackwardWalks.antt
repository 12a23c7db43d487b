-- Walking backwards through a ring.
use Rattle.std.proofs.Common.{◌≡◌, ◌⊎◌, ℕ, zero, suc, ◌+◌, ◌<◌, ◌≤◌, nat_eq, List, [], ◌∷◌, ◌++◌, length, get_or}
use Rattle.std.proofs.Common.{refl, sym, ◌∙◌, ap, subst, arith, inl, inr}
use Rattle.std.proofs.lemmas.Bool.{cases_eq, cond-true, cond-false, eq-eqb, ne_eqb}
use Rattle.edge_links.specs.Columns.{LinkRing}
use Rattle.edge_links.specs.Rings.{IsLinkRing, AreLinkRings, AreLinkRingMembers}
use Rattle.edge_links.specs.Times.{times}
use Rattle.std.proofs.lemmas.List.{length-append}
use Rattle.edge_links.proofs.OwnedCounts.{appended_link_place_is_owned}
use Rattle.edge_links.proofs.WeightedSums.{distinct_bounded_numbers_are_few}

-- appending a number increases its count by one
times_same : (x y : ℕ) (xs : List ℕ) → y ≡ x → times x (xs ++ y ∷ []) ≡ times x xs + 1
times_same x y xs e = appended_link_place_is_owned x xs y
    ∙ ap (λ k. times x xs + k) (cond-true (nat_eq y x) 1 0 (eq-eqb y x e))

-- appending another number does not change the count
times_other : (x y : ℕ) (xs : List ℕ) → (y ≡ x → ⊥) → times x (xs ++ y ∷ []) ≡ times x xs
times_other x y xs ne = more _ _ _ (appended_link_place_is_owned x xs y) (cond-false (nat_eq y x) 1 0 (ne_eqb y x ne))
  where
    more : (a b d : ℕ) → a ≡ b + d → d ≡ 0 → a ≡ b
    more a b d e f = omega arith

-- a number that occurs in a list occurs in it with one more item
times_more : (x y : ℕ) (xs : List ℕ) → 0 < times x xs → 0 < times x (xs ++ y ∷ [])
times_more x y xs l = let a = appended_link_place_is_owned x xs y in more _ _ _ (appended_link_place_is_owned x xs y) l
  where
    more : (a b d : ℕ) → a ≡ b + d → 0 < b → 0 < a
    more a b d e f = omega arith

module _ (n : ℕ) (next prev owner : ℕ → ℕ) (r : IsLinkRing n next prev owner) (head : ℕ) (there : head < n)
    (is_head : owner head ≡ head) where
  abbrev Met : List ℕ → ℕ → Type 0
  Met met p = (p ≡ head) ⊎ (0 < times p met)

  -- the places from the end of the ring back to the one after this place have been met
  pub record IsWalk (place : ℕ) (met : List ℕ) : Type 0 where
    pub here : (place < n) × (owner place ≡ head)
    pub owned : (p : ℕ) → 0 < times p met → (p < n) × (owner p ≡ head) × (p ≡ head → ⊥)
        × ((place ≡ head → ⊥) → r.rank place < r.rank p)
    pub once : (p : ℕ) → times p met ≤ 1
    pub closed : (p : ℕ) → 0 < times p met → Met met (next p)
    pub next_met : Met met (next place)

  pub walk_start : IsWalk (prev head) []
  walk_start = record {
    here = (
      r.prev_in head there,
      sym (r.same_owner (prev head) (r.prev_in head there))
          ∙ (ap owner (r.next_of_prev head there) ∙ is_head),
    );
    owned = λ p l. absurd (omega (arith, l));
    once = λ p. omega arith;
    closed = λ p l. absurd (omega (arith, l));
    next_met = inl (r.next_of_prev head there);
  }

  more_met : (met : List ℕ) (y p : ℕ) → Met met p → Met (met ++ y ∷ []) p
  more_met met y p m = elim m [ inl e ↦ inl e | inr l ↦ inr (times_more p y met l) ]

  module _ (place : ℕ) (met : List ℕ) (w : IsWalk place met) (on : place ≡ head → ⊥) where
    pub walk_less : r.rank (prev place) < r.rank place
    walk_less = r.falls place w.here.0 (λ e. on (sym e ∙ w.here.1))

    new_here : (prev place < n) × (owner (prev place) ≡ head)
    new_here = (
      r.prev_in place w.here.0,
      sym (r.same_owner (prev place) (r.prev_in place w.here.0))
          ∙ (ap owner (r.next_of_prev place w.here.0) ∙ w.here.1),
    )

    not_met : 0 < times place met → ⊥
    not_met l = let a = (w.owned place l).3 on in omega arith

    was_met : (p : ℕ) → 0 < times p (met ++ place ∷ []) → (p ≡ place) ⊎ (0 < times p met)
    was_met p l = elim (cases_eq p place) [
      | inl e ↦ inl e
      | inr ne ↦ inr (subst (λ k. 0 < k) (times_other p place met (λ e. ne (sym e))) l)
    ]

    here_met : 0 < times place (met ++ place ∷ [])
    here_met = subst (λ k. 0 < k) (sym (times_same place place met refl)) (omega arith)

    pub walk_next : IsWalk (prev place) (met ++ place ∷ [])
    walk_next = record {
      here = new_here;
      owned = λ p l. elim (was_met p l) [
        | inl e ↦ subst (λ q. (q < n) × (owner q ≡ head) × (q ≡ head → ⊥)
            × ((prev place ≡ head → ⊥) → r.rank (prev place) < r.rank q))
            (sym e) (w.here.0, w.here.1, on, λ _. walk_less)
        | inr m ↦ let o = w.owned p m in (o.0, o.1, o.2, λ _. let a = o.3 on in let b = walk_less in omega arith)
      ];
      once = λ p. elim (cases_eq p place) [
        | inl e ↦ first _ _ (times_same p place met (sym e)) (λ l. not_met (subst (λ q. 0 < times q met) e l))
        | inr ne ↦ let a = times_other p place met (λ e. ne (sym e)) in let b = w.once p in omega arith
      ];
      closed = λ p l. elim (was_met p l) [
        | inl e ↦ more_met met place (next p) (subst (λ q. Met met (next q)) (sym e) w.next_met)
        | inr m ↦ more_met met place (next p) (w.closed p m)
      ];
      next_met = inr (subst (λ q. 0 < times q (met ++ place ∷ [])) (sym (r.next_of_prev place w.here.0)) here_met);
    }
      where
        first : (a b : ℕ) → a ≡ b + 1 → (0 < b → ⊥) → a ≤ 1
        first a zero e f = omega arith
        first a (suc b) e f = absurd (f (omega arith))

  -- at the head, all places have been met
  module _ (met : List ℕ) (w : IsWalk head met) where
    met_within : (d p : ℕ) → p < n → owner p ≡ head → r.rank p < d → Met met p
    met_within zero p l o b = absurd (omega arith)
    met_within (suc d) p l o b = elim (cases_eq p head) [
      | inl e ↦ inl e
      | inr ne ↦
          let less : r.rank (prev p) < r.rank p = r.falls p l (λ e. ne (sym e ∙ o)) in
          let before : owner (prev p) ≡ head = sym (r.same_owner (prev p) (r.prev_in p l))
          ∙ (ap owner (r.next_of_prev p l) ∙ o) in
          subst (λ q. Met met q) (r.next_of_prev p l)
          (elim (met_within d (prev p) (r.prev_in p l) before (omega arith)) [
            | inl e ↦ subst (λ q. Met met (next q)) (sym e) w.next_met
            | inr m ↦ w.closed (prev p) m
          ])
    ]

    pub all_met : (p : ℕ) → p < n → owner p ≡ head → (p ≡ head → ⊥) → times p met ≡ 1
    all_met p l o ne = elim (met_within (suc (r.rank p)) p l o (omega arith)) [
      | inl e ↦ absurd (ne e)
      | inr m ↦ let a = w.once p in omega arith
    ]

-- the state of a walk
pub record IsWalking (r : LinkRing) (head place : ℕ) (met : List ℕ) : Type 0 where
  pub rings : AreLinkRings r
  pub there : head < length r.owner
  pub is_head : get_or r.owner head 0 ≡ head
  pub walk : IsWalk (length r.owner) (λ k. get_or r.next k 0) (λ k. get_or r.prev k 0)
      (λ k. get_or r.owner k 0) rings.ring head there
      is_head place met

-- a walk starts at the place before the head
pub link_ring_walk_starts_before_head : (r : LinkRing) (head : ℕ) → AreLinkRings r → head < length r.owner
    → get_or r.owner head 0 ≡ head
    → IsWalking r head (get_or r.prev head 0) []
link_ring_walk_starts_before_head r head are there is_head = record {
  rings = are;
  there = there;
  is_head = is_head;
  walk = walk_start (length r.owner) (λ k. get_or r.next k 0) (λ k. get_or r.prev k 0)
      (λ k. get_or r.owner k 0) are.ring head there is_head;
}

-- a walk continues with the place before
pub link_ring_walk_continues : (r : LinkRing) (head place : ℕ) (met : List ℕ) → IsWalking r head place met
    → (place ≡ head → ⊥)
    → IsWalking r head (get_or r.prev place 0) (met ++ place ∷ [])
link_ring_walk_continues r head place met w on = record {
  rings = w.rings;
  there = w.there;
  is_head = w.is_head;
  walk = walk_next (length r.owner) (λ k. get_or r.next k 0) (λ k. get_or r.prev k 0)
      (λ k. get_or r.owner k 0) w.rings.ring head w.there
      w.is_head place met w.walk on;
}

-- before the walk is back at the head, it has met fewer places than there are
pub link_ring_walk_meets_fewer : (r : LinkRing) (head place : ℕ) (met : List ℕ) → IsWalking r head place met
    → (place ≡ head → ⊥)
    → length met < length r.owner
link_ring_walk_meets_fewer r head place met w on =
    let more =
    walk_next (length r.owner) (λ k. get_or r.next k 0) (λ k. get_or r.prev k 0)
    (λ k. get_or r.owner k 0) w.rings.ring head w.there
    w.is_head place met w.walk on in
    let a = distinct_bounded_numbers_are_few (length r.owner) (met ++ place ∷ []) (λ p l. (more.owned p l).0) more.once
    in
    let b = length-append met (place ∷ []) in omega arith

-- a walk that is back at the head has met all members
pub link_ring_walk_meets_all : (r : LinkRing) (head : ℕ) (met : List ℕ) → IsWalking r head head met
    → AreLinkRingMembers r.owner head met
link_ring_walk_meets_all r head met w = record {
  members_owned = λ p l. let o = w.walk.owned p l in (o.0, o.1, o.2);
  once = all_met (length r.owner) (λ k. get_or r.next k 0) (λ k. get_or r.prev k 0)
      (λ k. get_or r.owner k 0) w.rings.ring head w.there
      w.is_head met w.walk;
}
