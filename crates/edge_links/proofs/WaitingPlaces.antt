-- The stack of the waiting places.
use Rattle.std.proofs.Common.{◌≡◌, ℕ, zero, suc, ◌+◌, ◌<◌, ◌≤◌, Bool, true, false, List, [], ◌∷◌, ◌++◌, length, set}
use Rattle.std.proofs.Common.{get_or, Contains, Option, Some, None, ◌↔◌}
use Rattle.std.proofs.Common.{refl, sym, ◌∙◌, ap, subst, inl, inr, arith, get_or-set_same, get_or-set_other, length-set}
use Rattle.std.proofs.lemmas.Bool.{cases_eq, false_from_ne_true}
use Rattle.std.proofs.lemmas.List.{get_or_append_left, length-append}
use Rattle.edge_links.specs.WaitingStack.{AreLinkPlacesApart, IsWaitingLinkChain, AreWaitingLinks, waiting_link_count}
use Rattle.general_lemmas.proofs.Members.{no_member, member_first, member_later, member_cases}

-- setting a link outside a chain does not change the chain
waiting_link_chain_after_set : (behind : List (Option ℕ)) (x : ℕ) (v top : Option ℕ) (xs : List ℕ) → (Contains xs x → ⊥)
    → IsWaitingLinkChain behind top xs
    → IsWaitingLinkChain (set behind x v) top xs
waiting_link_chain_after_set behind x v top [] off h = h
waiting_link_chain_after_set behind x v top (y ∷ xs) off h =
    let l : y < length (set behind x v) = let s = length-set behind x v in omega arith in (
      h.0,
      l,
      waiting_link_chain_after_set behind x v (get_or (set behind x v) y None) xs (λ i. off (member_later x y xs i))
          (subst (λ (o : Option ℕ). IsWaitingLinkChain behind o xs)
          (sym (get_or-set_other behind x y v None (λ e. off (member_first x y xs (sym e))))) h.2),
    )

-- a place that is not waiting can be pushed
pub waiting_links_after_push : (q : List Bool) (behind : List (Option ℕ)) (top : Option ℕ) (x : ℕ)
    → AreWaitingLinks q behind top
    → x < length q
    → get_or q x false ≡ false
    → AreWaitingLinks (set q x true) (set behind x top) (Some x)
waiting_links_after_push q behind top x w l new =
    let off : Contains w.places x → ⊥ = λ i. let e : get_or q x false ≡ true = (w.flags_of_places x).1 i in cc in
    let n : x < length behind = let s = w.size in omega arith in
    let m : x < length (set behind x top) = let s = length-set behind x top in omega arith in
    record {
      size = length-set behind x top ∙ (w.size ∙ sym (length-set q x true));
      places = x ∷ w.places;
      stack_chain = (
        refl,
        m,
        subst (λ (o : Option ℕ). IsWaitingLinkChain (set behind x top) o w.places)
            (sym (get_or-set_same behind x top None n))
            (waiting_link_chain_after_set behind x top top w.places off w.stack_chain),
      );
      flags_of_places = λ y. elim (cases_eq y x) [
        | inl e ↦ (
          λ _. member_first y x w.places e,
          λ _. ap (λ k. get_or (set q x true) k false) e
              ∙ get_or-set_same q x true false l,
        )
        | inr ne ↦ (
          λ h. member_later y x w.places ((w.flags_of_places y).0 (sym (get_or-set_other q x y true false ne) ∙ h)),
          λ i. get_or-set_other q x y true false ne
              ∙ (w.flags_of_places y).1 (elim (member_cases y x w.places i) [ inl e ↦ absurd (ne e) | inr j ↦ j ]),
        )
      ];
      apart = (off, w.apart);
    }

-- if the stack has no top, no place is waiting
pub no_top_means_no_waiting_link : (q : List Bool) (behind : List (Option ℕ)) (x : ℕ) → AreWaitingLinks q behind None
    → get_or q x false ≡ false
no_top_means_no_waiting_link q behind x w = none w.places w.stack_chain (w.flags_of_places x).0
  where
    none : (xs : List ℕ) → IsWaitingLinkChain behind None xs → (get_or q x false ≡ true → Contains xs x)
        → get_or q x false ≡ false
    none [] c f = false_from_ne_true _ (λ e. no_member x (f e))
    none (y ∷ xs) c f = absurd (let e : None ≡ Some y = c.0 in cc)

-- the top of the stack can be popped
pub waiting_links_after_pop : (q : List Bool) (behind : List (Option ℕ)) (top : Option ℕ) (x : ℕ) (after : Option ℕ)
    → AreWaitingLinks q behind top
    → top ≡ Some x → after ≡ get_or behind x None
    → (x < length behind) × (x < length q) × (get_or q x false ≡ true) × AreWaitingLinks (set q x false) behind after
waiting_links_after_pop q behind top x after w t a = go w.places w.stack_chain w.flags_of_places w.apart
  where
    go : (xs : List ℕ) → IsWaitingLinkChain behind top xs → ((y : ℕ) → (get_or q y false ≡ true) ↔ Contains xs y)
        → AreLinkPlacesApart xs
        → (x < length behind) × (x < length q) × (get_or q x false ≡ true) × AreWaitingLinks (set q x false) behind
        after
    go [] c f p = absurd (let e : None ≡ Some x = sym c ∙ t in cc)
    go (y ∷ xs) c f p =
        let e : x ≡ y = let z : Some x ≡ Some y = sym t ∙ c.0 in cc in
        let n : x < length behind = subst (λ k. k < length behind) (sym e) c.1 in
        let l : x < length q = let s = w.size in omega arith in
        let on_it : get_or q x false ≡ true = (f x).1 (member_first x y xs e) in
        let g : after ≡ get_or behind y None = a ∙ ap (λ k. get_or behind k None) e in (
          n,
          l,
          on_it,
          record {
            size = w.size ∙ sym (length-set q x false);
            places = xs;
            stack_chain = subst (λ (o : Option ℕ). IsWaitingLinkChain behind o xs) (sym g) c.2;
            flags_of_places = λ k. elim (cases_eq k x) [
              | inl d ↦ (
                λ h. absurd (let z : get_or (set q x false) k false ≡ false = ap (λ j. get_or (set q x false) j false) d
                    ∙ get_or-set_same
                    q x false false l in cc),
                λ i. absurd (p.0 (subst (λ j. Contains xs j) (d ∙ e) i)),
              )
              | inr ne ↦ (
                λ h. elim (member_cases k y xs ((f k).0 (sym (get_or-set_other q x k false false ne) ∙ h)))
                    [ inl d ↦ absurd (ne (d ∙ sym e)) | inr i ↦ i ],
                λ i. get_or-set_other q x k false false ne ∙ (f k).1 (member_later k y xs i),
              )
            ];
            apart = p.1;
          },
        )

-- the top of the stack is one of the places
pub top_waiting_link_is_place : (q : List Bool) (behind : List (Option ℕ)) (top : Option ℕ) (x : ℕ)
    → AreWaitingLinks q behind top
    → top ≡ Some x
    → (x < length behind) × (x < length q)
top_waiting_link_is_place q behind top x w t = go w.places w.stack_chain
  where
    go : (xs : List ℕ) → IsWaitingLinkChain behind top xs → (x < length behind) × (x < length q)
    go [] c = absurd (let e : None ≡ Some x = sym c ∙ t in cc)
    go (y ∷ xs) c =
        let e : x ≡ y = let z : Some x ≡ Some y = sym t ∙ c.0 in cc in
        let n : x < length behind = subst (λ k. k < length behind) (sym e) c.1 in
        let l : x < length q = let s = w.size in omega arith in (n, l)

-- adding a place does not change a chain
waiting_link_chain_after_growth : (behind : List (Option ℕ)) (top : Option ℕ) (xs : List ℕ)
    → IsWaitingLinkChain behind top xs
    → IsWaitingLinkChain (behind ++ None ∷ []) top xs
waiting_link_chain_after_growth behind top [] h = h
waiting_link_chain_after_growth behind top (x ∷ xs) h = (
  h.0,
  let a = length-append behind (None ∷ []) in let b = h.1 in omega arith,
  subst (λ (o : Option ℕ). IsWaitingLinkChain (behind ++ None ∷ []) o xs)
      (sym (get_or_append_left behind (None ∷ []) None x h.1))
      (waiting_link_chain_after_growth behind (get_or behind x None) xs h.2),
)

-- a new place is not waiting
pub new_link_place_is_not_waiting : (q : List Bool) (x : ℕ) → get_or (q ++ false ∷ []) x false ≡ get_or q x false
new_link_place_is_not_waiting [] zero = refl
new_link_place_is_not_waiting [] (suc x) = refl
new_link_place_is_not_waiting (b ∷ q) zero = refl
new_link_place_is_not_waiting (b ∷ q) (suc x) = new_link_place_is_not_waiting q x

-- adding a place that is not waiting does not change the stack
pub waiting_links_with_place : (q : List Bool) (behind : List (Option ℕ)) (top : Option ℕ)
    → AreWaitingLinks q behind top
    → AreWaitingLinks (q ++ false ∷ []) (behind ++ None ∷ []) top
waiting_links_with_place q behind top w = record {
  size = let a = length-append q (false ∷ []) in let b = length-append behind (None ∷ []) in let d =
      w.size in omega arith;
  places = w.places;
  stack_chain = waiting_link_chain_after_growth behind top w.places w.stack_chain;
  flags_of_places = λ x. (
    λ h. (w.flags_of_places x).0 (sym (new_link_place_is_not_waiting q x) ∙ h),
    λ i.
        new_link_place_is_not_waiting q x ∙ (w.flags_of_places x).1 i,
  );
  apart = w.apart;
}

-- popping a place decreases the number of waiting places by one
pub pop_lowers_waiting_link_count : (q : List Bool) (x : ℕ) → get_or q x false ≡ true
    → waiting_link_count (set q x false) + 1 ≡ waiting_link_count q
pop_lowers_waiting_link_count [] x e = cc
pop_lowers_waiting_link_count (true ∷ q) zero e = omega arith
pop_lowers_waiting_link_count (false ∷ q) zero e = cc
pop_lowers_waiting_link_count (true ∷ q) (suc x) e = omega (arith, pop_lowers_waiting_link_count q x e)
pop_lowers_waiting_link_count (false ∷ q) (suc x) e = pop_lowers_waiting_link_count q x e

-- pushing a place increases the number of waiting places by at most one
pub push_raises_waiting_link_count : (q : List Bool) (x : ℕ) → waiting_link_count (set q x true) ≤ waiting_link_count q
    + 1
push_raises_waiting_link_count [] x = omega arith
push_raises_waiting_link_count (true ∷ q) zero = omega arith
push_raises_waiting_link_count (false ∷ q) zero = omega arith
push_raises_waiting_link_count (true ∷ q) (suc x) = omega (arith, push_raises_waiting_link_count q x)
push_raises_waiting_link_count (false ∷ q) (suc x) = push_raises_waiting_link_count q x

-- without places, no place is waiting
pub no_places_no_waiting_links : AreWaitingLinks [] [] None
no_places_no_waiting_links = record {
  size = refl;
  places = [];
  stack_chain = refl;
  flags_of_places = λ x. (λ h. absurd (no_flag x h), λ i. absurd (no_member x i));
  apart = tt;
}
  where
    no_flag : (x : ℕ) → get_or [] x false ≡ true → ⊥
    no_flag zero h = cc
    no_flag (suc x) h = cc
