-- Setting the owners of a place, and adding a place.
use Rattle.std.proofs.Common.{◌≡◌, ℕ, ◌+◌, ◌-◌, ◌^◌, ◌<◌, nat_eq, List, [], ◌∷◌, ◌++◌, length, set, get_or, sym, ◌∙◌}
use Rattle.std.proofs.Common.{ap, subst, arith, ◌↔◌, inl, inr, get_or-set_same, get_or-set_other, length-set}
use Rattle.std.proofs.lemmas.Bool.{cases_eq, cond-true, cond-false, eq-eqb, ne_eqb}
use Rattle.std.proofs.lemmas.List.{get_or_append_left, length-append, get_or_push}
use Rattle.edge_links.proofs.OwnedCounts.{moved_link_raises_owned_count, moved_link_lowers_owned_count}
use Rattle.edge_links.proofs.OwnedCounts.{link_place_zero_owns_itself, appended_link_place_is_owned}
use Rattle.edge_links.proofs.OwnedCounts.{link_owned_count_is_bounded}
use Rattle.edge_links.proofs.OneMorePlace.{old_or_new_link_place}
use Rattle.edge_links.specs.Times.{times}
use Rattle.edge_links.specs.Changes.{link_owners_with_both}
use Rattle.edge_links.specs.Owners.{LinkOwners, AreLinkEdges, AreLinkPlaces, link_owners_with_head}

-- a place that is not a head owns nothing
pub non_head_link_owns_nothing : (us ks : List ℕ) (q : ℕ) → AreLinkEdges us ks → (get_or us q 0 ≡ q → ⊥) → (p : ℕ)
    → p < length us
    → (get_or us p 0 ≡ q → ⊥) × (get_or ks p 0 ≡ q → ⊥)
non_head_link_owns_nothing us ks q e ne p l = (
  λ r. ne (ap (λ x. get_or us x 0) (sym r) ∙ (e.top p l ∙ r)),
  λ r. ne (ap (λ x. get_or us x 0) (sym r) ∙ (e.key_top p l ∙ r)),
)

-- the place q gets the user u and the key k
pub link_place_gets_user_and_key : (us ks : List ℕ) (q u k : ℕ) → AreLinkEdges us ks → q < length us → (q ≡ 0 → ⊥)
    → u < length us → k < length us
    → (u ≡ q → ⊥) → (k ≡ q → ⊥) → get_or us u 0 ≡ u → get_or us k 0 ≡ k → (u ≡ 0) ↔ (k ≡ 0)
    → ((p : ℕ) → p < length us → (p ≡ q → ⊥) → (get_or us p 0 ≡ q → ⊥) × (get_or ks p 0 ≡ q → ⊥))
    → AreLinkEdges (set us q u) (set ks q k)
link_place_gets_user_and_key us ks q u k e l nz ul kl uq kq hu hk zz none =
    let us_size : length (set us q u) ≡ length us = length-set us q u in
    let ks_size : length (set ks q k) ≡ length ks = length-set ks q k in
    let ql : q < length ks = let z = e.keys_size in omega arith in
    let u_at : (p : ℕ) → p ≡ q → get_or (set us q u) p 0 ≡ u = λ p r. ap (λ x. get_or (set us q u) x 0) r
    ∙ get_or-set_same us q u 0 l in
    let k_at : (p : ℕ) → p ≡ q → get_or (set ks q k) p 0 ≡ k = λ p r. ap (λ x. get_or (set ks q k) x 0) r
    ∙ get_or-set_same ks q k 0 ql in
    let u_no : (p : ℕ) → (p ≡ q → ⊥) → get_or (set us q u) p 0 ≡ get_or us p 0 = λ p r. get_or-set_other us q p u 0 r in
    let k_no : (p : ℕ) → (p ≡ q → ⊥) → get_or (set ks q k) p 0 ≡ get_or ks p 0 = λ p r. get_or-set_other ks q p k 0 r in
    record {
      keys_size = ks_size ∙ (e.keys_size ∙ sym us_size);
      zero_owner = u_no 0 (λ r. nz (sym r)) ∙ e.zero_owner;
      heads = λ p m. elim (cases_eq p q) [
        | inl r ↦ (λ h. absurd (uq (sym (u_at p r) ∙ (h ∙ r))), λ h. absurd (kq (sym (k_at p r) ∙ (h ∙ r))))
        | inr n ↦
            let i : p < length us = omega arith in
            (λ h. k_no p n ∙ (e.heads p i).0 (sym (u_no p n) ∙ h), λ h. u_no p n ∙ (e.heads p i).1 (sym (k_no p n) ∙ h))
      ];
      free = λ p m. elim (cases_eq p q) [
        | inl r ↦ (λ h. k_at p r ∙ zz.0 (sym (u_at p r) ∙ h), λ h. u_at p r ∙ zz.1 (sym (k_at p r) ∙ h))
        | inr n ↦
            let i : p < length us = omega arith in
            (λ h. k_no p n ∙ (e.free p i).0 (sym (u_no p n) ∙ h), λ h. u_no p n ∙ (e.free p i).1 (sym (k_no p n) ∙ h))
      ];
      owners_within = λ p m. elim (cases_eq p q) [
        | inl r ↦ let a : get_or (set us q u) p 0 ≡ u = u_at p r in omega arith
        | inr n ↦ let i : p < length us = omega arith in let a : get_or (set us q u) p 0 ≡ get_or us p 0 =
            u_no p n in let b = e.owners_within p
            i in omega arith
      ];
      key_within = λ p m. elim (cases_eq p q) [
        | inl r ↦ let a : get_or (set ks q k) p 0 ≡ k = k_at p r in omega arith
        | inr n ↦ let i : p < length us = omega arith in let a : get_or (set ks q k) p 0 ≡ get_or ks p 0 =
            k_no p n in let b = e.key_within
            p i in omega arith
      ];
      top = λ p m. elim (cases_eq p q) [
        | inl r ↦ ap (λ x. get_or (set us q u) x 0) (u_at p r) ∙ (u_no u uq ∙ (hu ∙ sym (u_at p r)))
        | inr n ↦
            let i : p < length us = omega arith in
            ap (λ x. get_or (set us q u) x 0) (u_no p n)
            ∙ (u_no (get_or us p 0) (none p i n).0 ∙ (e.top p i ∙ sym (u_no p n)))
      ];
      key_top = λ p m. elim (cases_eq p q) [
        | inl r ↦ ap (λ x. get_or (set us q u) x 0) (k_at p r) ∙ (u_no k kq ∙ (hk ∙ sym (k_at p r)))
        | inr n ↦
            let i : p < length us = omega arith in
            ap (λ x. get_or (set us q u) x 0) (k_no p n)
            ∙ (u_no (get_or ks p 0) (none p i n).1 ∙ (e.key_top p i ∙ sym (k_no p n)))
      ];
    }

-- a place that is not a head becomes free
pub link_edges_after_freeing : (us ks : List ℕ) (q : ℕ) → AreLinkEdges us ks → q < length us → (get_or us q 0 ≡ q → ⊥)
    → AreLinkEdges (set us q 0) (set ks q 0)
link_edges_after_freeing us ks q e l ne =
    let nz : q ≡ 0 → ⊥ = λ r. ne (ap (λ x. get_or us x 0) r ∙ (e.zero_owner ∙ sym r)) in
    let some : 0 < length us = omega arith in
    link_place_gets_user_and_key us ks q 0 0 e l nz some some (λ r. nz (sym r)) (λ r. nz (sym r)) e.zero_owner
    e.zero_owner (λ h. h, λ h. h)
    (λ p m _. non_head_link_owns_nothing us ks q e ne p m)

-- a head that owns only itself becomes free
pub link_edges_after_emptying : (us ks : List ℕ) (q : ℕ) → AreLinkEdges us ks → q < length us → (q ≡ 0 → ⊥)
    → ((p : ℕ) → p < length us → (get_or us p 0 ≡ q → p ≡ q) × (get_or ks p 0 ≡ q → p ≡ q))
    → AreLinkEdges (set us q 0) (set ks q 0)
link_edges_after_emptying us ks q e l nz alone =
    let some : 0 < length us = omega arith in
    link_place_gets_user_and_key us ks q 0 0 e l nz some some (λ r. nz (sym r)) (λ r. nz (sym r)) e.zero_owner
    e.zero_owner (λ h. h, λ h. h)
    (λ p m ne. (λ r. ne ((alone p m).0 r), λ r. ne ((alone p m).1 r)))

-- a free place becomes an edge
pub link_edges_after_filling : (us ks : List ℕ) (q u k : ℕ) → AreLinkEdges us ks → q < length us → (q ≡ 0 → ⊥)
    → get_or us q 0 ≡ 0
    → u < length us → k < length us → (u ≡ 0 → ⊥) → (k ≡ 0 → ⊥) → get_or us u 0 ≡ u → get_or us k 0 ≡ k
    → AreLinkEdges (set us q u) (set ks q k)
link_edges_after_filling us ks q u k e l nz is_free ul kl unz knz hu hk =
    link_place_gets_user_and_key us ks q u k e l nz ul kl (λ r. unz (sym hu ∙ (ap (λ x. get_or us x 0) r ∙ is_free)))
    (λ r. knz (sym hk ∙ (ap (λ x. get_or us x 0) r ∙ is_free))) hu hk
    (λ r. absurd (unz r), λ r. absurd (knz r))
    (λ p m _. non_head_link_owns_nothing us ks q e (λ r. nz (sym r ∙ is_free)) p m)

-- one more head is added
pub link_edges_after_growing : (us ks : List ℕ) (n : ℕ) → n ≡ length us → AreLinkEdges us ks
    → AreLinkEdges (us ++ n ∷ []) (ks ++ n ∷ [])
link_edges_after_growing us ks n e a =
    let us_size : length (us ++ n ∷ []) ≡ n + 1 = let z = length-append us (n ∷ []) in omega arith in
    let ks_size : length (ks ++ n ∷ []) ≡ n + 1 = let z = length-append ks (n ∷ []) in let y =
    a.keys_size in omega arith in
    let kn : length ks ≡ n = let y = a.keys_size in omega arith in
    let u_old : (p : ℕ) → p < n → get_or (us ++ n ∷ []) p 0 ≡ get_or us p 0 =
    λ p l. get_or_append_left us (n ∷ []) 0 p (omega arith) in
    let k_old : (p : ℕ) → p < n → get_or (ks ++ n ∷ []) p 0 ≡ get_or ks p 0 =
    λ p l. get_or_append_left ks (n ∷ []) 0 p (omega arith) in
    let u_new : get_or (us ++ n ∷ []) n 0 ≡ n = get_or_push us n 0 n (sym e) in
    let k_new : get_or (ks ++ n ∷ []) n 0 ≡ n = get_or_push ks n 0 n kn in
    let low : (p : ℕ) → p < n → p < length us = λ p l. omega arith in
    let each : (P : ℕ → Type 0) → ((p : ℕ) → p < n → P p) → P n → (p : ℕ) → p < length (us ++ n ∷ []) → P p =
    λ P old new p l. old_or_new_link_place n P old new p (omega arith) in
    record {
      keys_size = ks_size ∙ sym us_size;
      zero_owner = elim (cases_eq n 0) [
        | inl z ↦ subst (λ m. get_or (us ++ n ∷ []) m 0 ≡ m) z u_new
        | inr nz ↦ u_old 0 (omega arith) ∙ a.zero_owner
      ];
      heads = each (λ p. (get_or (us ++ n ∷ []) p 0 ≡ p) ↔ (get_or (ks ++ n ∷ []) p 0 ≡ p))
          (λ p l. (
            λ h. k_old p l ∙ (a.heads p (low p l)).0 (sym (u_old p l) ∙ h),
            λ h. u_old p l ∙ (a.heads p (low p l)).1
                (sym (k_old p l) ∙ h),
          )) (λ _. k_new, λ _. u_new);
      free = each (λ p. (get_or (us ++ n ∷ []) p 0 ≡ 0) ↔ (get_or (ks ++ n ∷ []) p 0 ≡ 0))
          (λ p l. (
            λ h. k_old p l ∙ (a.free p (low p l)).0 (sym (u_old p l) ∙ h),
            λ h. u_old p l
                ∙ (a.free p (low p l)).1 (sym (k_old p l) ∙ h),
          ))
          (λ h. k_new ∙ (sym u_new ∙ h), λ h. u_new ∙ (sym k_new ∙ h));
      owners_within = each (λ p. get_or (us ++ n ∷ []) p 0 < length (us ++ n ∷ []))
          (λ p l. let y = u_old p l in let z = a.owners_within p (low p l) in omega arith) (omega arith);
      key_within = each (λ p. get_or (ks ++ n ∷ []) p 0 < length (us ++ n ∷ []))
          (λ p l. let y = k_old p l in let z = a.key_within p (low p l) in omega arith) (omega arith);
      top = each (λ p. get_or (us ++ n ∷ []) (get_or (us ++ n ∷ []) p 0) 0 ≡ get_or (us ++ n ∷ []) p 0)
          (λ p l. ap (λ x. get_or (us ++ n ∷ []) x 0) (u_old p l) ∙
          (u_old (get_or us p 0) (let z = a.owners_within p (low p l) in omega arith)
          ∙ (a.top p (low p l) ∙ sym (u_old p l))))
          (ap (λ x. get_or (us ++ n ∷ []) x 0) u_new);
      key_top = each (λ p. get_or (us ++ n ∷ []) (get_or (ks ++ n ∷ []) p 0) 0 ≡ get_or (ks ++ n ∷ []) p 0)
          (λ p l. ap (λ x. get_or (us ++ n ∷ []) x 0) (k_old p l) ∙
          (u_old (get_or ks p 0) (let z = a.key_within p (low p l) in omega arith)
          ∙ (a.key_top p (low p l) ∙ sym (k_old p l))))
          (ap (λ x. get_or (us ++ n ∷ []) x 0) k_new ∙ (u_new ∙ sym k_new));
    }

-- the number of free places increases by one if a place becomes free
pub freed_link_adds_spare : (us : List ℕ) (q s : ℕ) → s ≡ times 0 us - 1 → q < length us → get_or us 0 0 ≡ 0
    → (get_or us q 0 ≡ 0 → ⊥)
    → s + 1 ≡ times 0 (set us q 0) - 1
freed_link_adds_spare us q s e l z ne = let a = moved_link_raises_owned_count 0 us q l ne in
    let b = link_place_zero_owns_itself us (omega arith) z in omega arith

-- the number of free places decreases by one if a free place is filled
pub filled_link_uses_spare : (us : List ℕ) (q u s : ℕ) → s ≡ times 0 us - 1 → q < length us → get_or us q 0 ≡ 0
    → (u ≡ 0 → ⊥)
    → s - 1 ≡ times 0 (set us q u) - 1
filled_link_uses_spare us q u s e l z ne = let a = moved_link_lowers_owned_count 0 u us q l z ne in omega arith

-- the number of free places does not change if a head is added
pub grown_links_keep_spare : (us : List ℕ) (n s : ℕ) → n ≡ length us → s ≡ times 0 us - 1
    → s ≡ times 0 (us ++ n ∷ []) - 1
grown_links_keep_spare us n s l e =
    elim (cases_eq n 0) [
      | inl z ↦ first _ _ _ _ (appended_link_place_is_owned 0 us n) (cond-true (nat_eq n 0) 1 0 (eq-eqb n 0 z))
          (let b = link_owned_count_is_bounded 0 us in omega arith) e
      | inr nz ↦ later _ _ _ _ (appended_link_place_is_owned 0 us n) (cond-false (nat_eq n 0) 1 0 (ne_eqb n 0 nz)) e
    ]
  where
    first : (t b d s : ℕ) → t ≡ b + d → d ≡ 1 → b ≡ 0 → s ≡ b - 1 → s ≡ t - 1
    first t b d s h i j k = omega arith

    later : (t b d s : ℕ) → t ≡ b + d → d ≡ 0 → s ≡ b - 1 → s ≡ t - 1
    later t b d s h i k = omega arith

-- the number of free places fits in 64 bits
pub link_spare_fits_64_bits : (s : LinkOwners) (spare : ℕ) → AreLinkPlaces s spare → spare + 1 < 2 ^ 64
link_spare_fits_64_bits s spare p = let a = link_owned_count_is_bounded 0 s.users in let b = p.spare_count in
    let c = p.size in omega arith

-- setting an owner does not change the number of places
set_link_owner_keeps_size : (us : List ℕ) (q u : ℕ) → length us < 2 ^ 64 → length (set us q u) < 2 ^ 64
set_link_owner_keeps_size us q u l = subst (λ n. n < 2 ^ 64) (sym (length-set us q u)) l

-- removing an edge leaves a free place
pub link_places_after_freeing : (s : LinkOwners) (q spare : ℕ) → AreLinkPlaces s spare → q < length s.users
    → (get_or s.users q 0 ≡ q → ⊥)
    → (get_or s.users q 0 ≡ 0 → ⊥) → AreLinkPlaces (link_owners_with_both s q 0 0) (spare + 1)
link_places_after_freeing s q spare p l no_head live = record {
  edges = link_edges_after_freeing s.users s.keys q p.edges l no_head;
  spare_count = freed_link_adds_spare s.users q spare p.spare_count l p.edges.zero_owner live;
  size = set_link_owner_keeps_size s.users q 0 p.size;
}

-- removing a node without edges leaves a free place
pub link_places_after_emptying : (s : LinkOwners) (q spare : ℕ) → AreLinkPlaces s spare → q < length s.users
    → (q ≡ 0 → ⊥)
    → get_or s.users q 0 ≡ q
    → ((p : ℕ) → p < length s.users → (get_or s.users p 0 ≡ q → p ≡ q) × (get_or s.keys p 0 ≡ q → p ≡ q))
    → AreLinkPlaces (link_owners_with_both s q 0 0) (spare + 1)
link_places_after_emptying s q spare p l nz head alone = record {
  edges = link_edges_after_emptying s.users s.keys q p.edges l nz alone;
  spare_count = freed_link_adds_spare s.users q spare p.spare_count l p.edges.zero_owner (λ z. nz (sym head ∙ z));
  size = set_link_owner_keeps_size s.users q 0 p.size;
}

-- adding an edge uses a free place
pub link_places_after_filling : (s : LinkOwners) (q u k spare : ℕ) → AreLinkPlaces s spare → q < length s.users
    → (q ≡ 0 → ⊥)
    → get_or s.users q 0 ≡ 0
    → u < length s.users → k < length s.users
    → (u ≡ 0 → ⊥) → (k ≡ 0 → ⊥) → get_or s.users u 0 ≡ u → get_or s.users k 0 ≡ k
    → AreLinkPlaces (link_owners_with_both s q u k) (spare - 1)
link_places_after_filling s q u k spare p l nz is_free ul kl unz knz hu hk = record {
  edges = link_edges_after_filling s.users s.keys q u k p.edges l nz is_free ul kl unz knz hu hk;
  spare_count = filled_link_uses_spare s.users q u spare p.spare_count l is_free unz;
  size = set_link_owner_keeps_size s.users q u p.size;
}

-- adding a node adds a place
pub link_places_after_growing : (s : LinkOwners) (p name spare : ℕ) → AreLinkPlaces s spare → p ≡ length s.users
    → p + 1 < 2 ^ 64
    → AreLinkPlaces (link_owners_with_head s p name) spare
link_places_after_growing s p name spare places is fits = record {
  edges = link_edges_after_growing s.users s.keys p is places.edges;
  spare_count = grown_links_keep_spare s.users p spare is places.spare_count;
  size = let a = length-append s.users (p ∷ []) in omega arith;
}
