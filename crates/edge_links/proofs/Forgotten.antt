-- The view of the places after edges were removed.
use Rattle.std.proofs.Common.{◌≡◌, ◌⊎◌, ℕ, zero, suc, ◌+◌, ◌-◌, ◌<◌, ◌≤◌, Bool, false, cond, nat_eq, List, [], ◌∷◌}
use Rattle.std.proofs.Common.{length, map, Contains, get_or, refl, sym, ◌∙◌, ap, subst, arith, inl, inr}
use Rattle.std.proofs.lemmas.Bool.{cond-true, cond-false, eq-eqb, ne_eqb}
use Rattle.std.proofs.lemmas.List.{length-append, get_or_read}
use Rattle.edge_links.specs.Edges.{LinkEdge, link_edge_count}
use Rattle.edge_links.specs.Changes.{AreLinkPlacesParted}
use Rattle.edge_links.specs.Owners.{LinkOwners, AreLinkEdges, IsLinkHead}
use Rattle.edge_links.specs.PlaceReach.{IsLinkOfAffected}
use Rattle.edge_links.specs.Once.{ClearsEachMarkOnce, ClearsPlaceMarksOnce}
use Rattle.edge_links.specs.Reach.{IsAffectedLinkNode, AreMarksCleared, ForgetsLinks}
use Rattle.edge_links.specs.PlaceView.{link_edge_at, link_edges_below, AreLinks}
use Rattle.edge_links.specs.PlaceReach as place
use Rattle.edge_links.specs.Times.{times}
use Rattle.edge_links.proofs.OwnedCounts.{link_place_zero_owns_itself}
use Rattle.edge_links.proofs.FreePlaces.{same_heads_keep_links}
use Rattle.edge_links.proofs.Membership.{contains_origin, link_places_apart_after_map}
use Rattle.edge_links.proofs.EdgeCounts.{link_edge_count_of_other_user}
use Rattle.edge_links.proofs.FirstEdges.{user, key_of, place_is_link_edge_or_not, head_or_free_is_no_link_edge}
use Rattle.edge_links.proofs.FirstEdges.{free_place_is_no_link_edge, owned_place_is_link_edge}
use Rattle.edge_links.proofs.FirstEdges.{same_link_counts_have_same_sum, same_owners_give_same_link_edge}
use Rattle.edge_links.proofs.FirstEdges.{no_link_place_means_no_edge}
use Rattle.edge_links.proofs.PlacePaths.{user_head, affected_down, affected_up, affected_there}
use Rattle.general_lemmas.proofs.Members.{map_member}

-- the number of free places among the first n
abbrev pub frees : (ℕ → ℕ) → ℕ → ℕ
frees f zero = 0
frees f (suc n) = cond (nat_eq (f n) 0) 1 0 + frees f n

-- free places can be counted from the front
free_link_places_from_front : (f : ℕ → ℕ) (n : ℕ) → frees f (suc n) ≡ cond (nat_eq (f 0) 0) 1 0 + frees (λ k. f (suc k))
    n
free_link_places_from_front f zero = refl
free_link_places_from_front f (suc n) = swapped _ _ _ _ (free_link_places_from_front f n)
  where
    swapped : (a b d e : ℕ) → b ≡ d + e → a + b ≡ d + (a + e)
    swapped a b d e h = omega arith

-- the number of free places is the number of zeros
free_link_places_are_zeros : (xs : List ℕ) → frees (λ k. get_or xs k 0) (length xs) ≡ times 0 xs
free_link_places_are_zeros [] = refl
free_link_places_are_zeros (x ∷ xs) = free_link_places_from_front (λ k. get_or (x ∷ xs) k 0) (length xs)
    ∙ ap (λ k. cond (nat_eq x 0) 1 0 + k) (free_link_places_are_zeros xs)

module _ (s : LinkOwners) (e : AreLinkEdges s.users s.keys) (nodes : List ℕ) (links : AreLinks s nodes) (key : ℕ)
    (there : key < length nodes)
    (head : ℕ) (found : head ≡ get_or nodes key head)
    (t : LinkOwners) (size : length t.users ≡ length s.users) (same_names : t.names ≡ s.names)
    (parted : AreLinkPlacesParted (IsLinkOfAffected s head) s t)
    (idle : (x : ℕ) → get_or t.waits x false ≡ false) where
  abbrev n : ℕ
  n = length s.users

  is_head : head ≡ get_or nodes key 0
  is_head = get_or_read nodes key head there found 0

  cut : AreLinkPlacesParted (IsLinkOfAffected s (get_or nodes key 0)) s t
  cut = subst (λ z. AreLinkPlacesParted (IsLinkOfAffected s z) s t) is_head parted

  abbrev old : List LinkEdge
  old = link_edges_below s n

  -- a place that stays has the same edge as before
  abbrev Stays : ℕ → Type 0
  Stays p = (IsLinkOfAffected s (get_or nodes key 0) p → ⊥) × (link_edge_at t p ≡ link_edge_at s p)

  at_place : (p : ℕ) → p < n → (IsLinkOfAffected s (get_or nodes key 0) p × (link_edge_at t p ≡ [])) ⊎ Stays p
  at_place p l = elim (cut p l) [
    | inl c ↦ inl (c.0, free_place_is_no_link_edge t p c.1)
    | inr c ↦ inr (
      c.0,
      same_owners_give_same_link_edge s t p c.1 c.2 (ap (λ xs. get_or xs (user s p) 0) same_names)
          (ap (λ xs. get_or xs (key_of s p) 0) same_names),
    )
  ]

  heads_stay : (x : ℕ) → IsLinkHead s x → IsLinkHead t x
  heads_stay x h = elim (cut x h.0) [
    | inl c ↦ absurd (c.0.0 h.1)
    | inr c ↦ (let a = h.0 in omega arith, c.1 ∙ h.1, h.2)
  ]

  heads_were : (x : ℕ) → IsLinkHead t x → IsLinkHead s x
  heads_were x h =
      let l : x < n = let a = h.0 in omega arith in
      elim (cut x l) [
        | inl c ↦ absurd (h.2 (sym h.1 ∙ c.1))
        | inr c ↦ (l, sym c.1 ∙ h.1, h.2)
      ]

  pub links_after : AreLinks t nodes
  links_after = same_heads_keep_links s t nodes size same_names heads_stay heads_were idle links

  -- the edge of a user is removed if and only if the user is affected
  cut_off_affected : (p : ℕ) → p < n → IsLinkOfAffected s (get_or nodes key 0) p
      → IsAffectedLinkNode old key (get_or s.names (user s p) 0)
  cut_off_affected p l c = affected_up s e nodes links key (user s p) there c.2

  affected_cut_off : (p : ℕ) → p < n → (user s p ≡ p → ⊥) → (user s p ≡ 0 → ⊥)
      → IsAffectedLinkNode old key (get_or s.names (user s p) 0)
      → IsLinkOfAffected s (get_or nodes key 0) p
  affected_cut_off p l a b f =
      let h = links.head_of_name (user s p) (user_head s e nodes links p l b) in (
        a,
        b,
        subst (λ z. place.IsAffectedLinkPlace s (get_or nodes key 0) z) h.1
            (affected_down s e nodes links key (get_or s.names (user s p) 0) f),
      )

  gone_at : (x y : ℕ) → IsAffectedLinkNode old key x → (p : ℕ) → p < n → link_edge_count (link_edge_at t p) x y ≡ 0
  gone_at x y f p l = elim (at_place p l) [
    | inl c ↦ ap (λ es. link_edge_count es x y) c.1
    | inr c ↦ ap (λ es. link_edge_count es x y) c.1 ∙ elim (place_is_link_edge_or_not s p) [
      | inl h ↦ ap (λ es. link_edge_count es x y) (head_or_free_is_no_link_edge s p h)
      | inr h ↦ ap (λ es. link_edge_count es x y) (owned_place_is_link_edge s p h.0 h.1)
          ∙ link_edge_count_of_other_user (get_or s.names (user s p) 0) (get_or s.names (key_of s p) 0) x y
          (λ q. c.0 (affected_cut_off p l h.0 h.1 (subst (λ z. IsAffectedLinkNode old key z) (sym q) f)))
    ]
  ]

  kept_at : (x y : ℕ) → (IsAffectedLinkNode old key x → ⊥) → (p : ℕ) → p < n
      → link_edge_count (link_edge_at t p) x y ≡ link_edge_count (link_edge_at s p) x y
  kept_at x y f p l = elim (at_place p l) [
    | inl c ↦ ap (λ es. link_edge_count es x y) c.1
        ∙ sym (ap (λ es. link_edge_count es x y) (owned_place_is_link_edge s p c.0.0 c.0.1)
        ∙ link_edge_count_of_other_user (get_or s.names (user s p) 0) (get_or s.names (key_of s p) 0) x y
        (λ q. f (subst (λ z. IsAffectedLinkNode old key z) q (cut_off_affected p l c.0))))
    | inr c ↦ ap (λ es. link_edge_count es x y) c.1
  ]

  pub forgets : ForgetsLinks key old (link_edges_below t (length t.users))
  forgets = record {
    affected_cleared = λ x y f. ap (λ m. link_edge_count (link_edges_below t m) x y) size
        ∙ no_link_place_means_no_edge t x y n (gone_at x y f);
    others_unchanged = λ x y f. ap (λ m. link_edge_count (link_edges_below t m) x y) size
        ∙ same_link_counts_have_same_sum s t x y n (kept_at x y f);
  }

  -- for each place, its number of edges, plus 1 if it is free, does not change
  weight : (p : ℕ) → p < n
      → length (link_edge_at t p) + cond (nat_eq (user t p) 0) 1 0 ≡ length (link_edge_at s p) + cond
      (nat_eq (user s p) 0) 1 0
  weight p l = elim (cut p l) [
    | inl c ↦ cut_off _ _ _ _ (ap length (free_place_is_no_link_edge t p c.1))
        (cond-true (nat_eq (user t p) 0) 1 0 (eq-eqb (user t p) 0 c.1))
        (ap length (owned_place_is_link_edge s p c.0.0 c.0.1))
        (cond-false (nat_eq (user s p) 0) 1 0 (ne_eqb (user s p) 0 c.0.1))
    | inr c ↦ stays _ _ _ _
        (ap length (same_owners_give_same_link_edge s t p c.1 c.2 (ap (λ xs. get_or xs (user s p) 0) same_names)
        (ap (λ xs. get_or xs (key_of s p) 0) same_names))) (ap (λ z. cond (nat_eq z 0) 1 0) c.1)
  ]
    where
      cut_off : (a b d f : ℕ) → a ≡ 0 → b ≡ 1 → d ≡ 1 → f ≡ 0 → a + b ≡ d + f
      cut_off a b d f h i j k = omega arith

      stays : (a b d f : ℕ) → a ≡ d → b ≡ f → a + b ≡ d + f
      stays a b d f h i = omega arith

  weights : (m : ℕ) → m ≤ n → length (link_edges_below t m) + frees (user t) m ≡ length (link_edges_below s m) + frees
      (user s) m
  weights zero l = refl
  weights (suc m) l = sums _ _ _ _ _ _ _ _ _ _ (length-append (link_edge_at t m) (link_edges_below t m))
      (length-append (link_edge_at s m) (link_edges_below s m)) (weight m (omega arith)) (weights m (omega arith))
    where
      sums : (a b d f g h i j k o : ℕ) → a ≡ b + d → f ≡ g + h → b + i ≡ g + j → d + k ≡ h + o
          → a + (i + k) ≡ f + (j + o)
      sums a b d f g h i j k o p q r u = omega arith

  -- place 0 does not change
  zero_stays : 0 < n → get_or t.users 0 0 ≡ 0
  zero_stays l = elim (cut 0 l) [ inl c ↦ c.1 | inr c ↦ c.1 ∙ e.zero_owner ]

  pub spare_after : (times 0 t.users - 1) + length (link_edges_below t (length t.users)) ≡ (times 0 s.users - 1)
      + length old
  spare_after =
      let some : 0 < n = let h = (links.places key there).0.0 in omega arith in
      sums _ _ _ _ _ _ _ (weights n (omega arith)) (free_link_places_are_zeros s.users)
      (ap (λ m. frees (user t) m) (sym size) ∙ free_link_places_are_zeros t.users)
      (link_place_zero_owns_itself s.users some e.zero_owner)
      (link_place_zero_owns_itself t.users (omega arith) (zero_stays some))
      (ap (λ m. length (link_edges_below t m)) size)
    where
      sums : (a b d f g h i : ℕ) → a + b ≡ d + f → f ≡ g → b ≡ h → 1 ≤ g → 1 ≤ h → i ≡ a → (h - 1) + i ≡ (g - 1) + d
      sums a b d f g h i j k l m o p = omega arith

  pub cleared : (now new : ℕ → Bool)
      → ((x : ℕ) → IsLinkHead s x → place.IsAffectedLinkPlace s head x → new (get_or s.names x 0) ≡ false)
      → ((m : ℕ) → ((x : ℕ) → IsLinkHead s x → place.IsAffectedLinkPlace s head x → get_or s.names x 0 ≡ m → ⊥)
      → new m ≡ now m)
      → AreMarksCleared (IsAffectedLinkNode old key) now new
  cleared now new gone kept = record {
    affected_cleared = λ x f. let h = affected_there s e nodes links key x there f in
        ap new (sym h.1)
        ∙ gone (get_or nodes x 0) h.0 (subst (λ z. place.IsAffectedLinkPlace s z (get_or nodes x 0)) (sym is_head)
        (affected_down s e nodes links key x f));
    others_unchanged = λ m f. kept m (λ x h a q. f (subst (λ z. IsAffectedLinkNode old key z) q
        (affected_up s e nodes links key x there (subst (λ z. place.IsAffectedLinkPlace s z x) is_head a))));
  }

  -- the name of a place
  abbrev name : ℕ → ℕ
  name x = get_or s.names x 0

  pub clears_each_node : {M : Type 0} (IsCall : ℕ → M → M → Type 0) (m k : M)
      → ClearsPlaceMarksOnce IsCall s.names (λ x. IsLinkHead s x × place.IsAffectedLinkPlace s head x) m k
      → ClearsEachMarkOnce IsCall (IsAffectedLinkNode old key) m k
  clears_each_node IsCall m k calls = record {
    nodes = map name calls.places;
    apart = link_places_apart_after_map name calls.places
        (λ x y i j same. let a = links.head_of_name x ((calls.marks_affected x).0 i).0 in
        let b = links.head_of_name y ((calls.marks_affected y).0 j).0 in
        sym a.1 ∙ (ap (λ z. get_or nodes z 0) same ∙ b.1))
        calls.apart;
    marks_affected = λ x. (λ i. named_affected x (contains_origin name x calls.places i), λ f. affected_named x f);
    clears_by_calls = calls.clears_by_calls;
  }
    where
      named_affected : (x : ℕ) → ((p : ℕ) × Contains calls.places p × (name p ≡ x)) → IsAffectedLinkNode old key x
      named_affected x (p, i, same) = subst (λ z. IsAffectedLinkNode old key z) same
          (affected_up s e nodes links key p there
          (subst (λ z. place.IsAffectedLinkPlace s z p) is_head ((calls.marks_affected p).0 i).1))

      affected_named : (x : ℕ) → IsAffectedLinkNode old key x → Contains (map name calls.places) x
      affected_named x f = let h = affected_there s e nodes links key x there f in
          subst (λ z. Contains (map name calls.places) z) h.1
          (map_member name calls.places (get_or nodes x 0) ((calls.marks_affected (get_or nodes x 0)).1 (
            h.0,
            subst (λ z. place.IsAffectedLinkPlace s z (get_or nodes x 0)) (sym is_head)
                (affected_down s e nodes links key x f),
          )))
