-- The users of the edges to a key.
use Rattle.std.proofs.Common.{◌≡◌, ℕ, zero, suc, ◌+◌, ◌<◌, ◌≤◌, cond, nat_eq, List, [], ◌∷◌, ◌++◌, length, get_or}
use Rattle.std.proofs.Common.{refl, sym, ◌∙◌, ap, subst, arith, inl, inr}
use Rattle.std.proofs.lemmas.Bool.{cases_eq, cond-true, cond-false, eq-eqb, ne_eqb}
use Rattle.edge_links.specs.Edges.{link_edge, link_edge_count}
use Rattle.edge_links.specs.Owners.{LinkOwners, AreLinkEdges, IsLinkHead}
use Rattle.edge_links.specs.Rings.{AreLinkRingMembers}
use Rattle.edge_links.specs.PlaceView.{link_edge_at, link_edges_below, AreLinks}
use Rattle.edge_links.specs.Times.{times}
use Rattle.edge_links.specs.Into.{AreLinkUsers}
use Rattle.edge_links.proofs.OwnedCounts.{appended_link_place_is_owned}
use Rattle.edge_links.proofs.EdgeCounts.{counted_link_edge_is_between, link_edge_count_appends}
use Rattle.edge_links.proofs.EdgeCounts.{link_edge_count_of_other_user, link_edge_counts_itself_once}
use Rattle.edge_links.proofs.FirstEdges.{user, key_of, place_is_link_edge_or_not, head_or_free_is_no_link_edge}
use Rattle.edge_links.proofs.FirstEdges.{owned_place_is_link_edge}
use Rattle.edge_links.proofs.PlacePaths.{key_head}
use Rattle.edge_links.proofs.WeightedSums.{summed, weighed, weighed_summed, many}

-- 1 if the user of a place has this name, and 0 otherwise
abbrev pub has_user : LinkOwners → ℕ → ℕ → ℕ
has_user s x p = cond (nat_eq (get_or s.names (user s p) 0) x) 1 0

-- the sum over a list with one more item is the sum plus that of the item
pub summed_end : (f : ℕ → ℕ) (xs : List ℕ) (y : ℕ) → summed f (xs ++ y ∷ []) ≡ summed f xs + f y
summed_end f [] y = omega arith
summed_end f (x ∷ xs) y = omega (arith, summed_end f xs y)

-- one more user is appended
pub link_user_is_appended : (s : LinkOwners) (users more seen : List ℕ) (place name x : ℕ)
    → name ≡ get_or s.names (user s place) 0
    → more ≡ users ++ name ∷ []
    → times x users ≡ summed (has_user s x) seen → times x more ≡ summed (has_user s x) (seen ++ place ∷ [])
link_user_is_appended s users more seen place name x n e h =
    sums _ _ _ _ _ (ap (times x) e) (appended_link_place_is_owned x users name) (ap (λ k. cond (nat_eq k x) 1 0) n)
    (summed_end (has_user s x) seen place) h
  where
    sums : (a b d f i : ℕ) → {j k : ℕ} → a ≡ b → b ≡ d + j → j ≡ k → i ≡ f + k → d ≡ f → a ≡ i
    sums a b d f i h j k l m = omega arith

-- each item of a list occurs in it
pub stands_in : (xs : List ℕ) (i : ℕ) → i < length xs → 0 < times (get_or xs i 0) xs
stands_in [] i l = absurd (omega arith)
stands_in (x ∷ xs) zero l = pos _ _ (cond-true (nat_eq x x) 1 0 (eq-eqb x x refl))
  where
    pos : (a b : ℕ) → a ≡ 1 → 0 < a + b
    pos a b e = omega arith
stands_in (x ∷ xs) (suc i) l = omega (arith, stands_in xs i (omega arith))

module _ (s : LinkOwners) (e : AreLinkEdges s.users s.keys) (nodes : List ℕ) (links : AreLinks s nodes) (key : ℕ)
    (there : key < length nodes)
    (places : List ℕ) (members : AreLinkRingMembers s.keys (get_or nodes key 0) places) where
  abbrev head : ℕ
  head = get_or nodes key 0

  is_head : IsLinkHead s head
  is_head = (links.places key there).0

  one_more : (t : ℕ) → t ≡ 1 → (v : ℕ) → many t v ≡ v
  one_more zero h v = cc
  one_more (suc zero) h v = omega arith
  one_more (suc (suc t)) h v = cc

  none : (t : ℕ) → t ≡ 0 → (v : ℕ) → many t v ≡ 0
  none zero h v = refl
  none (suc t) h v = cc

  -- the edge at a place is counted as often as the place occurs in the list
  at_place : (x p : ℕ) → p < length s.users → link_edge_count (link_edge_at s p) x key ≡ many (times p places)
      (has_user s x p)
  at_place x p l = elim (cases_eq (key_of s p) head) [
    | inl q ↦ elim (cases_eq p head) [
      | inl h ↦ ap (λ es. link_edge_count es x key)
          (head_or_free_is_no_link_edge s p (inl (subst (λ y. user s y ≡ y) (sym h) is_head.1))) ∙ sym
          (none (times p places) (not_head h) (has_user s x p))
      | inr ne ↦
          let no_free : user s p ≡ 0 → ⊥ = λ z. is_head.2 (sym q ∙ (e.free p l).0 z) in
          let no_own : user s p ≡ p → ⊥ = λ z. ne (sym ((e.heads p l).0 z) ∙ q) in
          let named : get_or s.names (key_of s p) 0 ≡ key = ap (λ y. get_or s.names y 0) q
          ∙ (links.places key there).1 in
          ap (λ es. link_edge_count es x key) (owned_place_is_link_edge s p no_own no_free)
          ∙ (of_user (get_or s.names (user s p) 0) (get_or s.names (key_of s p) 0) x named
          ∙ sym (one_more (times p places) (members.once p (let z = e.keys_size in omega arith) q ne) (has_user s x p)))
    ]
    | inr ne ↦ elim (place_is_link_edge_or_not s p) [
      | inl h ↦ ap (λ es. link_edge_count es x key) (head_or_free_is_no_link_edge s p h)
          ∙ sym (none (times p places) (not_owned ne) (has_user s x p))
      | inr h ↦ ap (λ es. link_edge_count es x key) (owned_place_is_link_edge s p h.0 h.1) ∙ (zero_if _ (λ m.
          let f = counted_link_edge_is_between (get_or s.names (user s p) 0) (get_or s.names (key_of s p) 0) x key m in
          ne (sym (links.head_of_name (key_of s p) (key_head s e nodes links p l h.1)).1
          ∙ ap (λ y. get_or nodes y 0) f.1))
          ∙ sym (none (times p places) (not_owned ne) (has_user s x p)))
    ]
  ]
    where
      zero_if : (k : ℕ) → (0 < k → ⊥) → k ≡ 0
      zero_if zero f = refl
      zero_if (suc k) f = absurd (f (omega arith))

      not_head : p ≡ head → times p places ≡ 0
      not_head h = zero_if _ (λ m. (members.members_owned p m).2 h)

      not_owned : (key_of s p ≡ head → ⊥) → times p places ≡ 0
      not_owned f = zero_if _ (λ m. f (members.members_owned p m).1)

      of_user : (a b y : ℕ) → b ≡ key → link_edge_count (link_edge a b ∷ []) y key ≡ cond (nat_eq a y) 1 0
      of_user a b y q = elim (cases_eq a y) [
        | inl h ↦ subst (λ z. link_edge_count (link_edge a b ∷ []) z key ≡ cond (nat_eq a z) 1 0) h
            (subst (λ z. link_edge_count (link_edge a b ∷ []) a z ≡ cond (nat_eq a a) 1 0) q
            (link_edge_counts_itself_once a b ∙ sym (cond-true (nat_eq a a) 1 0 (eq-eqb a a refl))))
        | inr f ↦ link_edge_count_of_other_user a b y key f ∙ sym (cond-false (nat_eq a y) 1 0 (ne_eqb a y f))
      ]

  below : (x m : ℕ) → m ≤ length s.users → link_edge_count (link_edges_below s m) x key ≡ weighed (has_user s x) places
      m
  below x zero l = refl
  below x (suc m) l = link_edge_count_appends (link_edge_at s m) (link_edges_below s m) x key
      ∙ sums _ _ _ _ (at_place x m (omega arith)) (below x m (omega arith))
    where
      sums : (a b d f : ℕ) → a ≡ d → b ≡ f → a + b ≡ d + f
      sums a b d f h i = omega arith

  pub member_there : (p : ℕ) → 0 < times p places → p < length s.users
  member_there p l = let a = (members.members_owned p l).0 in let b = e.keys_size in omega arith

  pub are_users : (users : List ℕ) → ((x : ℕ) → times x users ≡ summed (has_user s x) places)
      → AreLinkUsers (link_edges_below s (length s.users)) key users
  are_users users h x = h x ∙ (sym (weighed_summed (has_user s x) places (length s.users) member_there) ∙ sym
      (below x (length s.users) (omega arith)))
