-- The edges at the first places.
use Rattle.std.proofs.Common.{◌≡◌, ◌⊎◌, ℕ, zero, suc, ◌+◌, ◌<◌, nat_eq, [], ◌∷◌, ◌++◌}
use Rattle.std.proofs.Common.{get_or, refl, sym, ◌∙◌, ap, arith, inl, inr}
use Rattle.std.proofs.lemmas.Bool.{cases_eq, cond-true, cond-false, eq-eqb, ne_eqb, or_from, or_left, or_right}
use Rattle.std.specs.Prelude.{◌||◌}
use Rattle.edge_links.specs.Edges.{link_edge, link_edge_count}
use Rattle.edge_links.specs.Owners.{LinkOwners}
use Rattle.edge_links.specs.PlaceView.{link_edge_at, link_edges_below}
use Rattle.edge_links.proofs.EdgeCounts.{link_edge_count_appends}

-- the head of the user of a place
abbrev pub user : LinkOwners → ℕ → ℕ
user s p = get_or s.users p 0

-- the head of the key of a place
abbrev pub key_of : LinkOwners → ℕ → ℕ
key_of s p = get_or s.keys p 0

-- a head is not an edge
pub head_is_no_link_edge : (s : LinkOwners) (p : ℕ) → user s p ≡ p → link_edge_at s p ≡ []
head_is_no_link_edge s p e = cond-true (nat_eq (user s p) p || nat_eq (user s p) 0) _ _
    (or_left _ _ (eq-eqb (user s p) p e))

-- a free place is not an edge
pub free_place_is_no_link_edge : (s : LinkOwners) (p : ℕ) → user s p ≡ 0 → link_edge_at s p ≡ []
free_place_is_no_link_edge s p e = cond-true (nat_eq (user s p) p || nat_eq (user s p) 0) _ _
    (or_right _ _ (eq-eqb (user s p) 0 e))

-- a place whose user is neither itself nor place 0 is an edge
pub owned_place_is_link_edge : (s : LinkOwners) (p : ℕ) → (user s p ≡ p → ⊥) → (user s p ≡ 0 → ⊥)
    → link_edge_at s p ≡ link_edge (get_or s.names (user s p) 0) (get_or s.names (key_of s p) 0) ∷ []
owned_place_is_link_edge s p a b =
    cond-false (nat_eq (user s p) p || nat_eq (user s p) 0) _ _
    (or_from _ _ (ne_eqb (user s p) p a) (ne_eqb (user s p) 0 b))

-- each place is an edge or is not
pub place_is_link_edge_or_not : (s : LinkOwners) (p : ℕ) → ((user s p ≡ p) ⊎ (user s p ≡ 0)) ⊎
    ((user s p ≡ p → ⊥) × (user s p ≡ 0 → ⊥))
place_is_link_edge_or_not s p = elim (cases_eq (user s p) p) [
  | inl e ↦ inl (inl e)
  | inr a ↦ elim (cases_eq (user s p) 0) [ inl e ↦ inl (inr e) | inr b ↦ inr (a, b) ]
]

-- a head or a free place is not an edge
pub head_or_free_is_no_link_edge : (s : LinkOwners) (p : ℕ) → (user s p ≡ p) ⊎ (user s p ≡ 0) → link_edge_at s p ≡ []
head_or_free_is_no_link_edge s p h =
    elim h [ inl e ↦ head_is_no_link_edge s p e | inr e ↦ free_place_is_no_link_edge s p e ]

-- equal owners and names give equal edges
pub same_owners_give_same_link_edge : (s t : LinkOwners) (p : ℕ) → user t p ≡ user s p → key_of t p ≡ key_of s p
    → get_or t.names (user s p) 0 ≡ get_or s.names (user s p) 0
    → get_or t.names (key_of s p) 0 ≡ get_or s.names (key_of s p) 0
    → link_edge_at t p ≡ link_edge_at s p
same_owners_give_same_link_edge s t p u k nu nk = elim (place_is_link_edge_or_not s p) [
  | inl h ↦ head_or_free_is_no_link_edge t p (elim h [ inl e ↦ inl (u ∙ e) | inr e ↦ inr (u ∙ e) ])
      ∙ sym (head_or_free_is_no_link_edge s p h)
  | inr h ↦
      owned_place_is_link_edge t p (λ e. h.0 (sym u ∙ e)) (λ e. h.1 (sym u ∙ e))
      ∙ (ap (λ x. link_edge x (get_or t.names (key_of t p) 0) ∷ []) (ap (λ x. get_or t.names x 0) u ∙ nu)
      ∙ (ap (λ x. link_edge (get_or s.names (user s p) 0) x ∷ []) (ap (λ x. get_or t.names x 0) k ∙ nk)
      ∙ sym (owned_place_is_link_edge s p h.0 h.1)))
]

-- if all places below n have equal edges, the lists of edges are equal
pub same_link_edges_below : (s t : LinkOwners) (n : ℕ) → ((p : ℕ) → p < n → link_edge_at t p ≡ link_edge_at s p)
    → link_edges_below t n ≡ link_edges_below s n
same_link_edges_below s t zero h = refl
same_link_edges_below s t (suc n) h =
    ap (λ es. es ++ link_edges_below t n) (h n (omega arith))
    ∙ ap (λ es. link_edge_at s n ++ es) (same_link_edges_below s t n (λ p l. h p (omega arith)))

-- if the counts at all places are equal, so are their sums
pub same_link_counts_have_same_sum : (s t : LinkOwners) (x y n : ℕ)
    → ((p : ℕ) → p < n → link_edge_count (link_edge_at t p) x y ≡ link_edge_count (link_edge_at s p) x y)
    → link_edge_count (link_edges_below t n) x y ≡ link_edge_count (link_edges_below s n) x y
same_link_counts_have_same_sum s t x y zero h = refl
same_link_counts_have_same_sum s t x y (suc n) h =
    sums _ _ _ _ _ _ (link_edge_count_appends (link_edge_at t n) (link_edges_below t n) x y)
    (link_edge_count_appends (link_edge_at s n) (link_edges_below s n) x y) (h n (omega arith))
    (same_link_counts_have_same_sum s t x y n (λ p l. h p (omega arith)))
  where
    sums : (a b d e f g : ℕ) → a ≡ b + d → e ≡ f + g → b ≡ f → d ≡ g → a ≡ e
    sums a b d e f g h i j k = omega arith

-- if no place is an edge between two nodes, there is no such edge
pub no_link_place_means_no_edge : (s : LinkOwners) (x y n : ℕ)
    → ((p : ℕ) → p < n → link_edge_count (link_edge_at s p) x y ≡ 0)
    → link_edge_count (link_edges_below s n) x y ≡ 0
no_link_place_means_no_edge s x y zero h = refl
no_link_place_means_no_edge s x y (suc n) h =
    sums _ _ _ (link_edge_count_appends (link_edge_at s n) (link_edges_below s n) x y) (h n (omega arith))
    (no_link_place_means_no_edge s x y n (λ p l. h p (omega arith)))
  where
    sums : (a b d : ℕ) → a ≡ b + d → b ≡ 0 → d ≡ 0 → a ≡ 0
    sums a b d h i j = omega arith

-- a change at one place changes the count by that of the place
pub one_link_place_changes_count : (s t : LinkOwners) (x y q n : ℕ) → q < n
    → ((p : ℕ) → (p ≡ q → ⊥) → link_edge_at t p ≡ link_edge_at s p)
    → link_edge_count (link_edges_below t n) x y + link_edge_count (link_edge_at s q) x y
    ≡ link_edge_count (link_edges_below s n) x y + link_edge_count (link_edge_at t q) x y
one_link_place_changes_count s t x y q zero l h = absurd (omega arith)
one_link_place_changes_count s t x y q (suc n) l h = elim (cases_eq n q) [
  | inl e ↦ here _ _ _ _ _ _ _ _ (link_edge_count_appends (link_edge_at t n) (link_edges_below t n) x y)
      (link_edge_count_appends (link_edge_at s n) (link_edges_below s n) x y)
      (ap (λ es. link_edge_count es x y) (same_link_edges_below s t n (λ p m. h p (omega arith))))
      (ap (λ p. link_edge_count (link_edge_at t p) x y) e)
      (ap (λ p. link_edge_count (link_edge_at s p) x y) e)
  | inr ne ↦ below _ _ _ _ _ _ _ _ (link_edge_count_appends (link_edge_at t n) (link_edges_below t n) x y)
      (link_edge_count_appends (link_edge_at s n) (link_edges_below s n) x y)
      (ap (λ es. link_edge_count es x y) (h n ne)) (one_link_place_changes_count s t x y q n (omega arith) h)
]
  where
    here : (a b d e f g i j : ℕ) → a ≡ b + d → e ≡ f + g → d ≡ g → b ≡ i → f ≡ j → a + j ≡ e + i
    here a b d e f g i j k l m n o = omega arith

    below : (a b d e f g i j : ℕ) → a ≡ b + d → e ≡ f + g → b ≡ f → d + j ≡ g + i → a + j ≡ e + i
    below a b d e f g i j k l m n = omega arith
