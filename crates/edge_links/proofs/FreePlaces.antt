-- A free place that becomes an edge, and heads that do not change.
use Rattle.std.proofs.Common.{◌≡◌, ℕ, ◌+◌, ◌<◌, false, List, [], ◌∷◌, length, get_or, refl, sym, ◌∙◌, ap}
use Rattle.std.proofs.Common.{subst, arith, inl, inr, get_or-set_same, get_or-set_other, length-set}
use Rattle.std.proofs.lemmas.Bool.{cases_eq}
use Rattle.edge_links.specs.Edges.{link_edge, link_edge_count}
use Rattle.edge_links.specs.Changes.{IsLinkPlaceFilled, link_owners_with_both}
use Rattle.edge_links.specs.Owners.{LinkOwners, AreLinkEdges, IsLinkHead}
use Rattle.edge_links.specs.PlaceView.{link_edge_at, link_edges_below, AreLinks}
use Rattle.edge_links.proofs.FirstEdges.{user, key_of, free_place_is_no_link_edge, one_link_place_changes_count}
use Rattle.edge_links.proofs.FirstEdges.{owned_place_is_link_edge, same_owners_give_same_link_edge}

-- if the heads and the names do not change, the nodes are still linked to their places
pub same_heads_keep_links : (s t : LinkOwners) (nodes : List ℕ) → length t.users ≡ length s.users → t.names ≡ s.names
    → ((x : ℕ) → IsLinkHead s x → IsLinkHead t x) → ((x : ℕ) → IsLinkHead t x → IsLinkHead s x)
    → ((x : ℕ) → get_or t.waits x false ≡ false) → AreLinks s nodes → AreLinks t nodes
same_heads_keep_links s t nodes size same to from idle links = record {
  size = ap length same ∙ (links.size ∙ sym size);
  places = λ i l. let a =
      links.places i l in (to (get_or nodes i 0) a.0, ap (λ xs. get_or xs (get_or nodes i 0) 0) same ∙ a.1);
  head_of_name = λ x h. subst (λ xs. (get_or xs x 0 < length nodes) × (get_or nodes (get_or xs x 0) 0 ≡ x)) (sym same)
      (links.head_of_name x (from x h));
  idle = idle;
}

-- the places s with the place q filled
module _ (s : LinkOwners) (q u k : ℕ) (l : q < length s.users) (kl : q < length s.keys) (is_free : user s q ≡ 0)
    (nz : q ≡ 0 → ⊥)
    (uq : u ≡ q → ⊥) (unz : u ≡ 0 → ⊥) where
  abbrev pub filled : LinkOwners
  filled = link_owners_with_both s q u k

  other : (p : ℕ) → (p ≡ q → ⊥) → (user filled p ≡ user s p) × (key_of filled p ≡ key_of s p)
  other p ne = (get_or-set_other s.users q p u 0 ne, get_or-set_other s.keys q p k 0 ne)

  here : (user filled q ≡ u) × (key_of filled q ≡ k)
  here = (get_or-set_same s.users q u 0 l, get_or-set_same s.keys q k 0 kl)

  pub filled_size : length filled.users ≡ length s.users
  filled_size = length-set s.users q u

  pub filled_heads : (x : ℕ) → IsLinkHead s x → IsLinkHead filled x
  filled_heads x h = elim (cases_eq x q) [
    | inl e ↦ absurd (nz (sym e ∙ (sym h.1 ∙ (ap (user s) e ∙ is_free))))
    | inr ne ↦ (let a = filled_size in let b = h.0 in omega arith, (other x ne).0 ∙ h.1, h.2)
  ]

  pub heads_filled : (x : ℕ) → IsLinkHead filled x → IsLinkHead s x
  heads_filled x h = elim (cases_eq x q) [
    | inl e ↦ absurd (uq (sym here.0 ∙ (ap (user filled) (sym e) ∙ (h.1 ∙ e))))
    | inr ne ↦ (let a = filled_size in let b = h.0 in omega arith, sym (other x ne).0 ∙ h.1, h.2)
  ]

  pub filled_counts : (a b x y : ℕ) → get_or s.names u 0 ≡ a → get_or s.names k 0 ≡ b
      → link_edge_count (link_edges_below filled (length filled.users)) x y
      ≡ link_edge_count (link_edge a b ∷ link_edges_below s (length s.users)) x y
  filled_counts a b x y na nb =
      let at_s : link_edge_at s q ≡ [] = free_place_is_no_link_edge s q is_free in
      let at_t : link_edge_at filled q ≡ link_edge a b ∷ [] =
      owned_place_is_link_edge filled q (λ e. uq (sym here.0 ∙ e)) (λ e. unz (sym here.0 ∙ e))
      ∙ (ap (λ z. link_edge z (get_or s.names (key_of filled q) 0) ∷ []) (ap (λ z. get_or s.names z 0) here.0 ∙ na)
      ∙ ap (λ z. link_edge a z ∷ [])
      (ap (λ z. get_or s.names z 0) here.1 ∙ nb)) in
      sums _ _ _ _ _ (one_link_place_changes_count s filled x y q (length s.users) l
      (λ p ne. same_owners_give_same_link_edge s filled p (other p ne).0 (other p ne).1 refl refl))
      (ap (λ es. link_edge_count es x y) at_s) (ap (λ es. link_edge_count es x y) at_t)
      (ap (λ n. link_edge_count (link_edges_below filled n) x y) filled_size)
    where
      sums : (f g e t o : ℕ) → f + e ≡ g + t → e ≡ 0 → t ≡ o + 0 → {m : ℕ} → m ≡ f → m ≡ o + g
      sums f g e t o h i j n = omega arith

module _ (s t : LinkOwners) (nodes : List ℕ) (e : AreLinkEdges s.users s.keys) (links : AreLinks s nodes) (a b u k : ℕ)
    (al : a < length nodes)
    (bl : b < length nodes)
    (ru : u ≡ get_or nodes a 0) (rk : k ≡ get_or nodes b 0) (f : IsLinkPlaceFilled s u k t) where
  u_is : IsLinkHead s u × (get_or s.names u 0 ≡ a)
  u_is = subst (λ z. IsLinkHead s z × (get_or s.names z 0 ≡ a)) (sym ru) (links.places a al)

  k_is : IsLinkHead s k × (get_or s.names k 0 ≡ b)
  k_is = subst (λ z. IsLinkHead s z × (get_or s.names z 0 ≡ b)) (sym rk) (links.places b bl)

  key_there : f.place < length s.keys
  key_there = let z = e.keys_size in let y = f.place_within in omega arith

  apart : u ≡ f.place → ⊥
  apart q = u_is.0.2 (sym u_is.0.1 ∙ (ap (user s) q ∙ f.free.1))

  -- the edges are the new one and those before
  pub linked_counts : (x y : ℕ)
      → link_edge_count (link_edges_below t (length t.users)) x y ≡ link_edge_count
      (link_edge a b ∷ link_edges_below s (length s.users)) x y
  linked_counts x y =
      subst (λ (z : LinkOwners). link_edge_count (link_edges_below z (length z.users)) x y
      ≡ link_edge_count (link_edge a b ∷ link_edges_below s (length s.users)) x y)
      (sym f.slot_filled)
      (filled_counts s f.place u k f.place_within key_there f.free.1 f.free.0 apart u_is.0.2 a b x y u_is.1 k_is.1)

  pub linked_links : AreLinks t nodes
  linked_links =
      subst (λ (z : LinkOwners). AreLinks z nodes) (sym f.slot_filled)
      (same_heads_keep_links s (filled s f.place u k f.place_within key_there f.free.1 f.free.0 apart u_is.0.2) nodes
      (filled_size s f.place u k f.place_within key_there f.free.1 f.free.0 apart u_is.0.2) refl
      (filled_heads s f.place u k f.place_within key_there f.free.1 f.free.0 apart u_is.0.2)
      (heads_filled s f.place u k f.place_within key_there f.free.1 f.free.0 apart u_is.0.2) links.idle links)
