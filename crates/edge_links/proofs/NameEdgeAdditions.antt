-- Edges that are added between nodes, as edges between names.
use Rattle.std.proofs.Common.{◌≡◌, ℕ, ◌+◌, ◌*◌, ◌/◌, ◌%◌, ◌<◌, cond, nat_eq, List, [], ◌∷◌, ◌++◌, map, refl, sym, ◌∙◌}
use Rattle.std.proofs.Common.{ap, inl, inr, arith}
use Rattle.std.proofs.lemmas.Bool.{cases_eq, eq-eqb, ne_eqb}
use Rattle.std.specs.Prelude.{◌&&◌}
use Rattle.std.proofs.lemmas.Nat.{div-add-mod'}
use Rattle.edge_links.specs.Edges.{LinkEdge, link_edge, link_edge_count, AreSameLinkEdges}
use Rattle.edge_links.specs.NameNodes.{edge_to, edges_to}
use Rattle.edge_links.proofs.EdgeCounts.{link_edge_count_appends}
use Rattle.edge_links.proofs.LinkedNameEdges.{edge_count_from_other_user, edge_count_to_other_key}
use Rattle.edge_links.proofs.NameNodes.{edges_between_names_and_nodes}

-- the second node of a name is in range
pub second_edge_node_is_in_range : (k nodes : ℕ) → k < nodes / 2 → k * 2 + 1 < nodes
second_edge_node_is_in_range k nodes l = let e : nodes / 2 * 2 + nodes % 2 ≡ nodes = div-add-mod' nodes 2 in
    omega (arith, l, e)

-- two counts of 0 add up to 0
none_sum : (a b : ℕ) → a ≡ 0 → b ≡ 0 → a + b ≡ 0
none_sum a b e f = omega (arith, e, f)

-- edges from one user are not edges from another
edges_from_other_user : (r user : ℕ) (keys : List ℕ) (x y : ℕ) → (user ≡ x → ⊥)
    → link_edge_count (map (edge_to r user) keys) x y ≡ 0
edges_from_other_user r user [] x y ne = refl
edges_from_other_user r user (k ∷ keys) x y ne =
    none_sum _ _ (edge_count_from_other_user user (k * 2 + r) x y ne) (edges_from_other_user r user keys x y ne)

-- edges to nodes of one kind are not edges to a node of the other kind
edges_to_other_node_kind : (r s user : ℕ) (keys : List ℕ) (x k : ℕ) → ((j : ℕ) → j * 2 + r ≡ k * 2 + s → ⊥)
    → link_edge_count (map (edge_to r user) keys) x (k * 2 + s) ≡ 0
edges_to_other_node_kind r s user [] x k ne = refl
edges_to_other_node_kind r s user (j ∷ keys) x k ne =
    none_sum _ _ (edge_count_to_other_key user (j * 2 + r) x (k * 2 + s) (ne j))
    (edges_to_other_node_kind r s user keys x k ne)

-- names are equal exactly if their first nodes are equal
same_edge_users_are_same_names : (u x : ℕ) → nat_eq (u * 2) (x * 2) ≡ nat_eq u x
same_edge_users_are_same_names u x = elim (cases_eq u x) [
  | inl e ↦ eq-eqb (u * 2) (x * 2) (ap (λ z. z * 2) e) ∙ sym (eq-eqb u x e)
  | inr ne ↦ ne_eqb (u * 2) (x * 2) (λ e. ne (omega (arith, e))) ∙ sym (ne_eqb u x ne)
]

-- names are equal exactly if their nodes of the same kind are equal
same_edge_keys_are_same_names : (r j k : ℕ) → nat_eq (j * 2 + r) (k * 2 + r) ≡ nat_eq j k
same_edge_keys_are_same_names r j k = elim (cases_eq j k) [
  | inl e ↦ eq-eqb (j * 2 + r) (k * 2 + r) (ap (λ z. z * 2 + r) e) ∙ sym (eq-eqb j k e)
  | inr ne ↦ ne_eqb (j * 2 + r) (k * 2 + r) (λ e. ne (omega (arith, e))) ∙ sym (ne_eqb j k ne)
]

-- each edge occurs as often between nodes as between their names
edge_count_is_that_of_names : (r user : ℕ) (keys : List ℕ) (x k : ℕ)
    → link_edge_count (map (edge_to r (user * 2)) keys) (x * 2) (k * 2 + r) ≡ link_edge_count
    (map (link_edge user) keys) x k
edge_count_is_that_of_names r user [] x k = refl
edge_count_is_that_of_names r user (j ∷ keys) x k =
    λ i. cond (same_edge_users_are_same_names user x i && same_edge_keys_are_same_names r j k i) 1 0
    + edge_count_is_that_of_names r user keys x k i

-- no second node is a first node
second_edge_node_is_not_first : (j k : ℕ) → j * 2 + 1 ≡ k * 2 + 0 → ⊥
second_edge_node_is_not_first j k e = omega (arith, e)

-- no first node, with remainder 0, is a second node
first_edge_node_is_not_second : (j k : ℕ) → j * 2 + 0 ≡ k * 2 + 1 → ⊥
first_edge_node_is_not_second j k e = omega (arith, e)

-- no first node is a second node
no_first_edge_node_is_second : (j k : ℕ) → j * 2 ≡ k * 2 + 1 → ⊥
no_first_edge_node_is_second j k e = omega (arith, e)

-- the first nodes of the used names are linked, and then the second nodes of the keys that were looked at
module _ (user : ℕ) (used looked : List ℕ) (old mid new : List LinkEdge)
    (first : AreSameLinkEdges mid (map (edge_to 0 (user * 2)) used ++ old))
    (second : AreSameLinkEdges new (map (edge_to 1 (user * 2)) looked ++ mid)) where
  sum : (x y : ℕ) → link_edge_count new x y ≡ link_edge_count (map (edge_to 1 (user * 2)) looked) x y
      + (link_edge_count (map (edge_to 0 (user * 2)) used) x y + link_edge_count old x y)
  sum x y =
      second x y
      ∙ (link_edge_count_appends (map (edge_to 1 (user * 2)) looked) mid x y
      ∙ ap (λ n. link_edge_count (map (edge_to 1 (user * 2)) looked) x y + n)
      (first x y ∙ link_edge_count_appends (map (edge_to 0 (user * 2)) used) old x y))

  pub no_second_user : ((x y : ℕ) → link_edge_count old (x * 2 + 1) y ≡ 0) → (x y : ℕ)
      → link_edge_count new (x * 2 + 1) y ≡ 0
  no_second_user was x y =
      sum (x * 2 + 1) y
      ∙ none_sum _ _ (edges_from_other_user 1 (user * 2) looked (x * 2 + 1) y (no_first_edge_node_is_second user x))
      (none_sum _ _ (edges_from_other_user 0 (user * 2) used (x * 2 + 1) y (no_first_edge_node_is_second user x))
      (was x y))

  pub uses_added : AreSameLinkEdges (edges_to 0 new) (map (link_edge user) used ++ edges_to 0 old)
  uses_added u k =
      sums _ _ _ _ _ _ (edges_between_names_and_nodes 0 (omega arith) new u k ∙ sum (u * 2) (k * 2 + 0))
      (edges_to_other_node_kind 1 0 (user * 2) looked (u * 2) k (λ j. second_edge_node_is_not_first j k))
      (edge_count_is_that_of_names 0 user used u k)
      (sym (edges_between_names_and_nodes 0 (omega arith) old u k))
      (link_edge_count_appends (map (link_edge user) used) (edges_to 0 old) u k)
    where
      sums : (a b d f g h : ℕ) {p : ℕ} → a ≡ b + (d + f) → b ≡ 0 → d ≡ g → f ≡ h → p ≡ g + h → a ≡ p
      sums a b d f g h e i j l m = omega (arith, e, i, j, l, m)

  pub looks_added : AreSameLinkEdges (edges_to 1 new) (map (link_edge user) looked ++ edges_to 1 old)
  looks_added u k =
      sums _ _ _ _ _ _ (edges_between_names_and_nodes 1 (omega arith) new u k ∙ sum (u * 2) (k * 2 + 1))
      (edge_count_is_that_of_names 1 user looked u k)
      (edges_to_other_node_kind 0 1 (user * 2) used (u * 2) k (λ j. first_edge_node_is_not_second j k))
      (sym (edges_between_names_and_nodes 1 (omega arith) old u k))
      (link_edge_count_appends (map (link_edge user) looked) (edges_to 1 old) u k)
    where
      sums : (a b d f g h : ℕ) {p : ℕ} → a ≡ b + (d + f) → b ≡ g → d ≡ 0 → f ≡ h → p ≡ g + h → a ≡ p
      sums a b d f g h e i j l m = omega (arith, e, i, j, l, m)
