-- Edges of one user, counted.
use Rattle.std.proofs.Common.{◌≡◌, ◌⊎◌, ℕ, ◌+◌, ◌<◌, ◌≤◌, List, [], ◌∷◌, ◌++◌, map, Contains, refl, sym, ◌∙◌, ap, subst}
use Rattle.std.proofs.Common.{inl, inr, arith, cond, nat_eq, get_or, length, zero, suc, take}
use Rattle.std.proofs.lemmas.Bool.{cases_eq, cond-true, cond-false, eq-eqb, ne_eqb, and_from, and_left, and_right}
use Rattle.std.proofs.lemmas.List.{take_all, map_push}
use Rattle.std.specs.Prelude.{◌&&◌}
use Rattle.edge_links.specs.Edges.{LinkEdge, link_edge, link_edge_count, AreSameLinkEdges}
use Rattle.edge_links.specs.Reach.{HasLinkEdge}
use Rattle.edge_links.proofs.EdgeCounts.{link_edge_count_appends}
use Rattle.edge_links.specs.NameNodes.{edge_to}
use Rattle.general_lemmas.proofs.Members.{no_member, member_first, member_later, member_cases}

-- 1 if the edge from a to b is that from x to y, or else 0
abbrev pub one_count : ℕ → ℕ → ℕ → ℕ → ℕ
one_count a b x y = cond (nat_eq a x && nat_eq b y) 1 0

-- an edge is counted once between its own nodes
pub edge_counts_itself_once : (a b x y : ℕ) → a ≡ x → b ≡ y → one_count a b x y ≡ 1
edge_counts_itself_once a b x y e f = cond-true (nat_eq a x && nat_eq b y) 1 0
    (and_from _ _ (eq-eqb a x e) (eq-eqb b y f))

-- an edge is not counted from another user
pub edge_count_from_other_user : (a b x y : ℕ) → (a ≡ x → ⊥) → one_count a b x y ≡ 0
edge_count_from_other_user a b x y ne = cond-false (nat_eq a x && nat_eq b y) 1 0 (and_left _ _ (ne_eqb a x ne))

-- an edge is not counted to another key
pub edge_count_to_other_key : (a b x y : ℕ) → (b ≡ y → ⊥) → one_count a b x y ≡ 0
edge_count_to_other_key a b x y ne = cond-false (nat_eq a x && nat_eq b y) 1 0 (and_right _ _ (ne_eqb b y ne))

-- the edges of a user to some keys lead from the user and to these keys
edges_from : (user : ℕ) (keys : List ℕ) (x y : ℕ) → HasLinkEdge (map (link_edge user) keys) x y
    → (x ≡ user) × Contains keys y
edges_from user [] x y h = absurd (omega (arith, h))
edges_from user (k ∷ keys) x y h = elim (cases_eq (one_count user k x y) 0) [
  | inl z ↦
      let r = edges_from user keys x y (rest _ _ z h) in (r.0, member_later y k keys r.1)
  | inr some ↦ elim (cases_eq user x) [
    | inr ne ↦ absurd (some (edge_count_from_other_user user k x y ne))
    | inl e ↦ elim (cases_eq k y) [
      | inr ne ↦ absurd (some (edge_count_to_other_key user k x y ne))
      | inl f ↦ (sym e, member_first y k keys (sym f))
    ]
  ]
]
  where
    rest : (a b : ℕ) → a ≡ 0 → 0 < a + b → 0 < b
    rest a b e l = omega (arith, e, l)

-- there is an edge to each of the keys
edge_to_each_key : (user : ℕ) (keys : List ℕ) (y : ℕ) → Contains keys y → HasLinkEdge (map (link_edge user) keys) user y
edge_to_each_key user [] y i = absurd (no_member y i)
edge_to_each_key user (k ∷ keys) y i = elim (member_cases y k keys i) [
  | inl e ↦ some _ _ (edge_counts_itself_once user k user y refl (sym e))
  | inr j ↦ more _ _ (edge_to_each_key user keys y j)
]
  where
    some : (a b : ℕ) → a ≡ 1 → 0 < a + b
    some a b e = omega (arith, e)

    more : (a b : ℕ) → 0 < b → 0 < a + b
    more a b l = omega (arith, l)

module _ (user : ℕ) (keys : List ℕ) (old new : List LinkEdge)
    (same : AreSameLinkEdges new (map (link_edge user) keys ++ old))
    (x y : ℕ) where
  sum : link_edge_count new x y ≡ link_edge_count (map (link_edge user) keys) x y + link_edge_count old x y
  sum = same x y ∙ link_edge_count_appends (map (link_edge user) keys) old x y

  pub linked_from : HasLinkEdge new x y → ((x ≡ user) × Contains keys y) ⊎ HasLinkEdge old x y
  linked_from h = elim (cases_eq (link_edge_count (map (link_edge user) keys) x y) 0) [
    | inl z ↦ inr (let s = sum in omega (arith, h, z, s))
    | inr some ↦ inl (edges_from user keys x y (omega (arith, some)))
  ]

  pub linked_to : ((x ≡ user) × Contains keys y) ⊎ HasLinkEdge old x y → HasLinkEdge new x y
  linked_to (inl (e, i)) =
      let h : HasLinkEdge (map (link_edge user) keys) x y = subst (λ z. HasLinkEdge (map (link_edge user) keys) z y)
      (sym e)
      (edge_to_each_key user keys y i) in
      let s = sum in omega (arith, h, s)
  linked_to (inr h) = let s = sum in omega (arith, h, s)

-- ---- one key after another
item_at : (keys : List ℕ) (n : ℕ) → n < length keys → get_or keys n (get_or keys n 0) ≡ get_or keys n 0
item_at [] n l = absurd (omega (arith, l))
item_at (x ∷ keys) zero l = refl
item_at (x ∷ keys) (suc n) l = item_at keys n (omega (arith, l))

-- taking one more place appends the item at that place
take_next : (keys : List ℕ) (n k : ℕ) → n < length keys → get_or keys n k ≡ k
    → take (n + 1) keys ≡ take n keys ++ k ∷ []
take_next [] n k l e = absurd (omega (arith, l))
take_next (x ∷ keys) zero k l e = ap (λ z. z ∷ []) e
take_next (x ∷ keys) (suc n) k l e =
    ap (λ m. take m (x ∷ keys)) (one_later n) ∙ ap (λ ks. x ∷ ks) (take_next keys n k (omega (arith, l)) e)
  where
    one_later : (n : ℕ) → suc n + 1 ≡ suc (n + 1)
    one_later n = omega arith

-- if edges to the first n keys are added, and then an edge to the next key, then edges to the first n + 1 keys are
-- added
pub one_more_edge_is_added : (r user : ℕ) (keys : List ℕ) (n : ℕ) → n < length keys → (old before now : List LinkEdge)
    (x y : ℕ)
    → link_edge_count before x y ≡ link_edge_count (map (edge_to r user) (take n keys)) x y + link_edge_count old x y
    → link_edge_count now x y ≡ link_edge_count (edge_to r user (get_or keys n 0) ∷ before) x y
    → link_edge_count now x y ≡ link_edge_count (map (edge_to r user) (take (n + 1) keys)) x y + link_edge_count old x y
one_more_edge_is_added r user keys n l old before now x y was is =
    sums _ _ _ _ _ _ is was
    (ap (λ es. link_edge_count es x y)
    (ap (map (edge_to r user)) (take_next keys n (get_or keys n 0) l (item_at keys n l))
    ∙ map_push (edge_to r user) (take n keys) (get_or keys n 0))
    ∙ link_edge_count_appends (map (edge_to r user) (take n keys)) (edge_to r user (get_or keys n 0) ∷ []) x y)
  where
    sums : (a b d f g h : ℕ) → a ≡ b + d → d ≡ f + g → h ≡ f + (b + 0) → a ≡ h + g
    sums a b d f g h i j k = omega (arith, i, j, k)

-- if edges to the first n keys were added and there are at most n keys, then edges to all keys were added
pub all_edges_are_added : (r user : ℕ) (keys : List ℕ) (n : ℕ) → length keys ≤ n → (old now : List LinkEdge) (x y : ℕ)
    → link_edge_count now x y ≡ link_edge_count (map (edge_to r user) (take n keys)) x y + link_edge_count old x y
    → link_edge_count now x y ≡ link_edge_count (map (edge_to r user) keys ++ old) x y
all_edges_are_added r user keys n end old now x y is =
    is ∙ (ap (λ ks. link_edge_count (map (edge_to r user) ks) x y + link_edge_count old x y) (take_all n keys end)
    ∙ sym (link_edge_count_appends (map (edge_to r user) keys) old x y))
