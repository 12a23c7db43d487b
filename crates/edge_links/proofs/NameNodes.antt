-- Edges between nodes are edges between names.
use Rattle.std.proofs.Common.{◌≡◌, ◌⊎◌, ℕ, ◌+◌, ◌*◌, ◌/◌, ◌%◌, ◌<◌, Bool, true, false, cond, nat_eq, List, [], ◌∷◌}
use Rattle.std.proofs.Common.{refl, sym, ◌∙◌, ap, subst, inl, inr, arith}
use Rattle.std.proofs.lemmas.Bool.{cases_eq}
use Rattle.std.proofs.Math.Nat.{mod-lt}
use Rattle.std.specs.Prelude.{◌&&◌}
use Rattle.std.proofs.lemmas.Nat.{div-add-mod'}
use Rattle.edge_links.specs.Edges.{LinkEdge, link_edge, link_edge_count, LinkGraph}
use Rattle.edge_links.specs.Reach.{AreMarksCleared, HasLinkEdge, LinkReaches, at_once, further}
use Rattle.edge_links.specs.Reach as node
use Rattle.edge_links.specs.AffectedNames.{AreEdgesCut, ForgetsNameEdges, IsAffectedByEdges, NeedsByEdges}
use Rattle.edge_links.specs.NameGraphs.{NameEdgeGraph}
use Rattle.edge_links.specs.NameNodes.{AreEdgeNodes, edges_to, name_edge_graph}
use Rattle.edge_links.proofs.NameEdgeCuts.{IsBoth, cleared_on, cut_on, reached_before, reached_still}
use Rattle.edge_links.proofs.NodeHalves.{edge_node_by_name_and_kind, kind_of_edge_node, name_of_edge_node}

-- the number of a first node has remainder 0
first_edge_node_has_no_remainder : (n : ℕ) → n * 2 + 0 ≡ n * 2
first_edge_node_has_no_remainder n = omega arith

-- 0 is the unit of addition
none_more : (n : ℕ) → n ≡ 0 + n
none_more n = omega arith

-- by the remainders of both ends (a, c) and by their halves (b, d)
one_edge_by_remainders : (a b c d p q : Bool) (n : ℕ) → p ≡ (a && b) → q ≡ (c && d)
    → (e : LinkEdge) (es : List LinkEdge) (u k : ℕ) → (nat_eq e.user u ≡ b) → (nat_eq e.key k ≡ d)
    → link_edge_count es u k ≡ n
    → link_edge_count (cond (a && c) (e ∷ es) es) u k ≡ cond (p && q) 1 0 + n
one_edge_by_remainders true b true d p q n f g e es u k h i j =
    λ t. cond ((h ∙ sym f) t && (i ∙ sym g) t) 1 0 + j t
one_edge_by_remainders true b false d p q n f g e es u k h i j = j
    ∙ (none_more n ∙ sym (ap (λ z. cond z 1 0 + n) (ap (λ z. p && z) g ∙ none p)))
  where
    none : (p : Bool) → p && false ≡ false
    none true = refl
    none false = refl
one_edge_by_remainders false b c d p q n f g e es u k h i j = j
    ∙ (none_more n ∙ sym (ap (λ z. cond (z && q) 1 0 + n) f))

-- there are as many edges between names as between their nodes
pub edges_between_names_and_nodes : (r : ℕ) → r < 2 → (es : List LinkEdge) (u k : ℕ)
    → link_edge_count (edges_to r es) u k ≡ link_edge_count es (u * 2)
    (k * 2 + r)
edges_between_names_and_nodes r l [] u k = refl
edges_between_names_and_nodes r l (e ∷ es) u k =
    one_edge_by_remainders (nat_eq (e.user % 2) 0) (nat_eq (e.user / 2) u) (nat_eq (e.key % 2) r) (nat_eq (e.key / 2) k)
    (nat_eq e.user (u * 2)) (nat_eq e.key (k * 2 + r)) (link_edge_count es (u * 2) (k * 2 + r))
    (ap (λ z. nat_eq e.user z) (sym (first_edge_node_has_no_remainder u)) ∙ edge_node_by_name_and_kind e.user u 0
    (omega arith)) (edge_node_by_name_and_kind e.key k r l)
    (link_edge (e.user / 2) (e.key / 2)) (edges_to r es) u k refl refl (edges_between_names_and_nodes r l es u k)

-- a name uses another as often as there are edges between their first nodes
pub uses_are_counted_by_edges : (es : List LinkEdge) (u k : ℕ) → link_edge_count (edges_to 0 es) u k ≡ link_edge_count
    es (u * 2) (k * 2)
uses_are_counted_by_edges es u k = edges_between_names_and_nodes 0 (omega arith) es u k
    ∙ ap (link_edge_count es (u * 2)) (first_edge_node_has_no_remainder k)

module _ (g : LinkGraph) (nodes : AreEdgeNodes g) where
  abbrev names : NameEdgeGraph
  names = name_edge_graph g

  -- the user of an edge is the first node of a name
  pub user_is : (x y : ℕ) → HasLinkEdge g.edges x y → x ≡ x / 2 * 2
  user_is x y h = elim (cases_eq (x % 2) 0) [
    | inl e ↦ sym (div-add-mod' x 2) ∙ (ap (λ r. x / 2 * 2 + r) e ∙ first_edge_node_has_no_remainder (x / 2))
    | inr ne ↦
        let one : x ≡ x / 2 * 2 + 1 =
        sym (div-add-mod' x 2) ∙ ap (λ r. x / 2 * 2 + r) (only_one (x % 2) (mod_small x) ne) in
        let z : link_edge_count g.edges x y ≡ 0 = ap (λ n. link_edge_count g.edges n y) one ∙ nodes.users (x / 2) y in
        absurd (omega (arith, h, z))
  ]
    where
      only_one : (r : ℕ) → r < 2 → (r ≡ 0 → ⊥) → r ≡ 1
      only_one r l ne = omega (arith, l, ne)

      mod_small : (x : ℕ) → x % 2 < 2
      mod_small x = mod-lt x (omega arith)

  use_shown : (u k : ℕ) → HasLinkEdge g.edges (u * 2) (k * 2) → HasLinkEdge names.uses u k
  use_shown u k h = subst (λ n. 0 < n) (sym (uses_are_counted_by_edges g.edges u k)) h

  use_there : (u k : ℕ) → HasLinkEdge names.uses u k → HasLinkEdge g.edges (u * 2) (k * 2)
  use_there u k h = subst (λ n. 0 < n) (uses_are_counted_by_edges g.edges u k) h

  look_shown : (u k : ℕ) → HasLinkEdge g.edges (u * 2) (k * 2 + 1) → HasLinkEdge names.looks u k
  look_shown u k h = subst (λ n. 0 < n) (sym (edges_between_names_and_nodes 1 (omega arith) g.edges u k)) h

  look_there : (u k : ℕ) → HasLinkEdge names.looks u k → HasLinkEdge g.edges (u * 2) (k * 2 + 1)
  look_there u k h = subst (λ n. 0 < n) (edges_between_names_and_nodes 1 (omega arith) g.edges u k) h

  starts : {a b : ℕ} → LinkReaches g.edges a b → a ≡ a / 2 * 2
  starts (at_once h) = user_is _ _ h
  starts (further h r) = user_is _ _ h

  -- ways between nodes are ways between names
  way_shown : {a b : ℕ} → LinkReaches g.edges a b → (n k : ℕ) → a ≡ n * 2 → b ≡ k * 2 → LinkReaches names.uses n k
  way_shown (at_once {y = y} h) n k e f =
      at_once (use_shown n k (subst (λ z. HasLinkEdge g.edges (n * 2) z) f (subst (λ z. HasLinkEdge g.edges z y) e h)))
  way_shown (further {y = y} h r) n k e f =
      let m : y ≡ y / 2 * 2 = starts r in
      further (use_shown n (y / 2)
      (subst (λ z. HasLinkEdge g.edges (n * 2) z) m (subst (λ z. HasLinkEdge g.edges z y) e h)))
      (way_shown r (y / 2) k m f)

  abbrev Looked : ℕ → ℕ → Type 0
  Looked n k = (m : ℕ) × HasLinkEdge names.looks m k × NeedsByEdges names n m

  needs_first : (n m k : ℕ) → HasLinkEdge names.uses n m → Looked m k → Looked n k
  needs_first n m k h (x, l, inl e) = (x, l, inr (at_once (subst (λ z. HasLinkEdge names.uses n z) e h)))
  needs_first n m k h (x, l, inr r) = (x, l, inr (further h r))

  look_way_shown : {a b : ℕ} → LinkReaches g.edges a b → (n k : ℕ) → a ≡ n * 2 → b ≡ k * 2 + 1 → Looked n k
  look_way_shown (at_once {y = y} h) n k e f = (
    n,
    look_shown n k (subst (λ z. HasLinkEdge g.edges (n * 2) z) f (subst (λ z. HasLinkEdge g.edges z y) e h)),
    inl
        refl,
  )
  look_way_shown (further {y = y} h r) n k e f =
      let m : y ≡ y / 2 * 2 = starts r in
      needs_first n (y / 2) k
      (use_shown n (y / 2) (subst (λ z. HasLinkEdge g.edges (n * 2) z) m (subst (λ z. HasLinkEdge g.edges z y) e h)))
      (look_way_shown r (y / 2) k m f)

  way_there : {n k : ℕ} → LinkReaches names.uses n k → LinkReaches g.edges (n * 2) (k * 2)
  way_there (at_once h) = at_once (use_there _ _ h)
  way_there (further h r) = further (use_there _ _ h) (way_there r)

  look_way_there : {n m : ℕ} → LinkReaches names.uses n m → (k : ℕ) → HasLinkEdge names.looks m k
      → LinkReaches g.edges (n * 2) (k * 2 + 1)
  look_way_there (at_once h) k l = further (use_there _ _ h) (at_once (look_there _ k l))
  look_way_there (further h r) k l = further (use_there _ _ h) (look_way_there r k l)

  half : (n k : ℕ) → n * 2 ≡ k * 2 → n ≡ k
  half n k e = omega (arith, e)

  apart : (n k : ℕ) → n * 2 ≡ k * 2 + 1 → ⊥
  apart n k e = omega (arith, e)

  -- by the two nodes of the key
  pub affected_shown : (key n : ℕ) → node.IsAffectedLinkNode g.edges (key * 2) (n * 2) ⊎ node.IsAffectedLinkNode g.edges
      (key * 2 + 1)
      (n * 2)
      → IsAffectedByEdges names key n
  affected_shown key n (inl (inl e)) = inl (inl (half n key e))
  affected_shown key n (inl (inr r)) = inl (inr (way_shown r n key refl refl))
  affected_shown key n (inr (inl e)) = absurd (apart n key e)
  affected_shown key n (inr (inr r)) = inr (look_way_shown r n key refl refl)

  pub affected_there : (key n : ℕ) → IsAffectedByEdges names key n
      → node.IsAffectedLinkNode g.edges (key * 2) (n * 2) ⊎ node.IsAffectedLinkNode g.edges (key * 2 + 1) (n * 2)
  affected_there key n (inl (inl e)) = inl (inl (ap (λ z. z * 2) e))
  affected_there key n (inl (inr r)) = inl (inr (way_there r))
  affected_there key n (inr (m, l, inl e)) =
      inr (inr (at_once (subst (λ z. HasLinkEdge g.edges (z * 2) (key * 2 + 1)) (sym e) (look_there m key l))))
  affected_there key n (inr (m, l, inr r)) = inr (inr (look_way_there r key l))

-- ---- both nodes of a key forgotten, one after the other
module _ (g : LinkGraph) (nodes : AreEdgeNodes g) (key : ℕ) (mid new : List LinkEdge)
    (first : node.ForgetsLinks (key * 2) g.edges mid) (second : node.ForgetsLinks (key * 2 + 1) mid new) where
  abbrev First : ℕ → Type 0
  First = node.IsAffectedLinkNode g.edges (key * 2)

  abbrev Second : ℕ → Type 0
  Second = node.IsAffectedLinkNode mid (key * 2 + 1)

  abbrev Either : ℕ → Type 0
  Either x = node.IsAffectedLinkNode g.edges (key * 2) x ⊎ node.IsAffectedLinkNode g.edges (key * 2 + 1) x

  cut_first : AreEdgesCut First g.edges mid
  cut_first = record { affected_cleared = first.affected_cleared; others_unchanged = first.others_unchanged }

  cut_second : AreEdgesCut Second mid new
  cut_second = record { affected_cleared = second.affected_cleared; others_unchanged = second.others_unchanged }

  up : (x y : ℕ) → HasLinkEdge g.edges x y → First y → First x
  up x y h (inl e) = inr (at_once (subst (λ z. HasLinkEdge g.edges x z) e h))
  up x y h (inr r) = inr (further h r)

  pub both_nodes : IsBoth First Second Either
  both_nodes = record {
    first = λ x i. inl i;
    second = λ x i. elim i [ inl e ↦ inr (inl e) | inr r ↦ inr (inr (reached_before First g.edges mid cut_first r)) ];
    either = λ x i before after. elim i [
      | inl j ↦ before j
      | inr j ↦ elim j [
        | inl e ↦ after (inl e)
        | inr r ↦ after (inr (reached_still First g.edges mid cut_first up r before))
      ]
    ];
  }

  cut_both : AreEdgesCut Either g.edges new
  cut_both = cut_on First Second Either both_nodes g.edges mid new cut_first cut_second

  between : (r : ℕ) → r < 2 → AreEdgesCut (IsAffectedByEdges (name_edge_graph g) key) (edges_to r g.edges)
      (edges_to r new)
  between r l = record {
    affected_cleared = λ x y i. edges_between_names_and_nodes r l new x y ∙ cut_both.affected_cleared (x * 2)
        (y * 2 + r)
        (affected_there g nodes key x i);
    others_unchanged = λ x y free. edges_between_names_and_nodes r l new x y
        ∙ (cut_both.others_unchanged (x * 2) (y * 2 + r) (λ i. free (affected_shown g nodes key x i))
        ∙ sym (edges_between_names_and_nodes r l g.edges x y));
  }

  pub forgotten : (h : LinkGraph) → h.nodes ≡ g.nodes → h.edges ≡ new
      → ForgetsNameEdges (IsAffectedByEdges (name_edge_graph g) key) (name_edge_graph g)
      (name_edge_graph h)
  forgotten h same is = record {
    names = ap (λ n. n / 2) same;
    uses = subst (λ es. AreEdgesCut (IsAffectedByEdges (name_edge_graph g) key) (edges_to 0 g.edges) (edges_to 0 es))
        (sym is)
        (between 0 (omega arith));
    looks = subst (λ es. AreEdgesCut (IsAffectedByEdges (name_edge_graph g) key) (edges_to 1 g.edges) (edges_to 1 es))
        (sym is)
        (between 1 (omega arith));
  }

  -- the marks of names are those of their first nodes
  module _ (marks then now : ℕ → Bool) (old_names new_names : ℕ → Bool)
      (old_is : (n : ℕ) → marks (n * 2) ≡ old_names n) (new_is : (n : ℕ) → now (n * 2) ≡ new_names n)
      (clear_first : AreMarksCleared First marks then) (clear_second : AreMarksCleared Second then now) where
    clear_both : AreMarksCleared Either marks now
    clear_both = cleared_on First Second Either both_nodes marks then now clear_first clear_second

    pub cleared : AreMarksCleared (IsAffectedByEdges (name_edge_graph g) key) old_names new_names
    cleared = record {
      affected_cleared = λ n i. sym (new_is n) ∙ clear_both.affected_cleared (n * 2) (affected_there g nodes key n i);
      others_unchanged = λ n free. sym (new_is n)
          ∙ (clear_both.others_unchanged (n * 2) (λ i. free (affected_shown g nodes key n i)) ∙ old_is n);
    }

-- the mark of a first node is that of its name
pub edge_node_mark_is_of_name : (names : ℕ → Bool) (n : ℕ) → (nat_eq (n * 2 % 2) 0 && names (n * 2 / 2)) ≡ names n
edge_node_mark_is_of_name names n = λ i. nat_eq (even i) 0 && names (half_is i)
  where
    even : n * 2 % 2 ≡ 0
    even = ap (λ z. z % 2) (sym (first_edge_node_has_no_remainder n)) ∙ kind_of_edge_node n 0 (omega arith)

    half_is : n * 2 / 2 ≡ n
    half_is = ap (λ z. z / 2) (sym (first_edge_node_has_no_remainder n)) ∙ name_of_edge_node n 0 (omega arith)
