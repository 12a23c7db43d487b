-- The number of occurrences of an edge.
use Rattle.std.proofs.Common.{◌≡◌, ℕ, ◌+◌, ◌<◌, nat_eq, List, [], ◌∷◌, ◌++◌, refl, ap, arith, inl, inr}
use Rattle.std.proofs.lemmas.Bool.{cases_eq, cond-true, cond-false, eq-eqb, ne_eqb, and_from, and_left, and_right}
use Rattle.std.specs.Prelude.{◌&&◌}
use Rattle.edge_links.specs.Edges.{LinkEdge, link_edge, link_edge_count}

-- the count in two concatenated lists is the sum of both counts
pub link_edge_count_appends : (es ds : List LinkEdge) (x y : ℕ) → link_edge_count (es ++ ds) x y ≡ link_edge_count es x
    y + link_edge_count ds x y
link_edge_count_appends [] ds x y = omega arith
link_edge_count_appends (e ∷ es) ds x y = plus _ _ _ _ (link_edge_count_appends es ds x y)
  where
    plus : (a b d f : ℕ) → b ≡ d + f → a + b ≡ a + d + f
    plus a b d f h = omega arith

-- an edge is counted once between its own nodes
pub link_edge_counts_itself_once : (a b : ℕ) → link_edge_count (link_edge a b ∷ []) a b ≡ 1
link_edge_counts_itself_once a b =
    ap (λ k. k + 0) (cond-true (nat_eq a a && nat_eq b b) 1 0 (and_from _ _ (eq-eqb a a refl) (eq-eqb b b refl)))

-- an edge is not counted for another user
pub link_edge_count_of_other_user : (a b x y : ℕ) → (a ≡ x → ⊥) → link_edge_count (link_edge a b ∷ []) x y ≡ 0
link_edge_count_of_other_user a b x y ne =
    ap (λ k. k + 0) (cond-false (nat_eq a x && nat_eq b y) 1 0 (and_left _ _ (ne_eqb a x ne)))

-- an edge that is counted is the one between these nodes
pub counted_link_edge_is_between : (a b x y : ℕ) → 0 < link_edge_count (link_edge a b ∷ []) x y → (a ≡ x) × (b ≡ y)
counted_link_edge_is_between a b x y l = elim (cases_eq a x) [
  | inr ne ↦ absurd (none _ (link_edge_count_of_other_user a b x y ne) l)
  | inl e ↦ elim (cases_eq b y) [
    | inl f ↦ (e, f)
    | inr ne ↦ absurd
        (none _ (ap (λ k. k + 0) (cond-false (nat_eq a x && nat_eq b y) 1 0 (and_right _ _ (ne_eqb b y ne)))) l)
  ]
]
  where
    none : (k : ℕ) → k ≡ 0 → 0 < k → ⊥
    none k e l = omega arith
