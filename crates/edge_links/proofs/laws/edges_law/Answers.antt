use Rattle.std.proofs.Common.{◌≡◌, ◌⊎◌, ◌↔◌, ℕ, ◌+◌, ◌<◌, List, [], ◌∷◌, sym, subst, arith, inl, inr}
use Rattle.std.proofs.lemmas.Bool.{cases_eq}
use Rattle.edge_links.specs.Edges.{LinkEdge, link_edge, link_edge_count, AreSameLinkEdges}
use Rattle.edge_links.specs.Reach.{HasLinkEdge, LinkReaches, at_once, further, IsAffectedLinkNode, ForgetsLinks}
use Rattle.edge_links.proofs.EdgeCounts.{link_edge_count_appends, link_edge_counts_itself_once}
use Rattle.edge_links.proofs.EdgeCounts.{counted_link_edge_is_between}
use Rattle.edge_links.proofs.laws.edges_law.Goals as goal

same_edge : (es ds : List LinkEdge) → AreSameLinkEdges es ds → (x y : ℕ) → HasLinkEdge es x y → HasLinkEdge ds x y
same_edge es ds s x y h = subst (λ k. 0 < k) (s x y) h

same_reach : (es ds : List LinkEdge) → AreSameLinkEdges es ds → {x y : ℕ} → LinkReaches es x y → LinkReaches ds x y
same_reach es ds s (at_once h) = at_once (same_edge es ds s _ _ h)
same_reach es ds s (further h r) = further (same_edge es ds s _ _ h) (same_reach es ds s r)

put_edge : (user key : ℕ) (es : List LinkEdge) (x y : ℕ)
    → HasLinkEdge (link_edge user key ∷ es) x y ↔ (((user ≡ x) × (key ≡ y)) ⊎ HasLinkEdge es x y)
put_edge user key es x y = (
  λ h. elim (cases_eq (link_edge_count (link_edge user key ∷ []) x y) 0) [
    | inl z ↦ inr (rest _ _ _ (link_edge_count_appends (link_edge user key ∷ []) es x y) z h)
    | inr nz ↦ inl (counted_link_edge_is_between user key x y (omega arith))
  ],
  λ h. elim h [
    | inl w ↦ subst (λ z. HasLinkEdge (link_edge user key ∷ es) z y) w.0
        (subst (λ z. HasLinkEdge (link_edge user key ∷ es) user z) w.1
        (first _ _ _ (link_edge_count_appends (link_edge user key ∷ []) es user key)
        (link_edge_counts_itself_once user key)))
    | inr w ↦ later _ _ _ (link_edge_count_appends (link_edge user key ∷ []) es x y) w
  ],
)
  where
    rest : (a b d : ℕ) → a ≡ b + d → b ≡ 0 → 0 < a → 0 < d
    rest a b d e f g = omega arith

    first : (a b d : ℕ) → a ≡ b + d → b ≡ 1 → 0 < a
    first a b d e f = omega arith

    later : (a b d : ℕ) → a ≡ b + d → 0 < d → 0 < a
    later a b d e f = omega arith

after_forgetting : (key : ℕ) (old new : List LinkEdge) → ForgetsLinks key old new → (x y : ℕ)
    → HasLinkEdge new x y ↔ (HasLinkEdge old x y × (IsAffectedLinkNode old key x → ⊥))
after_forgetting key old new f x y = (
  λ h.
      let off : IsAffectedLinkNode old key x → ⊥ = λ a. let z = f.affected_cleared x y a in omega arith in
      (subst (λ k. 0 < k) (f.others_unchanged x y off) h, off),
  λ w. subst (λ k. 0 < k) (sym (f.others_unchanged x y w.1)) w.0,
)

pub returns : goal.returns
returns c = record {
  same_reach = λ es ds s x y r. same_reach es ds s r;
  after_put = put_edge;
  forgotten = after_forgetting;
}
