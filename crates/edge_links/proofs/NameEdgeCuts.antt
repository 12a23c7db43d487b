-- Edges that are cut one after another, and the ways that remain.
use Rattle.std.proofs.Common.{◌≡◌, ◌⊎◌, ℕ, zero, suc, ◌<◌, get_or, Bool, List, [], ◌∷◌, ◌++◌, Contains}
use Rattle.std.proofs.Common.{refl, sym, ◌∙◌, subst, inl, inr, arith}
use Rattle.std.proofs.lemmas.Bool.{cases_eq, cases_Bool, true≢false}
use Rattle.std.proofs.lemmas.List.Elements.{Contains-append_cases, Contains-append_left, Contains-append_right}
use Rattle.edge_links.specs.Edges.{LinkEdge, link_edge_count}
use Rattle.edge_links.specs.Reach.{HasLinkEdge, LinkReaches, at_once, further, AreMarksCleared}
use Rattle.edge_links.specs.AffectedNames.{AreAffectedByEdges, AreEdgesCut, ForgetsNameEdges, IsAffectedByEdges}
use Rattle.edge_links.specs.AffectedNames.{NeedsByEdges}
use Rattle.edge_links.specs.NameGraphs.{NameEdgeGraph}

-- two cuts together cut the edges of these users
pub record IsBoth (A B D : ℕ → Type 0) : Type 0 where
  pub first : (x : ℕ) → A x → D x
  pub second : (x : ℕ) → B x → D x
  pub either : (x : ℕ) → D x → (A x → ⊥) → (B x → ⊥) → ⊥

module _ (A B D : ℕ → Type 0) (both : IsBoth A B D) where
  -- an edge that the first cut removed is still absent after the second cut
  gone_still : (old mid new : List LinkEdge) → AreEdgesCut A old mid → AreEdgesCut B mid new → (x y : ℕ) → A x
      → (link_edge_count new x y ≡ 0 → ⊥) → ⊥
  gone_still old mid new a b x y h some =
      let free : B x → ⊥ = λ i. some (b.affected_cleared x y i) in
      some (b.others_unchanged x y free ∙ a.affected_cleared x y h)

  pub cut_on : (old mid new : List LinkEdge) → AreEdgesCut A old mid → AreEdgesCut B mid new → AreEdgesCut D old new
  cut_on old mid new a b = record {
    affected_cleared = λ x y h. elim (cases_eq (link_edge_count new x y) 0) [
      | inl e ↦ e
      | inr some ↦ absurd (both.either x h (λ i. gone_still old mid new a b x y i some)
          (λ i. some (b.affected_cleared x y i)))
    ];
    others_unchanged = λ x y free. b.others_unchanged x y (λ i. free (both.second x i))
        ∙ a.others_unchanged x y (λ i. free (both.first x i));
  }

  pub cleared_on : (marks then now : ℕ → Bool) → AreMarksCleared A marks then → AreMarksCleared B then now
      → AreMarksCleared D marks now
  cleared_on marks then now a b = record {
    affected_cleared = λ x h. elim (cases_Bool (now x)) [
      | inr e ↦ e
      | inl e ↦
          let free : B x → ⊥ = λ i. true≢false (sym e ∙ b.affected_cleared x i) in
          absurd (both.either x h (λ i. true≢false (sym e ∙ (b.others_unchanged x free ∙ a.affected_cleared x i))) free)
    ];
    others_unchanged = λ x free. b.others_unchanged x (λ i. free (both.second x i))
        ∙ a.others_unchanged x (λ i. free (both.first x i));
  }

-- an edge after a cut existed before, and its user was not cut
module _ (A : ℕ → Type 0) (old new : List LinkEdge) (cut : AreEdgesCut A old new) where
  pub was_free : (x y : ℕ) → HasLinkEdge new x y → A x → ⊥
  was_free x y h i = let z : link_edge_count new x y ≡ 0 = cut.affected_cleared x y i in omega (arith, h, z)

  pub was_there : (x y : ℕ) → HasLinkEdge new x y → HasLinkEdge old x y
  was_there x y h = subst (λ k. 0 < k) (cut.others_unchanged x y (was_free x y h)) h

  pub stays_there : (x y : ℕ) → (A x → ⊥) → HasLinkEdge old x y → HasLinkEdge new x y
  stays_there x y free h = subst (λ k. 0 < k) (sym (cut.others_unchanged x y free)) h

  pub reached_before : {x y : ℕ} → LinkReaches new x y → LinkReaches old x y
  reached_before (at_once h) = at_once (was_there _ _ h)
  reached_before (further h r) = further (was_there _ _ h) (reached_before r)

  -- a way without a cut user still exists
  module _ (up : (x y : ℕ) → HasLinkEdge old x y → A y → A x) where
    pub reached_still : {x y : ℕ} → LinkReaches old x y → (A x → ⊥) → LinkReaches new x y
    reached_still (at_once h) free = at_once (stays_there _ _ free h)
    reached_still (further h r) free = further (stays_there _ _ free h) (reached_still r (λ i. free (up _ _ h i)))

    pub up_way : {x y : ℕ} → LinkReaches old x y → A y → A x
    up_way (at_once h) i = up _ _ h i
    up_way (further h r) i = up _ _ h (up_way r i)

-- ---- names
module _ (g : NameEdgeGraph) where
  pub needs_more : {n m k : ℕ} → HasLinkEdge g.uses n m → NeedsByEdges g m k → NeedsByEdges g n k
  needs_more {n = n} h (inl e) = inr (at_once (subst (λ z. HasLinkEdge g.uses n z) e h))
  needs_more h (inr r) = inr (further h r)

  -- a name that uses an affected name is affected
  pub user_affected : (key n m : ℕ) → HasLinkEdge g.uses n m → IsAffectedByEdges g key m → IsAffectedByEdges g key n
  user_affected key n m h (inl i) = inl (needs_more h i)
  user_affected key n m h (inr (k, l, i)) = inr (k, l, needs_more h i)

  pub users_affected : (keys : List ℕ) (n m : ℕ) → HasLinkEdge g.uses n m → AreAffectedByEdges g keys m
      → AreAffectedByEdges g keys n
  users_affected keys n m h (k, c, i) = (k, c, user_affected k n m h i)

  pub affected_by_one : (key n : ℕ) → AreAffectedByEdges g (key ∷ []) n → IsAffectedByEdges g key n
  affected_by_one key n (k, c, i) = subst (λ z. IsAffectedByEdges g z n) (only c) i
    where
      only : {k : ℕ} → Contains (key ∷ []) k → k ≡ key
      only {k = k} (j, l, e) = sym (first j l e)
        where
          first : (j : ℕ) → j < 1 → get_or (key ∷ []) j k ≡ k → key ≡ k
          first zero l e = e
          first (suc j) l e = absurd (omega (arith, l))

  pub in_alone : (key n : ℕ) → IsAffectedByEdges g key n → AreAffectedByEdges g (key ∷ []) n
  in_alone key n i = (key, (0, omega arith, refl), i)

-- other keys are forgotten in the remaining graph
module _ (keys others : List ℕ) (old mid : NameEdgeGraph)
    (left : ForgetsNameEdges (AreAffectedByEdges old keys) old mid) where
  abbrev Before : ℕ → Type 0
  Before = AreAffectedByEdges old keys

  needed_before : {n m : ℕ} → NeedsByEdges mid n m → NeedsByEdges old n m
  needed_before (inl e) = inl e
  needed_before (inr r) = inr (reached_before Before old.uses mid.uses left.uses r)

  affected_before : (key n : ℕ) → IsAffectedByEdges mid key n → IsAffectedByEdges old key n
  affected_before key n (inl i) = inl (needed_before i)
  affected_before key n (inr (m, l, i)) =
      inr (m, was_there Before old.looks mid.looks left.looks m key l, needed_before i)

  needed_still : {n m : ℕ} → NeedsByEdges old n m → (Before n → ⊥) → NeedsByEdges mid n m
  needed_still (inl e) free = inl e
  needed_still (inr r) free = inr (reached_still Before old.uses mid.uses left.uses (users_affected old keys) r free)

  free_below : {n m : ℕ} → NeedsByEdges old n m → (Before n → ⊥) → Before m → ⊥
  free_below {n = n} {m = m} (inl e) free i = free (subst Before (sym e) i)
  free_below (inr r) free i = free (up_way Before old.uses mid.uses left.uses (users_affected old keys) r i)

  affected_still : (key n : ℕ) → IsAffectedByEdges old key n → (Before n → ⊥) → IsAffectedByEdges mid key n
  affected_still key n (inl i) free = inl (needed_still i free)
  affected_still key n (inr (m, l, i)) free =
      inr (m, stays_there Before old.looks mid.looks left.looks m key (free_below i free) l, needed_still i free)

  either_list : (n : ℕ) → AreAffectedByEdges old (keys ++ others) n → AreAffectedByEdges old keys n ⊎ AreAffectedByEdges
      old others n
  either_list n (k, c, i) =
      elim (Contains-append_cases keys others k c) [ inl j ↦ inl (k, j, i) | inr j ↦ inr (k, j, i) ]

  pub affected_by_both : IsBoth (AreAffectedByEdges old keys) (AreAffectedByEdges mid others)
      (AreAffectedByEdges old (keys ++ others))
  affected_by_both = record {
    first = λ n i. (i.0, Contains-append_left keys others i.0 i.1, i.2);
    second = λ n i. (i.0, Contains-append_right keys others i.0 i.1, affected_before i.0 n i.2);
    either = λ n i before after. elim (either_list n i) [
      | inl j ↦ before j
      | inr j ↦ after (j.0, j.1, affected_still j.0 n j.2 before)
    ];
  }
