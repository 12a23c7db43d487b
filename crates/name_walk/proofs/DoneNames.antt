-- Names that are done: settled, or closed before.
use Rattle.std.proofs.Common.{◌≡◌, ◌⊎◌, ◌↔◌, ℕ, zero, suc, ◌+◌, ◌-◌, ◌≤◌, Bool, true, false, List, [], ◌∷◌, ◌++◌}
use Rattle.std.proofs.Common.{length, Option, Some, None, sym, subst, inl, inr, arith, append_assoc, append-nil}
use Rattle.std.proofs.Common.{Contains}
use Rattle.std.proofs.lemmas.List.Elements.{Contains-append_left}
use Rattle.std.specs.List.{AllByRecursion, slice_get}
use Rattle.name_walk.specs.declared.step.Step.{Step}
use Rattle.name_walk.specs.declared.step.Step.TheVariants.{Nowhere, To}
use Rattle.name_walk.specs.ClosedNames.{AreSettledInGraph, IsClosedInGraph, IsSettledInGraph, IsSettledOrWalked}
use Rattle.name_walk.specs.ClosedNames.{WalkStepLeadsInto, WalksEndWithin}
use Rattle.name_walk.specs.NewlyClosed.{AreNewlyClosedByWalk, AreOrderedInGraph, IsReachedInGraph}
use Rattle.name_walk.specs.SettledLaws.{SettledGraphLaw}
use Rattle.name_walk.specs.Steps.{Graph, GraphLeadsTo, GraphReaches, at_once, further, graph_steps}
use Rattle.name_walk.proofs.ClosedPaths.{ends_longer}
use Rattle.name_walk.proofs.Lists.{all_map_in}
use Rattle.general_lemmas.proofs.Members.{no_member, member_cases}

-- a name that is done stays done after one more name is closed
pub settled_or_walked_stays : (s : List Bool) (names : List ℕ) (n m : ℕ) → IsSettledOrWalked s names m
    → IsSettledOrWalked s (names ++ n ∷ []) m
settled_or_walked_stays s names n m (inl e) = inl e
settled_or_walked_stays s names n m (inr i) = inr (Contains-append_left names (n ∷ []) m i)

-- a name is settled or it is not
pub graph_name_is_settled_or_not : (s : List Bool) (n : ℕ) → IsSettledInGraph s n ⊎ (IsSettledInGraph s n → ⊥)
graph_name_is_settled_or_not s n = at_place (slice_get s n)
  where
    at_place : (o : Option Bool) → (o ≡ Some true) ⊎ (o ≡ Some true → ⊥)
    at_place None = inr (λ e. cc)
    at_place (Some true) = inl (λ i. Some true)
    at_place (Some false) = inr (λ e. cc)

module _ (g : Graph) (s : List Bool) where
  pub ordered_push : (before ns : List ℕ) (n : ℕ) → AreOrderedInGraph g s before ns
      → ((m : ℕ) → GraphLeadsTo g n m → IsSettledOrWalked s (before ++ ns) m)
      → AreOrderedInGraph g s before (ns ++ n ∷ [])
  ordered_push before [] n o h =
      (λ m l. subst (λ (xs : List ℕ). IsSettledOrWalked s xs m) (append-nil before) (h m l), tt)
  ordered_push before (k ∷ ns) n o h = (
    o.0,
    ordered_push (before ++ k ∷ []) ns n o.1
        (λ m l. subst (λ (xs : List ℕ). IsSettledOrWalked s xs m) (sym (append_assoc before (k ∷ []) ns)) (h m l)),
  )

  ordered_done : (before ns : List ℕ) → AreOrderedInGraph g s before ns → (n : ℕ) → Contains ns n → (m : ℕ)
      → GraphLeadsTo g n m
      → IsSettledOrWalked s (before ++ ns) m
  ordered_done before [] o n i m l = absurd (no_member n i)
  ordered_done before (k ∷ ns) o n i m l = elim (member_cases n k ns i) [
    | inl e ↦ elim (o.0 m (subst (λ (x : ℕ). GraphLeadsTo g x m) e l))
        [ inl d ↦ inl d | inr d ↦ inr (Contains-append_left before (k ∷ ns) m d) ]
    | inr j ↦ subst (λ (xs : List ℕ). IsSettledOrWalked s xs m) (append_assoc before (k ∷ []) ns)
        (ordered_done (before ++ k ∷ []) ns o.1 n j m l)
  ]

  module _ (settled : AreSettledInGraph g s) where
    settled_below : (n m : ℕ) → IsSettledInGraph s n → GraphReaches g n m → IsSettledInGraph s m
    settled_below n m h (at_once l) = (settled n h).1 m l
    settled_below n m h (further {x = x} l r) = settled_below x m ((settled n h).1 x l) r

    done_next : (names : List ℕ) → AreOrderedInGraph g s [] names → (n m : ℕ) → IsSettledOrWalked s names n
        → GraphLeadsTo g n m
        → IsSettledOrWalked s names m
    done_next names o n m (inl e) l = inl ((settled n e).1 m l)
    done_next names o n m (inr i) l = ordered_done [] names o n i m l

    pub done_below : (names : List ℕ) → AreOrderedInGraph g s [] names → {n m : ℕ} → IsSettledOrWalked s names n
        → GraphReaches g n m
        → IsSettledOrWalked s names m
    done_below names o d (at_once l) = done_next names o _ _ d l
    done_below names o d (further l r) = done_below names o (done_next names o _ _ d l) r

    pub done_closed : (names : List ℕ) → ((n : ℕ) → Contains names n → IsClosedInGraph g n) → (n : ℕ)
        → IsSettledOrWalked s names n
        → IsClosedInGraph g n
    done_closed names closed n (inl e) = (settled n e).0
    done_closed names closed n (inr i) = closed n i

    grown : (new : List Bool) (query : List Step) (names : List ℕ) → AreNewlyClosedByWalk g s query names
        → ((n : ℕ) → IsSettledInGraph new n ↔ IsSettledOrWalked s names n) → AreSettledInGraph g new
    grown new query names newly same n h = (
      done_closed names newly.names_closed n ((same n).0 h),
      λ m l. (same m).1 (done_next names newly.targets_before n m ((same n).0 h) l),
    )

  asked : (query : List Step) (names : List ℕ) → AreNewlyClosedByWalk g s query names → (n : ℕ)
      → IsReachedInGraph g query n
      → IsSettledOrWalked s names n
  asked query names newly n r =
      elim (graph_name_is_settled_or_not s n) [ inl e ↦ inl e | inr ne ↦ inr ((newly.names_reached n).1 (r, ne)) ]

-- another graph has the same steps for settled names
module _ (g h : Graph) (s : List Bool) (settled : AreSettledInGraph g s)
    (same : (n : ℕ) → IsSettledInGraph s n → graph_steps h n ≡ graph_steps g n) where
  ends_there : (k n : ℕ) → IsSettledInGraph s n → WalksEndWithin g k n → WalksEndWithin h k n
  ends_there zero n t e = absurd e
  ends_there (suc k) n t e =
      subst (λ (xs : List Step). AllByRecursion (WalkStepLeadsInto (WalksEndWithin h k)) xs) (sym (same n t))
      (all_map_in (WalkStepLeadsInto (WalksEndWithin g k)) (WalkStepLeadsInto (WalksEndWithin h k)) (graph_steps g n)
      (into_there k (λ m l f. ends_there k m ((settled n t).1 m l) f)) e)
    where
      into_there : (j : ℕ) → ((m : ℕ) → GraphLeadsTo g n m → WalksEndWithin g j m → WalksEndWithin h j m) → (x : Step)
          → Contains (graph_steps g n) x
          → WalkStepLeadsInto (WalksEndWithin g j) x → WalkStepLeadsInto (WalksEndWithin h j) x
      into_there j f (Nowhere w) i q = q
      into_there j f (To m) i q = f m i q

  elsewhere : (new : List Bool) → length g ≤ length h → ((n : ℕ) → IsSettledInGraph new n ↔ IsSettledInGraph s n)
      → AreSettledInGraph h new
  elsewhere new more alike n t =
      let before : IsSettledInGraph s n = (alike n).0 t in
      let room : length h - length g + length g ≡ length h = omega arith in (
        subst (λ (k : ℕ). WalksEndWithin h k n) room
            (ends_longer h (length g) (length h - length g) n (ends_there (length g) n before (settled n before).0)),
        λ m l. (alike m).1 ((settled n before).1 m (subst (λ (xs : List Step). Contains xs (To m)) (same n before) l)),
      )

-- the law of settled names
pub settled_graph_law_holds : SettledGraphLaw
settled_graph_law_holds = record {
  below_settled = settled_below;
  query_settled = asked;
  other_graph = λ g h old new settled more alike same. elsewhere g h old settled same new more alike;
  settled_grow = λ g old new query names settled newly same. grown g old settled new query names newly same;
}
