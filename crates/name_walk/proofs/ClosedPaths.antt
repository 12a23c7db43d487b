-- Closed names, and the paths to them.
use Rattle.std.proofs.Common.{◌≡◌, ◌↔◌, ℕ, zero, suc, ◌+◌, ◌-◌, ◌<◌, ◌≤◌, false, List, [], ◌∷◌, ◌++◌, length, None}
use Rattle.std.proofs.Common.{refl, sym, ◌∙◌, subst, arith, length-append, Contains}
use Rattle.std.proofs.lemmas.Bool.{cond-false, false_from_ne_true}
use Rattle.name_walk.specs.declared.step.Step.{Step}
use Rattle.name_walk.specs.declared.step.Step.TheVariants.{Nowhere, To}
use Rattle.name_walk.specs.ClosedNames.{IsClosedInGraph, WalkStepLeadsInto, WalksEndWithin}
use Rattle.name_walk.specs.ClosedLaws.{ClosedGraphNameLaw}
use Rattle.name_walk.specs.Paths.{IsNamePath}
use Rattle.name_walk.specs.Faults.{is_on_path, path_fault_at_name, path_fault_at_step, path_fault_within}
use Rattle.name_walk.specs.Faults.{steps_fault_after_path}
use Rattle.name_walk.specs.Steps.{AreStepsInGraph, Graph, GraphLeadsTo, GraphReaches, at_once, further, graph_steps}
use Rattle.name_walk.proofs.Faults.{empty_path, path_extends_by_name, path_is_no_longer_than_graph}
use Rattle.name_walk.proofs.Lists.{all_at, all_map, all_none, name_stays_off_pushed_path, none_from}
use Rattle.name_walk.proofs.Members.{on_path_member}
use Rattle.general_lemmas.proofs.Options.{or_none, not_chosen}
use Rattle.general_lemmas.proofs.Members.{no_member}

-- reaching is transitive
pub graph_reach_is_transitive : {g : Graph} {n x m : ℕ} → GraphReaches g n x → GraphReaches g x m → GraphReaches g n m
graph_reach_is_transitive (at_once l) r = further l r
graph_reach_is_transitive (further l q) r = further l (graph_reach_is_transitive q r)

-- a step that leads to a name with one property leads to a name with each property that follows from it
pub walk_step_leads_into_weaker : (P Q : ℕ → Type 0) → ((n : ℕ) → P n → Q n) → (s : Step) → WalkStepLeadsInto P s
    → WalkStepLeadsInto Q s
walk_step_leads_into_weaker P Q f (Nowhere w) h = h
walk_step_leads_into_weaker P Q f (To n) h = f n h

module _ (g : Graph) where
  ends_step : (k : ℕ) (p : List ℕ) → ((q : List ℕ) (n : ℕ) → path_fault_within g k q n ≡ None → WalksEndWithin g k n)
      → (s : Step) → path_fault_at_step (path_fault_within g k) p s ≡ None → WalkStepLeadsInto (WalksEndWithin g k) s
  ends_step k p ends (Nowhere w) e = cc
  ends_step k p ends (To n) e = ends (p ++ n ∷ []) n (not_chosen (is_on_path p n) _ _ e).1

  ends_from_none : (k : ℕ) (p : List ℕ) (n : ℕ) → path_fault_within g k p n ≡ None → WalksEndWithin g k n
  ends_from_none zero p n e = cc
  ends_from_none (suc k) p n e =
      all_map (λ s. path_fault_at_step (path_fault_within g k) p s ≡ None) (WalkStepLeadsInto (WalksEndWithin g k))
      (ends_step k p (ends_from_none k)) (graph_steps g n)
      (all_none (path_fault_at_step (path_fault_within g k) p) (graph_steps g n) e)

  ends_more : (k n : ℕ) → WalksEndWithin g k n → WalksEndWithin g (suc k) n
  ends_more zero n h = absurd h
  ends_more (suc k) n h =
      all_map (WalkStepLeadsInto (WalksEndWithin g k)) (WalkStepLeadsInto (WalksEndWithin g (suc k)))
      (walk_step_leads_into_weaker (WalksEndWithin g k) (WalksEndWithin g (suc k)) (ends_more k)) (graph_steps g n) h

  pub ends_longer : (k j n : ℕ) → WalksEndWithin g k n → WalksEndWithin g (j + k) n
  ends_longer k zero n h = let e : k ≡ 0 + k = omega arith in subst (λ (i : ℕ). WalksEndWithin g i n) e h
  ends_longer k (suc j) n h =
      let e : suc (j + k) ≡ suc j + k = omega arith in
      subst (λ (i : ℕ). WalksEndWithin g i n) e (ends_more (j + k) n (ends_longer k j n h))

  ends_next : (k n m : ℕ) → WalksEndWithin g (suc k) n → GraphLeadsTo g n m → WalksEndWithin g k m
  ends_next k n m h l = all_at (WalkStepLeadsInto (WalksEndWithin g k)) (graph_steps g n) (To m) h l

  ends_less : {n m : ℕ} → GraphReaches g n m → (k : ℕ) → WalksEndWithin g (suc k) n → WalksEndWithin g k m
  ends_less (at_once l) k h = ends_next k _ _ h l
  ends_less (further l r) zero h = absurd (ends_next 0 _ _ h l)
  ends_less (further l r) (suc k) h = ends_more k _ (ends_less r k (ends_next (suc k) _ _ h l))

  ends_below : (k n m : ℕ) → WalksEndWithin g k n → GraphReaches g n m → WalksEndWithin g k m
  ends_below zero n m h r = absurd h
  ends_below (suc k) n m h r = ends_more k m (ends_less r k h)

  pub no_loop : (k n : ℕ) → WalksEndWithin g k n → GraphReaches g n n → ⊥
  no_loop zero n h r = h
  no_loop (suc k) n h r = no_loop k n (ends_less r k h) r

  step_below : (j k : ℕ) (p : List ℕ) (n : ℕ) → WalksEndWithin g (suc j) n
      → ((m : ℕ) → GraphReaches g n m → is_on_path p m ≡ false)
      → ((m : ℕ) → WalksEndWithin g j m → GraphLeadsTo g n m → path_fault_within g k (p ++ m ∷ []) m ≡ None)
      → (s : Step) → Contains (graph_steps g n) s → path_fault_at_step (path_fault_within g k) p s ≡ None
  step_below j k p n ends clear deeper (Nowhere w) i =
      absurd (all_at (WalkStepLeadsInto (WalksEndWithin g j)) (graph_steps g n) (Nowhere w) ends i)
  step_below j k p n ends clear deeper (To m) i = cond-false (is_on_path p m) _ _ (clear m (at_once i))
      ∙ deeper m (ends_next j n m ends i) i

  module _ (range : AreStepsInGraph g) where
    none_below : (j k : ℕ) (p : List ℕ) (n : ℕ) → WalksEndWithin g j n → IsNamePath g p
        → ((m : ℕ) → GraphReaches g n m → is_on_path p m ≡ false)
        → length p + k ≡ length g + 1 → path_fault_within g k p n ≡ None
    none_below zero k p n ends path clear room = absurd ends
    none_below (suc j) zero p n ends path clear room =
        absurd (let l : length p ≤ length g = path_is_no_longer_than_graph g p path in omega arith)
    none_below (suc j) (suc k) p n ends path clear room =
        none_from (path_fault_at_step (path_fault_within g k) p) (graph_steps g n)
        (step_below j k p n ends clear (λ m ends' i.
        none_below j k (p ++ m ∷ []) m ends' (path_extends_by_name g p m path (clear m (at_once i)) (range n m i))
        (λ q r. name_stays_off_pushed_path p m q (clear q (further i r))
        (λ e. no_loop j m ends' (subst (λ (x : ℕ). GraphReaches g m x) e r)))
        (omega (arith, length-append p (m ∷ [])))))

    -- a closed name has no fault after any path that leads to it
    pub name_closed : (j : ℕ) (p : List ℕ) (n : ℕ) → WalksEndWithin g j n → n < length g → IsNamePath g p
        → ((q : ℕ) → Contains p q → GraphReaches g q n)
        → path_fault_at_name (path_fault_within g (length g - length p)) p n ≡ None
    name_closed j p n ends there path leads =
        let clear : (m : ℕ) → GraphReaches g n m → is_on_path p m ≡ false =
        λ m r. false_from_ne_true (is_on_path p m)
        (λ e. no_loop j n ends (graph_reach_is_transitive r (leads m (on_path_member p m e)))) in
        let new : is_on_path p n ≡ false = false_from_ne_true (is_on_path p n)
        (λ e. no_loop j n ends (leads n (on_path_member p n e))) in
        let short : length p ≤ length g = path_is_no_longer_than_graph g p path in
        cond-false (is_on_path p n) _ _ new
        ∙ none_below j (length g - length p) (p ++ n ∷ []) n ends (path_extends_by_name g p n path new there)
        (λ m r. name_stays_off_pushed_path p n m (clear m r)
        (λ e. no_loop j n ends (subst (λ (x : ℕ). GraphReaches g n x) e r)))
        (omega (arith, length-append p (n ∷ [])))

    pub any_depth : (j n : ℕ) → n < length g → WalksEndWithin g j n → IsClosedInGraph g n
    any_depth j n there ends =
        ends_from_none (length g) (n ∷ []) n
        (none_below j (length g) (n ∷ []) n ends (path_extends_by_name g [] n (empty_path g) refl there)
        (λ m r. name_stays_off_pushed_path [] n m refl
        (λ e. no_loop j n ends (subst (λ (x : ℕ). GraphReaches g n x) e r)))
        (omega arith))

    closed_from_none : (n : ℕ) → n < length g → steps_fault_after_path g [] (To n ∷ []) ≡ None → IsClosedInGraph g n
    closed_from_none n there e =
        let none : path_fault_within g (length g - 0) (n ∷ []) n ≡ None =
        sym (or_none (path_fault_within g (length g - 0) (n ∷ []) n)) ∙ e in
        any_depth (length g - 0) n there (ends_from_none (length g - 0) (n ∷ []) n none)

    any_path : (j n : ℕ) → n < length g → WalksEndWithin g j n → (p : List ℕ) → IsNamePath g p
        → ((q : ℕ) → Contains p q → GraphReaches g q n)
        → steps_fault_after_path g p (To n ∷ []) ≡ None
    any_path j n there ends p path leads = or_none _ ∙ name_closed j p n ends there path leads

    faultless : (n : ℕ) → n < length g → IsClosedInGraph g n ↔ (steps_fault_after_path g [] (To n ∷ []) ≡ None)
    faultless n there = (
      λ h. any_path (length g) n there h [] (empty_path g) (λ q i. absurd (no_member q i)),
      λ e. closed_from_none n there e,
    )

-- the law of closed names
pub closed_graph_name_law_holds : ClosedGraphNameLaw
closed_graph_name_law_holds = record {
  faultless_closed = faultless;
  any_depth = λ g range k n there ends. any_depth g range k n there ends;
  deeper = ends_more;
  reached_closed = ends_below;
  no_cycle = no_loop;
  any_path = any_path;
}
