-- Paths, and the faults after them.
use Rattle.std.proofs.Common.{◌≡◌, ℕ, zero, suc, ◌+◌, ◌-◌, ◌<◌, ◌≤◌, false, List, [], ◌∷◌, ◌++◌, length, Option, Some}
use Rattle.std.proofs.Common.{refl, sym, ◌∙◌, ap, subst, inl, inr, arith, length-append, Contains}
use Rattle.std.proofs.lemmas.Bool.{cond-true, cond-false, cases_Bool}
use Rattle.std.proofs.lemmas.Cmp.{nat_eq_equiv}
use Rattle.std.proofs.lemmas.Map.Keys.{IsDistinct-push}
use Rattle.std.proofs.lemmas.Map.Steps.{length-le_from_distinct_below}
use Rattle.std.proofs.lemmas.List.Elements.{Contains-push_cases}
use Rattle.name_walk.specs.declared.step.Step.{Step}
use Rattle.name_walk.specs.declared.step.Step.TheVariants.{Nowhere, To}
use Rattle.name_walk.specs.FaultLaws.{IsWalkStepsFault, WalkStepsFaultLaw}
use Rattle.name_walk.specs.Paths.{IsNamePath, NamePathLaw}
use Rattle.name_walk.specs.Faults.{Cycle, NameFault, is_on_path, path_fault_at_name, path_fault_at_step}
use Rattle.name_walk.specs.Faults.{path_fault_within, path_from_name, steps_fault_after_path}
use Rattle.name_walk.specs.Steps.{AreStepsInGraph, Graph, StayInGraph, graph_steps}
use Rattle.name_walk.specs.Lists.{first_some}
use Rattle.name_walk.proofs.Lists.{first_same}
use Rattle.name_walk.proofs.Members.{member_on_path, on_path_member}
use Rattle.general_lemmas.proofs.Properties.{nothing_twice}

-- a path has no more names than the graph
pub path_is_no_longer_than_graph : (g : Graph) (p : List ℕ) → IsNamePath g p → length p ≤ length g
path_is_no_longer_than_graph g p h = length-le_from_distinct_below p (length g) h.names_differ h.names_in_graph

-- the empty list is a path
pub empty_path : (g : Graph) → IsNamePath g []
empty_path g = record { names_differ = nothing_twice; names_in_graph = λ q e. cc }

-- a path with one more name that is not on it is a path
pub path_extends_by_name : (g : Graph) (p : List ℕ) (n : ℕ) → IsNamePath g p → is_on_path p n ≡ false → n < length g
    → IsNamePath g (p ++ n ∷ [])
path_extends_by_name g p n h new there = record {
  names_differ = IsDistinct-push nat_eq_equiv p n h.names_differ new;
  names_in_graph = λ q e. elim (Contains-push_cases p n q (on_path_member (p ++ n ∷ []) q e)) [
    | inl i ↦ h.names_in_graph q (member_on_path p q i)
    | inr f ↦ subst (λ (k : ℕ). k < length g) f there
  ];
}

-- the room after a path with one more name is one less
pub room_left_after_path_name : (g : Graph) (p : List ℕ) (n : ℕ) → IsNamePath g p → is_on_path p n ≡ false
    → n < length g
    → length g - length p ≡ suc (length g - length (p ++ n ∷ []))
room_left_after_path_name g p n path new there =
    let short : length (p ++ n ∷ []) ≤ length g = path_is_no_longer_than_graph g (p ++ n ∷ [])
    (path_extends_by_name g p n path new there) in
    omega (arith, length-append p (n ∷ []))

-- the fault in the steps of a name that is not on the path
pub fault_below_path_name : (g : Graph) (p : List ℕ) (n : ℕ) → IsNamePath g p → is_on_path p n ≡ false → n < length g
    → path_fault_within g (length g - length p) (p ++ n ∷ []) n ≡ steps_fault_after_path g (p ++ n ∷ [])
    (graph_steps g n)
fault_below_path_name g p n path new there = ap (λ k. path_fault_within g k (p ++ n ∷ []) n)
    (room_left_after_path_name g p n path new there)

-- the fault at a name is that of its steps after the path with the name appended
pub fault_at_path_name : (g : Graph) (p : List ℕ) (n : ℕ) → IsNamePath g p → is_on_path p n ≡ false → n < length g
    → path_fault_at_name (path_fault_within g (length g - length p)) p n ≡ steps_fault_after_path g (p ++ n ∷ [])
    (graph_steps g n)
fault_at_path_name g p n path new there = cond-false (is_on_path p n) _ _ new
    ∙ fault_below_path_name g p n path new there

-- the faults at a name agree if the faults deeper down agree
path_faults_agree_at_name : (f h : List ℕ → ℕ → Option NameFault) (p : List ℕ) (n : ℕ)
    → (is_on_path p n ≡ false → f (p ++ n ∷ []) n ≡ h (p ++ n ∷ []) n)
    → path_fault_at_name f p n ≡ path_fault_at_name h p n
path_faults_agree_at_name f h p n same =
    elim (cases_Bool (is_on_path p n)) [
      | inl t ↦ cond-true (is_on_path p n) (Some (Cycle (path_from_name n p ++ n ∷ []))) (f (p ++ n ∷ []) n) t
          ∙ sym (cond-true (is_on_path p n) (Some (Cycle (path_from_name n p ++ n ∷ []))) (h (p ++ n ∷ []) n) t)
      | inr t ↦ cond-false (is_on_path p n) (Some (Cycle (path_from_name n p ++ n ∷ []))) (f (p ++ n ∷ []) n) t
          ∙ (same t ∙ sym (cond-false (is_on_path p n) (Some (Cycle (path_from_name n p ++ n ∷ []))) (h (p ++ n ∷ []) n)
          t))
    ]

module _ (g : Graph) (range : AreStepsInGraph g) where
  same_steps : (f h : List ℕ → ℕ → Option NameFault) (p : List ℕ) (xs : List Step) → StayInGraph g xs
      → ((n : ℕ) → is_on_path p n ≡ false → n < length g → f (p ++ n ∷ []) n ≡ h (p ++ n ∷ []) n)
      → first_some (path_fault_at_step f p) xs ≡ first_some (path_fault_at_step h p) xs
  same_steps f h p xs known same = first_same (path_fault_at_step f p) (path_fault_at_step h p) xs each
    where
      each : (x : Step) → Contains xs x → path_fault_at_step f p x ≡ path_fault_at_step h p x
      each (Nowhere w) i = refl
      each (To n) i = path_faults_agree_at_name f h p n (λ new. same n new (known n i))

  fault_is : IsWalkStepsFault g (steps_fault_after_path g)
  fault_is p xs path known =
      same_steps (path_fault_within g (length g - length p))
      (λ longer n. steps_fault_after_path g longer (graph_steps g n)) p xs known
      (λ n new there. fault_below_path_name g p n path new there)

  one_by_room : (f : List ℕ → List Step → Option NameFault) → IsWalkStepsFault g f
      → (k : ℕ) (p : List ℕ) (xs : List Step) → IsNamePath g p → StayInGraph g xs → length p + k ≡ length g + 1
      → f p xs ≡ steps_fault_after_path g p xs
  one_by_room f is zero p xs path known room =
      absurd (let l : length p ≤ length g = path_is_no_longer_than_graph g p path in omega arith)
  one_by_room f is (suc k) p xs path known room =
      is p xs path known
      ∙ (same_steps (λ longer n. f longer (graph_steps g n))
      (λ longer n. steps_fault_after_path g longer (graph_steps g n)) p xs known
      (λ n new there. one_by_room f is k (p ++ n ∷ []) (graph_steps g n) (path_extends_by_name g p n path new there)
      (range n)
      (omega (arith, length-append p (n ∷ []))))
      ∙ sym (fault_is p xs path known))

  one_is : (f : List ℕ → List Step → Option NameFault) → IsWalkStepsFault g f
      → (p : List ℕ) (xs : List Step) → IsNamePath g p → StayInGraph g xs → f p xs ≡ steps_fault_after_path g p xs
  one_is f is p xs path known =
      let short : length p ≤ length g = path_is_no_longer_than_graph g p path in
      let room : length p + (length g + 1 - length p) ≡ length g + 1 = omega arith in
      one_by_room f is (length g + 1 - length p) p xs path known room

-- the law of paths
pub name_path_law_holds : NamePathLaw
name_path_law_holds =
    record { empty_path = empty_path; longer_path = path_extends_by_name; path_bound = path_is_no_longer_than_graph }

-- the law of the first fault
pub walk_steps_fault_law_holds : WalkStepsFaultLaw
walk_steps_fault_law_holds = record { fault_is_first = fault_is; only_fault = one_is }
