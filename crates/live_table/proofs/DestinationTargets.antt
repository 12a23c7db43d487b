-- The targets of a word are put on the agenda in turn.
use Rattle.std.proofs.Common.{◌≡◌, ◌++◌, ◌∷◌, [], ℕ, List, cond, refl, sym, ◌∙◌, subst, inl, inr, Contains}
use Rattle.std.proofs.lemmas.Bool.{cases_Bool, cond-false, cond-true}
use Rattle.name_walk.specs.Faults.{is_on_path}
use Rattle.live_table.specs.declared.word_targets.Destination.{Destination}
use Rattle.live_table.specs.declared.word_targets.Destination.TheVariants.{One, Two}
use Rattle.live_table.specs.Exploration.{IsExplorationGrowth, IsKnownToExploration}
use Rattle.live_table.specs.WordTargets.{destination_node_numbers}
use Rattle.live_table.specs.TableContents.{NodeLists}
use Rattle.live_table.proofs.AddedNames.{appending_is_exploration_growth, exploration_growth_keeps_members}
use Rattle.general_lemmas.proofs.Members.{no_member, member_first, member_later, member_cases}

-- the numbers on the agenda stay there
pub agenda_put_keeps_numbers : (list there : List ℕ) (n : ℕ) → there ≡ cond (is_on_path list n) list (list ++ n ∷ [])
    → IsExplorationGrowth list there
agenda_put_keeps_numbers list there n e = elim (cases_Bool (is_on_path list n)) [
  | inl q ↦ subst (IsExplorationGrowth list) (sym (e ∙ cond-true (is_on_path list n) list (list ++ n ∷ []) q))
      (λ i x h. h)
  | inr q ↦ subst (IsExplorationGrowth list) (sym (e ∙ cond-false (is_on_path list n) list (list ++ n ∷ []) q))
      (appending_is_exploration_growth list (n ∷ []))
]

-- the number of the only target of a word
pub only_destination_node_number : (destination : Destination) (n : ℕ) → destination ≡ One n
    → Contains (destination_node_numbers destination) n
only_destination_node_number destination n e = subst (λ (x : Destination). Contains
    (destination_node_numbers x) n) (sym e)
    (member_first n n [] refl)

-- the number of the first of two targets
pub first_destination_node_number : (destination : Destination) (n m : ℕ) → destination ≡ Two n m
    → Contains (destination_node_numbers destination) n
first_destination_node_number destination n m e = subst (λ (x : Destination). Contains
    (destination_node_numbers x) n) (sym e)
    (member_first n n (m ∷ []) refl)

-- the number of the second of two targets
pub second_destination_node_number : (destination : Destination) (n m : ℕ) → destination ≡ Two n m
    → Contains (destination_node_numbers destination) m
second_destination_node_number destination n m e =
    subst (λ (x : Destination). Contains (destination_node_numbers x) m) (sym e)
    (member_later m n (m ∷ []) (member_first m m [] refl))

-- known numbers stay known when numbers are added to the agenda
pub known_stays_in_agenda_growth : (l : NodeLists) (before list there : List ℕ) (n : ℕ) → IsExplorationGrowth list there
    → IsKnownToExploration l before list n
    → IsKnownToExploration l before there n
known_stays_in_agenda_growth l before list there n more (inl e) = inl e
known_stays_in_agenda_growth l before list there n more (inr (inl i)) = inr (inl i)
known_stays_in_agenda_growth l before list there n more (inr (inr i)) =
    inr (inr (exploration_growth_keeps_members list there n more i))

-- both of two targets are known once both are on the agenda
pub two_targets_on_agenda_are_known : (l : NodeLists) (before list there : List ℕ) (destination : Destination) (n p : ℕ)
    → destination ≡ Two n p → IsExplorationGrowth list there
    → IsKnownToExploration l before list n → IsKnownToExploration l before there p
    → (m : ℕ) → Contains (destination_node_numbers destination) m → IsKnownToExploration l before there m
two_targets_on_agenda_are_known l before list there destination n p e more a b m i =
    both (subst (λ (x : Destination). Contains (destination_node_numbers x) m) e i)
  where
    both : Contains (n ∷ p ∷ []) m → IsKnownToExploration l before there m
    both j = elim (member_cases m n (p ∷ []) j) [
      | inl q ↦ subst (IsKnownToExploration l before there) (sym q)
          (known_stays_in_agenda_growth l before list there n more a)
      | inr k ↦ elim (member_cases m p [] k)
          [ inl q ↦ subst (IsKnownToExploration l before there) (sym q) b | inr z ↦ absurd (no_member m z) ]
    ]
