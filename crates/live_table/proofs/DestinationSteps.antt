-- The steps of a word, by its destination.
use Rattle.std.proofs.Common.{◌≡◌, ◌<◌, ◌++◌, ℕ, true, List, [], ◌∷◌, length, Some, None, refl, sym, subst, inl, inr}
use Rattle.std.proofs.Common.{Contains}
use Rattle.std.proofs.lemmas.Option.{same_Some}
use Rattle.expr_tree.specs.declared.word_list.WordUse.{WordUse}
use Rattle.def_entry.specs.declared.key.Key.{Key}
use Rattle.def_entry.specs.Tables.{EntryTable, is_entry_present}
use Rattle.name_walk.specs.declared.step.Step.{Step}
use Rattle.name_walk.specs.declared.step.Step.TheVariants as step
use Rattle.table_names.specs.NumberedNames.{ForOne, ForTwo}
use Rattle.live_table.specs.declared.dead_end.DeadEnd.{DeadEnd}
use Rattle.live_table.specs.declared.word_targets.Destination.{Destination}
use Rattle.live_table.specs.declared.word_targets.Destination.TheVariants.{Refused, Nowhere, One, Two}
use Rattle.live_table.specs.declared.word_steps.WordSteps.{WordSteps}
use Rattle.live_table.specs.Exploration.{AreExplorationSteps, IsKnownToExploration}
use Rattle.live_table.specs.WordTargets.{IsLiveQueryDestination, IsNodeDestination, destination_node_numbers}
use Rattle.live_table.specs.WordTargets.{is_refused_node_destination}
use Rattle.live_table.specs.WordTargets.{node_steps_of_destination}
use Rattle.live_table.specs.Looks.{AreNodeLooksAdded}
use Rattle.live_table.specs.TableContents.{NodeLists, node_key_at}
use Rattle.live_table.proofs.LookedKeys.{looks_put, single_node_target_is_both_steps, two_node_targets_are_two_steps}
use Rattle.live_table.proofs.WrittenSteps.{first_node_target_is_present, only_node_target_is_present, refused_written}
use Rattle.live_table.proofs.WrittenSteps.{second_node_target_is_present, two_written, unknown_written}
use Rattle.general_lemmas.proofs.Members.{no_member, member_first, member_later, member_cases}

-- ---- targets
-- the destination of a word of an entry is that of a word of a query
pub node_destination_is_query_destination : (t : EntryTable) (keys : List Key) (u : WordUse) (old new : List ℕ)
    (destination : Destination)
    → IsNodeDestination t keys u old new destination → IsLiveQueryDestination t keys u destination
node_destination_is_query_destination t keys u old new Refused h = h
node_destination_is_query_destination t keys u old new Nowhere h = (h.0, h.1, λ m i. absurd (no_member m i))
node_destination_is_query_destination t keys u old new (One n) h = (h.0, h.1.targets, h.1.targets_in_table)
node_destination_is_query_destination t keys u old new (Two n m) h = (h.0, h.1.targets, h.1.targets_in_table)

module _ (t : EntryTable) (keys : List Key) (u : WordUse) where
  -- targets have numbers
  pub destination_within : (destination : Destination) → IsLiveQueryDestination t keys u destination → (m : ℕ)
      → Contains (destination_node_numbers destination) m
      → m < length keys
  destination_within Refused h m i = absurd (no_member m i)
  destination_within Nowhere h m i = absurd (no_member m i)
  destination_within (One n) h m i = h.2 m i
  destination_within (Two n p) h m i = h.2 m i

  is_there : (m n : ℕ) → m ≡ n → is_entry_present t (node_key_at keys n) ≡ true
      → is_entry_present t (node_key_at keys m) ≡ true
  is_there m n e p = subst (λ (x : ℕ). is_entry_present t (node_key_at keys x) ≡ true) (sym e) p

  -- targets have entries
  pub destination_present : (destination : Destination) → IsLiveQueryDestination t keys u destination → (m : ℕ)
      → Contains (destination_node_numbers destination) m
      → is_entry_present t (node_key_at keys m) ≡ true
  destination_present Refused h m i = absurd (no_member m i)
  destination_present Nowhere h m i = absurd (no_member m i)
  destination_present (One n) h m i = elim (member_cases m n [] i) [
    | inl e ↦ is_there m n e (only_node_target_is_present t u (node_key_at keys n) h.1)
    | inr j ↦ absurd (no_member m j)
  ]
  destination_present (Two n p) h m i = elim (member_cases m n (p ∷ []) i) [
    | inl e ↦ is_there m n e (first_node_target_is_present t u (node_key_at keys n) (node_key_at keys p) h.1)
    | inr j ↦ elim (member_cases m p [] j) [
      | inl e ↦ is_there m p e (second_node_target_is_present t u (node_key_at keys n) (node_key_at keys p) h.1)
      | inr k ↦ absurd (no_member m k)
    ]
  ]

  -- ---- the keys at which a word with targets looks
  abbrev Put : (old new : List ℕ) → WordSteps → Type 0
  Put old new s = AreNodeLooksAdded t keys u (s.first ∷ s.second ∷ []) old new

  pub steps_looked : (old new : List ℕ) (destination : Destination) (s : WordSteps)
      → IsNodeDestination t keys u old new destination
      → Some s ≡ node_steps_of_destination destination
      → AreNodeLooksAdded t keys u (s.first ∷ s.second ∷ []) old new
  steps_looked old new Refused s h e = cc
  steps_looked old new Nowhere s h e = cc
  steps_looked old new (One n) s h e =
      let w : WordSteps = record { first = step.To n; second = step.To n } in
      subst (Put old new) (sym (same_Some s w e))
      (looks_put t keys u (n ∷ []) old new _ h.1 (single_node_target_is_both_steps n))
  steps_looked old new (Two n m) s h e =
      let w : WordSteps = record { first = step.To n; second = step.To m } in
      subst (Put old new) (sym (same_Some s w e))
      (looks_put t keys u (n ∷ m ∷ []) old new _ h.1 (two_node_targets_are_two_steps n m))

-- ---- the steps of a word
module _ (t : EntryTable) (l : NodeLists) (before list : List ℕ) (ends : List DeadEnd) (u : WordUse) where
  abbrev Written : WordSteps → Type 0
  Written s = AreExplorationSteps t l before list ends (u ∷ []) (s.first ∷ s.second ∷ [])

  pub steps_written : (destination : Destination) (s : WordSteps) → IsLiveQueryDestination t l.keys u destination
      → ((m : ℕ) → Contains (destination_node_numbers destination) m → IsKnownToExploration l before list m)
      → Some s ≡ node_steps_of_destination destination
      → AreExplorationSteps t l before list ends (u ∷ []) (s.first ∷ s.second ∷ [])
  steps_written Refused s h known e = cc
  steps_written Nowhere s h known e = cc
  steps_written (One n) s h known e =
      let w : WordSteps = record { first = step.To n; second = step.To n } in
      subst Written (sym (same_Some s w e))
      (two_written t l before list u ends n n (ForOne n h.0 h.1) (known n (member_first n n [] refl))
      (known n (member_first n n [] refl)))
  steps_written (Two n m) s h known e =
      let w : WordSteps = record { first = step.To n; second = step.To m } in
      subst Written (sym (same_Some s w e))
      (two_written t l before list u ends n m (ForTwo n m h.0 h.1) (known n (member_first n n (m ∷ []) refl))
      (known m (member_later m n (m ∷ []) (member_first m m [] refl))))

  -- the steps of a word that leads nowhere
  pub nowhere_written : (more : List DeadEnd) (destination : Destination) (x y : Step)
      → IsLiveQueryDestination t l.keys u destination
      → None ≡ node_steps_of_destination destination
      → more ≡ ends ++ record { text = u.text; is_refused = is_refused_node_destination destination } ∷ []
      → x ≡ step.Nowhere (length ends) → y ≡ step.Nowhere (length ends)
      → AreExplorationSteps t l before list more (u ∷ []) (x ∷ y ∷ [])
  nowhere_written more Refused x y h none e p q = refused_written t l before list u ends more x y h e p q
  nowhere_written more Nowhere x y h none e p q = unknown_written t l before list u ends more x y h.0 h.1 e p q
  nowhere_written more (One n) x y h none e p q = cc
  nowhere_written more (Two n m) x y h none e p q = cc
