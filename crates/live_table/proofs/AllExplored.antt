-- All names below a query are explored: each known name has a number, its steps and its looks.
use Rattle.std.proofs.Common.{◌≡◌, ◌<◌, ◌||◌, ℕ, Bool, true, List, [], length, Option, Some, None, ap}
use Rattle.std.proofs.Common.{inl, inr, arith, Contains}
use Rattle.std.specs.List.{slice_get}
use Rattle.std.proofs.lemmas.Bool.{or_cases, or_left, or_right}
use Rattle.def_entry.specs.Tables.{EntryTable, is_entry_present}
use Rattle.name_walk.specs.declared.step.Step.TheVariants.{To}
use Rattle.name_walk.specs.Faults.{is_on_path}
use Rattle.name_walk.specs.Steps.{graph_steps}
use Rattle.name_walk.proofs.Members.{member_on_path, on_path_member}
use Rattle.table_names.specs.Words.{table_words_of_key}
use Rattle.table_names.specs.NumberedNames.{AreWords}
use Rattle.live_table.specs.declared.dead_end.DeadEnd.{DeadEnd}
use Rattle.live_table.specs.ExploredNames.{AreExplored, explored_fault_at}
use Rattle.live_table.specs.Exploration.{AreAllExplored, IsKnownToExploration, is_known_to_exploration}
use Rattle.live_table.specs.Exploration.{is_set_settled_flag}
use Rattle.live_table.specs.Sound.{AreSoundNodes, HasCachedLooksIfLed, HasCachedPartStarts}
use Rattle.live_table.specs.TableContents.{NodeLists, node_key_at}
use Rattle.live_table.proofs.AddedNames.{known_node_is_within_keys}
use Rattle.general_lemmas.proofs.Members.{no_member}

-- a mark that is set is present
settled_flag_is_present : (o : Option Bool) → is_set_settled_flag o ≡ true → o ≡ Some true
settled_flag_is_present None e = cc
settled_flag_is_present (Some b) e = ap Some e

-- a number that is found to be known is known
pub known_to_exploration_if_found : (l : NodeLists) (before list : List ℕ) (n : ℕ)
    → is_known_to_exploration l.settled_flags before list n ≡ true
    → IsKnownToExploration l before list n
known_to_exploration_if_found l before list n k =
    elim (or_cases (is_set_settled_flag (slice_get l.settled_flags n)) (is_on_path before n || is_on_path list n) k) [
      | inl e ↦ inl (settled_flag_is_present (slice_get l.settled_flags n) e)
      | inr f ↦ elim (or_cases (is_on_path before n) (is_on_path list n) f)
          [ inl e ↦ inr (inl (on_path_member before n e)) | inr e ↦ inr (inr (on_path_member list n e)) ]
    ]

-- a known number is found to be known
pub found_if_known_to_exploration : (l : NodeLists) (before list : List ℕ) (n : ℕ)
    → IsKnownToExploration l before list n
    → is_known_to_exploration l.settled_flags before list n ≡ true
found_if_known_to_exploration l before list n (inl e) =
    or_left (is_set_settled_flag (slice_get l.settled_flags n)) (is_on_path before n || is_on_path list n)
    (ap is_set_settled_flag e)
found_if_known_to_exploration l before list n (inr (inl i)) =
    or_right (is_set_settled_flag (slice_get l.settled_flags n)) (is_on_path before n || is_on_path list n)
    (or_left (is_on_path before n) (is_on_path list n) (member_on_path before n i))
found_if_known_to_exploration l before list n (inr (inr i)) =
    or_right (is_set_settled_flag (slice_get l.settled_flags n)) (is_on_path before n || is_on_path list n)
    (or_right (is_on_path before n) (is_on_path list n) (member_on_path list n i))

module _ (t : EntryTable) (l : NodeLists) (before list : List ℕ) (ends : List DeadEnd) (nodes : AreSoundNodes t l)
    (s : AreAllExplored t l before list ends) where
  abbrev known : ℕ → Bool
  known = is_known_to_exploration l.settled_flags before list

  is_within : (n : ℕ) → known n ≡ true → n < length l.keys
  is_within n k = known_node_is_within_keys t l before list nodes s.list_right n
      (known_to_exploration_if_found l before list n k)

  -- a name that is known without a list is known with one
  without_list : (n : ℕ) → IsKnownToExploration l before [] n → IsKnownToExploration l before list n
  without_list n (inl e) = inl e
  without_list n (inr (inl i)) = inr (inl i)
  without_list n (inr (inr i)) = absurd (no_member n i)

  all_below : (n q : ℕ) → IsKnownToExploration l before list n → Contains (graph_steps l.graph n) (To q)
      → IsKnownToExploration l before list q
  all_below n q (inl e) i = inl ((nodes.net.settled_right n e).1 q i)
  all_below n q (inr (inl j)) i = without_list q ((s.earlier_explored.explored_have_steps n j).steps.targets q i)
  all_below n q (inr (inr j)) i = (s.listed_have_steps n j).steps.targets q i

  all_present : (n : ℕ) → IsKnownToExploration l before list n → is_entry_present t (node_key_at l.keys n) ≡ true
  all_present n (inl e) = nodes.settled_have_entries n e
  all_present n (inr (inl j)) = s.earlier_explored.explored_have_entries n j
  all_present n (inr (inr j)) = s.list_right.listed_have_entries n j

  all_faithful : (n : ℕ) → IsKnownToExploration l before list n
      → AreWords t (node_key_at l.keys) (explored_fault_at ends) (table_words_of_key t (node_key_at l.keys n))
      (graph_steps l.graph n)
  all_faithful n (inl e) = nodes.faithful n e (explored_fault_at ends)
  all_faithful n (inr (inl j)) = (s.earlier_explored.explored_have_steps n j).steps.words
  all_faithful n (inr (inr j)) = (s.listed_have_steps n j).steps.words

  all_starts : (n : ℕ) → IsKnownToExploration l before list n → HasCachedPartStarts t l n
  all_starts n (inl e) = nodes.part_starts n e
  all_starts n (inr (inl j)) = (s.earlier_explored.explored_have_steps n j).part_starts
  all_starts n (inr (inr j)) = (s.listed_have_steps n j).part_starts

  all_looks : (n : ℕ) → IsKnownToExploration l before list n → HasCachedLooksIfLed t l n
  all_looks n (inl e) all = nodes.settled_looks n e
  all_looks n (inr (inl j)) all = (s.earlier_explored.explored_have_steps n j).looks all
  all_looks n (inr (inr j)) all = (s.listed_have_steps n j).looks all

  pub explored_all : AreExplored t l ends known
  explored_all = record {
    numbers_are = record {
      known_in_range = λ n k. let h : n < length l.keys = is_within n k in
          let c : length l.graph ≡ length l.keys = nodes.step_count in omega arith;
      below_known = λ n q k i. found_if_known_to_exploration l before list q
          (all_below n q (known_to_exploration_if_found l before list n k) i);
      keys_apart = λ n q k j e. nodes.numbers_apart n q (is_within n k) (is_within q j) e;
      known_have_entries = λ n k. all_present n (known_to_exploration_if_found l before list n k);
      known_steps = λ n k. all_faithful n (known_to_exploration_if_found l before list n k);
    };
    part_starts = λ n k. all_starts n (known_to_exploration_if_found l before list n k);
    looks = λ n k. all_looks n (known_to_exploration_if_found l before list n k);
  }
