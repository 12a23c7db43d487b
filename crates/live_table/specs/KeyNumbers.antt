-- The numbers of keys.
use Rattle.std.specs.Prelude.{◌≡◌, ◌≤◌, ◌+◌, ◌⊎◌, ℕ, Bool, false, Some, List, map, slice_get, vec_capacity, vec_len}
use Rattle.def_entry.specs.declared.key.Key.{Key}
use Rattle.def_entry.specs.SameKeys.{is_entry_key_among}
use Rattle.def_entry.specs.Tables.{EntryTable, keys_of_entries}
use Rattle.live_table.specs.declared.dead_end.DeadEnd.{DeadEnd}
use Rattle.live_table.specs.declared.nodes.Nodes.{Nodes}
use Rattle.live_table.specs.Exploration.{AreNodesAdded, IsExplorationAgenda, IsNameAddedToNodes}
use Rattle.live_table.specs.Sound.{AreSoundNodes}
use Rattle.live_table.specs.TableContents.{NodeLists, node_lists}

-- each number has a flag that says whether its key is among these
abbrev pub AreNodesFlagged : List Key → Nodes → Type 0
AreNodesFlagged keys nodes = nodes.present.items ≡ map (is_entry_key_among keys) nodes.keys

-- over a table of these keys only new names are added
pub record IsNodeExtension (keys : List Key) (start now : Nodes) : Type 0 where
  pub numbered_names : (table : EntryTable) → keys_of_entries table ≡ keys → AreSoundNodes table (node_lists start)
      → (before list : List ℕ) (ends : List DeadEnd) → IsExplorationAgenda table (node_lists start) before list
      → AreNodesAdded table (node_lists start) (node_lists now) before list list ends ends
  pub same_gathered : now.gathered ≡ start.gathered

-- a key has a number: if it had none, there is one more name, with this flag; nothing else has changed
pub record HasNodeNumber (k : Key) (flag : Bool) (n : ℕ) (l m : NodeLists) : Type 0 where
  pub number : slice_get m.keys n ≡ Some k
  pub names : (m ≡ l) ⊎ ((is_entry_key_among l.keys k ≡ false) × IsNameAddedToNodes k flag l m)

-- there is room for the data of `more` further names
pub record HasNodeRoom (more : ℕ) (nodes : Nodes) : Type 0 where
  pub flag_room : vec_len nodes.present + more ≤ vec_capacity nodes.present
  pub callee_room : vec_len nodes.callees + more ≤ vec_capacity nodes.callees
  pub outcome_room : vec_len nodes.outcomes + more ≤ vec_capacity nodes.outcomes
  pub step_room : vec_len nodes.steps + more ≤ vec_capacity nodes.steps
  pub look_room : vec_len nodes.looks + more ≤ vec_capacity nodes.looks
  pub settled_room : vec_len nodes.settled + more ≤ vec_capacity nodes.settled
  pub place_room : vec_len nodes.places + more ≤ vec_capacity nodes.places
