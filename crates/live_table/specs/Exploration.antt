-- The state of an exploration: the names that are still to be processed are on an agenda. Names that were explored
-- before and have not changed since are not processed again.
use Rattle.std.specs.Prelude.{◌≡◌, ◌⊎◌, ◌||◌, ◌++◌, ◌∷◌, [], ◌<◌, ℕ, Bool, true, false, List, length, Option, Some}
use Rattle.std.specs.Prelude.{None, Vec, nat_eq, slice_get, slice_set, Contains}
use Rattle.std.specs.declared.alloc.Global.{Global}
use Rattle.std.specs.List.{IsDistinct}
use Rattle.expr_tree.specs.declared.word_list.WordUse.{WordUse}
use Rattle.def_entry.specs.declared.key.Key.{Key}
use Rattle.def_entry.specs.Tables.{EntryTable, is_entry_present}
use Rattle.name_walk.specs.declared.step.Step.{Step}
use Rattle.name_walk.specs.declared.step.Step.TheVariants.{Nowhere, To}
use Rattle.name_walk.specs.ClosedNames.{IsSettledInGraph}
use Rattle.name_walk.specs.Faults.{is_on_path}
use Rattle.name_walk.specs.Steps.{graph_steps}
use Rattle.table_names.specs.Words.{table_words_of_key}
use Rattle.table_names.specs.NumberedNames.{AreWords}
use Rattle.live_table.specs.declared.callee.Callee.{Callee}
use Rattle.live_table.specs.declared.dead_end.DeadEnd.{DeadEnd}
use Rattle.live_table.specs.ExploredNames.{explored_fault_at}
use Rattle.live_table.specs.Looks.{AllNodeStepsLead, AreNodeLooksAdded}
use Rattle.live_table.specs.Sound.{AreSoundNodes, HasCachedLooksIfLed, HasCachedPartStarts}
use Rattle.live_table.specs.TableContents.{NodeLists, cached_outcomes_of, node_key_at, node_looks_of}

-- distinct numbers of names that have an entry, are not settled and were not explored before
pub record IsExplorationAgenda (table : EntryTable) (l : NodeLists) (before list : List ℕ) : Type 0 where
  pub explored_in_table : (n : ℕ) → Contains before n → n < length l.keys
  pub listed_in_table : (n : ℕ) → Contains list n → n < length l.keys
  pub listed_not_settled : (n : ℕ) → Contains list n → IsSettledInGraph l.settled_flags n → ⊥
  pub new : (n : ℕ) → Contains list n → Contains before n → ⊥
  pub listed_have_entries : (n : ℕ) → Contains list n → is_entry_present table (node_key_at l.keys n) ≡ true
  pub numbers_distinct : IsDistinct nat_eq list

-- the first list is an initial part of the second
abbrev pub IsExplorationGrowth : {A : Type 0} → List A → List A → Type 0
IsExplorationGrowth {A} xs ys = (i : ℕ) (x : A) → slice_get xs i ≡ Some x → slice_get ys i ≡ Some x

-- names, listed numbers and dead ends are added, and the data of the settled names do not change
pub record AreNodesGrown (table : EntryTable) (l m : NodeLists) (before here there : List ℕ)
    (ends more : List DeadEnd) : Type 0
  where
    pub nodes : AreSoundNodes table m
    pub same_outcomes : cached_outcomes_of m.keys m.outcomes ≡ cached_outcomes_of l.keys l.outcomes
    pub list_right : IsExplorationAgenda table m before there
    pub keys_more : IsExplorationGrowth l.keys m.keys
    pub settled_still : (n : ℕ) → IsSettledInGraph l.settled_flags n → IsSettledInGraph m.settled_flags n
    pub list_more : IsExplorationGrowth here there
    pub ends_more : IsExplorationGrowth ends more

-- the previous names for which `Other` holds have the same steps, callees and looks
pub record AreOtherNodesSame (Other : ℕ → Type 0) (l m : NodeLists) : Type 0 where
  pub steps : (n : ℕ) → n < length l.keys → Other n → graph_steps m.graph n ≡ graph_steps l.graph n
  pub callees : (n : ℕ) → n < length l.keys → Other n → slice_get m.callees n ≡ slice_get l.callees n
  pub looks : (n : ℕ) → n < length l.keys → Other n → node_looks_of m.looks n ≡ node_looks_of l.looks n

-- names, listed numbers and dead ends are added, and nothing else changes
pub record AreNodesAdded (table : EntryTable) (l m : NodeLists) (before here there : List ℕ)
    (ends more : List DeadEnd) : Type 0
  where
    pub growth : AreNodesGrown table l m before here there ends more
    pub same_nodes : AreOtherNodesSame (λ _. Unit {0}) l m

-- the name is settled, was explored before, or is listed
abbrev pub IsKnownToExploration : NodeLists → (before list : List ℕ) → ℕ → Type 0
IsKnownToExploration l before list n = IsSettledInGraph l.settled_flags n ⊎ (Contains before n ⊎ Contains list n)

-- the computed form of `IsKnownToExploration`
abbrev pub is_set_settled_flag : Option Bool → Bool
is_set_settled_flag None = false
is_set_settled_flag (Some b) = b

abbrev pub is_known_to_exploration : List Bool → (before list : List ℕ) → ℕ → Bool
is_known_to_exploration settled before list n = is_set_settled_flag (slice_get settled n) ||
    (is_on_path before n || is_on_path list n)

-- these are the steps of the words, each to a name that is known
pub record AreExplorationSteps (table : EntryTable) (l : NodeLists) (before list : List ℕ) (ends : List DeadEnd)
    (us : List WordUse)
    (xs : List Step) : Type 0 where
  pub words : AreWords table (node_key_at l.keys) (explored_fault_at ends) us xs
  pub targets : (n : ℕ) → Contains xs (To n) → IsKnownToExploration l before list n
  pub dead_ends_within : (t : ℕ) → Contains xs (Nowhere t) → t < length ends

-- the steps of one more word are appended, and its looks are added
pub record AreExplorationStepsAfter (table : EntryTable) (l : NodeLists) (before list : List ℕ) (ends : List DeadEnd)
    (old new : List ℕ) (u : WordUse) (xs ys : List Step) : Type 0 where
  pub own_steps : List Step
  pub steps_appended : ys ≡ xs ++ own_steps
  pub own_steps_right : AreExplorationSteps table l before list ends (u ∷ []) own_steps
  pub looks : AllNodeStepsLead own_steps → AreNodeLooksAdded table l.keys u own_steps old new

-- the steps of a number are those of its words, and if all of them lead somewhere, its looks are the keys at which its
-- words look
pub record HasOwnExplorationSteps (table : EntryTable) (l : NodeLists) (before list : List ℕ) (ends : List DeadEnd)
    (n : ℕ) : Type 0 where
  pub steps : AreExplorationSteps table l before list ends (table_words_of_key table (node_key_at l.keys n))
      (graph_steps l.graph n)
  pub part_starts : HasCachedPartStarts table l n
  pub looks : HasCachedLooksIfLed table l n

-- names that were explored before: they have an entry and their steps, and the names to which these lead are settled or
-- explored too
pub record WereExplored (table : EntryTable) (l : NodeLists) (before : List ℕ) (ends : List DeadEnd) : Type 0 where
  pub explored_in_table : (n : ℕ) → Contains before n → n < length l.keys
  pub explored_have_entries : (n : ℕ) → Contains before n → is_entry_present table (node_key_at l.keys n) ≡ true
  pub explored_have_steps : (n : ℕ) → Contains before n → HasOwnExplorationSteps table l before [] ends n

-- names that were explored before still are
abbrev pub StayExplored : EntryTable → NodeLists → NodeLists → Type 0
StayExplored table l m =
    (before : List ℕ) (ends : List DeadEnd) → WereExplored table l before ends → WereExplored table m before ends

-- all names below a query are explored: those from before, and those on the agenda
pub record AreAllExplored (table : EntryTable) (l : NodeLists) (before list : List ℕ) (ends : List DeadEnd) : Type 0
  where
    pub list_right : IsExplorationAgenda table l before list
    pub earlier_explored : WereExplored table l before ends
    pub listed_have_steps : (n : ℕ) → Contains list n → HasOwnExplorationSteps table l before list ends n

-- the nodes with one more name, which is not settled
abbrev pub nodes_with_new_name : Key → Bool → Callee → List Step → Vec ℕ Global → NodeLists → NodeLists
nodes_with_new_name k b c v w l = record {
  keys = l.keys ++ k ∷ [];
  entry_flags = l.entry_flags ++ b ∷ [];
  callees = l.callees ++ c ∷ [];
  outcomes = l.outcomes ++ None ∷ [];
  graph = l.graph ++ v ∷ [];
  looks = l.looks ++ w ∷ [];
  settled_flags = l.settled_flags ++ false ∷ [];
  count = l.count;
}

pub record IsNameAddedToNodes (k : Key) (b : Bool) (l m : NodeLists) : Type 0 where
  pub callee : Callee
  pub steps : List Step
  pub looks : Vec ℕ Global
  pub no_steps : steps ≡ []
  pub no_looks : looks.items ≡ []
  pub name_added : m ≡ nodes_with_new_name k b callee steps looks l

-- the nodes with other steps and looks of one name, and with the starts of its trees
abbrev pub nodes_with_steps : ℕ → Callee → List Step → Vec ℕ Global → NodeLists → NodeLists
nodes_with_steps n c v w l = record l {
  callees = slice_set l.callees n c;
  graph = slice_set l.graph n v;
  looks = slice_set l.looks n w;
}
