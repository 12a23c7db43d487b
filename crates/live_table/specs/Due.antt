-- Names that can be settled next.
use Rattle.std.specs.Prelude.{◌≡◌, ◌+◌, ◌<◌, ⊤, ℕ, true, false, List, [], ◌∷◌, length, Some, slice_get, slice_set}
use Rattle.def_entry.specs.Tables.{EntryTable, is_entry_present}
use Rattle.name_walk.specs.ClosedNames.{IsSettledInGraph}
use Rattle.name_walk.specs.ClosedNames as walk
use Rattle.name_walk.specs.Steps.{GraphLeadsTo}
use Rattle.table_names.specs.ClosedKeys.{IsClosedKey}
use Rattle.tree_eval.specs.declared.outcome.Outcome.{Outcome}
use Rattle.live_table.specs.declared.callee.Callee.{Callee}
use Rattle.live_table.specs.Sound.{HasCachedLooks, HasCachedPartStarts, IsFaithfulNode}
use Rattle.live_table.specs.TableContents.{NodeLists, node_key_at}

-- the name has an entry, no name fault, the steps of its words and the keys at which they look; it is not settled, but
-- the names to which it leads are
pub record IsDueToBeSettled (table : EntryTable) (l : NodeLists) (n : ℕ) : Type 0 where
  pub in_table : n < length l.keys
  pub still_unsettled : slice_get l.settled_flags n ≡ Some false
  pub key_has_entry : is_entry_present table (node_key_at l.keys n) ≡ true
  pub key_closed : IsClosedKey table (node_key_at l.keys n)
  pub name_closed : walk.IsClosedInGraph l.graph n
  pub targets_settled : (m : ℕ) → GraphLeadsTo l.graph n m → IsSettledInGraph l.settled_flags m
  pub faithful : IsFaithfulNode table l n
  pub part_starts : HasCachedPartStarts table l n
  pub looks : HasCachedLooks table l n

-- the nodes after a name is settled, with its outcome and the data of a function
abbrev pub nodes_with_settled_outcome : ℕ → Outcome → Callee → NodeLists → NodeLists
nodes_with_settled_outcome n o c l = record l {
  callees = slice_set l.callees n c;
  outcomes = slice_set l.outcomes n (Some o);
  settled_flags = slice_set l.settled_flags n true;
  count = l.count + 1;
}

-- names in an order in which each is due once those before it are settled
abbrev pub AreDueToBeSettled : EntryTable → NodeLists → List ℕ → Type 0
AreDueToBeSettled table l [] = ⊤
AreDueToBeSettled table l (n ∷ order) =
    IsDueToBeSettled table l n
    × ((o : Outcome) (c : Callee) → AreDueToBeSettled table (nodes_with_settled_outcome n o c l) order)
