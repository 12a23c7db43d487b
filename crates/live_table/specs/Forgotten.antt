-- The nodes and edges that are left after keys have changed.
use Rattle.std.specs.Prelude.{◌≡◌, ◌<◌, ◌≤◌, ℕ, List, Some, length, slice_get, Contains}
use Rattle.def_entry.specs.declared.key.Key.{Key}
use Rattle.def_entry.specs.Tables.{EntryTable, is_entry_present}
use Rattle.edge_links.specs.Reach.{AreMarksCleared}
use Rattle.edge_links.specs.AffectedNames.{AreAffectedByEdges, ForgetsNameEdges}
use Rattle.edge_links.specs.NameGraphs.{NameEdgeGraph}
use Rattle.table_names.specs.EdgeLaws.{AreNumbersOfNames}
use Rattle.live_table.specs.TableEdges.{is_flagged_settled}
use Rattle.live_table.specs.OutcomesLeft.{AreSettledNumbersLeft}
use Rattle.live_table.specs.TableContents.{NodeLists, node_key_at}

-- the flags say of the changed keys whether they have an entry now
pub record AreNodesFlaggedAnew (t : EntryTable) (keys : List Key) (l m : NodeLists) : Type 0 where
  pub flag_count : length m.entry_flags ≡ length l.entry_flags
  pub changed_flags : (n : ℕ) → n < length l.keys → Contains keys (node_key_at l.keys n)
      → slice_get m.entry_flags n ≡ Some (is_entry_present t (node_key_at l.keys n))
  pub other_flags : (n : ℕ) → n < length l.keys → (Contains keys (node_key_at l.keys n) → ⊥)
      → slice_get m.entry_flags n ≡ slice_get l.entry_flags n

-- the parts of the nodes that do not change
pub record AreNodePartsUnchanged (l m : NodeLists) : Type 0 where
  pub keys : m.keys ≡ l.keys
  pub callees : m.callees ≡ l.callees
  pub graph : m.graph ≡ l.graph
  pub looks : m.looks ≡ l.looks

-- the names that a change of these keys affects are forgotten, and no others
pub record AreForgotten (t : EntryTable) (keys : List Key) (l m : NodeLists) (g h : NameEdgeGraph) : Type 0 where
  pub numbers : List ℕ
  pub of : AreNumbersOfNames (node_key_at l.keys) g.names keys numbers
  pub edges : ForgetsNameEdges (AreAffectedByEdges g numbers) g h
  pub marks_cleared : AreMarksCleared (AreAffectedByEdges g numbers) (is_flagged_settled l.settled_flags)
      (is_flagged_settled m.settled_flags)
  pub numbers_left : AreSettledNumbersLeft l.settled_flags m.settled_flags l.count m.count l.outcomes m.outcomes
  pub flags_anew : AreNodesFlaggedAnew t keys l m
  pub rest_same : AreNodePartsUnchanged l m

-- the precondition of forgetting: keys of different numbers differ, each has a flag, and no edge leads beyond them
pub record CanForget (l : NodeLists) (g : NameEdgeGraph) : Type 0 where
  pub numbers_apart : (n m : ℕ) → n < length l.keys → m < length l.keys → node_key_at l.keys n ≡ node_key_at l.keys m
      → n ≡ m
  pub flag_per_key : length l.entry_flags ≡ length l.keys
  pub names : g.names ≤ length l.keys
