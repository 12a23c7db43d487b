-- The invariants of the nodes of a live table.
use Rattle.std.specs.Prelude.{◌≡◌, ◌<◌, ◌≤◌, ◌^◌, ◌-◌, ℕ, true, Option, count_by, map, length, Some, nat_eq, slice_get}
use Rattle.std.specs.List.{IsDistinct}
use Rattle.std.specs.Option.{is_some}
use Rattle.def_entry.specs.declared.key.Key.{Key}
use Rattle.def_entry.specs.Entries.{Entry}
use Rattle.def_entry.specs.Tables.{EntryTable, entry_at, is_entry_present}
use Rattle.deck.specs.Decks.{DeckContents}
use Rattle.deck.specs.Tables.{table_of_deck}
use Rattle.name_walk.specs.ClosedNames.{IsSettledInGraph}
use Rattle.name_walk.specs.Nets.{IsConsistentGraph}
use Rattle.name_walk.specs.Steps.{graph_steps}
use Rattle.table_names.specs.declared.fault.NameFault.{NameFault}
use Rattle.table_names.specs.Meanings.{key_meaning}
use Rattle.table_names.specs.Words.{table_words_of_key}
use Rattle.table_names.specs.NumberedNames.{AreWords}
use Rattle.live_table.specs.declared.callee.Callee.{Callee}
use Rattle.live_table.specs.Callees.{HasNodePartStarts, HasNodeRank}
use Rattle.live_table.specs.Looks.{AllNodeStepsLead, AreNodeLooks}
use Rattle.live_table.specs.TableView.{IsRightLiveView}
use Rattle.live_table.specs.TableContents.{NodeLists, live_view_of_nodes, node_key_at, node_looks_of}

-- the steps of a number are those of the words of its key, whatever the faults of the words that lead nowhere
abbrev pub IsFaithfulNode : EntryTable → NodeLists → ℕ → Type 0
IsFaithfulNode table l n =
    (dead_end : ℕ → Option Key → NameFault)
    → AreWords table (node_key_at l.keys) dead_end (table_words_of_key table (node_key_at l.keys n))
    (graph_steps l.graph n)

-- the stored starts of a number are those of the trees of its entry
abbrev pub HasCachedPartStarts : EntryTable → NodeLists → ℕ → Type 0
HasCachedPartStarts table l n =
    (e : Entry) (c : Callee) → entry_at table (node_key_at l.keys n) ≡ Some e → slice_get l.callees n ≡ Some c
    → HasNodePartStarts e.what c

-- the stored rank of a number is that of its key
abbrev pub HasCachedRank : EntryTable → NodeLists → ℕ → Type 0
HasCachedRank table l n =
    (c : Callee) → slice_get l.callees n ≡ Some c → HasNodeRank (key_meaning table (node_key_at l.keys n)) c

-- the stored looks of a number are the keys at which its words look besides their targets, each once
pub record HasCachedLooks (table : EntryTable) (l : NodeLists) (n : ℕ) : Type 0 where
  pub looks : AreNodeLooks table l.keys (table_words_of_key table (node_key_at l.keys n)) (graph_steps l.graph n)
      (node_looks_of l.looks n)
  pub numbers_distinct : IsDistinct nat_eq (node_looks_of l.looks n)

-- the stored looks of a number are right if all its steps lead somewhere
abbrev pub HasCachedLooksIfLed : EntryTable → NodeLists → ℕ → Type 0
HasCachedLooksIfLed table l n = AllNodeStepsLead (graph_steps l.graph n) → HasCachedLooks table l n

-- each number has a key of its own, a flag that says whether the key has an entry, and steps; the names to which a
-- settled name leads are settled, it has an entry, and its steps and the keys at which it looks are those of its words
-- in the present table. The steps of any other name may be stale.
pub record AreSoundNodes (table : EntryTable) (l : NodeLists) : Type 0 where
  pub step_count : length l.graph ≡ length l.keys
  pub outcome_count : length l.outcomes ≡ length l.keys
  pub callee_count : length l.callees ≡ length l.keys
  pub look_count : length l.looks ≡ length l.keys
  pub flags_right : l.entry_flags ≡ map (is_entry_present table) l.keys
  pub marks_right : l.settled_flags ≡ map is_some l.outcomes
  pub count_right : l.count ≡ count_by (λ b. b) l.settled_flags
  pub numbers_apart : (n m : ℕ) → n < length l.keys → m < length l.keys → node_key_at l.keys n ≡ node_key_at l.keys m
      → n ≡ m
  pub net : IsConsistentGraph l.graph l.settled_flags
  pub settled_have_entries : (n : ℕ) → IsSettledInGraph l.settled_flags n
      → is_entry_present table (node_key_at l.keys n) ≡ true
  pub faithful : (n : ℕ) → IsSettledInGraph l.settled_flags n → IsFaithfulNode table l n
  pub part_starts : (n : ℕ) → IsSettledInGraph l.settled_flags n → HasCachedPartStarts table l n
  pub ranks : (n : ℕ) → IsSettledInGraph l.settled_flags n → HasCachedRank table l n
  pub settled_looks : (n : ℕ) → IsSettledInGraph l.settled_flags n → HasCachedLooks table l n

-- a live table: its nodes, and the right outcome of each settled name
pub record IsSoundLiveTable (deck : DeckContents) (l : NodeLists) (reductions : ℕ) : Type 0 where
  pub numbers : AreSoundNodes (table_of_deck deck) l
  pub is_right : IsRightLiveView (live_view_of_nodes deck l reductions)
  pub few_reductions : reductions ≤ 2 ^ 64 - 1
