-- The edges of a live table.
use Rattle.std.specs.Prelude.{◌≤◌, ℕ, List, [], ◌∷◌, Bool, false, ⊤, length, slice_index_or, if◌then◌else◌, Contains}
use Rattle.def_entry.specs.declared.key.Key.{Key}
use Rattle.def_entry.specs.Tables.{EntryTable}
use Rattle.deck.specs.Decks.{DeckContents}
use Rattle.deck.specs.Tables.{table_of_deck}
use Rattle.edge_links.specs.NameGraphs.{NameEdgeGraph}
use Rattle.table_names.specs.EdgeLaws.{AreNumberedNameEdges}
use Rattle.name_walk.specs.ClosedNames.{IsSettledInGraph}
use Rattle.name_walk.specs.Faults.{is_on_path}
use Rattle.table_names.specs.Leads.{TableWordsLeadTo}
use Rattle.table_names.specs.Words.{table_words_of_key}
use Rattle.live_table.specs.declared.late_edges.LateEdges.{LateEdges}
use Rattle.live_table.specs.Sound.{IsSoundLiveTable}
use Rattle.live_table.specs.TableContents.{NodeLists, node_key_at}

-- whether a number is settled
abbrev pub is_flagged_settled : List Bool → ℕ → Bool
is_flagged_settled settled n = slice_index_or settled n false

-- the edges are those of the settled names; the last numbers may have none yet
pub record HasSettledEdges (deck : DeckContents) (l : NodeLists) (g : NameEdgeGraph) : Type 0 where
  pub names : g.names ≤ length l.keys
  pub edges_right : AreNumberedNameEdges (table_of_deck deck) (node_key_at l.keys) g.names
      (is_flagged_settled l.settled_flags) g

-- the nodes are sound, and each settled name has its edges
pub record IsLinkedLiveTable (deck : DeckContents) (l : NodeLists) (g : NameEdgeGraph) (reductions : ℕ) : Type 0 where
  pub is_sound : IsSoundLiveTable deck l reductions
  pub edges : HasSettledEdges deck l g

-- whether a number is settled and does not wait for its edges
abbrev pub is_linked_settled_name : List Bool → List ℕ → ℕ → Bool
is_linked_settled_name settled waiting n = if is_on_path waiting n then false else is_flagged_settled settled n

-- distinct names in an order in which each comes after the other names to which its words lead
abbrev pub AreTargetsSettledFirst : EntryTable → (ℕ → Key) → List ℕ → Type 0
AreTargetsSettledFirst t key [] = ⊤
AreTargetsSettledFirst t key (n ∷ rest) =
    ((m : ℕ) → Contains (n ∷ rest) m → TableWordsLeadTo t (table_words_of_key t (key n)) (key m) → ⊥)
    × (Contains rest n → ⊥)
    × AreTargetsSettledFirst t key rest

-- the edges are those of the settled names that do not wait for theirs
pub record HasLateSettledEdges (deck : DeckContents) (l : NodeLists) (waiting : List ℕ) (g : NameEdgeGraph) : Type 0
  where
    pub names : g.names ≤ length l.keys
    pub edges_right : AreNumberedNameEdges (table_of_deck deck) (node_key_at l.keys) g.names
        (is_linked_settled_name l.settled_flags waiting) g
    pub waiting_settled : (n : ℕ) → Contains waiting n → IsSettledInGraph l.settled_flags n
    pub targets_first : AreTargetsSettledFirst (table_of_deck deck) (node_key_at l.keys) waiting

-- a live table is sound, and has its edges except those of the waiting names
pub record IsLive (deck : DeckContents) (l : NodeLists) (e : LateEdges) (reductions : ℕ) : Type 0 where
  pub is_sound : IsSoundLiveTable deck l reductions
  pub edges : HasLateSettledEdges deck l e.waiting.items e.made
