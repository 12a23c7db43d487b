-- An exploration does not change the visible state.
use Rattle.std.proofs.Common.{◌≡◌, ◌∷◌, [], ℕ, List, Option, is_none, sym, ap, subst}
use Rattle.std.specs.Prelude.{Result, Err}
use Rattle.expr_tree.specs.declared.word_list.WordUse.{WordUse}
use Rattle.def_entry.specs.declared.key.Key.{Key}
use Rattle.def_entry.specs.Tables.{EntryTable}
use Rattle.table_names.specs.declared.fault.NameFault.{NameFault}
use Rattle.table_names.specs.Faults.{key_fault, name_fault}
use Rattle.table_names.specs.Reach.{key_reach, reach}
use Rattle.deck.specs.Decks.{DeckContents}
use Rattle.deck.specs.Tables.{table_of_deck}
use Rattle.live_table.specs.declared.dead_end.DeadEnd.{DeadEnd}
use Rattle.live_table.specs.declared.fault.QueryFault.{QueryFault}
use Rattle.live_table.specs.declared.fault.QueryFault.TheVariants.{OutOfMemory}
use Rattle.live_table.specs.declared.late_edges.LateEdges.{LateEdges}
use Rattle.live_table.specs.QueryEffects.{IsLiveQueryEffect}
use Rattle.live_table.specs.TableEdges.{IsLive}
use Rattle.live_table.specs.Exploration.{AreNodesGrown}
use Rattle.live_table.specs.TableView.{AreLiveEventsCutOff, IsRightLiveView, LiveView}
use Rattle.live_table.specs.Sound.{IsSoundLiveTable}
use Rattle.live_table.specs.States.{AsksKey, AsksWords, LiveEvent, live_state_after_query}
use Rattle.live_table.specs.TableContents.{NodeLists, live_view_of_nodes}
use Rattle.live_table.proofs.WaitingNames.{grown_edges}
use Rattle.live_table.proofs.Queries.{IsQueryOf, cut_off}

-- the visible state of a table that has grown is the same
pub grown_nodes_keep_live_view : (deck : DeckContents) (l m : NodeLists) (before here there : List ℕ)
    (ends more : List DeadEnd)
    (r : ℕ) → AreNodesGrown (table_of_deck deck) l m before here there ends more
    → live_view_of_nodes deck m r ≡ live_view_of_nodes deck l r
grown_nodes_keep_live_view deck l m before here there ends more r g = λ i.
    record { deck = deck; kept_outcomes = g.same_outcomes i; reductions = r }

-- a table that has grown is sound
pub grown_live_table_is_sound : (deck : DeckContents) (l m : NodeLists) (before here there : List ℕ)
    (ends more : List DeadEnd) (r : ℕ)
    → AreNodesGrown (table_of_deck deck) l m before here there ends more
    → IsSoundLiveTable deck l r → IsSoundLiveTable deck m r
grown_live_table_is_sound deck l m before here there ends more r g s = record {
  numbers = g.nodes;
  is_right = subst IsRightLiveView (sym (grown_nodes_keep_live_view deck l m before here there ends more r g))
      s.is_right;
  few_reductions = s.few_reductions;
}

-- a table that has grown has its edges
pub grown_live : (deck : DeckContents) (l m : NodeLists) (before here there : List ℕ) (ends more : List DeadEnd) (r : ℕ)
    → AreNodesGrown (table_of_deck deck) l m before here there ends more → (e : LateEdges)
    → IsLive deck l e r → IsLive deck m e r
grown_live deck l m before here there ends more r grown e live = record {
  is_sound = grown_live_table_is_sound deck l m before here there ends more r grown live.is_sound;
  edges = grown_edges deck l m before here there ends more r grown live.is_sound e.waiting.items e.made
      live.edges;
}

-- ---- a query of words, and of a key
pub live_query_of_words : (t : EntryTable) (us : List WordUse) → IsQueryOf (AsksWords us) t (name_fault t us)
    (reach t us)
live_query_of_words t us =
    record {
      after = λ s e. ap (λ (x : EntryTable). live_state_after_query (is_none (name_fault x us)) (reach x us) s) e;
    }

-- the subject of a query of a key
pub live_query_of_key : (t : EntryTable) (k : Key) → IsQueryOf (AsksKey k) t (key_fault t k) (k ∷ key_reach t k)
live_query_of_key t k =
    record {
      after = λ s e.
          ap (λ (x : EntryTable). live_state_after_query (is_none (key_fault x k)) (k ∷ key_reach x k) s) e;
    }

-- ---- memory runs out before the walk
pub live_query_cut_before_walk : {A : Type 0} (Given : A → Type 0) (event : LiveEvent) (fault : Option NameFault)
    (reached : List Key)
    (deck : DeckContents) (l m : NodeLists) (before here there : List ℕ) (ends more : List DeadEnd) (r old : ℕ)
    → AreNodesGrown (table_of_deck deck) l m before here there ends more → IsSoundLiveTable deck l r
    → IsQueryOf event (table_of_deck deck) fault reached
    → (result : Result A QueryFault) → result ≡ Err OutOfMemory
    → IsLiveQueryEffect event fault Given result (live_view_of_nodes deck l r) (live_view_of_nodes deck m r) old old
live_query_cut_before_walk {A} Given event fault reached deck l m before here there ends more r old g s is result e =
    subst (λ (x : Result A QueryFault). IsLiveQueryEffect event fault Given x (live_view_of_nodes deck l r)
    (live_view_of_nodes deck m r) old
    old) (sym e)
    (subst (λ (now : LiveView). AreLiveEventsCutOff (event ∷ []) (live_view_of_nodes deck l r) now old old)
    (sym (grown_nodes_keep_live_view deck l m before here there ends more r g))
    (cut_off event fault reached (live_view_of_nodes deck l r) old s.is_right is))
