-- The stages of a query: the previous names, then also those that it leads to, and then also all below them.
use Rattle.std.proofs.Common.{◌≡◌, ℕ, Bool, List, Option, map}
use Rattle.std.specs.Prelude.{Result, Err}
use Rattle.def_entry.specs.declared.key.Key.{Key}
use Rattle.name_walk.specs.declared.step.Step.{Step}
use Rattle.table_names.specs.declared.fault.NameFault.{NameFault}
use Rattle.deck.specs.Decks.{DeckContents}
use Rattle.deck.specs.Tables.{table_of_deck}
use Rattle.table_names.specs.NumberedFaultLaws.{NumberedNameFaultLaw}
use Rattle.table_names.specs.SettlingLaws.{NumberedNameSettlingLaw}
use Rattle.live_table.specs.declared.dead_end.DeadEnd.{DeadEnd}
use Rattle.live_table.specs.declared.explored_names.Explored.{Explored}
use Rattle.live_table.specs.declared.fault.QueryFault.{QueryFault}
use Rattle.live_table.specs.declared.fault.QueryFault.TheVariants.{OutOfMemory}
use Rattle.live_table.specs.declared.late_edges.LateEdges.{LateEdges}
use Rattle.live_table.specs.declared.nodes.Nodes.{Nodes}
use Rattle.live_table.specs.QueryEffects.{AreAllSettled, AreUnsettledNamesClosed, IsLiveQueryEffect}
use Rattle.live_table.specs.TableEdges.{IsLive}
use Rattle.live_table.specs.ExploredNames.{AreExplored}
use Rattle.live_table.specs.Exploration.{AreAllExplored, AreNodesGrown, is_known_to_exploration}
use Rattle.live_table.specs.Sound.{IsSoundLiveTable}
use Rattle.live_table.specs.States.{LiveEvent}
use Rattle.live_table.specs.TableContents.{NodeLists, live_view_of_nodes, node_key_at, node_lists}
use Rattle.live_table.proofs.AllExplored.{explored_all}
use Rattle.live_table.proofs.AddedNames.{two_node_growths_are_one}
use Rattle.live_table.proofs.GrownLive.{grown_live, grown_live_table_is_sound, grown_nodes_keep_live_view}
use Rattle.live_table.proofs.GrownLive.{live_query_cut_before_walk}
use Rattle.live_table.proofs.Queries.{IsQueryOf}

-- the names, the agenda and the dead ends of each stage, over names that were explored before
pub record Stages : Type 0 where
  pub deck : DeckContents
  pub reductions : ℕ
  pub before : List ℕ
  pub start : NodeLists
  pub here : List ℕ
  pub led : NodeLists
  pub list : List ℕ
  pub ends : List DeadEnd
  pub explored : NodeLists
  pub there : List ℕ
  pub more : List DeadEnd

-- the stages of a query over nodes
abbrev pub stages_of :
    DeckContents → ℕ → Explored → (start led explored : Nodes) (here list there : List ℕ) → List DeadEnd → Stages
stages_of deck reductions before start led explored here list there more = record {
  deck = deck;
  reductions = reductions;
  before = before.names;
  start = node_lists start;
  here = here;
  led = node_lists led;
  list = list;
  ends = before.dead_ends.items;
  explored = node_lists explored;
  there = there;
  more = more;
}

-- the first stage is sound, and each one adds to the one before it
pub record AreStages (s : Stages) : Type 0 where
  pub sound : IsSoundLiveTable s.deck s.start s.reductions
  pub first : AreNodesGrown (table_of_deck s.deck) s.start s.led s.before s.here s.list s.ends s.ends
  pub second : AreNodesGrown (table_of_deck s.deck) s.led s.explored s.before s.list s.there s.ends s.more

-- the last stage has all names below the query, and the laws of numbers hold
pub record AreAllStages (s : Stages) : Type 0 where
  pub stages : AreStages s
  pub all : AreAllExplored (table_of_deck s.deck) s.explored s.before s.there s.more
  pub faults : NumberedNameFaultLaw
  pub settles : NumberedNameSettlingLaw

-- after the last stage, the names that a query newly closes were settled
pub record IsSettledAfter (s : Stages) (query : List Step) (now : NodeLists) (count old later : ℕ) : Type 0 where
  pub sound : IsSoundLiveTable s.deck now count
  pub keys : now.keys ≡ s.explored.keys
  pub order : List ℕ
  pub closing : AreUnsettledNamesClosed s.explored query order
  pub all :
      AreAllSettled (map (node_key_at s.explored.keys) order) (live_view_of_nodes s.deck s.explored s.reductions)
      (live_view_of_nodes s.deck now count)
      old later

-- the names that are known in the last stage
abbrev pub known_there : Stages → ℕ → Bool
known_there s = is_known_to_exploration s.explored.settled_flags s.before s.there

module _ (s : Stages) (are : AreStages s) where
  -- the last stage adds to the first
  added : AreNodesGrown (table_of_deck s.deck) s.start s.explored s.before s.here s.there s.ends s.more
  added =
      two_node_growths_are_one (table_of_deck s.deck) s.start s.led s.explored s.before s.here s.list s.there s.ends
      s.ends s.more are.first
      are.second

  -- the visible state of the last stage is that of the first
  pub same_start : live_view_of_nodes s.deck s.explored s.reductions ≡ live_view_of_nodes s.deck s.start s.reductions
  same_start = grown_nodes_keep_live_view s.deck s.start s.explored s.before s.here s.there s.ends s.more s.reductions
      added

  -- the last stage is sound
  pub sound_there : IsSoundLiveTable s.deck s.explored s.reductions
  sound_there =
      grown_live_table_is_sound s.deck s.start s.explored s.before s.here s.there s.ends s.more s.reductions added
      are.sound

  -- the last stage has its edges
  pub live_there : (e : LateEdges) → IsLive s.deck s.start e s.reductions → IsLive s.deck s.explored e s.reductions
  live_there e live =
      grown_live s.deck s.start s.explored s.before s.here s.there s.ends s.more s.reductions added e live

  -- lack of memory in the last stage cuts the query short
  pub cut_there : {A : Type 0} (Given : A → Type 0) (event : LiveEvent) (fault : Option NameFault) (reached : List Key)
      (old : ℕ) → IsQueryOf event (table_of_deck s.deck) fault reached
      → (result : Result A QueryFault) → result ≡ Err OutOfMemory
      → IsLiveQueryEffect event fault Given result (live_view_of_nodes s.deck s.start s.reductions)
      (live_view_of_nodes s.deck s.explored s.reductions) old
      old
  cut_there Given event fault reached old is result e =
      live_query_cut_before_walk Given event fault reached s.deck s.start s.explored s.before s.here s.there s.ends
      s.more s.reductions
      old added are.sound is result e

-- if all names are explored, those known by number are known by name
pub explored_there : (s : Stages) → AreAllStages s
    → AreExplored (table_of_deck s.deck) s.explored s.more
    (is_known_to_exploration s.explored.settled_flags s.before s.there)
explored_there s are =
    explored_all (table_of_deck s.deck) s.explored s.before s.there s.more are.stages.second.nodes are.all
