-- The effects of queries on a live table.
use Rattle.std.specs.Prelude.{◌≡◌, ◌⊎◌, ◌+◌, ◌^◌, ◌-◌, ◌≤◌, ℕ, min, List, [], ◌∷◌, map, take, length, Option, Some}
use Rattle.std.specs.Prelude.{None, Result, Ok, Err, option_map}
use Rattle.std.specs.declared.alloc.AllocError.{AllocError}
use Rattle.def_entry.specs.declared.key.Key.{Key}
use Rattle.deck.specs.Tables.{table_of_deck}
use Rattle.def_entry.specs.Tables.{EntryTable}
use Rattle.name_walk.specs.declared.step.Step.{Step}
use Rattle.name_walk.specs.ClosedNames.{IsSettledInGraph}
use Rattle.name_walk.specs.Faults as walk
use Rattle.name_walk.specs.NewlyClosed.{AreNewlyClosedByWalk}
use Rattle.table_names.specs.Faults.{key_fault}
use Rattle.table_names.specs.declared.fault.NameFault.{NameFault}
use Rattle.table_names.specs.NumberedNames.{fault_by_name}
use Rattle.live_table.specs.declared.dead_end.DeadEnd.{DeadEnd}
use Rattle.live_table.specs.declared.fault.QueryFault.{QueryFault}
use Rattle.live_table.specs.declared.fault.QueryFault.TheVariants.{Name, Value, OutOfMemory}
use Rattle.live_table.specs.ExploredNames.{explored_fault_at}
use Rattle.live_table.specs.TableContents.{NodeLists, node_key_at}
use Rattle.live_table.specs.TableView.{AreLiveEventsCutOff, IsAfterLiveEvents, LiveView}
use Rattle.live_table.specs.States.{AsksKey, LiveEvent, with_cached_outcomes}

-- the outcome of each key added, and as many reductions counted
abbrev pub live_view_with_settled : LiveView → List Key → LiveView
live_view_with_settled s keys = record {
  deck = s.deck;
  kept_outcomes = with_cached_outcomes (table_of_deck s.deck) keys s.kept_outcomes;
  reductions = min (2 ^ 64 - 1) (s.reductions + length keys);
}

-- all keys in the order of a walk are settled, each with one step
pub record AreAllSettled (keys : List Key) (before now : LiveView) (old new : ℕ) : Type 0 where
  pub table_after : now ≡ live_view_with_settled before keys
  pub steps : new ≡ old + length keys

-- the first of the keys are settled, each with one step, and perhaps one step was taken for the next
pub record AreSomeSettled (keys : List Key) (before now : LiveView) (old new : ℕ) : Type 0 where
  pub count : ℕ
  pub count_within : count ≤ length keys
  pub table_after : now ≡ live_view_with_settled before (take count keys)
  pub steps_least : old + count ≤ new
  pub steps_most : new ≤ old + length keys

-- all keys are settled, or some of them were settled before memory ran out
abbrev pub AreSettledBy : List Key → Result (Unit {0}) AllocError → LiveView → LiveView → ℕ → ℕ → Type 0
AreSettledBy keys (Ok _) before now old new = AreAllSettled keys before now old new
AreSettledBy keys (Err _) before now old new = AreSomeSettled keys before now old new

-- a query of names with this name fault: without a fault they are settled; else the result is the fault; or memory ran
-- out
abbrev pub IsLiveQueryEffect : {A : Type 0} → LiveEvent → Option NameFault → (A → Type 0) → Result A QueryFault
    → LiveView → LiveView → ℕ
    → ℕ → Type 0
IsLiveQueryEffect event fault Given (Ok x) before now old new = (fault ≡ None) × Given x × IsAfterLiveEvents
    (event ∷ []) before now
    old new
IsLiveQueryEffect event fault Given (Err (Name f)) before now old new =
    (fault ≡ Some f) × IsAfterLiveEvents (event ∷ []) before now old new
IsLiveQueryEffect event fault Given (Err (Value _)) before now old new = ⊥
IsLiveQueryEffect event fault Given (Err OutOfMemory) before now old new = AreLiveEventsCutOff (event ∷ []) before now
    old new

-- a settled key with this number
abbrev pub IsSettledKey : NodeLists → Key → ℕ → Type 0
IsSettledKey l key n = (key ≡ node_key_at l.keys n) × IsSettledInGraph l.settled_flags n

-- a query of a key
abbrev pub IsLiveKeyQuery : Key → NodeLists → Result ℕ QueryFault → LiveView → LiveView → ℕ → ℕ → Type 0
IsLiveKeyQuery key l result before now old new =
    IsLiveQueryEffect (AsksKey key) (key_fault (table_of_deck before.deck) key) (IsSettledKey l key) result before now
    old new

-- a walk without a fault newly closes these names
pub record AreUnsettledNamesClosed (l : NodeLists) (query : List Step) (order : List ℕ) : Type 0 where
  pub query_has_no_fault : walk.steps_fault_after_path l.graph [] query ≡ None
  pub closes : AreNewlyClosedByWalk l.graph l.settled_flags query order

-- the fault of a walk, by name
pub record IsNamedLiveFault (table : EntryTable) (l : NodeLists) (ends : List DeadEnd) (query : List Step)
    (f : NameFault) : Type 0
  where
    pub fault : walk.NameFault
    pub is_fault : walk.steps_fault_after_path l.graph [] query ≡ Some fault
    pub by_name : f ≡ fault_by_name table (node_key_at l.keys) (explored_fault_at ends) fault

-- the first fault of a query, by name
abbrev pub live_query_fault : EntryTable → NodeLists → List DeadEnd → List Step → Option NameFault
live_query_fault table l ends query = option_map (fault_by_name table (node_key_at l.keys) (explored_fault_at ends))
    (walk.steps_fault_after_path l.graph [] query)

-- nothing changes
pub record IsLiveViewUnchanged (before now : LiveView) (old new : ℕ) : Type 0 where
  pub table_after : now ≡ before
  pub steps : new ≡ old

-- a query by number: the names that it newly closes are settled; or it has a fault; or memory ran out
abbrev pub IsLiveQueryAnswered : EntryTable → NodeLists → List DeadEnd → List Step → Result (Unit {0}) QueryFault
    → LiveView → LiveView
    → ℕ → ℕ
    → Type 0
IsLiveQueryAnswered table l ends query (Ok _) before now old new =
    (order : List ℕ) × AreUnsettledNamesClosed l query order × AreAllSettled (map (node_key_at l.keys) order) before now
    old new
IsLiveQueryAnswered table l ends query (Err (Name f)) before now old new =
    IsNamedLiveFault table l ends query f × IsLiveViewUnchanged
    before now old
    new
IsLiveQueryAnswered table l ends query (Err (Value _)) before now old new = ⊥
IsLiveQueryAnswered table l ends query (Err OutOfMemory) before now old new =
    IsLiveViewUnchanged before now old new
    ⊎ ((order : List ℕ) × AreUnsettledNamesClosed l query order × AreSomeSettled (map (node_key_at l.keys) order) before
    now old new)
