-- The stops of queries, and their faults.
use Rattle.std.specs.Prelude.{◌≡◌, List, [], ◌∷◌, Some, None, Result, Ok, Err}
use Rattle.def_entry.specs.Tables.{EntryTable}
use Rattle.name_walk.specs.declared.step.Step.{Step}
use Rattle.name_walk.specs.Findings.{IsFaultyWalkStep}
use Rattle.name_walk.specs.Trails.{Faults}
use Rattle.table_names.specs.declared.fault.NameFault.{NameFault}
use Rattle.live_table.specs.declared.dead_end.DeadEnd.{DeadEnd}
use Rattle.live_table.specs.declared.fault.QueryFault.{QueryFault}
use Rattle.live_table.specs.declared.fault.QueryFault.TheVariants as fault
use Rattle.live_table.specs.declared.stop.Stop.{Stop}
use Rattle.live_table.specs.declared.stop.Stop.TheVariants.{At, Below, OutOfMemory}
use Rattle.live_table.specs.QueryEffects.{live_query_fault}
use Rattle.live_table.specs.ExploredNames.{explored_dead_end_fault}
use Rattle.live_table.specs.QueryWords.{explored_fault_before}
use Rattle.live_table.specs.TableContents.{NodeLists}

-- the fault of a step that is known to have one
pub record IsLiveFaultBelow (table : EntryTable) (l : NodeLists) (ends : List DeadEnd) (fs : Faults) (x : Step)
    (q : QueryFault)
    : Type 0 where
  pub step_faulty : IsFaultyWalkStep fs x
  pub name : NameFault
  pub fault_found : live_query_fault table l ends (x ∷ []) ≡ Some name
  pub query_fault : q ≡ fault.Name name

-- the fault of a query with this stop
abbrev pub IsLiveStopFault : EntryTable → NodeLists → List DeadEnd → Faults → Stop → QueryFault → Type 0
IsLiveStopFault table l ends fs (At end) q = q ≡ fault.Name (explored_dead_end_fault (Some end) None)
IsLiveStopFault table l ends fs (Below x) q = IsLiveFaultBelow table l ends fs x q
IsLiveStopFault table l ends fs OutOfMemory q = q ≡ fault.OutOfMemory

-- a result with its stop named
abbrev pub IsNamedLiveResult : {A : Type 0} → EntryTable → NodeLists → List DeadEnd → Faults → Result A Stop
    → Result A QueryFault
    → Type 0
IsNamedLiveResult table l ends fs (Ok x) answer = answer ≡ Ok x
IsNamedLiveResult table l ends fs (Err stop) answer =
    (q : QueryFault) × IsLiveStopFault table l ends fs stop q × (answer ≡ Err q)

-- the property holds of a result with its stop named
pub record HoldsOfNamedLiveResult {A : Type 0} (table : EntryTable) (l : NodeLists) (ends : List DeadEnd) (fs : Faults)
    (result : Result A Stop) (Holds : Result A QueryFault → Type 0) : Type 0 where
  pub named_answer : Result A QueryFault
  pub result_named : IsNamedLiveResult table l ends fs result named_answer
  pub answer_holds : Holds named_answer

-- the stop of a query that is cut before a word that leads nowhere: its fault is the first one of the preceding words,
-- or else that of the word
pub record IsCutLiveStop (table : EntryTable) (l : NodeLists) (ends : List DeadEnd) (fs : Faults) (query : List Step)
    (end : DeadEnd) (stop : Stop) : Type 0 where
  pub name : NameFault
  pub stop_named : IsLiveStopFault table l ends fs stop (fault.Name name)
  pub fault_first : explored_fault_before (live_query_fault table l ends query) end ≡ Some name
