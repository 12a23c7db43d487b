-- Results of calls.
use Rattle.std.specs.Prelude.{Result, Ok, Err}
use Rattle.live_table.specs.declared.fault.QueryFault.{QueryFault}
use Rattle.live_table.specs.declared.fault.QueryFault.TheVariants as query

-- an answer without the value or the fault of the value; a fault of the names and running out of memory remain
abbrev pub check_of_names_alone : {A : Type 0} → Result A QueryFault → Result (Unit {0}) QueryFault
check_of_names_alone (Ok x) = Ok tt
check_of_names_alone (Err (query.Name fault)) = Err (query.Name fault)
check_of_names_alone (Err (query.Value fault)) = Ok tt
check_of_names_alone (Err query.OutOfMemory) = Err query.OutOfMemory
