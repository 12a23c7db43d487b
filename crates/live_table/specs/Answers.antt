-- The results of queries.
use Rattle.std.specs.Prelude.{◌≡◌, ◌⊎◌, ℕ, List, Option, Some, None, Result, Ok, Err}
use Rattle.expr_tree.specs.Syntax.{Syntax}
use Rattle.expr_tree.specs.Words.{words_in}
use Rattle.quantity.specs.Amount.{Amount}
use Rattle.def_entry.specs.declared.key.Kind.TheVariants as kind
use Rattle.def_entry.specs.Keys.{key}
use Rattle.def_entry.specs.Tables.{EntryTable}
use Rattle.tree_eval.specs.Expansions.{EvalMeaning, One, Two, Callee}
use Rattle.tree_eval.specs.Steps.{ValueOrFault, value_one}
use Rattle.tree_eval.specs.Value.{inverse_value_at, value}
use Rattle.table_names.specs.declared.fault.NameFault.{NameFault}
use Rattle.table_names.specs.Faults.{key_fault, name_fault}
use Rattle.table_names.specs.Meanings.{expansion, key_meaning}
use Rattle.live_table.specs.declared.fault.QueryFault.{QueryFault}
use Rattle.live_table.specs.declared.fault.QueryFault.TheVariants.{Name, Value, OutOfMemory}

-- the name fault if there is one, and else the value or its first fault
abbrev pub live_answer_of_value : Option NameFault → ValueOrFault → Result Amount QueryFault
live_answer_of_value (Some fault) value_or_fault = Err (Name fault)
live_answer_of_value None (Ok q) = Ok q
live_answer_of_value None (Err fault) = Err (Value fault)

-- the result of a query of a tree
abbrev pub live_table_answer : EntryTable → Syntax → Result Amount QueryFault
live_table_answer table e = live_answer_of_value (name_fault table (words_in e)) (value (expansion table e) None)

-- the inverse of a key that is a function; any other key has none
abbrev pub live_inverse_value : EvalMeaning → Amount → ValueOrFault
live_inverse_value (Callee f) b = inverse_value_at f b
live_inverse_value (One x) b = Ok value_one
live_inverse_value (Two x y) b = Ok value_one

-- the inverse of the function with this name
abbrev pub live_inverse_answer : EntryTable → List ℕ → Amount → Result Amount QueryFault
live_inverse_answer table name b =
    live_answer_of_value (key_fault table (key kind.Func name))
    (live_inverse_value (key_meaning table (key kind.Func name)) b)

-- the result is this one, or memory ran out
abbrev pub IsLiveQueryResult : Result Amount QueryFault → Result Amount QueryFault → Type 0
IsLiveQueryResult result answer = (result ≡ Err OutOfMemory) ⊎ (result ≡ answer)

-- the value of a result, or `None` if it is a fault
abbrev pub live_answer_value : Result Amount QueryFault → Option Amount
live_answer_value (Ok x) = Some x
live_answer_value (Err fault) = None
