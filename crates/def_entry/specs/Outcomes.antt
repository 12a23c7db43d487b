-- The results of calls of the program, and values that may be faults.
use Rattle.std.specs.Prelude.{ℕ, List, if◌then◌else◌, Option, Some, None, Result, Ok, Err}
use Rattle.units_io.specs.Outcomes.{GivesIoResult as GivesUnless}
use Rattle.expr_tree.specs.declared.fault.ParseFault.{ParseFault}
use Rattle.expr_tree.specs.Names.{is_name}
use Rattle.expr_tree.specs.ParseResult.{parse_of}
use Rattle.expr_tree.specs.Syntax.{Syntax}
use Rattle.def_entry.specs.declared.fault.EntryFault.{EntryFault}
use Rattle.def_entry.specs.declared.fault.EntryFault.TheVariants.{BadName, Parse, OutOfMemory}

-- a call gives the specified result, as it is viewed, or an out-of-memory fault
abbrev pub GivesEntry : {A B : Type 0} → (A → B) → Result A EntryFault → Result B EntryFault → Type 0
GivesEntry seen given said = GivesUnless OutOfMemory seen given said

-- the value, or a fault if there is none
abbrev pub or_entry_fault : {A : Type 0} → EntryFault → Option A → Result A EntryFault
or_entry_fault fault None = Err fault
or_entry_fault fault (Some x) = Ok x

-- a name, or the fault of a bad name
abbrev pub name_or_entry_fault : List ℕ → Result (List ℕ) EntryFault
name_or_entry_fault w = if is_name w then Ok w else Err (BadName w)

-- the result of the parser
abbrev pub parsed_entry : Result Syntax ParseFault → Result Syntax EntryFault
parsed_entry (Ok tree) = Ok tree
parsed_entry (Err fault) = Err (Parse fault)

-- the tree of an expression, with or without a binder
abbrev pub entry_tree : Option (List ℕ) → List ℕ → Result Syntax EntryFault
entry_tree binder text = parsed_entry (parse_of binder text)
