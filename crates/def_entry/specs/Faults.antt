-- The messages for lines without an entry.
use Rattle.std.specs.Prelude.{◌≡◌, ◌++◌, ℕ, Bool, true, false, List, [], codes, Err}
use Rattle.std.specs.Fmt.{decimal}
use Rattle.expr_tree.specs.declared.fault.ParseFault.{ParseFault}
use Rattle.expr_tree.specs.declared.fault.ParseFault.TheVariants as parse
use Rattle.def_entry.specs.declared.fault.EntryFault.{EntryFault}
use Rattle.def_entry.specs.declared.fault.EntryFault.TheVariants as entry
use Rattle.def_entry.specs.EntryReading.{entry_of}

-- the fault is one of the line, not an out-of-memory fault
abbrev pub is_entry_fault_of_line : EntryFault → Bool
is_entry_fault_of_line entry.OutOfMemory = false
is_entry_fault_of_line (entry.Parse parse.OutOfMemory) = false
is_entry_fault_of_line _ = true

-- the message for an expression
abbrev pub parse_fault_text : ParseFault → List ℕ
parse_fault_text (parse.Syntax place) = codes "syntax error at " ++ decimal place
parse_fault_text parse.NumeralTooLong = codes "numeral too long"
parse_fault_text parse.NestedTooDeep = codes "nested too deep"
parse_fault_text parse.OutOfMemory = []

-- the message for a line
abbrev pub entry_fault_text : EntryFault → List ℕ
entry_fault_text (entry.BadName w) = codes "bad name: " ++ w
entry_fault_text entry.BadForm = codes "bad definition"
entry_fault_text entry.BadTable = codes "bad table"
entry_fault_text (entry.Parse fault) = parse_fault_text fault
entry_fault_text entry.OutOfMemory = []

-- law: the fault of a line is never an out-of-memory fault
abbrev pub EntryMemoryLaw : Type 0
EntryMemoryLaw = (line : List ℕ) (fault : EntryFault) → entry_of line ≡ Err fault → is_entry_fault_of_line fault ≡ true
