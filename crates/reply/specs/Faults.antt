-- The texts of the faults of conversions, each one line with no tab before it and no line feed after it.
use Rattle.std.specs.Prelude.{◌++◌, ◌+◌, ℕ, Bool, true, false, List, codes}
use Rattle.std.specs.Fmt.{decimal}
use Rattle.expr_tree.specs.declared.fault.ParseFault.TheVariants as parse
use Rattle.def_entry.specs.Faults.{parse_fault_text}
use Rattle.digits_print.specs.declared.style.Style.{Style}
use Rattle.reply.specs.FaultTexts.{name_fault_text, value_fault_text}
use Rattle.reply.specs.declared.fault.ReplyFault.{ReplyFault}
use Rattle.reply.specs.declared.fault.ReplyFault.TheVariants.{Parse, Name, Value, List as ListUnit}

-- the fault is not lack of memory
abbrev pub is_reply_fault_reportable : ReplyFault → Bool
is_reply_fault_reportable (Parse parse.OutOfMemory) = false
is_reply_fault_reportable _ = true

-- the text of the fault of a unit of a list, whose place is counted from 1
abbrev pub reply_list_fault_text : (place : ℕ) → List ℕ
reply_list_fault_text place = codes "list unit not positive: " ++ decimal (place + 1)

-- the text of a fault
abbrev pub fault_text : Style → ReplyFault → List ℕ
fault_text style (Parse fault) = parse_fault_text fault
fault_text style (Name fault) = name_fault_text fault
fault_text style (Value fault) = value_fault_text style fault
fault_text style (ListUnit place) = reply_list_fault_text place
