-- The statuses of faults.
use Rattle.std.specs.Prelude.{Result, Ok, Err}
use Rattle.deck.specs.declared.fault.DeckFault.{DeckFault}
use Rattle.deck.specs.declared.fault.DeckFault.TheVariants as deck
use Rattle.expr_tree.specs.declared.fault.ParseFault.{ParseFault}
use Rattle.expr_tree.specs.declared.fault.ParseFault.TheVariants as parse
use Rattle.frac128.specs.declared.fault.FracFault.{FracFault}
use Rattle.frac128.specs.declared.fault.FracFault.TheVariants as number
use Rattle.quantity.specs.Amount.{Amount}
use Rattle.reply.specs.declared.fault.ReplyFault.{ReplyFault}
use Rattle.reply.specs.declared.fault.ReplyFault.TheVariants.{Parse, Name, Value, List as ListUnit}
use Rattle.table_names.specs.declared.fault.NameFault.{NameFault}
use Rattle.table_names.specs.declared.fault.NameFault.TheVariants as name
use Rattle.tree_eval.specs.declared.fault.ValueFault.{ValueFault}
use Rattle.tree_eval.specs.declared.fault.ValueFault.TheVariants as value
use Rattle.edited_table.specs.declared.status.Status.{Status}
use Rattle.edited_table.specs.declared.status.Status.TheVariants as status

-- the status of a text that is not an expression
abbrev pub parse_status : ParseFault → Status
parse_status (parse.Syntax place) = status.SyntaxError
parse_status parse.NumeralTooLong = status.NumeralTooLong
parse_status parse.NestedTooDeep = status.NestedTooDeep
parse_status parse.OutOfMemory = status.NoMemory

-- the status of a fault of a name
abbrev pub name_status : NameFault → Status
name_status (name.Unknown word key) = status.UnknownUnit
name_status (name.Refused word key) = status.RefusedFunction
name_status (name.Cycle keys) = status.Cycle

-- the status of a fault of a fraction
abbrev pub number_status : FracFault → Status
number_status number.Overflow = status.Overflow
number_status number.DivisionByZero = status.DivisionByZero
number_status number.NoExactRoot = status.NoExactRoot

-- the status of a fault of a value
abbrev pub value_status : ValueFault → Status
value_status (value.Number fault) = number_status fault
value_status (value.NotConformable x y) = status.UnlikeSum
value_status value.ExponentNotNumber = status.ExponentNotNumber
value_status value.ExponentRange = status.ExponentRange
value_status (value.NotInDomain function) = status.NotInDomain
value_status (value.NotInRange function) = status.NotInRange
value_status (value.WrongArgument function) = status.WrongArgument
value_status (value.WrongResult function) = status.WrongResult
value_status (value.NoInverse function) = status.NoInverse
value_status (value.OutsideTable function) = status.OutsideTable
value_status (value.NeedsArgument function) = status.ArgumentNeeded
value_status (value.CallsTooDeep function) = status.CallsTooDeep

-- the status of a fault of a reply
abbrev pub fault_status : ReplyFault → Status
fault_status (Parse fault) = parse_status fault
fault_status (Name fault) = name_status fault
fault_status (Value fault) = value_status fault
fault_status (ListUnit place) = status.ListUnitNotPositive

-- the status of a value or of its fault
abbrev pub c_value_status : Result Amount ReplyFault → Status
c_value_status (Ok x) = status.Done
c_value_status (Err fault) = fault_status fault

-- the status of a load that failed with this fault
abbrev pub load_status : DeckFault → Status
load_status deck.Absent = status.NoSuchFile
load_status deck.TooLong = status.FileTooLong
load_status deck.ReadFailed = status.ReadFailed
load_status deck.DeckFull = status.DeckFull
load_status _ = status.NoMemory
