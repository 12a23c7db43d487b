-- The texts of name faults and value faults, each one line with no tab before it and no line feed after it.
use Rattle.std.specs.Prelude.{◌++◌, ℕ, List, [], ◌∷◌, codes, Option, Some, None}
use Rattle.std.specs.List.{flat_map}
use Rattle.frac128.specs.Faults.{frac_fault_text as number_fault_text}
use Rattle.quantity.specs.Amount.{Amount}
use Rattle.quantity.specs.Text.{quantity_text}
use Rattle.digits_print.specs.declared.style.Style.{Style}
use Rattle.def_entry.specs.declared.key.Key.{Key}
use Rattle.def_entry.specs.Keys.{key_text}
use Rattle.tree_eval.specs.declared.fault.ValueFault.{ValueFault}
use Rattle.tree_eval.specs.declared.fault.ValueFault.TheVariants as value
use Rattle.table_names.specs.declared.fault.NameFault.{NameFault}
use Rattle.table_names.specs.declared.fault.NameFault.TheVariants.{Unknown, Refused, Cycle}

-- the definition that contains a word, if there is one
abbrev pub fault_place_text : Option Key → List ℕ
fault_place_text None = []
fault_place_text (Some key) = codes " in " ++ key_text key

-- a key after an arrow
abbrev pub fault_arrow_text : Key → List ℕ
fault_arrow_text key = codes " -> " ++ key_text key

-- keys, separated by arrows
abbrev pub fault_chain_text : List Key → List ℕ
fault_chain_text [] = []
fault_chain_text (key ∷ keys) = key_text key ++ flat_map fault_arrow_text keys

-- the text of a name fault
abbrev pub name_fault_text : NameFault → List ℕ
name_fault_text (Unknown word key) = (codes "unknown unit: " ++ word) ++ fault_place_text key
name_fault_text (Refused word key) = (codes "refused function: " ++ word) ++ fault_place_text key
name_fault_text (Cycle keys) = codes "cycle: " ++ fault_chain_text keys

-- the text of the fault of a sum of two quantities that do not conform
abbrev pub unlike_sum_fault_text : Style → Amount → Amount → List ℕ
unlike_sum_fault_text style x y =
    (codes "sum of unlike units: " ++ quantity_text style x) ++ (codes " and " ++ quantity_text style y)

-- the text of a value fault
abbrev pub value_fault_text : Style → ValueFault → List ℕ
value_fault_text style (value.Number fault) = number_fault_text fault
value_fault_text style (value.NotConformable x y) = unlike_sum_fault_text style x y
value_fault_text style value.ExponentNotNumber = codes "exponent is not a number"
value_fault_text style value.ExponentRange = codes "exponent out of range"
value_fault_text style (value.NotInDomain name) = codes "not in domain: " ++ name
value_fault_text style (value.NotInRange name) = codes "not in range: " ++ name
value_fault_text style (value.WrongArgument name) = codes "wrong argument: " ++ name
value_fault_text style (value.WrongResult name) = codes "wrong result: " ++ name
value_fault_text style (value.NoInverse name) = codes "no inverse: " ++ name
value_fault_text style (value.OutsideTable name) = codes "outside table: " ++ name
value_fault_text style (value.NeedsArgument name) = codes "argument needed: " ++ name
value_fault_text style (value.CallsTooDeep name) = codes "calls too deep: " ++ name
