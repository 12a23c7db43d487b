-- The result of a conversion, before it is written.
use Rattle.std.specs.Prelude.{◌&&◌, ℕ, Bool, true, false, not, List, slice_index_or, Result, Ok, Err, if◌then◌else◌}
use Rattle.frac128.specs.declared.fault.FracFault.{FracFault}
use Rattle.frac128.specs.Fraction.{Fraction}
use Rattle.quantity.specs.Amount.{Amount, are_reciprocal_exponents, exponents_conform}
use Rattle.unit_list.specs.Amounts.{unit_counts_in}
use Rattle.unit_list.specs.declared.fault.SplitFault.{SplitFault}
use Rattle.unit_list.specs.declared.fault.SplitFault.TheVariants as split
use Rattle.def_entry.specs.declared.key.Kind.TheVariants as kind
use Rattle.def_entry.specs.Keys.{key}
use Rattle.def_entry.specs.Tables.{EntryTable}
use Rattle.tree_eval.specs.declared.fault.ValueFault.TheVariants.{Number}
use Rattle.live_table.specs.Answers.{live_inverse_answer}
use Rattle.live_table.specs.States.{AsksKey}
use Rattle.reply.specs.declared.conversion.Conversion.{Conversion}
use Rattle.reply.specs.declared.conversion.Conversion.TheVariants.{Linear, Reciprocal, Inverse, NonConforming, Split}
use Rattle.reply.specs.declared.fault.ReplyFault.{ReplyFault}
use Rattle.reply.specs.declared.fault.ReplyFault.TheVariants.{Value, List as ListUnit}
use Rattle.reply.specs.declared.options.Options.{Options}
use Rattle.reply.specs.declared.ratio.Ratio.{Ratio}
use Rattle.reply.specs.declared.target.Target.{Target}
use Rattle.reply.specs.declared.target.Target.TheVariants.{Function, Parts, Unit}
use Rattle.reply.specs.Inquiries.{◌>>=◌, Inquiry, inquiry_of_single_query, inquiry_without_queries}
use Rattle.reply.specs.Inquiries.{reply_fault_of_memory, value_of_text, values_of_trees}
use Rattle.reply.specs.Ratios.{conversion_ratio, reciprocal_conversion_ratio}
use Rattle.reply.specs.Targets.{conversion_target, conversion_target_parts}
use Rattle.reply.specs.Trees.{inquiry_trees}

-- the conversion is not a conformability error
abbrev pub is_conversion_granted : Conversion → Bool
is_conversion_granted (NonConforming x y) = false
is_conversion_granted _ = true

abbrev pub linear_conversion : Result Ratio FracFault → Result Conversion ReplyFault
linear_conversion (Ok ratio) = Ok (Linear ratio)
linear_conversion (Err fault) = Err (Value (Number fault))

abbrev pub reciprocal_conversion : Result Ratio FracFault → Result Conversion ReplyFault
reciprocal_conversion (Ok ratio) = Ok (Reciprocal ratio)
reciprocal_conversion (Err fault) = Err (Value (Number fault))

-- two quantities: `Linear` if they conform; else `Reciprocal` if they are reciprocal and `strict` is off; else
-- `NonConforming`
abbrev pub conversion_between : (strict : Bool) (x y : Amount) → Result Conversion ReplyFault
conversion_between strict x y =
    if exponents_conform x.exponents y.exponents then linear_conversion (conversion_ratio x.value y.value)
    else (if are_reciprocal_exponents x.exponents y.exponents && not strict
    then reciprocal_conversion (reciprocal_conversion_ratio x.value y.value)
    else Ok (NonConforming x y))

-- the conversion by the counts of the units of a list in a quantity
abbrev pub split_conversion : Amount → (list : List ℕ) (units : List Amount) → Result (List Fraction) SplitFault
    → Result Conversion ReplyFault
split_conversion x list units (Ok counts) = Ok (Split list counts)
split_conversion x list units (Err (split.NotConformable place)) = Ok (NonConforming x (slice_index_or units place x))
split_conversion x list units (Err (split.ListUnitNotPositive place)) = Err (ListUnit place)
split_conversion x list units (Err (split.Number fault)) = Err (Value (Number fault))
split_conversion x list units (Err split.OutOfMemory) = Err reply_fault_of_memory

-- the conversion by the inverse of the function with this name
abbrev pub inverse_conversion : EntryTable → (name : List ℕ) → Amount → Inquiry Conversion
inverse_conversion table name x = do
  y ← inquiry_of_single_query (AsksKey (key kind.Func name)) (live_inverse_answer table name x)
  inquiry_without_queries (Ok (Inverse y))

module _ (table : EntryTable) (options : Options) where
  -- the conversion into the units of a list: the trees of all its parts, then their values, then the counts
  abbrev pub conversion_to_list : (list : List ℕ) → Amount → Inquiry Conversion
  conversion_to_list list x = do
    trees ← inquiry_without_queries (inquiry_trees (conversion_target_parts list))
    units ← values_of_trees table trees
    inquiry_without_queries (split_conversion x list units (unit_counts_in options.round x units))

  -- the conversion to a unit
  abbrev pub conversion_to_unit : (to : List ℕ) → Amount → Inquiry Conversion
  conversion_to_unit to x = do
    y ← value_of_text table to
    inquiry_without_queries (conversion_between options.strict x y)

  abbrev pub converted_to : (to : List ℕ) → Target → Amount → Inquiry Conversion
  converted_to to Function x = inverse_conversion table to x
  converted_to to (Parts list) x = conversion_to_list list x
  converted_to to Unit x = conversion_to_unit to x

  -- the conversion of one text to another
  abbrev pub conversion : (from to : List ℕ) → Inquiry Conversion
  conversion from to = do
    x ← value_of_text table from
    converted_to to (conversion_target table to) x
