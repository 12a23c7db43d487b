-- The report of the units that conform to a quantity.
use Rattle.std.specs.Prelude.{ℕ, List, Bool, false, Option, Some, None, Result, Ok, Err, [], if◌then◌else◌}
use Rattle.std.specs.List.{flat_map}
use Rattle.expr_tree.specs.Syntax.{Word}
use Rattle.quantity.specs.Amount.{Amount, exponents_conform}
use Rattle.def_entry.specs.declared.key.Key.{Key}
use Rattle.def_entry.specs.declared.key.Kind.TheVariants as kind
use Rattle.def_entry.specs.Tables.{EntryTable}
use Rattle.deck.specs.KeyLists.{deck_keys_of_kind, deck_table_keys}
use Rattle.live_table.specs.States.{LiveEvent}
use Rattle.reply.specs.declared.fault.ReplyFault.{ReplyFault}
use Rattle.reply.specs.Inquiries.{Inquiry, tree_value}
use Rattle.survey.specs.Rows.{search_hit_row_of_key, search_hit_rows_or_none}

-- whether there is a value and it conforms
abbrev pub is_conformable_result : (from : Amount) → Result Amount ReplyFault → Bool
is_conformable_result from (Ok x) = exponents_conform x.exponents from.exponents
is_conformable_result from (Err fault) = false

-- whether an optional value exists and conforms
abbrev pub is_conformable_value : (from : Amount) → Option Amount → Bool
is_conformable_value from (Some x) = exponents_conform x.exponents from.exponents
is_conformable_value from None = false

module _ (table : EntryTable) where
  -- a unit is queried by its word
  abbrev pub value_of_unit : Key → Inquiry Amount
  value_of_unit k = tree_value table (Word k.name)

  -- the row of a unit, if its value conforms
  abbrev pub conforming_row : (from : Amount) → Key → List ℕ
  conforming_row from k = if is_conformable_result from (value_of_unit k).answer then search_hit_row_of_key table k else
      []

  -- the rows of the units among some keys
  abbrev pub conformable_among : (from : Amount) → List Key → List ℕ
  conformable_among from keys =
      search_hit_rows_or_none (flat_map (conforming_row from) (deck_keys_of_kind kind.Unit keys))

  abbrev pub unit_queries : List Key → List LiveEvent
  unit_queries keys = flat_map (λ k. (value_of_unit k).events) (deck_keys_of_kind kind.Unit keys)

  -- the rows of all units, and the query of each
  abbrev pub conformable_report : (from : Amount) → List ℕ
  conformable_report from = conformable_among from (deck_table_keys table)

  abbrev pub conformable_queries : List LiveEvent
  conformable_queries = unit_queries (deck_table_keys table)
