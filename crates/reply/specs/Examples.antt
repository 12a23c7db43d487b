-- The replies of a few conversions over a small table, found by hand.
use Rattle.std.specs.Prelude.{◌≡◌, ℕ, pos, true, false, List, [], ◌∷◌, codes, Result, Ok, Err}
use Rattle.frac128.specs.declared.fault.FracFault.{FracFault}
use Rattle.frac128.specs.Fraction.{Fraction, whole_fraction}
use Rattle.expr_tree.specs.declared.word_list.WordKind.TheVariants as word
use Rattle.expr_tree.specs.WordUses.{WordUse}
use Rattle.expr_tree.specs.Syntax.{Word}
use Rattle.def_entry.specs.declared.key.Kind.TheVariants as kind
use Rattle.def_entry.specs.Entries.{Primitive, Table as PointTable, ListOf}
use Rattle.def_entry.specs.Keys.{key}
use Rattle.def_entry.specs.Tables.{EntryTable}
use Rattle.unit_list.specs.Splits.{unit_counts_of_number}
use Rattle.tree_eval.specs.declared.fault.ValueFault.TheVariants.{Number}
use Rattle.live_table.specs.States.{AsksWords}
use Rattle.reply.specs.declared.options.Options.{Options}
use Rattle.reply.specs.declared.reply.Reply.{Reply}
use Rattle.reply.specs.declared.target.Target.TheVariants.{Function, Parts, Unit}
use Rattle.reply.specs.declared.conversion.Conversion.{Conversion}
use Rattle.reply.specs.declared.conversion.Conversion.TheVariants.{Split}
use Rattle.reply.specs.declared.fault.ReplyFault.{ReplyFault}
use Rattle.reply.specs.declared.fault.ReplyFault.TheVariants.{Value, List as ListUnit}
use Rattle.reply.specs.Conversions.{linear_conversion, reciprocal_conversion}
use Rattle.reply.specs.Options.{reply_form}
use Rattle.reply.specs.Ratios.{conversion_ratio, reciprocal_conversion_ratio}
use Rattle.reply.specs.Replies.{conversion_queries, conversion_reply, conversion_result_as_reply, definition_reply}
use Rattle.reply.specs.Targets.{conversion_target, conversion_target_parts}

-- a single word
abbrev pub reply_example_word : List ℕ → WordUse
reply_example_word w = record { text = w; kind = word.Plain }

abbrev pub reply_example_fraction : ℕ → ℕ → Fraction
reply_example_fraction n d = record { num = pos n; den = d }

-- meters, seconds, a table of points and two lists, one of which has the name of the table
abbrev pub small_reply_table : EntryTable
small_reply_table =
    (key kind.Unit (codes "m"), record { text = codes "!"; what = Primitive })
    ∷ (key kind.Unit (codes "s"), record { text = codes "!"; what = Primitive })
    ∷ (
      key kind.Func (codes "gauge"),
      record {
        text = codes "[m] 1 2, 3 6";
        what = PointTable (record {
          unit = Word (codes "m");
          points = (whole_fraction (pos 1), whole_fraction (pos 2)) ∷ (whole_fraction (pos 3), whole_fraction (pos 6)) ∷
              [];
        });
      },
    )
    ∷ (
      key kind.List (codes "ftin"),
      record {
        text = codes "ft; in";
        what = ListOf (Word (codes "ft") ∷ Word (codes "in") ∷ []);
      },
    )
    ∷ (key kind.List (codes "gauge"), record { text = codes "m"; what = ListOf (Word (codes "m") ∷ []) })
    ∷ []

abbrev pub default_reply_options : Options
default_reply_options = record {
  digits = 8;
  exact = false;
  strict = false;
  one_line = false;
  compact = false;
  quiet = false;
  round = false;
  verbose = false;
}

abbrev pub terse_reply_options : Options
terse_reply_options = record default_reply_options { compact = true; one_line = true }

abbrev pub granted_reply : List ℕ → Reply
granted_reply text = record { text = text; refused = false }

abbrev pub refused_reply : List ℕ → Reply
refused_reply text = record { text = text; refused = true }

-- a linear conversion, given the values of both units
abbrev pub linear_conversion_reply : Options → (from to : List ℕ) → Fraction → Fraction → Reply
linear_conversion_reply options from to x y = conversion_result_as_reply (reply_form options) from to
    (linear_conversion (conversion_ratio x y))

-- a reciprocal conversion, given the values of both units
abbrev pub reciprocal_conversion_reply : Options → (from to : List ℕ) → Fraction → Fraction → Reply
reciprocal_conversion_reply options from to x y = conversion_result_as_reply (reply_form options) from to
    (reciprocal_conversion (reciprocal_conversion_ratio x y))

-- ten meters in feet
abbrev pub ten_meters_reply : Options → Reply
ten_meters_reply options = linear_conversion_reply options (codes "10 m") (codes "ft") (whole_fraction (pos 10))
    (reply_example_fraction 381 1250)

-- the counts of feet and inches in a length
abbrev pub reply_in_feet : Options → Fraction → Reply
reply_in_feet options x =
    conversion_result_as_reply (reply_form options) (codes "x") (codes "ftin")
    (split (unit_counts_of_number options.round x
    (reply_example_fraction 381 1250 ∷ reply_example_fraction 127 5000 ∷ [])))
  where
    split : Result (List Fraction) FracFault → Result Conversion ReplyFault
    split (Ok counts) = Ok (Split (codes "ft; in") counts)
    split (Err fault) = Err (Value (Number fault))

-- law: a linear conversion in each layout, and from 0
abbrev pub LinearConversionLaw : Type 0
LinearConversionLaw =
    (ten_meters_reply default_reply_options ≡ granted_reply (codes "\t* 32.808399\n\t/ 0.03048\n"))
    × (ten_meters_reply (record default_reply_options { exact = true }) ≡ granted_reply
    (codes "\t* 12500|381\n\t/ 381|12500\n"))
    × (ten_meters_reply (record default_reply_options { digits = 3 }) ≡ granted_reply (codes "\t* 32.8\n\t/ 0.0305\n"))
    × (ten_meters_reply (record default_reply_options { compact = true; verbose = true }) ≡ granted_reply
    (codes "32.808399\n0.03048\n"))
    × (ten_meters_reply (record default_reply_options { one_line = true }) ≡ granted_reply (codes "\t* 32.808399\n"))
    × (ten_meters_reply (record default_reply_options { verbose = true })
    ≡ granted_reply (codes "\t10 m = 32.808399 ft\n\t10 m = (1 / 0.03048) ft\n"))
    × (linear_conversion_reply default_reply_options (codes "0 m") (codes "ft") (whole_fraction (pos 0))
    (reply_example_fraction 381 1250)
    ≡ granted_reply (codes "\t* 0\n\t/ inf\n"))
    × (linear_conversion_reply default_reply_options (codes "1 m") (codes "0 m") (whole_fraction (pos 1))
    (whole_fraction (pos 0))
    ≡ refused_reply (codes "division by zero\n"))

-- law: a reciprocal conversion, also of 0
abbrev pub ReciprocalConversionLaw : Type 0
ReciprocalConversionLaw =
    (reciprocal_conversion_reply default_reply_options (codes "2 Hz") (codes "s") (whole_fraction (pos 2))
    (whole_fraction (pos 1))
    ≡ granted_reply (codes "\treciprocal conversion\n\t* 0.5\n\t/ 2\n"))
    × (reciprocal_conversion_reply terse_reply_options (codes "2 Hz") (codes "s") (whole_fraction (pos 2))
    (whole_fraction (pos 1))
    ≡ granted_reply (codes "reciprocal conversion\n0.5\n"))
    × (reciprocal_conversion_reply (record default_reply_options { verbose = true }) (codes "2 Hz") (codes "s")
    (whole_fraction (pos 2)) (whole_fraction (pos 1))
    ≡ granted_reply (codes "\treciprocal conversion\n\t1 / (2 Hz) = 0.5 s\n\t1 / (2 Hz) = (1 / 2) s\n"))
    × (reciprocal_conversion_reply default_reply_options (codes "0 Hz") (codes "s") (whole_fraction (pos 0))
    (whole_fraction (pos 1))
    ≡ refused_reply (codes "division by zero\n"))

-- law: lists, and the meanings of targets
abbrev pub ListConversionsLaw : Type 0
ListConversionsLaw =
    (reply_in_feet default_reply_options (reply_example_fraction 7 5) ≡ granted_reply (codes "\t4 ft + 7.1181102 in\n"))
    × (reply_in_feet (record default_reply_options { compact = true }) (reply_example_fraction 7 5) ≡ granted_reply
    (codes "4;7.1181102\n"))
    × (reply_in_feet (record default_reply_options { verbose = true }) (reply_example_fraction 7 5) ≡ granted_reply
    (codes "\tx = 4 ft + 7.1181102 in\n"))
    × (reply_in_feet (record default_reply_options { round = true })
    (reply_example_fraction 75819 125000) ≡ granted_reply
    (codes "\t2 ft + 0 in\n"))
    × (conversion_result_as_reply (reply_form default_reply_options) (codes "m") (codes "m;a") (Err (ListUnit 1))
    ≡ refused_reply (codes "list unit not positive: 2\n"))
    × (conversion_target small_reply_table (codes "gauge") ≡ Function)
    × (conversion_target small_reply_table (codes "ftin") ≡ Parts (codes "ft; in"))
    × (conversion_target small_reply_table (codes "m ;; s") ≡ Parts (codes "m ;; s"))
    × (conversion_target small_reply_table (codes "m s") ≡ Unit)
    × (conversion_target_parts (codes "m ;; s") ≡ codes "m" ∷ [] ∷ codes "s" ∷ [])

-- law: faults, each of which is the whole reply, and the queries up to the fault
abbrev pub ReplyFaultsLaw : Type 0
ReplyFaultsLaw =
    (conversion_reply small_reply_table default_reply_options (codes "2 +") (codes "nosuch") ≡ refused_reply
    (codes "syntax error at 3\n"))
    × (conversion_reply small_reply_table default_reply_options (codes " m ") (codes "nosuch") ≡ refused_reply
    (codes "unknown unit: nosuch\n"))
    × (conversion_reply small_reply_table default_reply_options (codes "m") (codes "m;;s") ≡ refused_reply
    (codes "syntax error at 0\n"))
    × (conversion_reply small_reply_table default_reply_options (codes "m") (codes "ftin") ≡ refused_reply
    (codes "unknown unit: ft\n"))
    × (definition_reply small_reply_table default_reply_options (codes "gauge") ≡ refused_reply
    (codes "argument needed: gauge\n"))
    × (definition_reply small_reply_table default_reply_options (codes "sin(1)") ≡ refused_reply
    (codes "refused function: sin\n"))
    × (conversion_queries small_reply_table default_reply_options (codes "m") (codes "s")
    ≡ AsksWords (reply_example_word (codes "m") ∷ []) ∷ AsksWords (reply_example_word (codes "s") ∷ []) ∷ [])
    × (conversion_queries small_reply_table default_reply_options (codes "nosuch") (codes "s") ≡ AsksWords
    (reply_example_word (codes "nosuch") ∷ []) ∷ [])
    × (conversion_queries small_reply_table default_reply_options (codes "m") (codes "m;;s") ≡ AsksWords
    (reply_example_word (codes "m") ∷ []) ∷
    [])

-- law: all examples
abbrev pub ReplyExamplesLaw : Type 0
ReplyExamplesLaw = LinearConversionLaw × ReciprocalConversionLaw × ListConversionsLaw × ReplyFaultsLaw
