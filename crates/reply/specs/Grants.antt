-- Which conversions are granted, and their results.
use Rattle.std.specs.Prelude.{◌≡◌, ◌↔◌, ℕ, pos, Bool, true, false, All, List, Option, Some, None, Ok}
use Rattle.frac128.specs.Fraction.{Fraction, whole_fraction}
use Rattle.frac128.specs.Sign.{is_positive_fraction, is_zero_fraction}
use Rattle.quantity.specs.Amount.{Amount, are_reciprocal_exponents, exponents_conform}
use Rattle.unit_list.specs.Amounts.{numbers_of_units}
use Rattle.unit_list.specs.Splits.{unit_counts_of_number}
use Rattle.def_lines.specs.Blanks.{trimmed_of_blanks}
use Rattle.def_entry.specs.declared.key.Kind.TheVariants as kind
use Rattle.def_entry.specs.Keys.{key}
use Rattle.def_entry.specs.Tables.{EntryTable}
use Rattle.deck.specs.Decks.{DeckContents}
use Rattle.deck.specs.Tables as deck
use Rattle.tree_eval.specs.Expansions.{Callable, Callee}
use Rattle.tree_eval.specs.Value.{inverse_value_at}
use Rattle.table_names.specs.Faults.{key_fault}
use Rattle.table_names.specs.Meanings.{key_meaning}
use Rattle.reply.specs.declared.conversion.Conversion.{Conversion}
use Rattle.reply.specs.declared.conversion.Conversion.TheVariants.{Linear, Reciprocal, Inverse, Split}
use Rattle.reply.specs.declared.options.Options.{Options}
use Rattle.reply.specs.declared.ratio.Ratio.{Ratio}
use Rattle.reply.specs.declared.reply.Reply.{Reply}
use Rattle.reply.specs.declared.target.Target.{Target}
use Rattle.reply.specs.declared.target.Target.TheVariants.{Function, Parts, Unit}
use Rattle.reply.specs.Lines.{conversion_text}
use Rattle.reply.specs.Options.{reply_form}
use Rattle.reply.specs.Quotients.{IsConversionQuotient}
use Rattle.reply.specs.Replies.{comparison_reply, conversion_reply}
use Rattle.reply.specs.Targets.{conversion_target, conversion_target_parts}
use Rattle.reply.specs.TextValues.{AreInquiredValuesOf, IsInquiredValueOf}

-- the number after `/`: how often FROM goes into TO; `None` if FROM is 0
abbrev pub IsConversionBackFactor : (from to : Fraction) → Option Fraction → Type 0
IsConversionBackFactor from to None = is_zero_fraction from ≡ true
IsConversionBackFactor from to (Some back) = IsConversionQuotient to from back

-- the two numbers of a reply: after `*` how often TO goes into FROM, and after `/` how often FROM goes into TO
pub record AreConversionFactors (from to : Fraction) (ratio : Ratio) : Type 0 where
  pub forward : IsConversionQuotient from to ratio.forward
  pub back_factor : IsConversionBackFactor from to ratio.back

-- a linear conversion: x conforms to y
pub record IsLinearConversion (x y : Amount) (ratio : Ratio) : Type 0 where
  pub conformable : exponents_conform x.exponents y.exponents ≡ true
  pub factors : AreConversionFactors x.value y.value ratio

-- a reciprocal conversion: x does not conform to y, but their product is dimensionless, and 1 over x is converted
pub record IsReciprocalConversion (x y : Amount) (ratio : Ratio) : Type 0 where
  pub unlike : exponents_conform x.exponents y.exponents ≡ false
  pub opposite : are_reciprocal_exponents x.exponents y.exponents ≡ true
  pub inverse : Fraction
  pub inverse_is_quotient : IsConversionQuotient (whole_fraction (pos 1)) x.value inverse
  pub factors : AreConversionFactors inverse y.value ratio

-- x in terms of y; with `strict` no conversion is reciprocal
abbrev pub IsUnitConversion : (strict : Bool) (x y : Amount) → Conversion → Type 0
IsUnitConversion strict x y (Linear ratio) = IsLinearConversion x y ratio
IsUnitConversion strict x y (Reciprocal ratio) = (strict ≡ false) × IsReciprocalConversion x y ratio
IsUnitConversion strict x y _ = ⊥

module _ (table : EntryTable) where
  -- a conversion to a unit: the unit has a value, and x is converted to it
  pub record ConvertsToUnit (strict : Bool) (to : List ℕ) (x : Amount) (c : Conversion) : Type 0 where
    pub y : Amount
    pub evaluates : IsInquiredValueOf table to y
    pub converts : IsUnitConversion strict x y c

  -- a conversion to a function: its names have no fault, and its inverse at x evaluates to y
  pub record ConvertsToFunction (name : List ℕ) (x y : Amount) : Type 0 where
    pub names : key_fault table (key kind.Func name) ≡ None
    pub function : Callable
    pub function_meaning : key_meaning table (key kind.Func name) ≡ Callee function
    pub evaluates : inverse_value_at function x ≡ Ok y

  -- a conversion to a list: each of its parts has a value above 0 to which x conforms, and x has counts of these
  pub record ConvertsToList (round : Bool) (list : List ℕ) (x : Amount) (counts : List Fraction) : Type 0 where
    pub units : List Amount
    pub evaluates : AreInquiredValuesOf table (conversion_target_parts list) units
    pub conformable : All (λ unit. exponents_conform x.exponents unit.exponents ≡ true) units
    pub units_positive : All (λ unit. is_positive_fraction unit.value ≡ true) units
    pub counts_are : unit_counts_of_number round x.value (numbers_of_units units) ≡ Ok counts

-- a conversion, by the meaning of the target
abbrev pub ConvertsTo : EntryTable → Options → (to : List ℕ) → Target → Amount → Conversion → Type 0
ConvertsTo table options to Unit x c = ConvertsToUnit table options.strict to x c
ConvertsTo table options to Function x (Inverse y) = ConvertsToFunction table to x y
ConvertsTo table options to (Parts list) x (Split text counts) =
    (text ≡ list) × ConvertsToList table options.round list x counts
ConvertsTo table options to _ x _ = ⊥

module _ (table : EntryTable) (options : Options) (from to : List ℕ) where
  -- FROM has a value, and this is its conversion to TO
  pub record IsConversion (c : Conversion) : Type 0 where
    pub x : Amount
    pub evaluates : IsInquiredValueOf table (trimmed_of_blanks from) x
    pub converts : ConvertsTo table options (trimmed_of_blanks to) (conversion_target table (trimmed_of_blanks to)) x c

  -- FROM can be converted to TO
  abbrev pub IsGranted : Type 0
  IsGranted = (c : Conversion) × IsConversion c

  -- the reply to FROM and TO
  pub record IsConversionReply (reply : Reply) : Type 0 where
    -- the reply is not a refusal if and only if the conversion is granted
    pub granted_exactly : (reply.refused ≡ false) ↔ IsGranted
    -- the reply to a granted conversion states the numbers of that conversion
    pub conversion : (c : Conversion) → IsConversion c
        → reply
        ≡ (record {
          text = conversion_text (reply_form options) (trimmed_of_blanks from) (trimmed_of_blanks to) c;
          refused = false;
        })
    -- if TO is a unit and both texts have values, the reply is that for these values
    pub comparison : conversion_target table (trimmed_of_blanks to) ≡ Unit → (x y : Amount)
        → IsInquiredValueOf table (trimmed_of_blanks from) x
        → IsInquiredValueOf table (trimmed_of_blanks to) y → reply ≡ comparison_reply options (trimmed_of_blanks from)
        (trimmed_of_blanks to) x y
    -- no conversion to a unit of the value 0 is granted
    pub zero_target : conversion_target table (trimmed_of_blanks to) ≡ Unit → (y : Amount)
        → IsInquiredValueOf table (trimmed_of_blanks to) y
        → y.value.num ≡ pos 0 → reply.refused ≡ true

-- law: the reply over the definitions of a deck grants exactly these conversions
abbrev pub ConversionGrantLaw : Type 0
ConversionGrantLaw = (d : DeckContents) (options : Options) (from to : List ℕ)
    → IsConversionReply (deck.table_of_deck d) options from to (conversion_reply (deck.table_of_deck d) options from to)
