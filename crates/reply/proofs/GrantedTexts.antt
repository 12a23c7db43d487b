-- Replies to texts over a small table.
use Rattle.std.proofs.Common.{◌≡◌, ◌∙◌, ◌++◌, ◌^◌, refl, ap, ap₂, ℕ, pos, Bool, true, false}
use Rattle.std.proofs.Common.{List, [], ◌∷◌, codes, Err, if◌then◌else◌}
use Rattle.std.proofs.lemmas.List.Elements.{All-from_recursion}
use Rattle.std.specs.Fmt.{digits}
use Rattle.digits_print.specs.RatioRounding.{digit_count, digits_rounding, power_of_first_digit, rounded_at_scale}
use Rattle.frac128.specs.Divisors.{gcd, gcd_within, lcm}
use Rattle.frac128.specs.Fraction.{Fraction, whole_fraction}
use Rattle.frac128.specs.Sign.{is_positive_fraction}
use Rattle.frac128.specs.Steps.{fraction_quotient, lowest_terms}
use Rattle.piecewise.specs.Lines.{Point, y_on_line_of_points}
use Rattle.piecewise.specs.Tables.{x_at_y_on_points}
use Rattle.quantity.specs.Amount.{Amount, are_reciprocal_exponents, exponents_conform}
use Rattle.quantity.specs.Merges.{UnitPowers}
use Rattle.quantity.specs.Text.{listed_powers_text}
use Rattle.unit_list.specs.Splits.{counts_of_units, last_of_units}
use Rattle.tree_eval.specs.declared.fault.ValueFault.TheVariants as fault
use Rattle.tree_eval.specs.Expansions.{Named, Primitive, Table}
use Rattle.tree_eval.specs.Steps.{ValueOrFault, plain_number_value, value_of_number}
use Rattle.tree_eval.specs.Value.{table_lookup_value}
use Rattle.reply.specs.declared.options.Options.{Options}
use Rattle.reply.specs.declared.reply.Reply.{Reply}
use Rattle.reply.specs.declared.target.Target.TheVariants.{Function, Parts, Unit}
use Rattle.reply.specs.Examples.{default_reply_options, granted_reply, refused_reply, reply_example_fraction}
use Rattle.reply.specs.GrantExamples.{ConversionExamplesLaw, example_reply, reply_example_measures}
use Rattle.reply.specs.GrantExamples.{strict_reply_options}
use Rattle.reply.specs.Options.{reply_form}
use Rattle.reply.specs.Replies.{conversion_result_as_reply}
use Rattle.reply.specs.Targets.{conversion_target}
use Rattle.reply.specs.TextValues.{IsInquiredValueOf}
use Rattle.def_lines.specs.Blanks.{trimmed_of_blanks}
use Rattle.reply.proofs.GrantedReplies.{of-function, of-parts, target-reply, unit-reply}
use Rattle.reply.proofs.UnitConversions.{conversion_by}
use Rattle.reply.proofs.GrantedValues.{after, conform-is, m, meters, minus_one, one, per_second, reciprocal-is}
use Rattle.reply.proofs.GrantedValues.{reply-example-no-entries, reply-example-one-entry, reply-example-value-0-m}
use Rattle.reply.proofs.GrantedValues.{reply-example-value-1e-30-m, reply-example-value-1e30-m}
use Rattle.reply.proofs.GrantedValues.{reply-example-value-2-Hz, reply-example-value-2-km, reply-example-value-4-m}
use Rattle.reply.proofs.GrantedValues.{reply-example-value-m, reply-example-value-s, reply-example-value-yards, s}
use Rattle.reply.proofs.GrantedValues.{seconds, single}

-- ---- the replies
-- the reply to two texts that are units, by the tests of their values
reply-to-two-units : (options : Options) (from to : List ℕ) (x y : Amount) (conforming opposite : Bool)
    → conversion_target reply_example_measures (trimmed_of_blanks to) ≡ Unit
    → IsInquiredValueOf reply_example_measures (trimmed_of_blanks from) x → IsInquiredValueOf reply_example_measures
    (trimmed_of_blanks to) y
    → exponents_conform x.exponents y.exponents ≡ conforming
    → are_reciprocal_exponents x.exponents y.exponents ≡ opposite
    → example_reply options from to
    ≡ conversion_result_as_reply (reply_form options) (trimmed_of_blanks from) (trimmed_of_blanks to)
    (conversion_by x y conforming opposite options.strict)
reply-to-two-units options from to x y conforming opposite unit v w a o =
    unit-reply reply_example_measures options from to unit x y v w
    ∙ ap₂ (λ b c. conversion_result_as_reply (reply_form options) (trimmed_of_blanks from) (trimmed_of_blanks to)
    (conversion_by x y b c options.strict)) a o

conversion-m-to-m-conforms : exponents_conform (single m one) (single m one) ≡ true
conversion-m-to-m-conforms = conform-is (single m one) (single m one) _ _ (reply-example-one-entry m one)
    (reply-example-one-entry m one) ∙ refl

conversion-m-to-m-not-reciprocal : are_reciprocal_exponents (single m one) (single m one) ≡ false
conversion-m-to-m-not-reciprocal = reciprocal-is (single m one) (single m one) _ _ (reply-example-one-entry m one)
    (reply-example-one-entry m one) ∙ refl

conversion-m-to-s-not-conforming : exponents_conform (single m one) (single s one) ≡ false
conversion-m-to-s-not-conforming = conform-is (single m one) (single s one) _ _ (reply-example-one-entry m one)
    (reply-example-one-entry s one) ∙ refl

conversion-m-to-s-not-reciprocal : are_reciprocal_exponents (single m one) (single s one) ≡ false
conversion-m-to-s-not-reciprocal = reciprocal-is (single m one) (single s one) _ _ (reply-example-one-entry m one)
    (reply-example-one-entry s one) ∙ refl

conversion-per-s-not-conforming : exponents_conform (single s minus_one) (single s one) ≡ false
conversion-per-s-not-conforming = conform-is (single s minus_one) (single s one) _ _
    (reply-example-one-entry s minus_one) (reply-example-one-entry s one) ∙ refl

conversion-per-s-to-s-reciprocal : are_reciprocal_exponents (single s minus_one) (single s one) ≡ true
conversion-per-s-to-s-reciprocal = reciprocal-is (single s minus_one) (single s one) _ _
    (reply-example-one-entry s minus_one) (reply-example-one-entry s one) ∙ refl

linear-conversion-example : example_reply default_reply_options (codes "2 km") (codes " yards ") ≡ granted_reply
    (codes "\t* 2187.2266\n\t/ 0.0004572\n")
unfolding digits digit_count power_of_first_digit digits_rounding rounded_at_scale gcd gcd_within lowest_terms
linear-conversion-example =
    reply-to-two-units default_reply_options (codes "2 km") (codes " yards ") (meters (whole_fraction (pos 2000)))
    (meters (reply_example_fraction 1143 1250))
    true
    false
    refl reply-example-value-2-km reply-example-value-yards conversion-m-to-m-conforms conversion-m-to-m-not-reciprocal
    ∙ refl

reciprocal-conversion-example : example_reply default_reply_options (codes "2 Hz") (codes "s") ≡ granted_reply
    (codes "\treciprocal conversion\n\t* 0.5\n\t/ 2\n")
unfolding digits digit_count power_of_first_digit digits_rounding rounded_at_scale gcd gcd_within lowest_terms
reciprocal-conversion-example =
    reply-to-two-units default_reply_options (codes "2 Hz") (codes "s") (per_second (whole_fraction (pos 2)))
    (seconds one) false true refl reply-example-value-2-Hz
    reply-example-value-s conversion-per-s-not-conforming conversion-per-s-to-s-reciprocal
    ∙ refl

-- two quantities that do not conform, by the lists of their names
abbrev unlike_reply : (x y : List ℕ) (ps os : UnitPowers) → Reply
unlike_reply x y ps os =
    refused_reply ((codes "conformability error\n" ++ ((codes "\t" ++ x ++ listed_powers_text ps) ++ codes "\n"))
    ++ ((codes "\t" ++ y ++ listed_powers_text os) ++ codes "\n"))

strict-conversion-example : example_reply strict_reply_options (codes "2 Hz") (codes "s") ≡ refused_reply
    (codes "conformability error\n\t2 / s\n\t1 s\n")
unfolding digits digit_count power_of_first_digit digits_rounding rounded_at_scale gcd gcd_within lowest_terms
strict-conversion-example =
    reply-to-two-units strict_reply_options (codes "2 Hz") (codes "s") (per_second (whole_fraction (pos 2)))
    (seconds one) false true refl reply-example-value-2-Hz
    reply-example-value-s conversion-per-s-not-conforming conversion-per-s-to-s-reciprocal
    ∙ ap₂ (unlike_reply (codes "2") (codes "1")) (reply-example-one-entry s minus_one) (reply-example-one-entry s one)
    ∙ refl

nonconforming-conversion-example : example_reply default_reply_options (codes "m") (codes "s") ≡ refused_reply
    (codes "conformability error\n\t1 m\n\t1 s\n")
unfolding digits digit_count power_of_first_digit digits_rounding rounded_at_scale gcd gcd_within lowest_terms
nonconforming-conversion-example =
    reply-to-two-units default_reply_options (codes "m") (codes "s") (meters one) (seconds one) false false refl
    reply-example-value-m reply-example-value-s conversion-m-to-s-not-conforming
    conversion-m-to-s-not-reciprocal
    ∙ ap₂ (unlike_reply (codes "1") (codes "1")) (reply-example-one-entry m one) (reply-example-one-entry s one)
    ∙ refl

conversion-to-zero-example : example_reply default_reply_options (codes "m") (codes "0 m") ≡ refused_reply
    (codes "division by zero\n")
unfolding gcd gcd_within lowest_terms
conversion-to-zero-example =
    reply-to-two-units default_reply_options (codes "m") (codes "0 m") (meters one) (meters (whole_fraction (pos 0)))
    true false refl reply-example-value-m reply-example-value-0-m
    conversion-m-to-m-conforms
    conversion-m-to-m-not-reciprocal
    ∙ refl

abbrev both_units : List Amount
both_units = meters (reply_example_fraction 1143 1250) ∷ meters one ∷ []

abbrev counts : List Fraction
counts = whole_fraction (pos 2187) ∷ reply_example_fraction 259 1250 ∷ []

split-conversion-example : example_reply default_reply_options (codes "2 km") (codes "yards;m") ≡ granted_reply
    (codes "\t2187 yards + 0.2072 m\n")
unfolding digits digit_count power_of_first_digit digits_rounding rounded_at_scale gcd gcd_within lcm lowest_terms
    counts_of_units last_of_units
split-conversion-example =
    target-reply reply_example_measures default_reply_options (codes "2 km") (codes "yards;m") (Parts (codes "yards;m"))
    refl
    (meters (whole_fraction (pos 2000))) reply-example-value-2-km
    ∙ ap (conversion_result_as_reply (reply_form default_reply_options) (codes "2 km") (codes "yards;m"))
    (of-parts reply_example_measures default_reply_options (codes "yards;m") (meters (whole_fraction (pos 2000)))
    (codes "yards;m") (codes "yards;m") counts
    refl (record {
      units = both_units;
      evaluates = (reply-example-value-yards, (reply-example-value-m, tt));
      conformable = All-from_recursion (λ unit. exponents_conform (single m one) unit.exponents ≡ true) both_units
          (conversion-m-to-m-conforms, (conversion-m-to-m-conforms, tt));
      units_positive = All-from_recursion (λ unit. is_positive_fraction unit.value ≡ true) both_units
          (refl, (refl, tt));
      counts_are = refl;
    }))
    ∙ refl

abbrev points : List Point
points = (whole_fraction (pos 1), whole_fraction (pos 2)) ∷ (whole_fraction (pos 3), whole_fraction (pos 6)) ∷ []

-- the number that the table yields for a quantity that conforms to its unit
abbrev looked_up_if : Bool → ValueOrFault
looked_up_if conforming =
    after (if conforming then value_of_number (fraction_quotient (whole_fraction (pos 4)) one) else Err
    (fault.WrongArgument (codes "gauge")))
    (λ y. table_lookup_value (codes "gauge") (x_at_y_on_points points y.value))

inverse-conversion-example : example_reply default_reply_options (codes "4 m") (codes "gauge") ≡ granted_reply
    (codes "\t2\n")
unfolding digits digit_count power_of_first_digit digits_rounding rounded_at_scale gcd gcd_within lcm lowest_terms
    x_at_y_on_points y_on_line_of_points
inverse-conversion-example =
    target-reply reply_example_measures default_reply_options (codes "4 m") (codes "gauge") Function refl
    (meters (whole_fraction (pos 4))) reply-example-value-4-m
    ∙ ap (conversion_result_as_reply (reply_form default_reply_options) (codes "4 m") (codes "gauge"))
    (of-function reply_example_measures default_reply_options (codes "gauge") (meters (whole_fraction (pos 4)))
    (plain_number_value (whole_fraction (pos 2))) (record {
      names = refl;
      function = Table (codes "gauge") 1 (Named (Primitive m)) points;
      function_meaning = refl;
      evaluates = ap looked_up_if conversion-m-to-m-conforms;
    }))
    ∙ ap (λ es. granted_reply (codes "\t2" ++ listed_powers_text es ++ codes "\n")) reply-example-no-entries
    ∙ refl

too-large-conversion-example : example_reply default_reply_options (codes "1e30 m") (codes "1e-30 m") ≡ refused_reply
    (codes "overflow\n")
unfolding gcd gcd_within lowest_terms
too-large-conversion-example = reply-to-two-units default_reply_options (codes "1e30 m") (codes "1e-30 m")
    (meters (whole_fraction (pos (10 ^ 30))))
    (meters (reply_example_fraction 1 (10 ^ 30)))
    true false refl reply-example-value-1e30-m reply-example-value-1e-30-m conversion-m-to-m-conforms
    conversion-m-to-m-not-reciprocal
    ∙ refl

pub conversion-examples-law : ConversionExamplesLaw
conversion-examples-law = record {
  linear = linear-conversion-example;
  reciprocal = reciprocal-conversion-example;
  strict = strict-conversion-example;
  unlike = nonconforming-conversion-example;
  split_into_list = split-conversion-example;
  inverse = inverse-conversion-example;
  zero = conversion-to-zero-example;
  too_large = too-large-conversion-example;
}
