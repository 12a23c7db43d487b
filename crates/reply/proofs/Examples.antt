-- The results of the examples, by the definitions.
use Rattle.std.proofs.Common.{refl}
use Rattle.std.specs.Fmt.{digits}
use Rattle.digits_print.specs.RatioRounding.{digit_count, digits_rounding, power_of_first_digit, rounded_at_scale}
use Rattle.frac128.specs.Divisors.{gcd, gcd_within, lcm}
use Rattle.frac128.specs.Numerals.{greatest_whole_passing}
use Rattle.frac128.specs.Steps.{lowest_terms}
use Rattle.unit_list.specs.Splits.{counts_of_units, last_of_units}
use Rattle.expr_tree.specs.Faults.{fault_from_lexemes}
use Rattle.expr_tree.specs.Lexemes.{lexemes_from, tokens_in}
use Rattle.expr_tree.specs.ParseResult.{parse_of}
use Rattle.expr_tree.specs.TokenReading.{tree_of_token_list}
use Rattle.reply.specs.Examples.{LinearConversionLaw, ListConversionsLaw, ReciprocalConversionLaw, ReplyFaultsLaw}

-- the examples of linear conversions
pub linear_conversion_law : LinearConversionLaw
unfolding digits digit_count power_of_first_digit digits_rounding rounded_at_scale gcd gcd_within lowest_terms
linear_conversion_law = (refl, refl, refl, refl, refl, refl, refl, refl)

-- the examples of reciprocal conversions
pub reciprocal_conversion_law : ReciprocalConversionLaw
unfolding digits digit_count power_of_first_digit digits_rounding rounded_at_scale gcd gcd_within lowest_terms
reciprocal_conversion_law = (refl, refl, refl, refl)

-- the examples of lists
pub list_conversions_law : ListConversionsLaw
unfolding digits digit_count power_of_first_digit digits_rounding rounded_at_scale gcd gcd_within lcm lowest_terms
    counts_of_units last_of_units
list_conversions_law = (refl, refl, refl, refl, refl, refl, refl, refl, refl, refl)

-- the examples of faults
pub reply_faults_law : ReplyFaultsLaw
unfolding digits greatest_whole_passing fault_from_lexemes lexemes_from tokens_in parse_of tree_of_token_list
reply_faults_law = (refl, refl, refl, refl, refl, refl, refl, refl, refl)
