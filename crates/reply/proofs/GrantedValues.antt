-- The values of texts over a small table.
use Rattle.std.proofs.Common.{◌≡◌, ◌∙◌, ◌++◌, ◌^◌, arith, refl, sym, ap, ap₂, ℕ, pos, negsuc}
use Rattle.std.proofs.Common.{List, [], ◌∷◌, length, map, codes, Some, Ok}
use Rattle.std.specs.Prelude.{unwrap_or}
use Rattle.std.specs.Cmp.Lexicographic.{nat_list_cmp_total, slice_cmp}
use Rattle.std.specs.FinMap as map_of
use Rattle.std.specs.FinMap.Entries.{find, put}
use Rattle.std.specs.Ordering.{nat_cmp}
use Rattle.frac128.specs.Divisors.{gcd, gcd_within}
use Rattle.frac128.specs.Fraction.{Fraction, opposite_fraction, whole_fraction}
use Rattle.frac128.specs.Numerals.{greatest_whole_passing}
use Rattle.frac128.specs.Steps.{lowest_terms}
use Rattle.quantity.specs.Amount.{Amount, are_reciprocal_exponents, exponents_conform, powers_match}
use Rattle.quantity.specs.Answers.{exponents_in_range, quantity_from}
use Rattle.quantity.specs.Exponents.{Exponents, exponent_difference, exponent_of, exponent_sum, exponents_by}
use Rattle.quantity.specs.Merges.{UnitPowers}
use Rattle.quantity.specs.Products.{product_exponents, quotient_exponents}
use Rattle.units_io.specs.Outcomes as outcome
use Rattle.expr_tree.specs.Faults.{fault_from_lexemes}
use Rattle.expr_tree.specs.Lexemes.{lexemes_from, tokens_in}
use Rattle.expr_tree.specs.ParseResult.{parse_of}
use Rattle.expr_tree.specs.TokenReading.{tree_of_token_list}
use Rattle.expr_tree.specs.Syntax.{Word}
use Rattle.tree_eval.specs.declared.step.Step.TheVariants.{Multiply}
use Rattle.tree_eval.specs.Steps.{ValueOrFault, operand_step_value, plain_number_value}
use Rattle.tree_eval.specs.Steps.{value_of_quantity_step}
use Rattle.reply.specs.Examples.{reply_example_fraction}
use Rattle.reply.specs.GrantExamples.{reply_example_measures}
use Rattle.reply.specs.GrantExamples.{reply_example_multiple, reply_example_numeral}
use Rattle.reply.specs.TextValues.{IsInquiredValueOf}

-- ---- maps of one name

-- the map of a name with this exponent
abbrev pub single : List ℕ → Fraction → Exponents
single name e = map_of.insert map_of.empty name e

pub reply-example-no-entries : map_of.entries (map_of.empty {X = Fraction} {R = slice_cmp nat_cmp}) ≡ []
reply-example-no-entries =
    nothing-in _ (sym (map_of.len-entries map_of.empty) ∙ map_of.len-empty (slice_cmp nat_cmp) Fraction)
  where
    nothing-in : (es : UnitPowers) → length es ≡ 0 → es ≡ []
    nothing-in [] h = refl
    nothing-in (e ∷ es) h = absurd (omega arith)

pub reply-example-one-entry : (name : List ℕ) (e : Fraction) → map_of.entries (single name e) ≡ (name, e) ∷ []
reply-example-one-entry name e = map_of.entries-insert nat_list_cmp_total map_of.empty name e
    ∙ ap (put (slice_cmp nat_cmp) name e) reply-example-no-entries

-- the exponent of a name in a list
abbrev pub in_list : UnitPowers → List ℕ → Fraction
in_list es name = unwrap_or (find (slice_cmp nat_cmp) name es) (whole_fraction (pos 0))

abbrev pub names_in : UnitPowers → List (List ℕ)
names_in es = map (λ e. e.0) es

module _ (p o : Exponents) (ps os : UnitPowers) (left : map_of.entries p ≡ ps) (right : map_of.entries o ≡ os) where
  exponent-left : (name : List ℕ) → exponent_of p name ≡ in_list ps name
  exponent-left name = ap (λ q. unwrap_or q (whole_fraction (pos 0))) (map_of.get-entries p name)
      ∙ ap (λ es. in_list es name) left

  exponent-right : (name : List ℕ) → exponent_of o name ≡ in_list os name
  exponent-right name = ap (λ q. unwrap_or q (whole_fraction (pos 0))) (map_of.get-entries o name)
      ∙ ap (λ es. in_list es name) right

  product-is : product_exponents p o
      ≡ exponents_in_range (λ name. exponent_sum (in_list ps name) (in_list os name)) (names_in ps ++ names_in os)
  unfolding product_exponents
  product-is = λ i. exponents_in_range (λ name. exponent_sum (exponent-left name i) (exponent-right name i))
      (names_in (left i) ++ names_in (right i))

  quotient-is : quotient_exponents p o
      ≡ exponents_in_range (λ name. exponent_difference (in_list ps name) (in_list os name))
      (names_in ps ++ names_in os)
  unfolding quotient_exponents
  quotient-is = λ i. exponents_in_range (λ name. exponent_difference (exponent-left name i) (exponent-right name i))
      (names_in (left i) ++ names_in (right i))

  pub conform-is : exponents_conform p o ≡ powers_match (λ e. e) ps os
  conform-is = ap₂ (powers_match (λ e. e)) left right

  pub reciprocal-is : are_reciprocal_exponents p o ≡ powers_match opposite_fraction ps os
  reciprocal-is = ap₂ (powers_match opposite_fraction) left right

-- ---- the units
abbrev pub m : List ℕ
m = codes "m"

abbrev pub s : List ℕ
s = codes "s"

abbrev pub one : Fraction
one = whole_fraction (pos 1)

abbrev pub minus_one : Fraction
minus_one = whole_fraction (negsuc 0)

abbrev pub meters : Fraction → Amount
meters x = record { value = x; exponents = single m one }

abbrev pub seconds : Fraction → Amount
seconds x = record { value = x; exponents = single s one }

abbrev pub per_second : Fraction → Amount
per_second x = record { value = x; exponents = single s minus_one }

pub reply-example-number-m : product_exponents map_of.empty (single m one) ≡ Some (single m one)
unfolding exponents_in_range exponents_by lowest_terms gcd gcd_within
reply-example-number-m = product-is map_of.empty (single m one) [] ((m, one) ∷ []) reply-example-no-entries
    (reply-example-one-entry m one) ∙ refl

pub reply-example-number-per-s : product_exponents map_of.empty (single s minus_one) ≡ Some (single s minus_one)
unfolding exponents_in_range exponents_by lowest_terms gcd gcd_within
reply-example-number-per-s = product-is map_of.empty (single s minus_one) [] ((s, minus_one) ∷ [])
    reply-example-no-entries (reply-example-one-entry s minus_one)
    ∙ refl

pub reply-example-one-over-s : quotient_exponents map_of.empty (single s one) ≡ Some (single s minus_one)
unfolding exponents_in_range exponents_by lowest_terms gcd gcd_within
reply-example-one-over-s = quotient-is map_of.empty (single s one) [] ((s, one) ∷ []) reply-example-no-entries
    (reply-example-one-entry s one) ∙ refl

-- ---- the values of the texts
abbrev pub after : ValueOrFault → (Amount → ValueOrFault) → ValueOrFault
after w step = outcome.◌>>=◌ w step

abbrev pub last : ValueOrFault → ValueOrFault
last w = after w (λ v. Ok v)

-- a number times a quantity
abbrev pub times_by : Fraction → ValueOrFault → ValueOrFault
times_by x w = after w (λ v. last (operand_step_value Multiply (plain_number_value x) v))

pub reply-example-value-m : IsInquiredValueOf reply_example_measures (codes "m") (meters one)
unfolding greatest_whole_passing fault_from_lexemes lexemes_from tokens_in parse_of tree_of_token_list
reply-example-value-m = record { tree = Word m; parses = refl; names = refl; evaluates = refl }

pub reply-example-value-s : IsInquiredValueOf reply_example_measures (codes "s") (seconds one)
unfolding greatest_whole_passing fault_from_lexemes lexemes_from tokens_in parse_of tree_of_token_list
reply-example-value-s = record { tree = Word s; parses = refl; names = refl; evaluates = refl }

pub reply-example-value-4-m : IsInquiredValueOf reply_example_measures (codes "4 m") (meters (whole_fraction (pos 4)))
unfolding greatest_whole_passing fault_from_lexemes lexemes_from tokens_in parse_of tree_of_token_list gcd gcd_within
    lowest_terms
reply-example-value-4-m = record {
  tree = reply_example_multiple (reply_example_numeral 4 (pos 0)) m;
  parses = refl;
  names = refl;
  evaluates = ap (λ o. last (value_of_quantity_step (quantity_from (Ok (whole_fraction (pos 4))) o)))
      reply-example-number-m;
}

pub reply-example-value-0-m : IsInquiredValueOf reply_example_measures (codes "0 m") (meters (whole_fraction (pos 0)))
unfolding greatest_whole_passing fault_from_lexemes lexemes_from tokens_in parse_of tree_of_token_list gcd gcd_within
    lowest_terms
reply-example-value-0-m = record {
  tree = reply_example_multiple (reply_example_numeral 0 (pos 0)) m;
  parses = refl;
  names = refl;
  evaluates = ap (λ o. last (value_of_quantity_step (quantity_from (Ok (whole_fraction (pos 0))) o)))
      reply-example-number-m;
}

pub reply-example-value-yards : IsInquiredValueOf reply_example_measures (codes "yards")
    (meters (reply_example_fraction 1143 1250))
unfolding greatest_whole_passing fault_from_lexemes lexemes_from tokens_in parse_of tree_of_token_list gcd gcd_within
    lowest_terms
reply-example-value-yards = record {
  tree = Word (codes "yards");
  parses = refl;
  names = refl;
  evaluates = ap (λ o. last (value_of_quantity_step (quantity_from (Ok (reply_example_fraction 1143 1250)) o)))
      reply-example-number-m;
}

-- the value of a prefix and a unit
pub reply-example-value-2-km : IsInquiredValueOf reply_example_measures (codes "2 km") (meters (whole_fraction (pos 2000)))
unfolding greatest_whole_passing fault_from_lexemes lexemes_from tokens_in parse_of tree_of_token_list gcd gcd_within
    lowest_terms
reply-example-value-2-km = record {
  tree = reply_example_multiple (reply_example_numeral 2 (pos 0)) (codes "km");
  parses = refl;
  names = refl;
  evaluates = ap (λ o. times_by (whole_fraction (pos 2))
      (value_of_quantity_step (quantity_from (Ok (whole_fraction (pos 1000))) o))) reply-example-number-m
      ∙ ap (λ o. last (value_of_quantity_step (quantity_from (Ok (whole_fraction (pos 2000))) o)))
      reply-example-number-m;
}

pub reply-example-value-2-Hz : IsInquiredValueOf reply_example_measures (codes "2 Hz") (per_second (whole_fraction (pos 2)))
unfolding greatest_whole_passing fault_from_lexemes lexemes_from tokens_in parse_of tree_of_token_list gcd gcd_within
    lowest_terms
reply-example-value-2-Hz = record {
  tree = reply_example_multiple (reply_example_numeral 2 (pos 0)) (codes "Hz");
  parses = refl;
  names = refl;
  evaluates = ap (λ o. times_by (whole_fraction (pos 2)) (last (value_of_quantity_step (quantity_from (Ok one) o))))
      reply-example-one-over-s
      ∙ ap (λ o. last (value_of_quantity_step (quantity_from (Ok (whole_fraction (pos 2))) o)))
      reply-example-number-per-s;
}

pub reply-example-value-1e30-m : IsInquiredValueOf reply_example_measures (codes "1e30 m")
    (meters (whole_fraction (pos (10 ^ 30))))
unfolding greatest_whole_passing fault_from_lexemes lexemes_from tokens_in parse_of tree_of_token_list gcd gcd_within
    lowest_terms
reply-example-value-1e30-m = record {
  tree = reply_example_multiple (reply_example_numeral 1 (pos 30)) m;
  parses = refl;
  names = refl;
  evaluates = ap (λ o. last (value_of_quantity_step (quantity_from (Ok (whole_fraction (pos (10 ^ 30)))) o)))
      reply-example-number-m;
}

pub reply-example-value-1e-30-m : IsInquiredValueOf reply_example_measures (codes "1e-30 m")
    (meters (reply_example_fraction 1 (10 ^ 30)))
unfolding greatest_whole_passing fault_from_lexemes lexemes_from tokens_in parse_of tree_of_token_list gcd gcd_within
    lowest_terms
reply-example-value-1e-30-m = record {
  tree = reply_example_multiple (reply_example_numeral 1 (negsuc 29)) m;
  parses = refl;
  names = refl;
  evaluates = ap (λ o. last (value_of_quantity_step (quantity_from (Ok (reply_example_fraction 1 (10 ^ 30))) o)))
      reply-example-number-m;
}
