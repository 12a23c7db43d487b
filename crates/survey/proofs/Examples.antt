-- The examples, from the definitions.
use Rattle.std.proofs.Common.{refl}
use Rattle.std.specs.Fmt.{digits}
use Rattle.frac128.specs.Divisors.{gcd, gcd_within}
use Rattle.frac128.specs.Steps.{lowest_terms}
use Rattle.survey.specs.Examples.{CheckLaw, SearchRowsLaw}

-- the examples of checks
pub check_law : CheckLaw
unfolding digits gcd gcd_within lowest_terms
check_law = record {
  sound_key = refl;
  unknown_unit = refl;
  overflow = refl;
  out_unit = refl;
  alias_of = refl;
  fault_in_table = refl;
  own_chain = refl;
  from_unit = refl;
  other_chain = refl;
  part = refl;
  unlike = refl;
  not_positive = refl;
  checks_in_order = refl;
  queries_asked = refl;
}

-- the examples of rows
pub search_rows_law : SearchRowsLaw
unfolding gcd gcd_within lowest_terms
search_rows_law = record {
  rows_inside = refl;
  not_in_key_text = refl;
  anywhere = refl;
  without_value = refl;
  units_alone = refl;
  chain_turned = refl;
}
