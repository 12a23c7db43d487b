-- Numbers at the ends of intervals, as the options `domain=` and `range=` spell them.
use Rattle.std.specs.Prelude.{◌≡◌, ◌^◌, ◌+◌, ℕ, ℤ, pos, negsuc, List, Bool, true, false, Option, Some, None, codes}
use Rattle.def_entry.specs.declared.entry.Span.{Span}
use Rattle.def_entry.specs.Intervals.{interval_at}
use Rattle.frac128.specs.Fraction.{Fraction, whole_fraction}
use Rattle.tree_eval.specs.Tests.{is_value_within_span}

abbrev pub is_within_read_interval : Option (Span × List ℕ) → Fraction → Bool
is_within_read_interval None x = false
is_within_read_interval (Some read) x = is_value_within_span read.0 x

-- the text is an interval, which contains the number
abbrev pub is_in_interval_text : List ℕ → Fraction → Bool
is_in_interval_text text x = is_within_read_interval (interval_at text) x

-- a billionth above 1
abbrev pub just_above_one : Fraction
just_above_one = record { num = pos (10 ^ 9 + 1); den = 10 ^ 9 }

pub record IntervalEndExamples : Type 0 where
  pub closed_upper_end : is_in_interval_text (codes "[0,1]") (whole_fraction (pos 1)) ≡ true
  pub above_closed_end : is_in_interval_text (codes "[0,1]") just_above_one ≡ false
  pub open_upper_end : is_in_interval_text (codes "[0,1)") (whole_fraction (pos 1)) ≡ false
  pub closed_lower_end : is_in_interval_text (codes "[0,1)") (whole_fraction (pos 0)) ≡ true
  pub below_closed_end : is_in_interval_text (codes "[0,1)") (record { num = negsuc 0; den = 10 ^ 9 }) ≡ false
  pub open_lower_end : is_in_interval_text (codes "(0,1]") (whole_fraction (pos 0)) ≡ false
  pub closed_end_of_half_open : is_in_interval_text (codes "(0,1]") (whole_fraction (pos 1)) ≡ true
  pub one_number : is_in_interval_text (codes "[1,1]") (whole_fraction (pos 1)) ≡ true
  pub no_number : is_in_interval_text (codes "[1,1)") (whole_fraction (pos 1)) ≡ false
  pub no_lower_end : is_in_interval_text (codes "[,1]") (whole_fraction (negsuc 999)) ≡ true
  pub no_upper_end : is_in_interval_text (codes "[0,)") (whole_fraction (pos 1000)) ≡ true
