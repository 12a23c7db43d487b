-- How often one number goes into another, and the reverse.
use Rattle.std.specs.Prelude.{pos, Option, Some, None, Result, Ok, if◌then◌else◌}
use Rattle.frac128.specs.declared.fault.FracFault.{FracFault}
use Rattle.frac128.specs.Fraction.{Fraction, whole_fraction}
use Rattle.frac128.specs.Sign.{is_zero_fraction}
use Rattle.frac128.specs.Steps.{fraction_quotient}
use Rattle.units_io.specs.Outcomes.{◌>>=◌}
use Rattle.reply.specs.declared.ratio.Ratio.{Ratio}

-- to/from, or `None` if `from` is 0
abbrev pub inverse_conversion_ratio : (from to : Fraction) → Result (Option Fraction) FracFault
inverse_conversion_ratio from to = if is_zero_fraction from then Ok None else (do
  back ← fraction_quotient to from
  Ok (Some back))

-- from/to, and then to/from
abbrev pub conversion_ratio : (from to : Fraction) → Result Ratio FracFault
conversion_ratio from to = do
  forward ← fraction_quotient from to
  back ← inverse_conversion_ratio from to
  Ok (record { forward = forward; back = back })

-- the ratio of 1/from and `to`
abbrev pub reciprocal_conversion_ratio : (from to : Fraction) → Result Ratio FracFault
reciprocal_conversion_ratio from to = do
  inverse ← fraction_quotient (whole_fraction (pos 1)) from
  conversion_ratio inverse to
