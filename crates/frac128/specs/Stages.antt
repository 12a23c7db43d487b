-- The stages of a numeral that is read byte by byte.
use Rattle.std.specs.Prelude.{ℕ, Bool, true, false, Option, Some, None, if◌then◌else◌}
use Rattle.frac128.specs.declared.numeral_syntax.Kind.{Kind}
use Rattle.frac128.specs.declared.numeral_syntax.Kind.TheVariants.{Digit, Point, Mark, Sign, Other}
use Rattle.frac128.specs.declared.numeral_syntax.Stage.{Stage}
use Rattle.frac128.specs.declared.numeral_syntax.Stage.TheVariants.{Start, Whole, Pointed, Fraction, Marked, Signed}
use Rattle.frac128.specs.declared.numeral_syntax.Stage.TheVariants.{Exponent}
use Rattle.frac128.specs.Numerals.{is_numeral_digit, is_numeral_exponent_mark, is_numeral_point, is_numeral_sign}

-- the kind of a byte in a numeral
abbrev pub numeral_byte_kind : ℕ → Kind
numeral_byte_kind b =
    if is_numeral_digit b then Digit
    else (if is_numeral_point b then Point
    else (if is_numeral_exponent_mark b then Mark
    else (if is_numeral_sign b then Sign
    else Other)))

-- the stage after one more byte, or `None` if no numeral continues with it
abbrev pub numeral_stage_after : Stage → Kind → Option Stage
numeral_stage_after Start Digit = Some Whole
numeral_stage_after Start Point = Some Pointed
numeral_stage_after Whole Digit = Some Whole
numeral_stage_after Whole Point = Some Fraction
numeral_stage_after Whole Mark = Some Marked
numeral_stage_after Pointed Digit = Some Fraction
numeral_stage_after Fraction Digit = Some Fraction
numeral_stage_after Fraction Mark = Some Marked
numeral_stage_after Marked Digit = Some Exponent
numeral_stage_after Marked Sign = Some Signed
numeral_stage_after Signed Digit = Some Exponent
numeral_stage_after Exponent Digit = Some Exponent
numeral_stage_after _ _ = None

-- a numeral may end at the stage
abbrev pub numeral_may_end : Stage → Bool
numeral_may_end Whole = true
numeral_may_end Fraction = true
numeral_may_end Exponent = true
numeral_may_end _ = false
