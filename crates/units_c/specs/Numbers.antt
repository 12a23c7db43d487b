-- Fractions in 64-bit words.
use Rattle.std.specs.Prelude.{◌≡◌, ◌+◌, ◌*◌, ◌^◌, ℕ, pos, int_lt, unsigned_abs, ⊤, Result, Ok, Err, if◌then◌else◌}
use Rattle.frac128.specs.Fraction.{Fraction}
use Rattle.quantity.specs.Amount.{Amount}
use Rattle.reply.specs.declared.fault.ReplyFault.{ReplyFault}
use Rattle.units_c.specs.declared.number.UnitsNumber.{UnitsNumber}

-- the number with these high and low words
abbrev pub joined_c_words : (high low : ℕ) → ℕ
joined_c_words high low = high * 2 ^ 64 + low

-- the words of `n` represent the fraction `x`
pub record IsCNumber (n : UnitsNumber) (x : Fraction) : Type 0 where
  pub sign : n.negative ≡ (if int_lt x.num (pos 0) then 1 else 0)
  pub numerator : joined_c_words n.numerator_high n.numerator_low ≡ unsigned_abs x.num
  pub denominator : joined_c_words n.denominator_high n.denominator_low ≡ x.den

-- if there is a value, the words represent its number
abbrev pub HasCNumber : UnitsNumber → Result Amount ReplyFault → Type 0
HasCNumber n (Ok x) = IsCNumber n x.value
HasCNumber n (Err fault) = ⊤
