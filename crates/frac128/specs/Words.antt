-- Numbers of 65 bits as a sign and 64 bits, as a numeral holds them in its words.
use Rattle.std.specs.Prelude.{◌≡◌, ◌<◌, ◌+◌, ◌*◌, ◌/◌, ◌^◌, ℕ, ℤ, pos, negsuc, refl}
use Rattle.std.proofs.Common.{ap}
use Rattle.std.proofs.lemmas.Nat.{shr_high}

-- the distance of a number from 0, or from -1 if it is below 0
abbrev pub numeral_word_distance : ℤ → ℕ
numeral_word_distance (pos n) = n
numeral_word_distance (negsuc n) = n

-- the number of this distance that is below 0 if the other number is below 0
abbrev pub numeral_word_with_sign : ℤ → ℕ → ℤ
numeral_word_with_sign (pos k) n = pos n
numeral_word_with_sign (negsuc k) n = negsuc n

-- the first word of a numeral follows from the sign of its scale and the high bits of its coefficient
pub numeral_high_word_is_rebuilt : (high : ℤ) (tens low : ℕ) → low < 2 ^ 64
    → numeral_word_with_sign (numeral_word_with_sign high tens) ((numeral_word_distance high * 2 ^ 64 + low) / 2 ^ 64)
    ≡ high
numeral_high_word_is_rebuilt (pos n) tens low fits = ap pos (shr_high n 64 low fits)
numeral_high_word_is_rebuilt (negsuc n) tens low fits = ap negsuc (shr_high n 64 low fits)

-- a sign does not change the distance
pub sign_keeps_numeral_word_distance : (high : ℤ) (tens : ℕ)
    → numeral_word_distance (numeral_word_with_sign high tens) ≡ tens
sign_keeps_numeral_word_distance (pos n) tens = refl
sign_keeps_numeral_word_distance (negsuc n) tens = refl
