-- The longest numeral that is a prefix of some bytes.
use Rattle.std.proofs.Common.{◌≡◌, ◌<◌, ◌≤◌, ℕ, zero, suc, Bool, true, false, if◌then◌else◌, List, length, take, refl}
use Rattle.std.proofs.Common.{arith}
use Rattle.frac128.specs.Numerals.{greatest_whole_passing, is_numeral, longest_numeral_len}

-- the greatest number up to `n` that passes a test is at most `n`
greatest_whole-le : (test : ℕ → Bool) (n : ℕ) → greatest_whole_passing test n ≤ n
unfolding greatest_whole_passing
greatest_whole-le test zero = omega arith
greatest_whole-le test (suc n) =
    elim (test (suc n)) as (λ b. (if b then suc n else greatest_whole_passing test n) ≤ suc n) [
      | true ↦ omega arith
      | false ↦ omega (arith, greatest_whole-le test n)
    ]

-- if the greatest number is above 0, it passes the test
greatest_whole-passes : (test : ℕ → Bool) (n : ℕ) → 0 < greatest_whole_passing test n
    → test (greatest_whole_passing test n) ≡ true
unfolding greatest_whole_passing
greatest_whole-passes test zero h = absurd (omega arith)
greatest_whole-passes test (suc n) h = go (greatest_whole-passes test n) (test (suc n)) refl h
  where
    go : (0 < greatest_whole_passing test n → test (greatest_whole_passing test n) ≡ true) → (b : Bool)
        → test (suc n) ≡ b
        → 0 < (if b then suc n else greatest_whole_passing test n)
        → test (if b then suc n else greatest_whole_passing test n) ≡ true
    go below true e some = e
    go below false e some = below some

-- the longest numeral at the front is at most as long as the bytes
pub longest_numeral-within : (bytes : List ℕ) → longest_numeral_len bytes ≤ length bytes
longest_numeral-within bytes = greatest_whole-le (λ n. is_numeral (take n bytes)) (length bytes)

-- if the length of the longest numeral is above 0, so many bytes are a numeral
pub longest-numeral : (bytes : List ℕ) → 0 < longest_numeral_len bytes
    → is_numeral (take (longest_numeral_len bytes) bytes) ≡ true
longest-numeral bytes some = greatest_whole-passes (λ n. is_numeral (take n bytes)) (length bytes) some
