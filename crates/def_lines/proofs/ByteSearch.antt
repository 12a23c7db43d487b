-- The index of a byte that a search finds.
use Rattle.std.specs.Option.{unwrap_or}
use Rattle.std.specs.List.{position_or_len}
use Rattle.std.proofs.Common.{◌≡◌, ◌≤◌, ℕ, Bool, true, false, List, Option, Some, None, length, refl, sym, arith}
use Rattle.std.proofs.lemmas.List.Sums.{position_or_len_is}
use Rattle.memchr.specs.Find.{IsFirstByte}

-- a test that does not hold is false
failed_line_byte_test_is_false : (answer : Bool) → ¬ (answer ≡ true) → answer ≡ false
failed_line_byte_test_is_false true h = absurd (h refl)
failed_line_byte_test_is_false false h = refl

-- the search gives the first index, or the length if there is none
pub line_byte_search_is_first : (test : ℕ → Bool) (bytes : List ℕ) (found : Option ℕ) → IsFirstByte test bytes found
    → unwrap_or found (length bytes) ≡ position_or_len test bytes
line_byte_search_is_first test bytes None h =
    sym (position_or_len_is test bytes (length bytes) 0 (omega arith)
    (λ place before. failed_line_byte_test_is_false _ (h place (omega arith) before)) (λ inside. absurd (omega arith)))
line_byte_search_is_first test bytes (Some place) h =
    sym (position_or_len_is test bytes place 0 (omega (arith, h.0.high))
    (λ other before. failed_line_byte_test_is_false _ (h.0.before other (omega arith) before)) (λ inside. h.1))

-- the search gives an index within the bytes, or their length
pub line_byte_search_is_within : (test : ℕ → Bool) (bytes : List ℕ) (found : Option ℕ) → IsFirstByte test bytes found
    → unwrap_or found (length bytes) ≤ length bytes
line_byte_search_is_within test bytes None h = omega arith
line_byte_search_is_within test bytes (Some place) h = omega (arith, h.0.high)
