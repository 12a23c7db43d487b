-- The test whether two texts are equal.
use Rattle.std.proofs.Common.{◌≡◌, ℕ, false, List}
use Rattle.std.specs.Str.{bytes_eq}
use Rattle.std.proofs.lemmas.Bool.{false_from_ne_true}
use Rattle.std.proofs.lemmas.Slice.Eq.{bytes_eq-Decides}

-- the test is false for different texts
pub ne_bytes_eq : (text other : List ℕ) → (text ≡ other → ⊥) → bytes_eq text other ≡ false
ne_bytes_eq text other differ =
    false_from_ne_true (bytes_eq text other) (λ e. differ ((bytes_eq-Decides text other).0 e))
