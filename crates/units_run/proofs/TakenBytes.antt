-- Bytes that are read and counted.
use Rattle.std.proofs.Common.{◌≡◌, ◌+◌, ◌++◌, ◌-◌, ◌^◌, ◌≤◌, ℕ, List, min, length, take, length-append}
use Rattle.std.proofs.Common.{length-take, ap, subst, sym, arith}
use Rattle.session.specs.BetweenPieces.{SessionTookAtLeast}
use Rattle.session.proofs.Blocks.{session_took_another_block}

module _ (items buf new : List ℕ) (n : ℕ) (is : new ≡ items ++ take n buf) (within : n ≤ length buf) where
  longer : length new ≡ length items + n
  longer = omega (arith, ap length is, length-append items (take n buf), length-take n buf)

  -- at least as many bytes were counted as were read
  pub took_bytes : (before old now : ℕ) → SessionTookAtLeast (length items) before old
      → now ≡ min (old + n) (2 ^ 64 - 1)
      → SessionTookAtLeast (length new) before now
  took_bytes before old now at count =
      subst (λ (total : ℕ). SessionTookAtLeast total before now) (sym longer)
      (session_took_another_block (length items) n before old now at count)
