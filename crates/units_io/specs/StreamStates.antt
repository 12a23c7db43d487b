-- What contracts see of a reader and of a writer.
use Rattle.std.specs.Prelude.{◌≡◌, ℕ, List, Some, None}
use Rattle.std.specs.Option.{is_some}
use Rattle.std.specs.declared.option.Option.{Option}
use Rattle.std.proofs.Common.{ap, true≢false}

-- the bytes that a reader has left, if they are known, and the counts of the bytes taken and of the failures
pub record ReaderState : Type 0 where
  pub bytes_left : Option (List ℕ)
  pub taken_count : ℕ
  pub faults : ℕ

-- the bytes that a writer took, and the count of its failures
pub record WriterState : Type 0 where
  pub written_bytes : List ℕ
  pub faults : ℕ

-- known bytes are not unknown
pub known_is_not_unknown : (known other : List ℕ) → Some known ≡ None → Some other ≡ None
known_is_not_unknown known other unknown = absurd (true≢false (ap (λ o. is_some o) unknown))
