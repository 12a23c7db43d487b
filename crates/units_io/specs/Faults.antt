-- A count of failures never decreases, and it has increased if a call reports a failure.
use Rattle.std.specs.Prelude.{◌≤◌, ◌+◌, ◌-◌, ◌^◌, ℕ, min, Result, OnErr}

-- the count plus one, up to the maximum of the type
abbrev pub next_io_count : ℕ → ℕ
next_io_count n = min (n + 1) (2 ^ 64 - 1)

-- the count is higher than before, or at the maximum of its type
abbrev pub HasIoCountRisen : ℕ → ℕ → Type 0
HasIoCountRisen before now = next_io_count before ≤ now

-- the count has not decreased, and it increased if the call failed
pub record HasIoFailureCause {T E : Type 0} (before now : ℕ) (result : Result T E) : Type 0 where
  pub count_grows : before ≤ now
  pub failure_counted : OnErr result (HasIoCountRisen before now)
