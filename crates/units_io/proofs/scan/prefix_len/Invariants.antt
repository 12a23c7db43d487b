use Rattle.std.proofs.Common.{◌≡◌, ◌≤◌, ◌<◌, ◌-◌, ◌+◌, ℕ, Bool, length, drop}
use Rattle.std.specs.List.{prefix_len as prefix_len_of}
use Rattle.units_io.proofs.scan.prefix_len.Given as goal

abbrev pub invariant-loop-len : goal.invariant-loop-len
invariant-loop-len g l = record {
  within : l.len ≤ length l.bytes;
  passed : (passes : ℕ → Bool) → ((b : ℕ) (answer : Bool) → b < 256 → goal.F-post g l.test b answer → answer ≡ passes b)
      → prefix_len_of passes l.bytes ≡ l.len + prefix_len_of passes (drop l.len l.bytes);
}

abbrev pub decreases-loop-len : goal.decreases-loop-len
decreases-loop-len g l = length l.bytes - l.len
