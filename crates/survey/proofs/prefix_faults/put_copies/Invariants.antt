use Rattle.std.proofs.Common.{◌≡◌, ◌++◌, drop}
use Rattle.survey.proofs.prefix_faults.put_copies.Given as goal

-- the keys and copies of those left are all the keys
abbrev pub invariant-loop-key : goal.invariant-loop-key
invariant-loop-key l = l.keys ++ drop l.key-index l.further ≡ l.initial.keys ++ l.further
