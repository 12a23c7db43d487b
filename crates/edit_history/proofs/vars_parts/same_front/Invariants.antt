use Rattle.std.proofs.Common.{◌≡◌, ◌≤◌, length, take}
use Rattle.edit_history.proofs.vars_parts.same_front.Given as goal

abbrev pub invariant-loop-i : goal.invariant-loop-i
invariant-loop-i l = record {
  same : take l.i l.vars ≡ take l.i l.others;
  inside : l.i ≤ length l.others;
}
