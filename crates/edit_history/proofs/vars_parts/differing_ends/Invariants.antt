use Rattle.std.proofs.Common.{◌≡◌, ◌≤◌, drop}
use Rattle.edit_history.proofs.vars_parts.differing_ends.Given as goal

abbrev pub invariant-loop-in_vars : goal.invariant-loop-in_vars
invariant-loop-in_vars l = record {
  same : drop l.in_vars l.vars ≡ drop l.in_others l.others;
  after_front : l.front ≤ l.in_others;
}

abbrev pub decreases-loop-in_vars : goal.decreases-loop-in_vars
decreases-loop-in_vars l = l.in_vars
