use Rattle.std.proofs.Common.{◌-◌, ◌≡◌, ◌≤◌, ◌+◌, ◌*◌, length}
use Rattle.session.specs.TrialLines as spec
use Rattle.session.proofs.trial_lines.definitions.Given as goal

abbrev pub invariant-loop-i : goal.invariant-loop-i
invariant-loop-i l = record {
  within : l.i ≤ l.last;
  text : l.text.items ≡ spec.trial_definitions l.i;
  short : length l.text.items ≤ 6 + 22 * l.i;
}

abbrev pub decreases-loop-i : goal.decreases-loop-i
decreases-loop-i l = l.last - l.i
