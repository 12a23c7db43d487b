use Rattle.std.proofs.Common.{◌-◌, ◌≡◌, ◌≤◌}
use Rattle.session.specs.TrialLines as spec
use Rattle.session.proofs.trial_lines.all_rounds.Given as goal

abbrev pub invariant-loop-k : goal.invariant-loop-k
invariant-loop-k l = record {
  some : 1 ≤ l.rounds;
  within : l.k ≤ l.rounds;
  text : l.text.items ≡ spec.trial_rounds_text l.rounds l.k;
}

abbrev pub decreases-loop-k : goal.decreases-loop-k
decreases-loop-k l = l.rounds - l.k
