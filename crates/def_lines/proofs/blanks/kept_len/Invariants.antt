use Rattle.std.proofs.Common.{◌≡◌, ◌≤◌, length, take}
use Rattle.def_lines.specs.Blanks.{before_blanks}
use Rattle.def_lines.proofs.blanks.kept_len.Given as goal

abbrev pub invariant-loop-len : goal.invariant-loop-len
invariant-loop-len l = record {
  within : l.len ≤ length l.text;
  same : before_blanks (take l.len l.text) ≡ before_blanks l.text;
}

abbrev pub decreases-loop-len : goal.decreases-loop-len
decreases-loop-len l = l.len
