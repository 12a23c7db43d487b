use Rattle.std.proofs.Common.{◌≡◌, ◌-◌, length, take}
use Rattle.units_io.proofs.vars.Vars.copy.Given as goal

abbrev pub invariant-loop-name : goal.invariant-loop-name
invariant-loop-name l = record {
  front : l.copy ≡ take (length l.copy) l.fn.self;
}

abbrev pub decreases-loop-name : goal.decreases-loop-name
decreases-loop-name l = length l.fn.self - length l.copy
