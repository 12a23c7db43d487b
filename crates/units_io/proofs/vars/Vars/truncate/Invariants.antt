use Rattle.std.proofs.Common.{◌≡◌, length, take}
use Rattle.units_io.proofs.vars.Vars.truncate.Given as goal

abbrev pub invariant-loop-self : goal.invariant-loop-self
invariant-loop-self l = record {
  front : take l.len l.self ≡ take l.len l.fn.self;
}

abbrev pub decreases-loop-self : goal.decreases-loop-self
decreases-loop-self l = length l.self
