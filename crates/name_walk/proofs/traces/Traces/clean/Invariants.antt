use Rattle.std.proofs.Common.{◌≡◌, length}
use Rattle.name_walk.specs.Traces.{AreWalkNamesEntered}
use Rattle.name_walk.proofs.traces.Traces.clean.Given as goal

abbrev pub invariant-loop-name : goal.invariant-loop-name
invariant-loop-name l = record {
  entered : AreWalkNamesEntered l.self-inside.marks.items l.self-inside.entered.items;
  size : length l.self-inside.marks.items ≡ length l.fn.self.marks;
  order : l.self-inside.order.items ≡ l.fn.self.order;
}

abbrev pub decreases-loop-name : goal.decreases-loop-name
decreases-loop-name l = length l.self-inside.entered.items
