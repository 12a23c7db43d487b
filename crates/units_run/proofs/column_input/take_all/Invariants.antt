use Rattle.std.proofs.Common.{◌≡◌, ◌++◌, ◌≤◌, ◌<◌, ◌-◌, List, ℕ, Some, length}
use Rattle.session.specs.BetweenPieces.{SessionTookAtLeast}
use Rattle.units_run.proofs.column_input.take_all.Given as goal

abbrev pub invariant-loop-src : goal.invariant-loop-src
invariant-loop-src g l = record {
  room : (0 < length l.block) × (length l.block ≤ 65536);
  earlier : g.S.Source.faults l.initial.src ≤ g.S.Source.faults l.src;
  counted : SessionTookAtLeast (length l.text.items) (g.S.Source.taken l.initial.src) (g.S.Source.taken l.src);
  stands : (input : List ℕ) → g.S.Source.left l.initial.src ≡ Some input →
      (rest : List ℕ) × (input ≡ l.text.items ++ rest) × (g.S.Source.left l.src ≡ Some rest);
}

abbrev pub decreases-loop-src : goal.decreases-loop-src
decreases-loop-src g l = 16777217 - length l.text.items
