use Rattle.std.proofs.Common.{◌≡◌, ◌≤◌, take}
use Rattle.deck.proofs.deck.setting_change.all_but_last.Given as goal

abbrev pub invariant-loop-i : goal.invariant-loop-i
invariant-loop-i l = (l.copies ≡ take l.i l.vars) × (l.i ≤ l.count)
