use Rattle.std.proofs.Common.{◌≡◌, take}
use Rattle.deck.proofs.deck.snapshot.copied_store.Given as goal

abbrev pub invariant-loop-place : goal.invariant-loop-place
invariant-loop-place l = l.copy.lines ≡ take l.place l.store.lines
