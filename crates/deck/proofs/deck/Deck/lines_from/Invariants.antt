use Rattle.std.proofs.Common.{◌≡◌, ◌+◌, ◌++◌, drop, take}
use Rattle.deck.proofs.deck.Deck.lines_from.Given as goal

-- the copies, and the lines of the range that are not copied yet
abbrev pub invariant-loop-place : goal.invariant-loop-place
invariant-loop-place l =
    l.copies ++ drop l.place (take (l.at + l.count) l.self.lines) ≡ drop l.at (take (l.at + l.count) l.self.lines)
