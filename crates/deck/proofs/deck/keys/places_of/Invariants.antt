use Rattle.std.proofs.Common.{◌≡◌, ◌++◌, drop, map}
use Rattle.deck.proofs.deck.keys.places_of.Given as goal

abbrev pub invariant-loop-key : goal.invariant-loop-key
invariant-loop-key l = l.places.items ++ map (λ k. k.place) (drop l.key-index l.placed) ≡ map (λ k. k.place) l.placed
