use Rattle.std.proofs.Common.{◌≡◌, ◌++◌, drop, map}
use Rattle.deck.specs.PlacedKeys.{placed_deck_key}
use Rattle.deck.proofs.deck.keys.copied_keys.Given as goal

abbrev pub invariant-loop-key : goal.invariant-loop-key
invariant-loop-key l = l.keys ++ map placed_deck_key (drop l.key-index l.placed) ≡ map placed_deck_key l.placed
