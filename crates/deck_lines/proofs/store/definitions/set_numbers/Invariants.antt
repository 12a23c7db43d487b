use Rattle.std.proofs.Common.{◌≡◌, ◌++◌, drop, take}
use Rattle.deck_lines.specs.StoredDefinitions.{key_numbered_definitions}
use Rattle.deck_lines.proofs.store.definitions.set_numbers.Given as goal

abbrev pub invariant-loop-place : goal.invariant-loop-place
invariant-loop-place l =
    take l.place l.definitions ++ key_numbered_definitions (drop l.place l.numbers) (drop l.place l.definitions)
    ≡ key_numbered_definitions l.numbers l.fn.definitions
