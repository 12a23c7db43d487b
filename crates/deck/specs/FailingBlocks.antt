-- Blocks that do not hold.
use Rattle.std.specs.Prelude.{◌+◌, ℕ, List, [], ◌∷◌, Bool, if◌then◌else◌}

-- the number of blocks that do not hold
abbrev pub failing_enclosing_count : List Bool → ℕ
failing_enclosing_count [] = 0
failing_enclosing_count (holds ∷ blocks) = if holds then failing_enclosing_count blocks else failing_enclosing_count
    blocks + 1
