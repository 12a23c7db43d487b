-- Where the search for the slot of an item ends.
use Rattle.std.specs.Prelude.{◌≤◌, ◌+◌, ℕ, zero, suc, List, [], ◌∷◌, ⊤}

-- the first `count` gaps are before the item at a place
abbrev pub AreGapsBefore : (place count : ℕ) (gaps : List ℕ) → Type 0
AreGapsBefore place zero gaps = ⊤
AreGapsBefore place (suc count) [] = ⊥
AreGapsBefore place (suc count) (gap ∷ gaps) = (gap ≤ place) × AreGapsBefore (place + 1) count gaps
