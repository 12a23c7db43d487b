-- The view of a set of names: each name is at the place of its number.
use Rattle.std.specs.Prelude.{◌≤◌, ℕ, List, [], ◌∷◌, length, ⊤}

-- the names, and the number of names that can be added without an allocation
pub record NumberedKeyNames : Type 0 where
  pub names : List (List ℕ)
  pub spare_names : ℕ

-- no name is longer than `most` bytes
abbrev pub AreKeyNamesUpTo : ℕ → List (List ℕ) → Type 0
AreKeyNamesUpTo most [] = ⊤
AreKeyNamesUpTo most (name ∷ names) = (length name ≤ most) × AreKeyNamesUpTo most names
