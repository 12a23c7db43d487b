-- Parts of lists of variables.
use Rattle.std.specs.Prelude.{◌≡◌, ◌<◌, ◌-◌, ◌∷◌, [], ℕ, length, take, drop, slice_get}
use Rattle.units_io.specs.NamedValues.{NamedTexts, with_named_text}

-- the pairs from a place up to another
abbrev pub history_pairs_between : (first end : ℕ) → NamedTexts → NamedTexts
history_pairs_between first end pairs = take (end - first) (drop first pairs)

-- pairs with the values of others set, one after another
abbrev pub history_with_pairs : NamedTexts → NamedTexts → NamedTexts
history_with_pairs pairs [] = pairs
history_with_pairs pairs (p ∷ others) = history_with_pairs (with_named_text pairs p.0 p.1) others

-- the pair at one place equals the pair at a place of others
pub record IsSameHistoryPair (pairs : NamedTexts) (i : ℕ) (others : NamedTexts) (j : ℕ) : Type 0 where
  pub here : i < length pairs
  pub index_within : j < length others
  pub pair_same : slice_get pairs i ≡ slice_get others j
