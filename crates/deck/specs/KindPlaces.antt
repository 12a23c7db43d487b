-- The places of the keys of one kind, indexed by the numbers of the keys.
use Rattle.std.specs.Prelude.{◌≡◌, ◌+◌, ℕ, List, [], ◌∷◌, Option, Some, None, slice_get}
use Rattle.std.specs.Option.{option_and_then}

-- the place of the key with a number, if it has one
abbrev pub definition_place_in : List (Option ℕ) → ℕ → Option ℕ
definition_place_in places number = option_and_then (λ place. place) (slice_get places number)

-- the number of keys that have a place
abbrev pub definition_place_count : List (Option ℕ) → ℕ
definition_place_count [] = 0
definition_place_count (None ∷ places) = definition_place_count places
definition_place_count (Some place ∷ places) = definition_place_count places + 1

-- both lists have the same places; their lengths may differ
pub record HasSameDefinitionPlaces (old new : List (Option ℕ)) : Type 0 where
  pub place : (number : ℕ) → definition_place_in new number ≡ definition_place_in old number
  pub count : definition_place_count new ≡ definition_place_count old
