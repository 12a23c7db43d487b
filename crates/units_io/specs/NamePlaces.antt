-- Names, each with its place in a list of pairs of a name and a value.
use Rattle.std.specs.Prelude.{◌≡◌, ◌↔◌, ℕ, List, map, Option, Some, Vec, slice_get}
use Rattle.std.specs.HashMap.{HashMap, get_by}
use Rattle.std.specs.Str.{bytes_eq}
use Rattle.units_io.specs.NamedValues.{NamedTexts}

-- the names of the pairs
abbrev pub pair_names : NamedTexts → List (List ℕ)
pair_names pairs = map (λ pair. pair.0) pairs

-- each name of a pair has its place, and no other name has a place
abbrev pub AreNamePlaces : (List ℕ → Option ℕ) → NamedTexts → Type 0
AreNamePlaces place_of pairs =
    (name : List ℕ) (n : ℕ) → (place_of name ≡ Some n) ↔ (slice_get (pair_names pairs) n ≡ Some name)

-- the place of a name in a map
abbrev pub name_place : {Y S : Type 0} → HashMap (Vec ℕ Y) ℕ S → List ℕ → Option ℕ
name_place places name = get_by (λ key. bytes_eq name key.items) places
