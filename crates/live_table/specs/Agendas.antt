-- Numbers that are still to be processed.
use Rattle.std.specs.Prelude.{◌≡◌, ◌↔◌, ◌+◌, ℕ, List, Some, nat_eq, slice_get}
use Rattle.std.specs.List.{IsDistinct}

-- the numbers are distinct, and the table of places holds the place plus 1 of each of them and of no other
pub record AreAgendaPlaces (places numbers : List ℕ) : Type 0 where
  pub places_match : (n i : ℕ) → (slice_get places n ≡ Some (i + 1)) ↔ (slice_get numbers i ≡ Some n)
  pub numbers_distinct : IsDistinct nat_eq numbers

-- both hold the same places
abbrev pub AreSameAgendaPlaces : List ℕ → List ℕ → Type 0
AreSameAgendaPlaces old new = (n i : ℕ) → (slice_get new n ≡ Some (i + 1)) ↔ (slice_get old n ≡ Some (i + 1))
