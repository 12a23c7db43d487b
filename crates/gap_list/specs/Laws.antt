-- Laws of lists with gaps, and examples.
use Rattle.std.specs.Prelude.{◌≡◌, ℕ, List, ◌∷◌, [], slice_get}
use Rattle.std.specs.List.{remove}
use Rattle.gap_list.specs.Gaps.{items_without_gaps, place_without_gaps, slot_at, with_gap, without_gap}

-- law: an item is found in its slot, each slot leads back to its place, and one more gap removes one item
pub record GapLaw : Type 0 where
  pub item_in_slot : (gaps slots : List ℕ) (place : ℕ)
      → slice_get (items_without_gaps gaps slots) place ≡ slice_get slots (slot_at gaps place)
  pub place_of_slot : (gaps : List ℕ) (place : ℕ) → place_without_gaps gaps (slot_at gaps place) ≡ place
  pub item_removed : (gaps slots : List ℕ) (place : ℕ)
      → items_without_gaps (with_gap place gaps) slots ≡ remove (items_without_gaps gaps slots) place
  pub place_moved : (gaps : List ℕ) (place slot : ℕ)
      → place_without_gaps (with_gap place gaps) slot ≡ without_gap place (place_without_gaps gaps slot)

-- law: a list of five slots, two of which are gaps
pub record GapExamplesLaw : Type 0 where
  pub items_left : items_without_gaps {A = ℕ} (1 ∷ 3 ∷ []) (10 ∷ 11 ∷ 12 ∷ 13 ∷ 14 ∷ []) ≡ 10 ∷ 12 ∷ 14 ∷ []
  pub slot_of_second : slot_at (1 ∷ 3 ∷ []) 1 ≡ 2
  pub place_of_last : place_without_gaps (1 ∷ 3 ∷ []) 4 ≡ 2
  pub second_removed : with_gap 1 (1 ∷ 3 ∷ []) ≡ 1 ∷ 2 ∷ 3 ∷ []
