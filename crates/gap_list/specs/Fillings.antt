-- The state while gaps are filled.
use Rattle.std.specs.Prelude.{◌≡◌, ◌≤◌, ◌<◌, ℕ, List, length, slice_index_or}
use Rattle.gap_list.specs.Gaps.{slot_at}

-- the first `count` items are in the first slots, and the others are in their own slots still
pub record AreSlotsFilled {A : Type 0} (gaps : List ℕ) (items slots : List A) (count : ℕ) : Type 0 where
  pub filled : (k : ℕ) (d : A) → k < count → slice_index_or slots k d ≡ slice_index_or items k d
  pub others : (k : ℕ) (d : A) → count ≤ k → k < length items
      → slice_index_or slots (slot_at gaps k) d ≡ slice_index_or items k d

-- the items at the places between `from` and `to` are moved
abbrev pub AreSlotItemsMoved : {A : Type 0} → (gaps : List ℕ) (from to : ℕ) (old new : List A) → Type 0
AreSlotItemsMoved {A} gaps from to old new =
    (items : List A) → to ≤ length items → AreSlotsFilled gaps items old from → AreSlotsFilled gaps items new to
