-- Lists with gaps. The items of such a list are in the slots of a vector. A gap is a slot whose item was removed from
-- the list, so that no other item had to move. Gaps are listed in increasing order.
use Rattle.std.specs.Prelude.{◌≤◌, ◌+◌, ◌-◌, ℕ, List, [], ◌∷◌, nat_lt, ⊤, if◌then◌else◌}
use Rattle.std.specs.List.{remove}

-- the place of an item after the item at `gap` is removed
abbrev pub without_gap : (gap place : ℕ) → ℕ
without_gap gap place = if nat_lt gap place then place - 1 else place

-- the items of a vector that are not in gaps: the last gap is removed first, so that the others keep their slots
abbrev pub items_without_gaps : {A : Type 0} → (gaps : List ℕ) (slots : List A) → List A
items_without_gaps [] slots = slots
items_without_gaps (gap ∷ gaps) slots = remove (items_without_gaps gaps slots) gap

-- the place of the item in a slot
abbrev pub place_without_gaps : (gaps : List ℕ) (slot : ℕ) → ℕ
place_without_gaps [] slot = slot
place_without_gaps (gap ∷ gaps) slot = without_gap gap (place_without_gaps gaps slot)

-- the slot of the item at a place
abbrev pub slot_at : (gaps : List ℕ) (place : ℕ) → ℕ
slot_at [] place = place
slot_at (gap ∷ gaps) place = slot_at gaps (if nat_lt place gap then place else place + 1)

-- the gaps after the item at a place is removed
abbrev pub with_gap : (place : ℕ) (gaps : List ℕ) → List ℕ
with_gap place [] = place ∷ []
with_gap place (gap ∷ gaps) = if nat_lt place gap then place ∷ gap ∷ gaps else gap ∷ with_gap (place + 1) gaps

-- the gaps of a list from which more items were removed: `more` are gaps of the list without `gaps`
abbrev pub gaps_with_more : (gaps more : List ℕ) → List ℕ
gaps_with_more gaps [] = gaps
gaps_with_more gaps (gap ∷ more) = with_gap gap (gaps_with_more gaps more)

-- the gaps before the item at a place
abbrev pub gaps_before : (place : ℕ) (gaps : List ℕ) → List ℕ
gaps_before place [] = []
gaps_before place (gap ∷ gaps) = if nat_lt place gap then [] else gap ∷ gaps_before (place + 1) gaps

-- the gaps increase, from `low` on
abbrev pub AreGapsIncreasing : (low : ℕ) (gaps : List ℕ) → Type 0
AreGapsIncreasing low [] = ⊤
AreGapsIncreasing low (gap ∷ gaps) = (low ≤ gap) × AreGapsIncreasing (gap + 1) gaps

-- the gaps increase, from `low` on, and are below `high`
abbrev pub AreGaps : (low high : ℕ) (gaps : List ℕ) → Type 0
AreGaps low high [] = low ≤ high
AreGaps low high (gap ∷ gaps) = (low ≤ gap) × AreGaps (gap + 1) high gaps
