-- Moving the items of a list with gaps to the front.
use Rattle.std.proofs.Common.{◌≡◌, ◌<◌, ◌≤◌, ◌+◌, ◌∷◌, [], ℕ, suc, List, Bool, true, false, cond, length}
use Rattle.std.proofs.Common.{nat_lt, get_or, take, refl, sym, ap, ◌∙◌, arith}
use Rattle.std.proofs.lemmas.Bool.Decides.{nat_tests}
use Rattle.std.proofs.lemmas.List.{get_or-take, length-take}
use Rattle.std.proofs.lemmas.Option.{unwrap_or-slice_get}
use Rattle.std.specs.List.{SwappedAt}
use Rattle.std.specs.Option.{unwrap_or}
use Rattle.gap_list.specs.Fillings.{AreSlotItemsMoved, AreSlotsFilled}
use Rattle.gap_list.specs.Gaps.{AreGaps, AreGapsIncreasing, items_without_gaps, slot_at}
use Rattle.gap_list.proofs.SlotItems.{item_in_slot, length-items_without_gaps}

-- the slot of an item is its place and at most the number of gaps
pub slot_most : (gaps : List ℕ) (place : ℕ) → slot_at gaps place ≤ place + length gaps
slot_most [] place = omega arith
slot_most (gap ∷ gaps) place = by (slot_most gaps place) (slot_most gaps (place + 1)) (nat_lt place gap)
  where
    by : slot_at gaps place ≤ place + length gaps → slot_at gaps (place + 1) ≤ place + 1 + length gaps → (b : Bool)
        → slot_at gaps (cond b place (place + 1)) ≤ place + length (gap ∷ gaps)
    by same next true = omega (arith, same)
    by same next false = omega (arith, next)

-- the slot of an item is at least its place
pub slot_least : (gaps : List ℕ) (place : ℕ) → place ≤ slot_at gaps place
slot_least [] place = omega arith
slot_least (gap ∷ gaps) place = by (slot_least gaps place) (slot_least gaps (place + 1)) (nat_lt place gap)
  where
    by : place ≤ slot_at gaps place → place + 1 ≤ slot_at gaps (place + 1) → (b : Bool)
        → place ≤ slot_at gaps (cond b place (place + 1))
    by same next true = same
    by same next false = omega (arith, next)

-- a later item is in a later slot
pub slots_increase : (gaps : List ℕ) (place other : ℕ) → place < other → slot_at gaps place < slot_at gaps other
slots_increase [] place other h = h
slots_increase (gap ∷ gaps) place other h =
    slots_increase gaps (cond (nat_lt place gap) place (place + 1)) (cond (nat_lt other gap) other (other + 1)) less
  where
    less : cond (nat_lt place gap) place (place + 1) < cond (nat_lt other gap) other (other + 1)
    less = grind (arith, nat_tests, h)

-- gaps within a vector increase
pub gaps_increase : (low high : ℕ) (gaps : List ℕ) → AreGaps low high gaps → AreGapsIncreasing low gaps
gaps_increase low high [] h = tt
gaps_increase low high (gap ∷ gaps) h = (h.0, gaps_increase (gap + 1) high gaps h.1)

module _ {A : Type 0} where
  -- the item at a place, by its slot
  item_by_slot : (gaps : List ℕ) (slots : List A) (k : ℕ) (d : A)
      → get_or slots (slot_at gaps k) d ≡ get_or (items_without_gaps gaps slots) k d
  item_by_slot gaps slots k d =
      sym (unwrap_or-slice_get slots (slot_at gaps k) d)
      ∙ ap (λ o. unwrap_or o d) (sym (item_in_slot gaps slots k))
      ∙ unwrap_or-slice_get (items_without_gaps gaps slots) k d

  -- before any item is moved, each is in its slot
  pub fill_start : (gaps : List ℕ) (slots : List A) → AreSlotsFilled gaps (items_without_gaps gaps slots) slots 0
  fill_start gaps slots = record {
    filled = λ k d less. absurd (omega (arith, less));
    others = λ k d from within. item_by_slot gaps slots k d;
  }

  -- one item is moved
  pub fill_one : (gaps : List ℕ) (old new : List A) (place slot : ℕ) → slot ≡ slot_at gaps place
      → SwappedAt old new place slot → AreSlotItemsMoved gaps place (place + 1) old new
  fill_one gaps old new place slot e swapped items inside before = record {
    filled = λ k d less. by k d less (nat_lt k place) refl;
    others = λ k d from within.
        let later : slot_at gaps place < slot_at gaps k = slots_increase gaps place k (omega (arith, from)) in
        let least : place ≤ slot_at gaps place = slot_least gaps place in
        swapped.2 (slot_at gaps k) d (λ h. omega (arith, later, least, h)) (λ h. omega (arith, later, e, h))
        ∙ before.others k d (omega (arith, from)) within;
  }
    where
      by : (k : ℕ) (d : A) → k < place + 1 → (b : Bool) → nat_lt k place ≡ b → get_or new k d ≡ get_or items k d
      by k d less true f =
          let early : k < place = grind (arith, nat_tests, f) in
          let least : place ≤ slot_at gaps place = slot_least gaps place in
          swapped.2 k d (λ h. omega (arith, early, h)) (λ h. omega (arith, early, least, e, h))
          ∙ before.filled k d early
      by k d less false f =
          let same : k ≡ place = grind (arith, nat_tests, f, less) in
          ap (λ i. get_or new i d) same ∙ swapped.0 d ∙ ap (λ i. get_or old i d) e
          ∙ before.others place d (omega arith) (omega (arith, inside)) ∙ ap (λ i. get_or items i d) (sym same)

  -- lists of one length with the same items are equal
  alike : (xs ys : List A) → length xs ≡ length ys
      → ((k : ℕ) (d : A) → k < length xs → get_or xs k d ≡ get_or ys k d) → xs ≡ ys
  alike [] [] e h = refl
  alike [] (y ∷ ys) e h = absurd (omega (arith, e))
  alike (x ∷ xs) [] e h = absurd (omega (arith, e))
  alike (x ∷ xs) (y ∷ ys) e h =
      let first : x ≡ y = h 0 x (omega arith) in
      let rest : xs ≡ ys = alike xs ys (omega (arith, e)) (λ k d less. h (suc k) d (omega (arith, less))) in
      λ i. first i ∷ rest i

  -- when all items are moved, the first slots have the items
  pub fill_end : (gaps : List ℕ) (items slots : List A) (count : ℕ) → AreSlotsFilled gaps items slots count
      → length items ≡ count → count ≤ length slots → take count slots ≡ items
  fill_end gaps items slots count filled e le =
      let len : length (take count slots) ≡ count = length-take count slots ∙ omega (arith, le) in
      alike (take count slots) items (len ∙ sym e)
      (λ k d less. get_or-take count slots k d (omega (arith, less, len))
      ∙ filled.filled k d (omega (arith, less, len)))

  -- when all items are moved, the first slots have all of them
  pub filled_all : (gaps : List ℕ) (old new : List A) (len : ℕ) → AreGaps 0 (length old) gaps
      → AreSlotItemsMoved gaps 0 len old new → len + length gaps ≡ length old → length new ≡ length old
      → take len new ≡ items_without_gaps gaps old
  filled_all gaps old new len h moved count same =
      let long : length (items_without_gaps gaps old) + length gaps ≡ length old =
      length-items_without_gaps 0 gaps old h in
      fill_end gaps (items_without_gaps gaps old) new len
      (moved (items_without_gaps gaps old) (omega (arith, count, long)) (fill_start gaps old))
      (omega (arith, count, long)) (omega (arith, count, same))
