-- The items of a list with gaps, and their slots.
use Rattle.std.proofs.Common.{◌≡◌, ◌<◌, ◌≤◌, ◌+◌, ◌++◌, ◌∷◌, [], ℕ, zero, suc, List, Bool, true, false, cond, length}
use Rattle.std.proofs.Common.{nat_lt, slice_get, refl, sym, ap, ◌∙◌, arith, add-one}
use Rattle.std.proofs.lemmas.Bool.Decides.{nat_tests}
use Rattle.std.proofs.lemmas.List.Edits.{length-remove}
use Rattle.std.specs.List.{remove}
use Rattle.gap_list.specs.Gaps.{AreGaps, items_without_gaps, place_without_gaps, slot_at, with_gap, without_gap}

module _ {A : Type 0} where
  -- nothing is removed from the empty list
  remove-nil : (gap : ℕ) → remove {X = A} [] gap ≡ []
  remove-nil zero = refl
  remove-nil (suc gap) = refl

  -- an item before the removed one keeps its place
  pub before_removed : (xs : List A) (gap place : ℕ) → place < gap
      → slice_get (remove xs gap) place ≡ slice_get xs place
  before_removed [] zero place h = refl
  before_removed [] (suc gap) place h = refl
  before_removed (x ∷ xs) zero place h = absurd (omega (arith, h))
  before_removed (x ∷ xs) (suc gap) zero h = refl
  before_removed (x ∷ xs) (suc gap) (suc place) h = before_removed xs gap place (omega (arith, h))

  -- an item after the removed one was at the next place
  pub after_removed : (xs : List A) (gap place : ℕ) → gap ≤ place
      → slice_get (remove xs gap) place ≡ slice_get xs (suc place)
  after_removed [] zero place h = refl
  after_removed [] (suc gap) place h = refl
  after_removed (x ∷ xs) zero place h = refl
  after_removed (x ∷ xs) (suc gap) zero h = absurd (omega (arith, h))
  after_removed (x ∷ xs) (suc gap) (suc place) h = after_removed xs gap place (omega (arith, h))

  -- the item at a place after another item is removed
  get-remove : (xs : List A) (gap place : ℕ)
      → slice_get (remove xs gap) place ≡ slice_get xs (cond (nat_lt place gap) place (place + 1))
  get-remove xs gap place = by (nat_lt place gap) refl
    where
      by : (b : Bool) → nat_lt place gap ≡ b
          → slice_get (remove xs gap) place ≡ slice_get xs (cond b place (place + 1))
      by true e =
          let less : place < gap = grind (arith, nat_tests, e) in
          before_removed xs gap place less
      by false e =
          let more : gap ≤ place = grind (arith, nat_tests, e) in
          after_removed xs gap place more ∙ ap (slice_get xs) (sym (add-one place))

  -- an item is found in its slot
  pub item_in_slot : (gaps : List ℕ) (slots : List A) (place : ℕ)
      → slice_get (items_without_gaps gaps slots) place ≡ slice_get slots (slot_at gaps place)
  item_in_slot [] slots place = refl
  item_in_slot (gap ∷ gaps) slots place =
      get-remove (items_without_gaps gaps slots) gap place
      ∙ item_in_slot gaps slots (cond (nat_lt place gap) place (place + 1))

  -- two items may be removed in either order
  remove-remove : (xs : List A) (gap place : ℕ) → gap ≤ place
      → remove (remove xs (suc place)) gap ≡ remove (remove xs gap) place
  remove-remove [] gap place h =
      remove-nil gap ∙ sym (ap (λ (l : List A). remove l place) (remove-nil gap) ∙ remove-nil place)
  remove-remove (x ∷ xs) zero place h = refl
  remove-remove (x ∷ xs) (suc gap) zero h = absurd (omega (arith, h))
  remove-remove (x ∷ xs) (suc gap) (suc place) h =
      ap {B = List A} (λ l. x ∷ l) (remove-remove xs gap place (omega (arith, h)))

  -- one more gap removes one item
  pub item_removed : (gaps : List ℕ) (slots : List A) (place : ℕ)
      → items_without_gaps (with_gap place gaps) slots ≡ remove (items_without_gaps gaps slots) place
  item_removed [] slots place = refl
  item_removed (gap ∷ gaps) slots place = by (item_removed gaps slots (place + 1)) (nat_lt place gap) refl
    where
      by : items_without_gaps (with_gap (place + 1) gaps) slots ≡ remove (items_without_gaps gaps slots) (place + 1)
          → (b : Bool)
          → nat_lt place gap ≡ b
          → items_without_gaps (cond b (place ∷ gap ∷ gaps) (gap ∷ with_gap (place + 1) gaps)) slots
          ≡ remove (remove (items_without_gaps gaps slots) gap) place
      by rest true e = refl
      by rest false e =
          let more : gap ≤ place = grind (arith, nat_tests, e) in
          ap (λ (l : List A). remove l gap) rest
          ∙ ap (λ n. remove (remove (items_without_gaps gaps slots) n) gap) (add-one place)
          ∙ remove-remove (items_without_gaps gaps slots) gap place more

-- the slot of the item at a place leads back to the place
pub place_of_slot : (gaps : List ℕ) (place : ℕ) → place_without_gaps gaps (slot_at gaps place) ≡ place
place_of_slot [] place = refl
place_of_slot (gap ∷ gaps) place =
    ap (without_gap gap) (place_of_slot gaps (cond (nat_lt place gap) place (place + 1))) ∙ back
  where
    back : without_gap gap (cond (nat_lt place gap) place (place + 1)) ≡ place
    back = grind (arith, nat_tests)

-- one more gap moves the places after it
pub place_moved_by_gap : (gaps : List ℕ) (place slot : ℕ)
    → place_without_gaps (with_gap place gaps) slot ≡ without_gap place (place_without_gaps gaps slot)
place_moved_by_gap [] place slot = refl
place_moved_by_gap (gap ∷ gaps) place slot = by (place_moved_by_gap gaps (place + 1) slot) (nat_lt place gap) refl
  where
    swap : (y : ℕ) → gap ≤ place → without_gap gap (without_gap (place + 1) y) ≡ without_gap place (without_gap gap y)
    swap y h = grind (arith, nat_tests, h)

    by : place_without_gaps (with_gap (place + 1) gaps) slot ≡ without_gap (place + 1) (place_without_gaps gaps slot)
        → (b : Bool) → nat_lt place gap ≡ b
        → place_without_gaps (cond b (place ∷ gap ∷ gaps) (gap ∷ with_gap (place + 1) gaps)) slot
        ≡ without_gap place (without_gap gap (place_without_gaps gaps slot))
    by rest true e = refl
    by rest false e =
        let more : gap ≤ place = grind (arith, nat_tests, e) in
        ap (without_gap gap) rest ∙ swap (place_without_gaps gaps slot) more

-- there are at most as many gaps as slots
pub gap_count : (low high : ℕ) (gaps : List ℕ) → AreGaps low high gaps → low + length gaps ≤ high
gap_count low high [] h = omega (arith, h)
gap_count low high (gap ∷ gaps) h =
    let rest : gap + 1 + length gaps ≤ high = gap_count (gap + 1) high gaps h.1 in
    omega (arith, h.0, rest)

-- the number of items and gaps is that of the slots
pub length-items_without_gaps : {A : Type 0} → (low : ℕ) (gaps : List ℕ) (slots : List A)
    → AreGaps low (length slots) gaps
    → length (items_without_gaps gaps slots) + length gaps ≡ length slots
length-items_without_gaps low [] slots h = omega arith
length-items_without_gaps low (gap ∷ gaps) slots h =
    let rest : length (items_without_gaps gaps slots) + length gaps ≡ length slots =
    length-items_without_gaps (gap + 1) gaps slots h.1 in
    let bound : gap + 1 + length gaps ≤ length slots = gap_count (gap + 1) (length slots) gaps h.1 in
    let inside : gap < length (items_without_gaps gaps slots) = omega (arith, rest, bound) in
    let less : length (remove (items_without_gaps gaps slots) gap) + 1 ≡ length (items_without_gaps gaps slots) =
    length-remove (items_without_gaps gaps slots) gap inside in
    omega (arith, rest, less)

-- the gaps are within a longer vector too
pub gaps_in_more : (low high more : ℕ) (gaps : List ℕ) → high ≤ more → AreGaps low high gaps → AreGaps low more gaps
gaps_in_more low high more [] le h = omega (arith, le, h)
gaps_in_more low high more (gap ∷ gaps) le h = (h.0, gaps_in_more (gap + 1) high more gaps le h.1)

-- one more gap is within the vector
pub gaps_with_one : (low high place : ℕ) (gaps : List ℕ) → AreGaps low high gaps → low ≤ place
    → place + length gaps < high → AreGaps low high (with_gap place gaps)
gaps_with_one low high place [] h le lt = (le, omega (arith, lt))
gaps_with_one low high place (gap ∷ gaps) h le lt =
    by (λ more. gaps_with_one (gap + 1) high (place + 1) gaps h.1 more (omega (arith, lt))) (nat_lt place gap) refl
  where
    by : (gap + 1 ≤ place + 1 → AreGaps (gap + 1) high (with_gap (place + 1) gaps)) → (b : Bool)
        → nat_lt place gap ≡ b → AreGaps low high (cond b (place ∷ gap ∷ gaps) (gap ∷ with_gap (place + 1) gaps))
    by rest true e =
        let less : place + 1 ≤ gap = grind (arith, nat_tests, e) in
        (le, (less, h.1))
    by rest false e =
        let more : gap + 1 ≤ place + 1 = grind (arith, nat_tests, e) in
        (h.0, rest more)

module _ {A : Type 0} where
  -- an item is appended after another one is removed
  remove-push : (xs : List A) (gap : ℕ) (x : A) → gap < length xs → remove (xs ++ x ∷ []) gap ≡ remove xs gap ++ x ∷ []
  remove-push [] gap x h = absurd (omega (arith, h))
  remove-push (y ∷ xs) zero x h = refl
  remove-push (y ∷ xs) (suc gap) x h = ap {B = List A} (λ l. y ∷ l) (remove-push xs gap x (omega (arith, h)))

  -- an item is appended to a list with gaps
  pub items-push : (low : ℕ) (gaps : List ℕ) (slots : List A) (x : A) → AreGaps low (length slots) gaps
      → items_without_gaps gaps (slots ++ x ∷ []) ≡ items_without_gaps gaps slots ++ x ∷ []
  items-push low [] slots x h = refl
  items-push low (gap ∷ gaps) slots x h =
      let rest : length (items_without_gaps gaps slots) + length gaps ≡ length slots =
      length-items_without_gaps (gap + 1) gaps slots h.1 in
      let bound : gap + 1 + length gaps ≤ length slots = gap_count (gap + 1) (length slots) gaps h.1 in
      ap (λ (l : List A). remove l gap) (items-push (gap + 1) gaps slots x h.1)
      ∙ remove-push (items_without_gaps gaps slots) gap x (omega (arith, rest, bound))
