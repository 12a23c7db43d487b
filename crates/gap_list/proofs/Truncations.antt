-- The first items of a list with gaps.
use Rattle.std.proofs.Common.{◌≡◌, ◌<◌, ◌≤◌, ◌+◌, ◌∷◌, [], ℕ, zero, suc, List, Bool, true, false, cond, length}
use Rattle.std.proofs.Common.{nat_lt, take, refl, sym, ap, subst, ◌∙◌, arith, add-one, length-take}
use Rattle.std.proofs.lemmas.Bool.Decides.{nat_tests}
use Rattle.std.specs.List.{remove}
use Rattle.gap_list.specs.Gaps.{AreGaps, AreGapsIncreasing, gaps_before, items_without_gaps, slot_at}
use Rattle.gap_list.proofs.FilledGaps.{gaps_increase, slot_least, slot_most}
use Rattle.gap_list.proofs.GapSearch.{slot_before_all}
use Rattle.gap_list.proofs.SlotItems.{length-items_without_gaps}

module _ {A : Type 0} where
  -- items up to the removed one
  take-remove-later : (xs : List A) (gap len : ℕ) → len ≤ gap → take len (remove xs gap) ≡ take len xs
  take-remove-later xs gap zero h = refl
  take-remove-later [] zero (suc len) h = refl
  take-remove-later [] (suc gap) (suc len) h = refl
  take-remove-later (x ∷ xs) zero (suc len) h = absurd (omega (arith, h))
  take-remove-later (x ∷ xs) (suc gap) (suc len) h =
      ap {B = List A} (λ l. x ∷ l) (take-remove-later xs gap len (omega (arith, h)))

  -- one more item is taken if one of them is removed
  take-remove : (xs : List A) (gap len : ℕ) → gap ≤ len → remove (take (suc len) xs) gap ≡ take len (remove xs gap)
  take-remove [] zero zero h = refl
  take-remove [] zero (suc len) h = refl
  take-remove [] (suc gap) zero h = refl
  take-remove [] (suc gap) (suc len) h = refl
  take-remove (x ∷ xs) zero len h = refl
  take-remove (x ∷ xs) (suc gap) zero h = absurd (omega (arith, h))
  take-remove (x ∷ xs) (suc gap) (suc len) h =
      ap {B = List A} (λ l. x ∷ l) (take-remove xs gap len (omega (arith, h)))

  -- the items before all gaps are in the first slots
  take_before_gaps : (low len : ℕ) (gaps : List ℕ) (slots : List A) → AreGapsIncreasing low gaps → len ≤ low
      → take len (items_without_gaps gaps slots) ≡ take len slots
  take_before_gaps low len [] slots h le = refl
  take_before_gaps low len (gap ∷ gaps) slots h le =
      take-remove-later (items_without_gaps gaps slots) gap len (omega (arith, h.0, le))
      ∙ take_before_gaps (gap + 1) len gaps slots h.1 (omega (arith, h.0, le))

  -- the first items are those of the slots before the next one, without the gaps before it
  pub items-take : (low len : ℕ) (gaps : List ℕ) (slots : List A) → AreGapsIncreasing low gaps
      → items_without_gaps (gaps_before len gaps) (take (slot_at gaps len) slots) ≡ take len
      (items_without_gaps gaps slots)
  items-take low len [] slots h = refl
  items-take low len (gap ∷ gaps) slots h =
      by (items-take (gap + 1) (len + 1) gaps slots h.1) (nat_lt len gap) refl
    where
      items : List A
      items = items_without_gaps gaps slots

      by : items_without_gaps (gaps_before (len + 1) gaps) (take (slot_at gaps (len + 1)) slots) ≡ take (len + 1) items
          → (b : Bool) → nat_lt len gap ≡ b
          → items_without_gaps (cond b [] (gap ∷ gaps_before (len + 1) gaps))
          (take (slot_at gaps (cond b len (len + 1))) slots)
          ≡ take len (remove items gap)
      by rest true e =
          let less : len < gap = grind (arith, nat_tests, e) in
          ap (λ n. take n slots) (slot_before_all (gap + 1) len gaps h.1 (omega (arith, less)))
          ∙ sym (take_before_gaps (gap + 1) len gaps slots h.1 (omega (arith, less)))
          ∙ sym (take-remove-later items gap len (omega (arith, less)))
      by rest false e =
          let more : gap ≤ len = grind (arith, nat_tests, e) in
          ap (λ (l : List A). remove l gap) (rest ∙ ap (λ n. take n items) (add-one len))
          ∙ take-remove items gap len more

-- the gaps before an item are within the slots before it
pub gaps-take : (low high len : ℕ) (gaps : List ℕ) → AreGaps low high gaps → low ≤ len
    → AreGaps low (slot_at gaps len) (gaps_before len gaps)
gaps-take low high len [] h le = le
gaps-take low high len (gap ∷ gaps) h le =
    by (λ more. gaps-take (gap + 1) high (len + 1) gaps h.1 more) (slot_least gaps len) (nat_lt len gap) refl
  where
    by : (gap + 1 ≤ len + 1 → AreGaps (gap + 1) (slot_at gaps (len + 1)) (gaps_before (len + 1) gaps))
        → len ≤ slot_at gaps len → (b : Bool) → nat_lt len gap ≡ b
        → AreGaps low (slot_at gaps (cond b len (len + 1))) (cond b [] (gap ∷ gaps_before (len + 1) gaps))
    by rest least true e = omega (arith, le, least)
    by rest least false e =
        let more : gap + 1 ≤ len + 1 = grind (arith, nat_tests, e) in
        (h.0, rest more)

-- the gaps are within the slots that are left, and the items are the first ones
module _ {A : Type 0} (gaps : List ℕ) (slots : List A) (len slot : ℕ) (left : List ℕ) (rest : List A)
    (within : AreGaps 0 (length slots) gaps) (less : len < length (items_without_gaps gaps slots))
    (is : slot ≡ slot_at gaps len) (gaps_left : left ≡ gaps_before len gaps) (slots_left : rest ≡ take slot slots) where
  pub gaps_truncated : AreGaps 0 (length rest) left
  gaps_truncated =
      let most : slot_at gaps len ≤ len + length gaps = slot_most gaps len in
      let count : length (items_without_gaps gaps slots) + length gaps ≡ length slots =
      length-items_without_gaps 0 gaps slots within in
      let long : length rest ≡ slot_at gaps len =
      ap length slots_left ∙ length-take slot slots ∙ omega (arith, most, count, less, is) in
      subst (λ n. AreGaps 0 n left) (sym long)
      (subst (AreGaps 0 (slot_at gaps len)) (sym gaps_left)
      (gaps-take 0 (length slots) len gaps within (omega arith)))

  pub items_truncated : items_without_gaps left rest ≡ take len (items_without_gaps gaps slots)
  items_truncated =
      ap (λ g. items_without_gaps g rest) gaps_left
      ∙ ap (items_without_gaps (gaps_before len gaps)) (slots_left ∙ ap (λ n. take n slots) is)
      ∙ items-take 0 len gaps slots (gaps_increase 0 (length slots) gaps within)
