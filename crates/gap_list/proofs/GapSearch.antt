-- The searches for the gaps before an item and before a slot.
use Rattle.std.proofs.Common.{◌≡◌, ◌<◌, ◌≤◌, ◌+◌, ◌∷◌, [], ℕ, zero, suc, List, Bool, true, false, cond, length}
use Rattle.std.proofs.Common.{nat_lt, get_or, take, drop, refl, sym, ap, ◌∙◌, arith, add-zero}
use Rattle.std.proofs.lemmas.Bool.Decides.{nat_tests}
use Rattle.std.specs.List.{insert}
use Rattle.gap_list.specs.Gaps.{AreGapsIncreasing, gaps_before, place_without_gaps, slot_at, with_gap, without_gap}
use Rattle.gap_list.specs.Searches.{AreGapsBefore}

-- a gap is at least as far from the first one as there are gaps between them
pub gap_least : (low : ℕ) (gaps : List ℕ) (k d : ℕ) → AreGapsIncreasing low gaps → k < length gaps
    → low + k ≤ get_or gaps k d
gap_least low [] k d h lt = absurd (omega (arith, lt))
gap_least low (gap ∷ gaps) zero d h lt = omega (arith, h.0)
gap_least low (gap ∷ gaps) (suc k) d h lt =
    let rest : gap + 1 + k ≤ get_or gaps k d = gap_least (gap + 1) gaps k d h.1 (omega (arith, lt)) in
    omega (arith, h.0, rest)

-- a gap that is before an item, and all gaps before that gap
pub gaps_before_more : (low : ℕ) (gaps : List ℕ) (k d place : ℕ) → AreGapsIncreasing low gaps → k < length gaps
    → get_or gaps k d ≤ place + k → AreGapsBefore place (suc k) gaps
gaps_before_more low [] k d place h lt le = absurd (omega (arith, lt))
gaps_before_more low (gap ∷ gaps) zero d place h lt le = (omega (arith, le), tt)
gaps_before_more low (gap ∷ gaps) (suc k) d place h lt le =
    let far : gap + 1 + k ≤ get_or gaps k d = gap_least (gap + 1) gaps k d h.1 (omega (arith, lt)) in (
      omega (arith, le, far),
      gaps_before_more (gap + 1) gaps k d (place + 1) h.1 (omega (arith, lt))
          (omega (arith, le)),
    )

-- the gaps before an item are before later items too
pub gaps_before_later : (place later k : ℕ) (gaps : List ℕ) → place ≤ later → AreGapsBefore place k gaps
    → AreGapsBefore later k gaps
gaps_before_later place later zero gaps le h = tt
gaps_before_later place later (suc k) [] le h = h
gaps_before_later place later (suc k) (gap ∷ gaps) le h =
    (omega (arith, h.0, le), gaps_before_later (place + 1) (later + 1) k gaps (omega (arith, le)) h.1)

-- a gap that is after a slot, and all gaps after that gap
pub gaps_after_more : (low : ℕ) (gaps : List ℕ) (k d slot : ℕ) → AreGapsIncreasing low gaps → k < length gaps
    → slot < get_or gaps k d → AreGapsIncreasing (slot + 1) (drop k gaps)
gaps_after_more low [] k d slot h lt le = absurd (omega (arith, lt))
gaps_after_more low (gap ∷ gaps) zero d slot h lt le = (omega (arith, le), h.1)
gaps_after_more low (gap ∷ gaps) (suc k) d slot h lt le = gaps_after_more (gap + 1) gaps k d slot h.1
    (omega (arith, lt)) le

-- an item before all gaps is in the slot with the number of its place
pub slot_before_all : (low place : ℕ) (gaps : List ℕ) → AreGapsIncreasing low gaps → place < low
    → slot_at gaps place ≡ place
slot_before_all low place [] h lt = refl
slot_before_all low place (gap ∷ gaps) h lt =
    by (slot_before_all (gap + 1) place gaps h.1 (omega (arith, h.0, lt))) (nat_lt place gap) refl
  where
    by : slot_at gaps place ≡ place → (b : Bool) → nat_lt place gap ≡ b
        → slot_at gaps (cond b place (place + 1)) ≡ place
    by rest true e = rest
    by rest false e = absurd (grind (arith, nat_tests, e, h.0, lt))

-- the slot of an item is its place and the number of gaps before it
pub slot_past_gaps : (place k low : ℕ) (gaps : List ℕ) → AreGapsBefore place k gaps
    → AreGapsIncreasing low (drop k gaps)
    → place + k < low → slot_at gaps place ≡ place + k
slot_past_gaps place zero low gaps before after lt =
    slot_before_all low place gaps after (omega (arith, lt)) ∙ sym (add-zero place)
slot_past_gaps place (suc k) low [] before after lt = absurd before
slot_past_gaps place (suc k) low (gap ∷ gaps) before after lt =
    by (slot_past_gaps (place + 1) k low gaps before.1 after (omega (arith, lt))) (nat_lt place gap) refl
  where
    sum : place + 1 + k ≡ place + suc k
    sum = omega arith

    by : slot_at gaps (place + 1) ≡ place + 1 + k → (b : Bool) → nat_lt place gap ≡ b
        → slot_at gaps (cond b place (place + 1)) ≡ place + suc k
    by rest true e = absurd (grind (arith, nat_tests, e, before.0))
    by rest false e = rest ∙ sum

-- a slot put after the gaps before it is one more gap
pub insert_gap : (place k low slot : ℕ) (gaps : List ℕ) → AreGapsBefore place k gaps
    → AreGapsIncreasing low (drop k gaps)
    → place + k < low → slot ≡ place + k → insert gaps k slot ≡ with_gap place gaps
insert_gap place zero low slot [] before after lt e = ap (λ s. s ∷ []) (e ∙ add-zero place)
insert_gap place zero low slot (gap ∷ gaps) before after lt e = by (nat_lt place gap) refl
  where
    by : (b : Bool) → nat_lt place gap ≡ b
        → slot ∷ gap ∷ gaps ≡ cond b (place ∷ gap ∷ gaps) (gap ∷ with_gap (place + 1) gaps)
    by true f = ap (λ s. s ∷ gap ∷ gaps) (e ∙ add-zero place)
    by false f = absurd (grind (arith, nat_tests, f, after.0, lt))
insert_gap place (suc k) low slot [] before after lt e = absurd before
insert_gap place (suc k) low slot (gap ∷ gaps) before after lt e =
    by (insert_gap (place + 1) k low slot gaps before.1 after (omega (arith, lt)) (omega (arith, e)))
    (nat_lt place gap) refl
  where
    by : insert gaps k slot ≡ with_gap (place + 1) gaps → (b : Bool) → nat_lt place gap ≡ b
        → gap ∷ insert gaps k slot ≡ cond b (place ∷ gap ∷ gaps) (gap ∷ with_gap (place + 1) gaps)
    by rest true f = absurd (grind (arith, nat_tests, f, before.0))
    by rest false f = ap {B = List ℕ} (λ l. gap ∷ l) rest

-- the first gaps are those before an item
pub take_gaps_before : (place k low : ℕ) (gaps : List ℕ) → AreGapsBefore place k gaps
    → AreGapsIncreasing low (drop k gaps)
    → place + k < low → take k gaps ≡ gaps_before place gaps
take_gaps_before place zero low [] before after lt = refl
take_gaps_before place zero low (gap ∷ gaps) before after lt = by (nat_lt place gap) refl
  where
    by : (b : Bool) → nat_lt place gap ≡ b → [] ≡ cond b [] (gap ∷ gaps_before (place + 1) gaps)
    by true f = refl
    by false f = absurd (grind (arith, nat_tests, f, after.0, lt))
take_gaps_before place (suc k) low [] before after lt = absurd before
take_gaps_before place (suc k) low (gap ∷ gaps) before after lt =
    by (take_gaps_before (place + 1) k low gaps before.1 after (omega (arith, lt))) (nat_lt place gap) refl
  where
    by : take k gaps ≡ gaps_before (place + 1) gaps → (b : Bool) → nat_lt place gap ≡ b
        → gap ∷ take k gaps ≡ cond b [] (gap ∷ gaps_before (place + 1) gaps)
    by rest true f = absurd (grind (arith, nat_tests, f, before.0))
    by rest false f = ap {B = List ℕ} (λ l. gap ∷ l) rest

-- gaps keep their order if one is added or only those before an item are kept
pub increasing_gaps_with_one : (low place : ℕ) (gaps : List ℕ) → AreGapsIncreasing low gaps → low ≤ place
    → AreGapsIncreasing low (with_gap place gaps)
increasing_gaps_with_one low place [] h le = (le, tt)
increasing_gaps_with_one low place (gap ∷ gaps) h le =
    by (λ more. increasing_gaps_with_one (gap + 1) (place + 1) gaps h.1 more) (nat_lt place gap) refl
  where
    by : (gap + 1 ≤ place + 1 → AreGapsIncreasing (gap + 1) (with_gap (place + 1) gaps)) → (b : Bool)
        → nat_lt place gap ≡ b → AreGapsIncreasing low (cond b (place ∷ gap ∷ gaps) (gap ∷ with_gap (place + 1) gaps))
    by rest true e =
        let less : place + 1 ≤ gap = grind (arith, nat_tests, e) in
        (le, (less, h.1))
    by rest false e =
        let more : gap + 1 ≤ place + 1 = grind (arith, nat_tests, e) in
        (h.0, rest more)

pub increasing_gaps_before : (low place : ℕ) (gaps : List ℕ) → AreGapsIncreasing low gaps
    → AreGapsIncreasing low (gaps_before place gaps)
increasing_gaps_before low place [] h = tt
increasing_gaps_before low place (gap ∷ gaps) h =
    by (increasing_gaps_before (gap + 1) (place + 1) gaps h.1) (nat_lt place gap)
  where
    by : AreGapsIncreasing (gap + 1) (gaps_before (place + 1) gaps) → (b : Bool)
        → AreGapsIncreasing low (cond b [] (gap ∷ gaps_before (place + 1) gaps))
    by rest true = tt
    by rest false = (h.0, rest)

-- a slot up to the first gap is that of the item at the place with its number
pub place_before_all_gaps : (low slot : ℕ) (gaps : List ℕ) → AreGapsIncreasing low gaps → slot ≤ low
    → place_without_gaps gaps slot ≡ slot
place_before_all_gaps low slot [] h le = refl
place_before_all_gaps low slot (gap ∷ gaps) h le =
    ap (without_gap gap) (place_before_all_gaps (gap + 1) slot gaps h.1 (omega (arith, h.0, le))) ∙ stays
  where
    stays : without_gap gap slot ≡ slot
    stays = grind (arith, nat_tests, h.0, le)

-- a slot from the first gap on has a place from the number of that gap on
place_least_after_gap : (low slot : ℕ) (gaps : List ℕ) → AreGapsIncreasing low gaps → low ≤ slot
    → low ≤ place_without_gaps gaps slot
place_least_after_gap low slot [] h le = le
place_least_after_gap low slot (gap ∷ gaps) h le =
    by (λ more. place_least_after_gap (gap + 1) slot gaps h.1 more) (nat_lt gap slot) refl
  where
    by : (gap + 1 ≤ slot → gap + 1 ≤ place_without_gaps gaps slot) → (b : Bool) → nat_lt gap slot ≡ b
        → low ≤ without_gap gap (place_without_gaps gaps slot)
    by rest true e =
        let more : gap + 1 ≤ slot = grind (arith, nat_tests, e) in
        let far : gap + 1 ≤ place_without_gaps gaps slot = rest more in
        grind (arith, nat_tests, h.0, far)
    by rest false e =
        let less : slot ≤ gap + 1 = grind (arith, nat_tests, e) in
        let same : place_without_gaps gaps slot ≡ slot = place_before_all_gaps (gap + 1) slot gaps h.1 less in
        grind (arith, nat_tests, same, e, le)

-- a gap before a slot, and all gaps before that gap, are counted
pub place_past_gaps : (low : ℕ) (gaps : List ℕ) (k d slot : ℕ) → AreGapsIncreasing low gaps → k < length gaps
    → get_or gaps k d < slot → place_without_gaps gaps slot + suc k ≡ place_without_gaps (drop (suc k) gaps) slot
place_past_gaps low [] k d slot h lt less = absurd (omega (arith, lt))
place_past_gaps low (gap ∷ gaps) zero d slot h lt less =
    let rest : gap + 1 ≤ place_without_gaps gaps slot = place_least_after_gap (gap + 1) slot gaps h.1
    (omega (arith, less)) in
    grind (arith, nat_tests, rest)
place_past_gaps low (gap ∷ gaps) (suc k) d slot h lt less =
    let far : gap + 1 + k ≤ get_or gaps k d = gap_least (gap + 1) gaps k d h.1 (omega (arith, lt)) in
    let rest : gap + 1 ≤ place_without_gaps gaps slot = place_least_after_gap (gap + 1) slot gaps h.1
    (omega (arith, far, less)) in
    let one : without_gap gap (place_without_gaps gaps slot) + 1 ≡ place_without_gaps gaps slot =
    grind (arith, nat_tests, rest) in
    let others : place_without_gaps gaps slot + suc k ≡ place_without_gaps (drop (suc k) gaps) slot =
    place_past_gaps (gap + 1) gaps k d slot h.1 (omega (arith, lt)) less in
    omega (arith, one, others)

-- a gap from a slot on, and all gaps after that gap, are not counted
pub place_up_to_gap : (low : ℕ) (gaps : List ℕ) (k d slot : ℕ) → AreGapsIncreasing low gaps → k < length gaps
    → slot ≤ get_or gaps k d → place_without_gaps (drop k gaps) slot ≡ slot
place_up_to_gap low [] k d slot h lt le = absurd (omega (arith, lt))
place_up_to_gap low (gap ∷ gaps) zero d slot h lt le =
    let same : gap ≤ gap = omega arith in
    place_before_all_gaps gap slot (gap ∷ gaps) (same, h.1) le
place_up_to_gap low (gap ∷ gaps) (suc k) d slot h lt le =
    place_up_to_gap (gap + 1) gaps k d slot h.1 (omega (arith, lt)) le
