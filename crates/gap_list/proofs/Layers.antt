-- Gaps in two layers: the second ones are gaps of the list without the first ones.
use Rattle.std.proofs.Common.{◌≡◌, ◌<◌, ◌≤◌, ◌+◌, ◌∷◌, [], ℕ, suc, List, Bool, true, false, cond, length}
use Rattle.std.proofs.Common.{nat_lt, get_or, refl, sym, ap, ◌∙◌, arith}
use Rattle.std.proofs.lemmas.Bool.Decides.{nat_tests}
use Rattle.gap_list.specs.Gaps.{AreGapsIncreasing, gaps_before, gaps_with_more, place_without_gaps, slot_at, with_gap}
use Rattle.gap_list.specs.Gaps.{without_gap}
use Rattle.gap_list.proofs.GapSearch.{increasing_gaps_with_one}
use Rattle.gap_list.proofs.SlotItems.{place_moved_by_gap}

-- a gap is put before the ones after it
pub with_gap_early : (place gap : ℕ) (gaps : List ℕ) → place < gap → with_gap place (gap ∷ gaps) ≡ place ∷ gap ∷ gaps
with_gap_early place gap gaps h =
    let e : nat_lt place gap ≡ true = grind (arith, nat_tests, h) in
    ap (λ b. cond b (place ∷ gap ∷ gaps) (gap ∷ with_gap (place + 1) gaps)) e

-- a gap is put after the ones before it
pub with_gap_late : (place gap : ℕ) (gaps : List ℕ) → gap ≤ place
    → with_gap place (gap ∷ gaps) ≡ gap ∷ with_gap (place + 1) gaps
with_gap_late place gap gaps h =
    let e : nat_lt place gap ≡ false = grind (arith, nat_tests, h) in
    ap (λ b. cond b (place ∷ gap ∷ gaps) (gap ∷ with_gap (place + 1) gaps)) e

-- the slot of an item after one more item is removed
slot_at-with_gap : (gaps : List ℕ) (gap place : ℕ)
    → slot_at (with_gap gap gaps) place ≡ slot_at gaps (cond (nat_lt place gap) place (place + 1))
slot_at-with_gap [] gap place = refl
slot_at-with_gap (x ∷ gaps) gap place =
    by (slot_at-with_gap gaps (gap + 1) (cond (nat_lt place x) place (place + 1))) (nat_lt gap x) refl
  where
    place-in : ℕ
    place-in = cond (nat_lt place x) place (place + 1)

    place-out : ℕ
    place-out = cond (nat_lt place gap) place (place + 1)

    same : x ≤ gap → cond (nat_lt (cond (nat_lt place x) place (place + 1)) (gap + 1))
        (cond (nat_lt place x) place (place + 1)) (cond (nat_lt place x) place (place + 1) + 1)
        ≡ cond (nat_lt (cond (nat_lt place gap) place (place + 1)) x) (cond (nat_lt place gap) place (place + 1))
        (cond (nat_lt place gap) place (place + 1) + 1)
    same h = grind (arith, nat_tests, h)

    by : slot_at (with_gap (gap + 1) gaps) place-in
        ≡ slot_at gaps (cond (nat_lt place-in (gap + 1)) place-in (place-in + 1)) → (b : Bool) → nat_lt gap x ≡ b
        → slot_at (cond b (gap ∷ x ∷ gaps) (x ∷ with_gap (gap + 1) gaps)) place ≡ slot_at (x ∷ gaps) place-out
    by rest true e = refl
    by rest false e =
        let more : x ≤ gap = grind (arith, nat_tests, e) in
        rest ∙ ap (slot_at gaps) (same more)

-- the slot of an item is found in one layer after the other
pub slot_in_layers : (gaps more : List ℕ) (place : ℕ)
    → slot_at (gaps_with_more gaps more) place ≡ slot_at gaps (slot_at more place)
slot_in_layers gaps [] place = refl
slot_in_layers gaps (gap ∷ more) place =
    slot_at-with_gap (gaps_with_more gaps more) gap place
    ∙ slot_in_layers gaps more (cond (nat_lt place gap) place (place + 1))

-- the place of the item in a slot is found in one layer after the other
pub place_in_layers : (gaps more : List ℕ) (slot : ℕ)
    → place_without_gaps (gaps_with_more gaps more) slot ≡ place_without_gaps more (place_without_gaps gaps slot)
place_in_layers gaps [] slot = refl
place_in_layers gaps (gap ∷ more) slot =
    place_moved_by_gap (gaps_with_more gaps more) gap slot ∙ ap (without_gap gap) (place_in_layers gaps more slot)

-- two gaps may be added in either order
with_gap-with_gap : (gaps : List ℕ) (gap place : ℕ) → gap ≤ place
    → with_gap place (with_gap gap gaps) ≡ with_gap gap (with_gap (place + 1) gaps)
with_gap-with_gap [] gap place h =
    with_gap_late place gap [] h ∙ sym (with_gap_early gap (place + 1) [] (omega (arith, h)))
with_gap-with_gap (x ∷ gaps) gap place h =
    by (with_gap-with_gap gaps (gap + 1) (place + 1) (omega (arith, h))) (nat_lt gap x) refl
  where
    early : gap < x → (b : Bool)
        → gap ∷ cond b ((place + 1) ∷ x ∷ gaps) (x ∷ with_gap (place + 1 + 1) gaps)
        ≡ with_gap gap (cond b ((place + 1) ∷ x ∷ gaps) (x ∷ with_gap (place + 1 + 1) gaps))
    early less true = sym (with_gap_early gap (place + 1) (x ∷ gaps) (omega (arith, h)))
    early less false = sym (with_gap_early gap x (with_gap (place + 1 + 1) gaps) less)

    by : with_gap (place + 1) (with_gap (gap + 1) gaps) ≡ with_gap (gap + 1) (with_gap (place + 1 + 1) gaps)
        → (b : Bool) → nat_lt gap x ≡ b
        → with_gap place (cond b (gap ∷ x ∷ gaps) (x ∷ with_gap (gap + 1) gaps))
        ≡ with_gap gap (with_gap (place + 1) (x ∷ gaps))
    by rest true e =
        let less : gap < x = grind (arith, nat_tests, e) in
        with_gap_late place gap (x ∷ gaps) h ∙ early less (nat_lt (place + 1) x)
    by rest false e =
        let more : x ≤ gap = grind (arith, nat_tests, e) in
        with_gap_late place x (with_gap (gap + 1) gaps) (omega (arith, more, h))
        ∙ ap {B = List ℕ} (λ l. x ∷ l) rest
        ∙ sym (with_gap_late gap x (with_gap (place + 1 + 1) gaps) more)
        ∙ ap (with_gap gap) (sym (with_gap_late (place + 1) x gaps (omega (arith, more, h))))

-- one more gap is added to the second layer
pub with_gap_in_layers : (gaps more : List ℕ) (place : ℕ)
    → with_gap place (gaps_with_more gaps more) ≡ gaps_with_more gaps (with_gap place more)
with_gap_in_layers gaps [] place = refl
with_gap_in_layers gaps (gap ∷ more) place =
    by (with_gap_in_layers gaps more (place + 1)) (nat_lt place gap) refl
  where
    by : with_gap (place + 1) (gaps_with_more gaps more) ≡ gaps_with_more gaps (with_gap (place + 1) more)
        → (b : Bool) → nat_lt place gap ≡ b
        → with_gap place (with_gap gap (gaps_with_more gaps more))
        ≡ gaps_with_more gaps (cond b (place ∷ gap ∷ more) (gap ∷ with_gap (place + 1) more))
    by rest true e = refl
    by rest false e =
        let late : gap ≤ place = grind (arith, nat_tests, e) in
        with_gap-with_gap (gaps_with_more gaps more) gap place late ∙ ap (with_gap gap) rest

-- one more gap
length-with_gap : (gaps : List ℕ) (place : ℕ) → length (with_gap place gaps) ≡ suc (length gaps)
length-with_gap [] place = refl
length-with_gap (gap ∷ gaps) place = by (length-with_gap gaps (place + 1)) (nat_lt place gap)
  where
    by : length (with_gap (place + 1) gaps) ≡ suc (length gaps) → (b : Bool)
        → length (cond b (place ∷ gap ∷ gaps) (gap ∷ with_gap (place + 1) gaps)) ≡ suc (suc (length gaps))
    by rest true = refl
    by rest false = ap suc rest

-- the number of gaps is that of both layers
pub length-layers : (gaps more : List ℕ) → length (gaps_with_more gaps more) ≡ length gaps + length more
length-layers gaps [] = omega arith
length-layers gaps (gap ∷ more) =
    let rest : length (gaps_with_more gaps more) ≡ length gaps + length more = length-layers gaps more in
    let one : length (with_gap gap (gaps_with_more gaps more)) ≡ suc (length (gaps_with_more gaps more)) =
    length-with_gap (gaps_with_more gaps more) gap in
    omega (arith, rest, one)

-- gaps that increase from a number on do so from a smaller one on
pub increasing_from_less : (low least : ℕ) (gaps : List ℕ) → least ≤ low → AreGapsIncreasing low gaps
    → AreGapsIncreasing least gaps
increasing_from_less low least [] le h = tt
increasing_from_less low least (gap ∷ gaps) le h = (omega (arith, le, h.0), h.1)

-- the gaps of both layers increase
pub increasing_layers : (low : ℕ) (gaps more : List ℕ) → AreGapsIncreasing low gaps → AreGapsIncreasing low more
    → AreGapsIncreasing low (gaps_with_more gaps more)
increasing_layers low gaps [] h up = h
increasing_layers low gaps (gap ∷ more) h up =
    increasing_gaps_with_one low gap (gaps_with_more gaps more)
    (increasing_layers low gaps more h (increasing_from_less (gap + 1) low more (omega (arith, up.0)) up.1)) up.0

-- no gap is before an item before all of them
no_gaps_before : (low place : ℕ) (gaps : List ℕ) → AreGapsIncreasing low gaps → place < low
    → gaps_before place gaps ≡ []
no_gaps_before low place [] h lt = refl
no_gaps_before low place (gap ∷ gaps) h lt =
    let e : nat_lt place gap ≡ true = grind (arith, nat_tests, h.0, lt) in
    ap (λ b. cond b [] (gap ∷ gaps_before (place + 1) gaps)) e

-- the first gap is before an item
gaps_before_late : (place gap : ℕ) (gaps : List ℕ) → gap ≤ place
    → gaps_before place (gap ∷ gaps) ≡ gap ∷ gaps_before (place + 1) gaps
gaps_before_late place gap gaps h =
    let e : nat_lt place gap ≡ false = grind (arith, nat_tests, h) in
    ap (λ b. cond b [] (gap ∷ gaps_before (place + 1) gaps)) e

-- the first gap is after an item
gaps_before_early : (place gap : ℕ) (gaps : List ℕ) → place < gap → gaps_before place (gap ∷ gaps) ≡ []
gaps_before_early place gap gaps h =
    let e : nat_lt place gap ≡ true = grind (arith, nat_tests, h) in
    ap (λ b. cond b [] (gap ∷ gaps_before (place + 1) gaps)) e

-- one more gap after an item doesn't change the gaps before it
gaps_before-with_later_gap : (gaps : List ℕ) (gap place : ℕ) → place < gap
    → gaps_before place (with_gap gap gaps) ≡ gaps_before place gaps
gaps_before-with_later_gap [] gap place h = gaps_before_early place gap [] h
gaps_before-with_later_gap (x ∷ gaps) gap place h =
    by (gaps_before-with_later_gap gaps (gap + 1) (place + 1) (omega (arith, h))) (nat_lt gap x) refl
  where
    late : gaps_before (place + 1) (with_gap (gap + 1) gaps) ≡ gaps_before (place + 1) gaps → (b : Bool)
        → cond b [] (x ∷ gaps_before (place + 1) (with_gap (gap + 1) gaps))
        ≡ cond b [] (x ∷ gaps_before (place + 1) gaps)
    late rest true = refl
    late rest false = ap {B = List ℕ} (λ l. x ∷ l) rest

    by : gaps_before (place + 1) (with_gap (gap + 1) gaps) ≡ gaps_before (place + 1) gaps → (b : Bool)
        → nat_lt gap x ≡ b
        → gaps_before place (cond b (gap ∷ x ∷ gaps) (x ∷ with_gap (gap + 1) gaps)) ≡ gaps_before place (x ∷ gaps)
    by rest true e =
        let less : place < x = grind (arith, nat_tests, e, h) in
        gaps_before_early place gap (x ∷ gaps) h ∙ sym (gaps_before_early place x gaps less)
    by rest false e = late rest (nat_lt place x)

-- one more gap before an item is one of the gaps before the next one
gaps_before-with_gap : (gaps : List ℕ) (gap place : ℕ) → gap ≤ place
    → gaps_before place (with_gap gap gaps) ≡ with_gap gap (gaps_before (place + 1) gaps)
gaps_before-with_gap [] gap place h = gaps_before_late place gap [] h
gaps_before-with_gap (x ∷ gaps) gap place h =
    by (gaps_before-with_gap gaps (gap + 1) (place + 1) (omega (arith, h))) (nat_lt gap x) refl
  where
    early : gap < x → (b : Bool)
        → gap ∷ cond b [] (x ∷ gaps_before (place + 1 + 1) gaps)
        ≡ with_gap gap (cond b [] (x ∷ gaps_before (place + 1 + 1) gaps))
    early less true = refl
    early less false = sym (with_gap_early gap x (gaps_before (place + 1 + 1) gaps) less)

    by : gaps_before (place + 1) (with_gap (gap + 1) gaps) ≡ with_gap (gap + 1) (gaps_before (place + 1 + 1) gaps)
        → (b : Bool) → nat_lt gap x ≡ b
        → gaps_before place (cond b (gap ∷ x ∷ gaps) (x ∷ with_gap (gap + 1) gaps))
        ≡ with_gap gap (gaps_before (place + 1) (x ∷ gaps))
    by rest true e =
        let less : gap < x = grind (arith, nat_tests, e) in
        gaps_before_late place gap (x ∷ gaps) h ∙ early less (nat_lt (place + 1) x)
    by rest false e =
        let more : x ≤ gap = grind (arith, nat_tests, e) in
        gaps_before_late place x (with_gap (gap + 1) gaps) (omega (arith, more, h))
        ∙ ap {B = List ℕ} (λ l. x ∷ l) rest
        ∙ sym (with_gap_late gap x (gaps_before (place + 1 + 1) gaps) more)
        ∙ ap (with_gap gap) (sym (gaps_before_late (place + 1) x gaps (omega (arith, more, h))))

-- the gaps before an item are those in both layers
pub gaps_before_in_layers : (low : ℕ) (gaps more : List ℕ) (place : ℕ) → AreGapsIncreasing low more
    → gaps_before place (gaps_with_more gaps more)
    ≡ gaps_with_more (gaps_before (slot_at more place) gaps) (gaps_before place more)
gaps_before_in_layers low gaps [] place h = refl
gaps_before_in_layers low gaps (gap ∷ more) place h =
    by (gaps_before_in_layers (gap + 1) gaps more place h.1) (gaps_before_in_layers (gap + 1) gaps more (place + 1) h.1)
    (nat_lt place gap) refl
  where
    by : gaps_before place (gaps_with_more gaps more)
        ≡ gaps_with_more (gaps_before (slot_at more place) gaps) (gaps_before place more)
        → gaps_before (place + 1) (gaps_with_more gaps more)
        ≡ gaps_with_more (gaps_before (slot_at more (place + 1)) gaps) (gaps_before (place + 1) more)
        → (b : Bool) → nat_lt place gap ≡ b
        → gaps_before place (with_gap gap (gaps_with_more gaps more))
        ≡ gaps_with_more (gaps_before (slot_at more (cond b place (place + 1))) gaps)
        (cond b [] (gap ∷ gaps_before (place + 1) more))
    by same next true e =
        let less : place < gap = grind (arith, nat_tests, e) in
        gaps_before-with_later_gap (gaps_with_more gaps more) gap place less ∙ same
        ∙ ap (gaps_with_more (gaps_before (slot_at more place) gaps))
        (no_gaps_before (gap + 1) place more h.1 (omega (arith, less)))
    by same next false e =
        let late : gap ≤ place = grind (arith, nat_tests, e) in
        gaps_before-with_gap (gaps_with_more gaps more) gap place late ∙ ap (with_gap gap) next

-- gaps up to a number are before an item at a place from that number on
pub gaps_before_all : (gaps : List ℕ) (place most : ℕ) → ((k : ℕ) → get_or gaps k 0 ≤ most) → most ≤ place
    → gaps_before place gaps ≡ gaps
gaps_before_all [] place most h le = refl
gaps_before_all (gap ∷ gaps) place most h le =
    gaps_before_late place gap gaps (omega (arith, h 0, le))
    ∙ ap {B = List ℕ} (λ l. gap ∷ l) (gaps_before_all gaps (place + 1) most (λ k. h (suc k)) (omega (arith, le)))
