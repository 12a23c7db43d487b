-- The merge of two layers of gaps.
use Rattle.std.proofs.Common.{◌≡◌, ◌<◌, ◌≤◌, ◌+◌, ◌∷◌, [], ℕ, zero, suc, List, length}
use Rattle.std.proofs.Common.{get_or, drop, refl, sym, ap, subst, ◌∙◌, arith, add-one}
use Rattle.std.proofs.lemmas.List.{drop_more, drop_all}
use Rattle.gap_list.specs.Gaps.{AreGapsIncreasing, gaps_with_more, with_gap}
use Rattle.gap_list.proofs.Layers.{increasing_from_less, increasing_layers, with_gap_early, with_gap_late}

-- the gaps, each of them at a number larger by `count`
abbrev pub gaps_later : (count : ℕ) (gaps : List ℕ) → List ℕ
gaps_later count [] = []
gaps_later count (gap ∷ gaps) = (gap + count) ∷ gaps_later count gaps

-- what is left of the merge after `passed` gaps of the first layer and `next` of the second
abbrev pub gaps_left : (merged recent : List ℕ) (passed next : ℕ) → List ℕ
gaps_left merged recent passed next = gaps_with_more (drop passed merged) (gaps_later passed (drop next recent))

-- gaps at larger numbers increase too
increasing_later : (count low : ℕ) (gaps : List ℕ) → AreGapsIncreasing low gaps
    → AreGapsIncreasing (low + count) (gaps_later count gaps)
increasing_later count low [] h = tt
increasing_later count low (gap ∷ gaps) h = (
  omega (arith, h.0),
  increasing_from_less (gap + 1 + count) (gap + count + 1) (gaps_later count gaps) (omega arith)
      (increasing_later count (gap + 1) gaps h.1),
)

-- the last gaps increase
increasing_drop : (low k : ℕ) (gaps : List ℕ) → AreGapsIncreasing low gaps → AreGapsIncreasing low (drop k gaps)
increasing_drop low zero gaps h = h
increasing_drop low (suc k) [] h = h
increasing_drop low (suc k) (gap ∷ gaps) h =
    increasing_from_less (gap + 1) low (drop k gaps) (omega (arith, h.0)) (increasing_drop (gap + 1) k gaps h.1)

-- a gap before all others is put first
with_gap_first : (gap : ℕ) (gaps : List ℕ) → AreGapsIncreasing (gap + 1) gaps → with_gap gap gaps ≡ gap ∷ gaps
with_gap_first gap [] h = refl
with_gap_first gap (x ∷ gaps) h = with_gap_early gap x gaps (omega (arith, h.0))

-- without a first layer the gaps are those of the second one
layers-nil : (low : ℕ) (more : List ℕ) → AreGapsIncreasing low more → gaps_with_more [] more ≡ more
layers-nil low [] h = refl
layers-nil low (gap ∷ more) h =
    ap (with_gap gap) (layers-nil (gap + 1) more h.1) ∙ with_gap_first gap more h.1

-- a gap of the first layer that is not after the second one comes first
layers_first : (low gap count : ℕ) (gaps more : List ℕ) → AreGapsIncreasing low more → gap ≤ low + count
    → gaps_with_more (gap ∷ gaps) (gaps_later count more)
    ≡ gap ∷ gaps_with_more gaps (gaps_later (count + 1) more)
layers_first low gap count gaps [] h le = refl
layers_first low gap count gaps (x ∷ more) h le =
    ap (with_gap (x + count)) (layers_first (x + 1) gap count gaps more h.1 (omega (arith, le, h.0)))
    ∙ with_gap_late (x + count) gap (gaps_with_more gaps (gaps_later (count + 1) more)) (omega (arith, le, h.0))
    ∙ ap (λ n. gap ∷ with_gap n (gaps_with_more gaps (gaps_later (count + 1) more))) next
  where
    next : x + count + 1 ≡ x + (count + 1)
    next = omega arith

-- a gap of the second layer that is before the first one comes first
layers_second : (gap count : ℕ) (gaps more : List ℕ) → AreGapsIncreasing (gap + 1) more
    → AreGapsIncreasing (gap + count + 1) gaps
    → gaps_with_more gaps (gaps_later count (gap ∷ more)) ≡ (gap + count) ∷ gaps_with_more gaps (gaps_later count more)
layers_second gap count gaps more up h =
    with_gap_first (gap + count) (gaps_with_more gaps (gaps_later count more))
    (increasing_layers (gap + count + 1) gaps (gaps_later count more) h
    (increasing_from_less (gap + 1 + count) (gap + count + 1) (gaps_later count more) (omega arith)
    (increasing_later count (gap + 1) more up)))

-- the gaps after one of them are larger
increasing_after : (low k : ℕ) (gaps : List ℕ) → AreGapsIncreasing low gaps → k < length gaps
    → AreGapsIncreasing (get_or gaps k 0 + 1) (drop (k + 1) gaps)
increasing_after low k gaps h lt =
    subst (λ n. AreGapsIncreasing (get_or gaps k 0 + 1) (drop n gaps)) (sym (add-one k)) (by low k gaps h lt)
  where
    by : (low k : ℕ) (gaps : List ℕ) → AreGapsIncreasing low gaps → k < length gaps
        → AreGapsIncreasing (get_or gaps k 0 + 1) (drop (suc k) gaps)
    by low k [] h lt = absurd (omega (arith, lt))
    by low zero (gap ∷ gaps) h lt = h.1
    by low (suc k) (gap ∷ gaps) h lt = by (gap + 1) k gaps h.1 (omega (arith, lt))

-- the gaps from one of them on
increasing_from : (low k : ℕ) (gaps : List ℕ) → AreGapsIncreasing low gaps → k < length gaps
    → AreGapsIncreasing (get_or gaps k 0) (drop k gaps)
increasing_from low k gaps h lt =
    subst (AreGapsIncreasing (get_or gaps k 0)) (sym (drop_more gaps k 0 lt))
    (omega arith, increasing_after low k gaps h lt)

module _ (merged recent : List ℕ) (up : AreGapsIncreasing 0 merged) (more : AreGapsIncreasing 0 recent) where
  -- a gap of the first layer is passed
  pub merge_first : (passed next : ℕ) → passed < length merged → next < length recent
      → get_or merged passed 0 ≤ get_or recent next 0 + passed
      → gaps_left merged recent passed next ≡ get_or merged passed 0 ∷ gaps_left merged recent (passed + 1) next
  merge_first passed next in_merged in_recent le =
      ap (λ (l : List ℕ). gaps_with_more l (gaps_later passed (drop next recent))) (drop_more merged passed 0 in_merged)
      ∙ layers_first (get_or recent next 0) (get_or merged passed 0) passed (drop (passed + 1) merged)
      (drop next recent) (increasing_from 0 next recent more in_recent) le

  -- a gap of the second layer is passed
  pub merge_second : (passed next : ℕ) → next < length recent
      → AreGapsIncreasing (get_or recent next 0 + passed + 1) (drop passed merged)
      → gaps_left merged recent passed next
      ≡ (get_or recent next 0 + passed) ∷ gaps_left merged recent passed (next + 1)
  merge_second passed next in_recent late =
      ap (λ (l : List ℕ). gaps_with_more (drop passed merged) (gaps_later passed l)) (drop_more recent next 0 in_recent)
      ∙ layers_second (get_or recent next 0) passed (drop passed merged) (drop (next + 1) recent)
      (increasing_after 0 next recent more in_recent) late

  -- no gap of the first layer is left
  pub merge_second_end : (passed next : ℕ) → next < length recent → length merged ≤ passed
      → gaps_left merged recent passed next
      ≡ (get_or recent next 0 + passed) ∷ gaps_left merged recent passed (next + 1)
  merge_second_end passed next in_recent past =
      merge_second passed next in_recent
      (subst (AreGapsIncreasing (get_or recent next 0 + passed + 1)) (sym (drop_all passed merged past)) tt)

  -- the next gap of the first layer is later
  pub merge_second_before : (passed next : ℕ) → passed < length merged → next < length recent
      → get_or recent next 0 + passed < get_or merged passed 0
      → gaps_left merged recent passed next
      ≡ (get_or recent next 0 + passed) ∷ gaps_left merged recent passed (next + 1)
  merge_second_before passed next in_merged in_recent lt =
      merge_second passed next in_recent
      (increasing_from_less (get_or merged passed 0) (get_or recent next 0 + passed + 1) (drop passed merged)
      (omega (arith, lt)) (increasing_from 0 passed merged up in_merged))

  -- no gap of the second layer is left
  pub merge_rest : (passed next : ℕ) → length recent ≤ next → gaps_left merged recent passed next ≡ drop passed merged
  merge_rest passed next past =
      ap (λ (l : List ℕ). gaps_with_more (drop passed merged) (gaps_later passed l)) (drop_all next recent past)

  -- at the start all gaps are left
  pub merge_start : gaps_left merged recent 0 0 ≡ gaps_with_more merged recent
  merge_start = ap (gaps_with_more merged) (same recent)
    where
      same : (gaps : List ℕ) → gaps_later 0 gaps ≡ gaps
      same [] = refl
      same (gap ∷ gaps) = λ i. omega-free gap i ∷ same gaps i
        where
          omega-free : (n : ℕ) → n + 0 ≡ n
          omega-free n = omega arith
