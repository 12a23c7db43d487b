-- The first physical line, and the lines after it.
use Rattle.std.proofs.Common.{◌≡◌, ◌==◌, ◌<◌, ◌+◌, ◌∷◌, [], ℕ, List, true, false, cond, not, length, take, drop, refl}
use Rattle.std.proofs.Common.{sym, ap, ◌∙◌, arith, one-add, add-one}
use Rattle.std.specs.List.{position_or_len}
use Rattle.std.proofs.lemmas.List.{drop-drop}
use Rattle.def_lines.specs.Lines.{physical_lines, onto_physical_line}

-- the index of the first line feed, or the length if there is none
abbrev place : List ℕ → ℕ
place bytes = position_or_len (λ x. x == 10) bytes

-- a byte other than a line feed is put in front of the first line
physical_line_step : (x : ℕ) (rest : List ℕ) (q : ℕ) → physical_lines rest ≡ take q rest ∷ physical_lines
    (drop (q + 1) rest)
    → onto_physical_line x (physical_lines rest) ≡ take (1 + q) (x ∷ rest) ∷ physical_lines
    (drop (1 + q + 1) (x ∷ rest))
physical_line_step x rest q ih = rw ih (simp (one-add, add-one))

-- the first line is the text before the first line feed, and the other lines are those of the text after it
first_physical_line : (bytes : List ℕ) → 0 < length bytes
    → physical_lines bytes ≡ take (place bytes) bytes ∷ physical_lines (drop (place bytes + 1) bytes)
first_physical_line [] h = absurd (omega arith)
first_physical_line (x ∷ []) h =
    elim (x == 10) as
    (λ v. cond v ([] ∷ []) ((x ∷ []) ∷ []) ≡ take (cond (not v) (1 + 0) 0) (x ∷ [])
    ∷ physical_lines (drop (cond (not v) (1 + 0) 0 + 1) (x ∷ [])))
    [ true ↦ refl | false ↦ refl ]
first_physical_line (x ∷ y ∷ ys) h =
    let more : 0 < length (y ∷ ys) = omega arith in
    let ih = first_physical_line (y ∷ ys) more in
    elim (x == 10) as
    (λ v. cond v ([] ∷ physical_lines (y ∷ ys)) (onto_physical_line x (physical_lines (y ∷ ys)))
    ≡ take (cond (not v) (1 + place (y ∷ ys)) 0) (x ∷ y ∷ ys)
    ∷ physical_lines (drop (cond (not v) (1 + place (y ∷ ys)) 0 + 1) (x ∷ y ∷ ys)))
    [ true ↦ refl | false ↦ physical_line_step x (y ∷ ys) (place (y ∷ ys)) ih ]

-- the first line and the others, in terms of the results of `split_at`
pub first_physical_line_parted : (bytes part behind : List ℕ) (at : ℕ) → 0 < length bytes → at ≡ place bytes
    → part ≡ take at bytes
    → behind ≡ drop at bytes
    → physical_lines bytes ≡ part ∷ physical_lines (drop 1 behind)
first_physical_line_parted bytes part behind at h e p q =
    first_physical_line bytes h
    ∙ rw (← e) (rw p
    (ap (λ t. take at bytes ∷ physical_lines t) (sym (drop-drop 1 at bytes))
    ∙ ap (λ t. take at bytes ∷ physical_lines (drop 1 t)) (sym q)))

-- the first line and the others if the bytes contain a line feed
pub first_physical_line_parted_some : (bytes part behind : List ℕ) (at b : ℕ) (tail : List ℕ) → 0 < length bytes
    → at ≡ place bytes
    → part ≡ take at bytes
    → behind ≡ drop at bytes → behind ≡ b ∷ tail → physical_lines bytes ≡ part ∷ physical_lines tail
first_physical_line_parted_some bytes part behind at b tail h e p q is = first_physical_line_parted bytes part behind at
    h e p q
    ∙ ap (λ t. part ∷ physical_lines (drop 1 t)) is

-- the first line if the bytes contain no line feed
pub first_physical_line_parted_none : (bytes part behind : List ℕ) (at : ℕ) → 0 < length bytes → at ≡ place bytes
    → part ≡ take at bytes
    → behind ≡ drop at bytes → length behind ≡ 0 → physical_lines bytes ≡ part ∷ physical_lines behind
first_physical_line_parted_none bytes part [] at h e p q none = first_physical_line_parted bytes part [] at h e p q
first_physical_line_parted_none bytes part (b ∷ behind) at h e p q none = absurd (omega arith)
