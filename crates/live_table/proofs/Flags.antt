-- The number of flags that are set.
use Rattle.std.proofs.Common.{◌≡◌, ◌+◌, ◌<◌, ◌≤◌, ◌++◌, ◌∷◌, [], ℕ, zero, suc, Bool, true, false, List, Some, filter}
use Rattle.std.proofs.Common.{length, set, refl, sym, ◌∙◌, ap, arith}
use Rattle.std.specs.List.{slice_get}
use Rattle.std.specs.Prelude.{count_by}
use Rattle.std.proofs.lemmas.List.{length-set}
use Rattle.std.proofs.lemmas.List.Sums.{count_by-le-length, length-filter}

-- a flag that is not set adds nothing to the set ones
unsettled_flag_adds_no_set_flag : (bs : List Bool) → filter (λ b. b) (bs ++ false ∷ []) ≡ filter (λ b. b) bs
unsettled_flag_adds_no_set_flag [] = refl
unsettled_flag_adds_no_set_flag (true ∷ bs) = ap (λ (xs : List Bool). true ∷ xs) (unsettled_flag_adds_no_set_flag bs)
unsettled_flag_adds_no_set_flag (false ∷ bs) = unsettled_flag_adds_no_set_flag bs

-- a flag that is not set adds nothing to the count
pub unsettled_flag_adds_no_count : (bs : List Bool) → count_by (λ b. b) (bs ++ false ∷ []) ≡ count_by (λ b. b) bs
unsettled_flag_adds_no_count bs = sym (length-filter (λ b. b) (bs ++ false ∷ []))
    ∙ (ap length (unsettled_flag_adds_no_set_flag bs) ∙ length-filter (λ b. b) bs)

-- setting a flag adds one set flag
settled_flag_adds_one_set_flag : (bs : List Bool) (n : ℕ) → slice_get bs n ≡ Some false
    → length (filter (λ b. b) (set bs n true)) ≡ length (filter (λ b. b) bs) + 1
settled_flag_adds_one_set_flag [] n e = cc
settled_flag_adds_one_set_flag (true ∷ bs) zero e = cc
settled_flag_adds_one_set_flag (false ∷ bs) zero e = omega arith
settled_flag_adds_one_set_flag (true ∷ bs) (suc n) e =
    let r : length (filter (λ b. b) (set bs n true)) ≡ length (filter (λ b. b) bs) + 1 =
    settled_flag_adds_one_set_flag bs n e in
    omega (arith, r)
settled_flag_adds_one_set_flag (false ∷ bs) (suc n) e = settled_flag_adds_one_set_flag bs n e

-- setting a flag adds one to the count
pub settled_flag_adds_one_count : (bs : List Bool) (n : ℕ) → slice_get bs n ≡ Some false
    → count_by (λ b. b) (set bs n true) ≡ count_by
    (λ b. b) bs + 1
settled_flag_adds_one_count bs n e =
    sym (length-filter (λ b. b) (set bs n true))
    ∙ (settled_flag_adds_one_set_flag bs n e ∙ ap (λ k. k + 1) (length-filter (λ b. b) bs))

-- if a flag is not set, fewer flags are set than there are
pub unsettled_flag_leaves_room : (bs : List Bool) (n : ℕ) → slice_get bs n ≡ Some false
    → count_by (λ b. b) bs < length bs
unsettled_flag_leaves_room bs n e =
    let a : count_by (λ b. b) (set bs n true) ≤ length (set bs n true) = count_by-le-length (λ b. b) (set bs n true) in
    let s : length (set bs n true) ≡ length bs = length-set bs n true in
    let c : count_by (λ b. b) (set bs n true) ≡ count_by (λ b. b) bs + 1 = settled_flag_adds_one_count bs n e in
    omega arith
