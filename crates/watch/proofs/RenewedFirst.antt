-- Lists whose first items are renewed in place.
use Rattle.std.proofs.Common.{◌≡◌, ◌+◌, ◌++◌, ◌<◌, ℕ, zero, suc, List, [], ◌∷◌, length, map, take, drop, get_or, set}
use Rattle.std.proofs.Common.{refl, ap, subst, arith}

module _ {A : Type 0} (f : A → A) where
  -- a list with its first items renewed
  abbrev pub renewed_first : ℕ → List A → List A
  renewed_first i xs = map f (take i xs) ++ drop i xs

  -- the next item is as it was
  pub renewed_at : (i : ℕ) (xs : List A) (d : A) → i < length xs → get_or (renewed_first i xs) i d ≡ get_or xs i d
  renewed_at i [] d h = let no : ⊥ = omega arith in absurd no
  renewed_at zero (x ∷ xs) d h = refl
  renewed_at (suc i) (x ∷ xs) d h = renewed_at i xs d (omega arith)

  -- renewing the next item, too, gives the list with one more renewed
  pub renewed_next : (i : ℕ) (xs : List A) (d : A) → i < length xs
      → set (renewed_first i xs) i (f (get_or xs i d)) ≡ renewed_first (i + 1) xs
  renewed_next i [] d h = let no : ⊥ = omega arith in absurd no
  renewed_next zero (x ∷ xs) d h = refl
  renewed_next (suc i) (x ∷ xs) d h =
      let e : suc (i + 1) ≡ suc i + 1 = omega arith in
      subst (λ j. f x ∷ set (renewed_first i xs) i (f (get_or xs i d)) ≡ renewed_first j (x ∷ xs)) e
      (ap (λ ys. f x ∷ ys) (renewed_next i xs d (omega arith)))

  -- putting the next item back unchanged changes nothing
  pub renewed_same : (i : ℕ) (xs : List A) (d : A) → i < length xs
      → set (renewed_first i xs) i (get_or xs i d) ≡ renewed_first i xs
  renewed_same i [] d h = let no : ⊥ = omega arith in absurd no
  renewed_same zero (x ∷ xs) d h = refl
  renewed_same (suc i) (x ∷ xs) d h = ap (λ ys. f x ∷ ys) (renewed_same i xs d (omega arith))
