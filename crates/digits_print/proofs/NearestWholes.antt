-- Whole numbers that are as near to a ratio as the nearest whole number.
use Rattle.std.proofs.Common.{◌≡◌, ◌<◌, ◌≤◌, ◌%◌, ℕ, suc, zero, arith, refl, sym, subst, ◌∙◌, inl, inr}
use Rattle.std.specs.Prelude.{◌⊎◌}
use Rattle.frac128.specs.Nearest.{FractionNearestWholeLaw, IsFractionNearestWhole, distance_from_fraction}

-- a whole number that is as near as the nearest one is equal to it, or is odd while the nearest one is even
pub other_rounding_is_odd : FractionNearestWholeLaw → (a b m e : ℕ) → 0 < b → IsFractionNearestWhole a b m
    → distance_from_fraction a b e ≤ distance_from_fraction a b m
    → (e ≡ m) ⊎ ((m % 2 ≡ 0) × (e % 2 ≡ 1))
other_rounding_is_odd law a b m e some is h = elim (is.even_on_tie e same) [
  | inl one ↦ inl one
  | inr even ↦ by_last (e % 2) refl (omega arith) even
]
  where
    both_ways : (x y : ℕ) → x ≤ y → y ≤ x → x ≡ y
    both_ways x y h k = omega arith

    same : distance_from_fraction a b e ≡ distance_from_fraction a b m
    same = both_ways (distance_from_fraction a b e) (distance_from_fraction a b m) h (is.near e)

    by_last : (l : ℕ) → e % 2 ≡ l → l < 2 → m % 2 ≡ 0 → (e ≡ m) ⊎ ((m % 2 ≡ 0) × (e % 2 ≡ 1))
    by_last zero last below even =
        let near_too : IsFractionNearestWhole a b e = record {
          near = λ x. subst (λ g. g ≤ distance_from_fraction a b x) (sym same) (is.near x);
          even_on_tie = λ x _. inr last;
        } in
        inl ((law a b some).1 e near_too ∙ sym ((law a b some).1 m is))
    by_last (suc zero) last below even = inr (even, last)
    by_last (suc (suc l)) last below even = absurd (omega arith)
