-- The whole number nearest to a ratio.
use Rattle.std.proofs.Common.{◌≡◌, ◌<◌, ◌≤◌, ◌+◌, ◌-◌, ◌*◌, ◌/◌, ◌%◌, ℕ, suc, zero, arith, refl, sym, ap, ◌∙◌, inl, inr}
use Rattle.std.specs.Prelude.{◌⊎◌}
use Rattle.std.specs.Int.{abs_diff}
use Rattle.std.specs.Ordering.{MatchOrdering, nat_cmp}
use Rattle.std.specs.declared.cmp.Ordering.{Ordering}
use Rattle.std.specs.declared.cmp.Ordering.TheVariants.{Less, Equal, Greater}
use Rattle.std.proofs.lemmas.Bool.{cases_lt}
use Rattle.std.proofs.lemmas.Cmp.{ranked}
use Rattle.std.proofs.Math.Nat.{div-add-mod}
use Rattle.frac128.specs.Nearest.{FractionNearestWholeLaw, IsFractionNearestWhole, distance_from_fraction}
use Rattle.frac128.specs.Nearest.{fraction_nearest_whole, whole_by_fraction_part}

-- `g` is `b` times the distance of `e` from the ratio, whose whole part is `q` and whose remainder is `r`: `e` is `j`
-- steps below `q`, or `j` steps above `q + 1`
data IsAway (b q r e g : ℕ) : Type 0 where
  low : (j : ℕ) → q ≡ e + j → g ≡ j * b + r → IsAway b q r e g
  high : (j : ℕ) → e ≡ q + 1 + j → g + r ≡ j * b + b → IsAway b q r e g

-- each whole number has such a distance
whole_away_from_fraction : (a b q r e : ℕ) → b * q + r ≡ a → r < b → IsAway b q r e (distance_from_fraction a b e)
whole_away_from_fraction a b q r e whole part = elim (cases_lt q e) [
  | inl h ↦ above (e - q - 1) (omega arith)
  | inr h ↦ below (q - e) (omega arith)
]
  where
    up : (x z : ℕ) → abs_diff x (x + z) ≡ z
    up x z = omega arith

    down : (x z : ℕ) → abs_diff (x + z) x ≡ z
    down x z = omega arith

    below : (j : ℕ) → q ≡ e + j → IsAway b q r e (distance_from_fraction a b e)
    below j is =
        let a_is : a ≡ e * b + (j * b + r) = sym whole ∙ ap (λ m. b * m + r) is ∙ spread j in
        low j is (ap (λ m. abs_diff m (e * b)) a_is ∙ down (e * b) (j * b + r))
      where
        spread : (j : ℕ) → b * (e + j) + r ≡ e * b + (j * b + r)
        spread j = omega arith

    above : (j : ℕ) → e ≡ q + 1 + j → IsAway b q r e (distance_from_fraction a b e)
    above j is =
        let up_to : e * b ≡ a + (j * b + (b - r)) = ap (λ m. m * b) is ∙ spread j ∙ omega arith in
        let gap : distance_from_fraction a b e ≡ j * b + (b - r) = ap (abs_diff a) up_to ∙ up a (j * b + (b - r)) in
        high j is (omega arith)
      where
        spread : (j : ℕ) → (q + 1 + j) * b ≡ b * q + (j * b + b)
        spread j = omega arith

-- the distance of the whole part is the remainder
whole_part_away_from_fraction : (b q r g : ℕ) → IsAway b q r q g → g ≡ r
whole_part_away_from_fraction b q r g (low zero is gap) = omega arith
whole_part_away_from_fraction b q r g (low (suc j) is gap) = absurd (omega arith)
whole_part_away_from_fraction b q r g (high j is gap) = absurd (omega arith)

-- the distance of the next number and the remainder add up to the divisor
next_whole_away_from_fraction : (b q r g : ℕ) → IsAway b q r (q + 1) g → g + r ≡ b
next_whole_away_from_fraction b q r g (low j is gap) = absurd (omega arith)
next_whole_away_from_fraction b q r g (high zero is gap) = omega arith
next_whole_away_from_fraction b q r g (high (suc j) is gap) = absurd (omega arith)

-- if the remainder is at most half of the divisor, no number is nearer than the whole part
whole_part_is_nearest : (b q r e g f : ℕ) → g ≡ r → 2 * r ≤ b → IsAway b q r e f → g ≤ f
whole_part_is_nearest b q r e g f own half (low j is gap) = omega arith
whole_part_is_nearest b q r e g f own half (high j is gap) = omega arith

-- if the remainder is at least half of the divisor, no number is nearer than the next number
next_whole_is_nearest : (b q r e g f : ℕ) → g + r ≡ b → b ≤ 2 * r → IsAway b q r e f → g ≤ f
next_whole_is_nearest b q r e g f own half (low j is gap) = omega arith
next_whole_is_nearest b q r e g f own half (high j is gap) = omega arith

-- if the remainder is less than half of the divisor, no other number is as near as the whole part
whole_part_is_only_nearest : (b q r e g f : ℕ) → 0 < b → g ≡ r → 2 * r < b → f ≡ g → IsAway b q r e f → e ≡ q
whole_part_is_only_nearest b q r e g f some own half same (low zero is gap) = omega arith
whole_part_is_only_nearest b q r e g f some own half same (low (suc j) is gap) = absurd (omega arith)
whole_part_is_only_nearest b q r e g f some own half same (high j is gap) = absurd (omega arith)

-- if the remainder is more than half of the divisor, no other number is as near as the next number
next_whole_is_only_nearest : (b q r e g f : ℕ) → 0 < b → g + r ≡ b → b < 2 * r → f ≡ g → IsAway b q r e f → e ≡ q + 1
next_whole_is_only_nearest b q r e g f some own half same (low j is gap) = absurd (omega arith)
next_whole_is_only_nearest b q r e g f some own half same (high zero is gap) = omega arith
next_whole_is_only_nearest b q r e g f some own half same (high (suc j) is gap) = absurd (omega arith)

-- `fraction_nearest_whole` gives a nearest number
nearest_whole_is_nearest : (a b : ℕ) → 0 < b → IsFractionNearestWhole a b (fraction_nearest_whole a b)
nearest_whole_is_nearest a b some =
    let whole : b * (a / b) + a % b ≡ a = div-add-mod a b in
    by_order (a / b) (a % b) whole (omega arith) (nat_cmp (2 * (a % b)) b) (ranked (2 * (a % b)) b _ refl)
  where
    by_order : (q r : ℕ) → b * q + r ≡ a → r < b → (order : Ordering)
        → MatchOrdering order (2 * r < b) (2 * r ≡ b) (b < 2 * r)
        → IsFractionNearestWhole a b (whole_by_fraction_part q order)
    by_order q r whole part Less half =
        let own = whole_part_away_from_fraction b q r (distance_from_fraction a b q)
        (whole_away_from_fraction a b q r q whole part) in
        record {
          near = λ e. whole_part_is_nearest b q r e (distance_from_fraction a b q) (distance_from_fraction a b e) own
              (omega arith)
              (whole_away_from_fraction a b q r e whole part);
          even_on_tie = λ e same.
              inl (whole_part_is_only_nearest b q r e (distance_from_fraction a b q) (distance_from_fraction a b e) some
              own half same
              (whole_away_from_fraction a b q r e whole part));
        }
    by_order q r whole part Greater half =
        let own = next_whole_away_from_fraction b q r (distance_from_fraction a b (q + 1))
        (whole_away_from_fraction a b q r (q + 1) whole part) in
        record {
          near = λ e. next_whole_is_nearest b q r e (distance_from_fraction a b (q + 1)) (distance_from_fraction a b e)
              own (omega arith)
              (whole_away_from_fraction a b q r e whole part);
          even_on_tie = λ e same.
              inl (next_whole_is_only_nearest b q r e (distance_from_fraction a b (q + 1))
              (distance_from_fraction a b e) some own half same
              (whole_away_from_fraction a b q r e whole part));
        }
    by_order q r whole part Equal half = by_last (q % 2) refl (omega arith)
      where
        even : (q l : ℕ) → q % 2 ≡ l → l < 2 → (q + l) % 2 ≡ 0
        even q l is below = omega arith

        by_last : (l : ℕ) → q % 2 ≡ l → l < 2 → IsFractionNearestWhole a b (q + q % 2)
        by_last zero is below =
            let n_is : q + q % 2 ≡ q = omega arith in
            rw n_is (record {
              near = λ e. whole_part_is_nearest b q r e (distance_from_fraction a b q) (distance_from_fraction a b e)
                  (whole_part_away_from_fraction b q r (distance_from_fraction a b q)
                  (whole_away_from_fraction a b q r q whole part)) (omega arith)
                  (whole_away_from_fraction a b q r e whole part);
              even_on_tie = λ e same. inr is;
            })
        by_last (suc zero) is below =
            let n_is : q + q % 2 ≡ q + 1 = omega arith in
            rw n_is (record {
              near = λ e. next_whole_is_nearest b q r e (distance_from_fraction a b (q + 1))
                  (distance_from_fraction a b e)
                  (next_whole_away_from_fraction b q r (distance_from_fraction a b (q + 1))
                  (whole_away_from_fraction a b q r (q + 1) whole part)) (omega arith)
                  (whole_away_from_fraction a b q r e whole part);
              even_on_tie = λ e same. inr (even q 1 is below);
            })
        by_last (suc (suc l)) is below = absurd (omega arith)

-- a nearest number is the whole part or the next number
nearest_whole_is_part_or_next : (a b n : ℕ) → 0 < b → IsFractionNearestWhole a b n → (n ≡ a / b) ⊎ (n ≡ a / b + 1)
nearest_whole_is_part_or_next a b n some is =
    let whole : b * (a / b) + a % b ≡ a = div-add-mod a b in
    let q = a / b in
    let r = a % b in
    let part : r < b = omega arith in
    by_place (distance_from_fraction a b n) (is.near q) (is.near (q + 1))
    (whole_away_from_fraction a b q r n whole part)
    (whole_part_away_from_fraction b q r (distance_from_fraction a b q) (whole_away_from_fraction a b q r q whole part))
    (next_whole_away_from_fraction b q r (distance_from_fraction a b (q + 1))
    (whole_away_from_fraction a b q r (q + 1) whole part))
  where
    by_place : (g : ℕ) → g ≤ distance_from_fraction a b (a / b) → g ≤ distance_from_fraction a b (a / b + 1)
        → IsAway b (a / b) (a % b) n g
        → distance_from_fraction a b (a / b) ≡ a % b → distance_from_fraction a b (a / b + 1) + a % b ≡ b
        → (n ≡ a / b) ⊎ (n ≡ a / b + 1)
    by_place g to_whole to_next (low zero is gap) whole_is next_is = inl (omega arith)
    by_place g to_whole to_next (low (suc j) is gap) whole_is next_is = absurd (omega arith)
    by_place g to_whole to_next (high zero is gap) whole_is next_is = inr (omega arith)
    by_place g to_whole to_next (high (suc j) is gap) whole_is next_is = absurd (omega arith)

-- two nearest numbers are equal
nearest_wholes_are_equal : (a b m n : ℕ) → 0 < b → IsFractionNearestWhole a b m → IsFractionNearestWhole a b n → m ≡ n
nearest_wholes_are_equal a b m n some is_m is_n =
    let same : distance_from_fraction a b m ≡ distance_from_fraction a b n =
    both_ways (distance_from_fraction a b m) (distance_from_fraction a b n) (is_m.near n) (is_n.near m) in
    elim (is_n.even_on_tie m same) [
      | inl e ↦ e
      | inr even_n ↦ elim (is_m.even_on_tie n (sym same)) [
        | inl e ↦ sym e
        | inr even_m ↦ of_two (a / b) (nearest_whole_is_part_or_next a b m some is_m)
            (nearest_whole_is_part_or_next a b n some is_n) even_m even_n
      ]
    ]
  where
    both_ways : (x y : ℕ) → x ≤ y → y ≤ x → x ≡ y
    both_ways x y h k = omega arith

    of_two : (q : ℕ) → (m ≡ q) ⊎ (m ≡ q + 1) → (n ≡ q) ⊎ (n ≡ q + 1) → m % 2 ≡ 0 → n % 2 ≡ 0 → m ≡ n
    of_two q (inl p) (inl h) even_m even_n = omega arith
    of_two q (inl p) (inr h) even_m even_n = absurd (omega arith)
    of_two q (inr p) (inl h) even_m even_n = absurd (omega arith)
    of_two q (inr p) (inr h) even_m even_n = omega arith

-- the law of the nearest number
pub fraction_nearest_whole_law : FractionNearestWholeLaw
fraction_nearest_whole_law a b some = (
  nearest_whole_is_nearest a b some,
  λ n is. nearest_wholes_are_equal a b n (fraction_nearest_whole a b) some is
      (nearest_whole_is_nearest a b some),
)
