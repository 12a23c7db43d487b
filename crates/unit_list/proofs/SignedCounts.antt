-- The counts of a number with a sign.
use Rattle.std.proofs.Common.{◌≡◌, ◌<◌, ◌*◌, ◌*ℤ◌, ◌+ℤ◌, ℕ, ℤ, pos, negsuc, neg_ℤ, unsigned_abs, arith, refl}
use Rattle.std.proofs.Common.{sym, ap, subst, ◌∙◌}
use Rattle.std.specs.Prelude.{Bool, true, false, List, [], ◌∷◌, length, map, All, int_lt}
use Rattle.std.proofs.lemmas.Int.{ints}
use Rattle.std.proofs.lemmas.List.{length-map}
use Rattle.std.proofs.lemmas.List.Elements.{All-head, All-map, All-tail, All-weaker}
use Rattle.std.specs.Int.{IsGcd}
use Rattle.std.proofs.Math.IntN.{neg_ℤ-+ℤ}
use Rattle.frac128.specs.Divisors.{LcmLaw}
use Rattle.frac128.specs.Fraction.{AreEquivalentFractions, Fraction, IsReducedFraction, opposite_fraction}
use Rattle.frac128.specs.Fraction.{whole_fraction}
use Rattle.frac128.specs.Steps.{ReducedFractionLaw, fraction_quotient, lowest_terms}
use Rattle.frac128.specs.Exact.{exact_fraction_product, exact_fraction_sum}
use Rattle.unit_list.specs.Counts.{AreGreatestUnitCounts, IsSplitIntoUnits, IsUnitNumber, UnitSplitLaw}
use Rattle.unit_list.specs.Counts.{count_magnitude_quotient, split_number, total_of_unit_counts}
use Rattle.frac128.specs.Sign.{fraction_magnitude, fraction_negated_if, is_negative_fraction}
use Rattle.unit_list.specs.Splits.{counts_of_units, last_of_units, nearest_unit_count, rounded_to_unit_if}
use Rattle.unit_list.proofs.PlainCounts.{AreCounts, counts_of_units_are, split_step_first_succeeds}
use Rattle.unit_list.proofs.PlainCounts.{split_step_results_are_equal, unit_number_is_natural}
use Rattle.unit_list.proofs.Values.{unit_multiple_value, unit_own_value, unit_quotient_is_reduced}
use Rattle.general_lemmas.proofs.Integers.{abs-neg, neg-times}

-- the sum of negated counts is the negative of their sum
pub total_of_unit_counts-negated : (counts units : List Fraction) → All IsUnitNumber units
    → total_of_unit_counts (map opposite_fraction counts) units ≡ opposite_fraction (total_of_unit_counts counts units)
total_of_unit_counts-negated [] units are = refl
total_of_unit_counts-negated (count ∷ counts) [] are = refl
total_of_unit_counts-negated (count ∷ counts) (unit ∷ units) are =
    let natural = unit_number_is_natural unit (All-head IsUnitNumber unit units are) in
    ap (exact_fraction_sum (exact_fraction_product (opposite_fraction count) unit))
    (total_of_unit_counts-negated counts units (All-tail IsUnitNumber unit units are))
    ∙ ap (λ z. record { num = z; den = count.den * unit.den * (total_of_unit_counts counts units).den })
    (ap (λ u. neg_ℤ count.num *ℤ u *ℤ pos (total_of_unit_counts counts units).den +ℤ neg_ℤ
    (total_of_unit_counts counts units).num
    *ℤ pos (count.den * unit.den)) natural.num_is
    ∙ turned count.num (total_of_unit_counts counts units).num natural.num (total_of_unit_counts counts units).den
    (count.den * unit.den)
    ∙ sym (ap (λ u. neg_ℤ
    (count.num *ℤ u *ℤ pos (total_of_unit_counts counts units).den +ℤ (total_of_unit_counts counts units).num
    *ℤ pos (count.den * unit.den))) natural.num_is))
  where
    turned : (z t : ℤ) (n d k : ℕ)
        → neg_ℤ z *ℤ pos n *ℤ pos d +ℤ neg_ℤ t *ℤ pos k ≡ neg_ℤ (z *ℤ pos n *ℤ pos d +ℤ t *ℤ pos k)
    turned z t n d k =
        ap (λ u. u *ℤ pos d +ℤ neg_ℤ t *ℤ pos k) (sym (neg-times z n))
        ∙ ap (λ u. u +ℤ neg_ℤ t *ℤ pos k) (sym (neg-times (z *ℤ pos n) d))
        ∙ ap (λ u. neg_ℤ (z *ℤ pos n *ℤ pos d) +ℤ u) (sym (neg-times t k))
        ∙ sym (neg_ℤ-+ℤ (z *ℤ pos n *ℤ pos d) (t *ℤ pos k))

-- counts that keep their sign do not change
pub unit_counts-plain : (counts : List Fraction) → map (fraction_negated_if false) counts ≡ counts
unit_counts-plain [] = refl
unit_counts-plain (count ∷ counts) = ap (λ xs. count ∷ xs) (unit_counts-plain counts)

-- the magnitudes of negated counts are those of the counts
unit_counts-negated_magnitudes : (counts : List Fraction)
    → map fraction_magnitude (map (fraction_negated_if true) counts) ≡ map fraction_magnitude counts
unit_counts-negated_magnitudes [] = refl
unit_counts-negated_magnitudes (count ∷ counts) =
    ap (λ n. record {
      num =
          pos n;
      den = count.den;
    } ∷ map fraction_magnitude (map (fraction_negated_if true) counts)) (abs-neg count.num)
    ∙ ap (λ xs. fraction_magnitude count ∷ xs) (unit_counts-negated_magnitudes counts)

-- a number is its magnitude with its sign
split_number_sign_back : (x : Fraction) → fraction_negated_if (is_negative_fraction x) (fraction_magnitude x) ≡ x
split_number_sign_back x = by_num x.num x.den
  where
    plus : (n : ℕ) → int_lt (pos n) (pos 0) ≡ false
    plus n = grind (arith, ints)

    by_num : (z : ℤ) (d : ℕ) → fraction_negated_if (int_lt z (pos 0)) (record { num = pos (unsigned_abs z); den = d })
        ≡ record { num = z; den = d }
    by_num (pos n) d = ap (λ s. fraction_negated_if s (record { num = pos n; den = d })) (plus n)
    by_num (negsuc n) d = refl

-- negating a fraction preserves lowest terms
negated_count_is_reduced : (x : Fraction) → IsReducedFraction x → IsReducedFraction (opposite_fraction x)
negated_count_is_reduced x is =
    record { den_positive = is.den_positive; coprime = subst (λ n. IsGcd n x.den 1) (sym (abs-neg x.num)) is.coprime }

-- the counts with a sign are those of a split of y
record AreSigned (negative : Bool) (y : Fraction) (units counts : List Fraction) : Type 0 where
  one_each : length counts ≡ length units
  sum : AreEquivalentFractions (total_of_unit_counts counts units) y
  greatest : AreGreatestUnitCounts (fraction_magnitude y) units (map fraction_magnitude counts)
  signs : counts ≡ map (fraction_negated_if negative) (map fraction_magnitude counts)
  lowest : All IsReducedFraction counts

-- the counts of a / b, with a sign, are those of a / b with that sign
signed_unit_split : (negative : Bool) (a b : ℕ) (units counts : List Fraction) → 0 < b → All IsUnitNumber units
    → AreCounts a b units counts
    → AreSigned negative (fraction_negated_if negative (record { num = pos a; den = b })) units
    (map (fraction_negated_if negative) counts)
signed_unit_split false a b units counts some units_are are =
    subst (AreSigned false (record { num = pos a; den = b }) units) (sym (unit_counts-plain counts)) (record {
      one_each = are.one_each;
      sum = ap (λ z. z *ℤ pos b) are.sum.num_is ∙ ap pos are.sum.same;
      greatest = subst (AreGreatestUnitCounts (record { num = pos a; den = b }) units) (sym are.plain)
          (are.greatest (record { num = pos a; den = b })
          (unit_own_value (record { num = pos a; den = b }) a refl some));
      signs = sym (unit_counts-plain (map fraction_magnitude counts) ∙ are.plain);
      lowest = are.lowest;
    })
signed_unit_split true a b units counts some units_are are = record {
  one_each = length-map counts (fraction_negated_if true) ∙ are.one_each;
  sum = subst (λ t. AreEquivalentFractions t (opposite_fraction (record { num = pos a; den = b })))
      (sym (total_of_unit_counts-negated counts units units_are))
      (sym (neg-times (total_of_unit_counts counts units).num b) ∙ ap (λ z. neg_ℤ (z *ℤ pos b)) are.sum.num_is
      ∙ ap (λ n. neg_ℤ (pos n)) are.sum.same ∙ neg-times (pos a) (total_of_unit_counts counts units).den);
  greatest = subst (λ n. AreGreatestUnitCounts (record { num = pos n; den = b }) units
      (map fraction_magnitude (map (fraction_negated_if true) counts))) (sym (abs-neg (pos a)))
      (subst (AreGreatestUnitCounts (record { num = pos a; den = b }) units)
      (sym (unit_counts-negated_magnitudes counts ∙ are.plain))
      (are.greatest (record { num = pos a; den = b }) (unit_own_value (record { num = pos a; den = b }) a refl some)));
  signs = ap (map (fraction_negated_if true)) (sym (unit_counts-negated_magnitudes counts ∙ are.plain));
  lowest = All-map IsReducedFraction (fraction_negated_if true) counts
      (All-weaker IsReducedFraction (λ x. IsReducedFraction (opposite_fraction x)) negated_count_is_reduced counts
      are.lowest);
}

-- the counts are those of a split of x, if y is the number that is split
split_of_signed_counts : (round : Bool) (x y : Fraction) (units counts : List Fraction)
    → y ≡ split_number round (last_of_units units) x
    → AreSigned (is_negative_fraction x) y units counts
    → IsSplitIntoUnits round x units counts
split_of_signed_counts round x y units counts same are = record {
  one_each = are.one_each;
  sum = subst (AreEquivalentFractions (total_of_unit_counts counts units)) same are.sum;
  greatest = subst (λ y. AreGreatestUnitCounts (fraction_magnitude y) units (map fraction_magnitude counts)) same
      are.greatest;
  signs = are.signs;
  lowest = are.lowest;
}

-- the last unit is a unit
pub last_unit_of_split : (units : List Fraction) → 0 < length units → All IsUnitNumber units
    → IsUnitNumber (last_of_units units)
unfolding last_of_units
last_unit_of_split [] some are = absurd (omega arith)
last_unit_of_split (unit ∷ []) some are = All-head IsUnitNumber unit [] are
last_unit_of_split (unit ∷ next ∷ units) some are =
    last_unit_of_split (next ∷ units) (omega arith) (All-tail IsUnitNumber unit (next ∷ units) are)

-- the law that the counts are those of a split
pub unit_split_law : ReducedFractionLaw → LcmLaw → UnitSplitLaw
unit_split_law law multiples false x units counts some many units_are h =
    let inner = split_step_first_succeeds (counts_of_units (fraction_magnitude x) units) _ counts h in
    let are =
    counts_of_units_are law multiples units inner.value (fraction_magnitude x) (unsigned_abs x.num) x.den
    (unit_own_value (fraction_magnitude x) (unsigned_abs x.num) refl some) some units_are many inner.first_is in
    subst (IsSplitIntoUnits false x units) (split_step_results_are_equal _ _ _ refl inner.step_is)
    (split_of_signed_counts false x _ units _ (split_number_sign_back x)
    (signed_unit_split (is_negative_fraction x) (unsigned_abs x.num) x.den units inner.value some units_are are))
unit_split_law law multiples true x units counts some many units_are h =
    let unit = last_of_units units in
    let unit_is = last_unit_of_split units many units_are in
    let natural = unit_number_is_natural unit unit_is in
    let amount = split_step_first_succeeds (rounded_to_unit_if true unit (fraction_magnitude x)) _ counts h in
    let quotient = split_step_first_succeeds (fraction_quotient (fraction_magnitude x) unit) _ amount.value
    amount.first_is in
    let inner = split_step_first_succeeds (counts_of_units amount.value units) _ counts amount.step_is in
    let n = nearest_unit_count quotient.value in
    let value = unit_multiple_value law n natural.num unit amount.value natural.num_is unit_is.denominator
    quotient.step_is in
    let are =
    counts_of_units_are law multiples units inner.value amount.value
    (n * natural.num) unit.den value unit_is.denominator units_are many inner.first_is in
    let quotient_is : quotient.value ≡ count_magnitude_quotient x unit =
    unit_quotient_is_reduced (fraction_magnitude x) unit quotient.value (unsigned_abs x.num) natural.num refl
    natural.num_is some
    natural.some quotient.first_is
    ∙ ap (λ z. lowest_terms (pos (unsigned_abs x.num * unit.den)) (x.den * unsigned_abs z)) (sym natural.num_is) in
    let number_is : record { num = pos (n * natural.num); den = unit.den }
    ≡ exact_fraction_product (whole_fraction (pos (nearest_unit_count (count_magnitude_quotient x unit)))) unit =
    ap (λ z. record { num = pos n *ℤ z; den = unit.den }) (sym natural.num_is)
    ∙ ap (λ d. record { num = pos n *ℤ unit.num; den = d }) (once unit.den)
    ∙ ap (λ q. exact_fraction_product (whole_fraction (pos (nearest_unit_count q))) unit) quotient_is in
    subst (IsSplitIntoUnits true x units) (split_step_results_are_equal _ _ _ refl inner.step_is)
    (split_of_signed_counts true x _ units _ (ap (fraction_negated_if (is_negative_fraction x)) number_is)
    (signed_unit_split (is_negative_fraction x) (n * natural.num) unit.den units inner.value unit_is.denominator
    units_are are))
  where
    once : (d : ℕ) → d ≡ 1 * d
    once d = omega arith
