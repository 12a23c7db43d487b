-- The counts of a split are unique.
use Rattle.std.proofs.Common.{◌≡◌, ◌<◌, ◌≤◌, ◌+◌, ◌-◌, ◌*◌, ◌*ℤ◌, ◌+ℤ◌, ◌<ℤ◌, ◌≤ℤ◌, ℕ, ℤ, pos, negsuc, suc}
use Rattle.std.proofs.Common.{unsigned_abs, arith, refl, sym, ap, ap₂, subst, ◌∙◌}
use Rattle.std.specs.Prelude.{Bool, true, false, List, [], ◌∷◌, length, map, All}
use Rattle.std.specs.List.{AllByRecursion as Each}
use Rattle.std.proofs.lemmas.Int.{ints}
use Rattle.std.proofs.lemmas.List.{length-map}
use Rattle.std.proofs.lemmas.List.Elements.{recursion_from_All}
use Rattle.std.proofs.Math.Nat.{le_of_mul-le-mul_right, lt_of_mul-lt-mul_right, mul-le-mul_right}
use Rattle.std.proofs.Math.Nat.{mul-lt-mul_of_pos_right, mul-pos, eq_of_mul-eq-mul_right}
use Rattle.frac128.specs.Exact.{exact_fraction_difference, exact_fraction_product, exact_fraction_sum}
use Rattle.frac128.specs.Fraction.{AreEquivalentFractions, Fraction, IsReducedFraction, whole_fraction}
use Rattle.frac128.specs.Sign.{fraction_magnitude, fraction_negated_if, is_negative_fraction}
use Rattle.frac128.specs.Steps.{ReducedFractionLaw}
use Rattle.unit_list.specs.Counts.{AreGreatestUnitCounts, IsGreatestUnitCount, IsUnitNumber, UniqueSplitLaw}
use Rattle.unit_list.specs.Counts.{count_magnitude_quotient, split_number, total_of_unit_counts}
use Rattle.unit_list.specs.Splits.{last_of_units, nearest_unit_count}
use Rattle.unit_list.proofs.SignedCounts.{last_unit_of_split, total_of_unit_counts-negated, unit_counts-plain}
use Rattle.unit_list.proofs.PlainCounts.{part_remainder_value, unit_number_is_natural}
use Rattle.unit_list.proofs.Values.{HasValue, unit_count_pos_is_injective, unit_own_value}
use Rattle.general_lemmas.proofs.Integers.{abs-neg}

-- a fraction in lowest terms that is not below 0
record IsPlain (x : Fraction) : Type 0 where
  num : ℕ
  num_is : x.num ≡ pos num
  reduced : IsReducedFraction x

-- the magnitudes of fractions in lowest terms are in lowest terms and have natural numerators
plain_unit_counts : (counts : List Fraction) → Each IsReducedFraction counts
    → Each IsPlain (map fraction_magnitude counts)
plain_unit_counts [] are = tt
plain_unit_counts (count ∷ counts) are = (
  record {
    num = unsigned_abs count.num;
    num_is = refl;
    reduced =
        record { den_positive = are.0.den_positive; coprime = are.0.coprime };
  },
  plain_unit_counts counts are.1,
)

-- a total that is not below 0
record IsNatural (x : Fraction) : Type 0 where
  num : ℕ
  num_is : x.num ≡ pos num
  positive : 0 < x.den

-- the sum of such counts times units has a natural numerator
total_of_units_is_natural : (counts units : List Fraction) → Each IsPlain counts → Each IsUnitNumber units
    → IsNatural (total_of_unit_counts counts units)
total_of_units_is_natural [] units are units_are = record { num = 0; num_is = refl; positive = omega arith }
total_of_units_is_natural (count ∷ counts) [] are units_are = record { num = 0; num_is = refl; positive = omega arith }
total_of_units_is_natural (count ∷ counts) (unit ∷ units) are units_are =
    let rest = total_of_units_is_natural counts units are.1 units_are.1 in
    let natural = unit_number_is_natural unit units_are.0 in
    record {
      num = are.0.num * natural.num * (total_of_unit_counts counts units).den + rest.num * (count.den * unit.den);
      num_is = ap (λ z. z *ℤ unit.num *ℤ pos (total_of_unit_counts counts units).den +ℤ
          (total_of_unit_counts counts units).num
          *ℤ pos (count.den * unit.den)) are.0.num_is
          ∙ ap (λ z. pos are.0.num *ℤ z *ℤ pos (total_of_unit_counts counts units).den +ℤ
          (total_of_unit_counts counts units).num
          *ℤ pos (count.den * unit.den)) natural.num_is
          ∙ ap (λ z. pos (are.0.num * natural.num * (total_of_unit_counts counts units).den) +ℤ z *ℤ pos
          (count.den * unit.den))
          rest.num_is;
      positive = mul-pos {m = count.den * unit.den} (mul-pos are.0.reduced.den_positive units_are.0.denominator)
          rest.positive;
    }

-- ---- the greatest count

-- k is the greatest whole number of times that the unit is in a / b
record AreBounds (a b c d k : ℕ) : Type 0 where
  low : k * c * b ≤ a * d
  high : a * d < (k + 1) * c * b

-- the order of integers that are not below 0 is that of natural numbers
unit_count_order : (m n : ℕ) → pos m ≤ℤ pos n → m ≤ n
unit_count_order m n h = omega (arith, ints)

-- the strict order of integers that are not below 0 is that of natural numbers
unit_count_strict_order : (m n : ℕ) → pos m <ℤ pos n → m < n
unit_count_strict_order m n h = omega (arith, ints)

-- a greatest count is within these bounds
greatest_unit_count_bounds : (y unit count : Fraction) (a b c k : ℕ) → HasValue y a b → 0 < b → unit.num ≡ pos c
    → count ≡ whole_fraction (pos k)
    → IsGreatestUnitCount y unit count
    → AreBounds a b c unit.den k
greatest_unit_count_bounds y unit count a b c k is some_b c_is count_is greatest =
    let at : IsGreatestUnitCount y unit (whole_fraction (pos k)) = subst (IsGreatestUnitCount y unit) count_is greatest
    in
    let leaves : k * c * y.den ≤ is.num * (1 * unit.den) = unit_count_order _ _ (rw (c_is, is.num_is) at at.is_at_most)
    in
    let next : is.num * (1 * unit.den) < (k + 1) * c * y.den =
    unit_count_strict_order _ _ (rw (c_is, is.num_is) at at.next_is_more) in
    record {
      low = below is.num y.den unit.den is.positive is.same leaves;
      high =
          above is.num y.den unit.den is.positive is.same next;
    }
  where
    turn : (n e d : ℕ) → n * b ≡ a * e → n * (1 * d) * b ≡ a * d * e
    turn n e d same = first n d ∙ ap (λ z. z * d) same ∙ second e d
      where
        first : (n d : ℕ) → n * (1 * d) * b ≡ n * b * d
        first n d = omega arith

        second : (e d : ℕ) → a * e * d ≡ a * d * e
        second e d = omega arith

    below : (n e d : ℕ) → 0 < e → n * b ≡ a * e → k * c * e ≤ n * (1 * d) → k * c * b ≤ a * d
    below n e d some same h =
        let times : k * c * e * b ≤ n * (1 * d) * b = mul-le-mul_right b h in
        let both : k * c * b * e ≤ a * d * e = rw (order e, ← turn n e d same) times in
        le_of_mul-le-mul_right both some
      where
        order : (e : ℕ) → k * c * b * e ≡ k * c * e * b
        order e = omega arith

    above : (n e d : ℕ) → 0 < e → n * b ≡ a * e → n * (1 * d) < (k + 1) * c * e → a * d < (k + 1) * c * b
    above n e d some same h =
        let times : n * (1 * d) * b < (k + 1) * c * e * b = mul-lt-mul_of_pos_right h some_b in
        let both : a * d * e < (k + 1) * c * b * e = rw (order e, ← turn n e d same) times in
        lt_of_mul-lt-mul_right e both
      where
        order : (e : ℕ) → (k + 1) * c * b * e ≡ (k + 1) * c * e * b
        order e = omega arith

-- two greatest counts are equal
greatest_unit_count_is_unique : (a b c d j k : ℕ) → 0 < c * b → AreBounds a b c d j → AreBounds a b c d k → j ≡ k
greatest_unit_count_is_unique a b c d j k some first second = same (less j k first.low second.high)
    (less k j second.low first.high)
  where
    less : (m n : ℕ) → m * c * b ≤ a * d → a * d < (n + 1) * c * b → m < n + 1
    less m n low high = lt_of_mul-lt-mul_right (c * b) (between _ _ _ _ _ (order m) low high (order (n + 1)))
      where
        order : (m : ℕ) → m * c * b ≡ m * (c * b)
        order m = omega arith

        between : (x l h u v : ℕ) → l ≡ x → l ≤ h → h < u → u ≡ v → x < v
        between x l h u v p low high q = omega arith

    same : j < k + 1 → k < j + 1 → j ≡ k
    same p q = omega arith

-- ---- the sum of the other counts

-- if a count times a unit and a remainder add up to a value, the remainder has the value that is left
split_rest_value : (count c a b left : ℕ) (unit rest : Fraction) → unit.num ≡ pos c → IsNatural rest
    → left + count * c * b ≡ a * unit.den
    → HasValue (exact_fraction_sum (exact_fraction_product (whole_fraction (pos count)) unit) rest) a b
    → HasValue rest left (b * unit.den)
split_rest_value count c a b left unit rest c_is natural left_is is = record {
  num = natural.num;
  num_is = natural.num_is;
  positive = natural.positive;
  same = settled natural.num rest.den unit.den is.num whole_unit_count is.same left_is;
}
  where
    whole_unit_count : is.num ≡ count * c * rest.den + natural.num * (1 * unit.den)
    whole_unit_count = unit_count_pos_is_injective _ _ (sym is.num_is
        ∙ ap (λ z. pos count *ℤ z *ℤ pos rest.den +ℤ rest.num *ℤ pos (1 * unit.den)) c_is
        ∙ ap (λ z. pos (count * c * rest.den) +ℤ z *ℤ pos (1 * unit.den)) natural.num_is)

    settled : (n e d s : ℕ) → s ≡ count * c * e + n * (1 * d) → s * b ≡ a * (1 * d * e) → left + count * c * b ≡ a * d
        → n * (b * d) ≡ left * e
    settled n e d s s_is same parts =
        same_sum _ _ _ (gather n e d ∙ ap (λ z. z * b) (sym s_is) ∙ same ∙ turn e d ∙ ap (λ z. z * e) (sym parts)
        ∙ spread e)
      where
        gather : (n e d : ℕ) → n * (b * d) + count * c * e * b ≡ (count * c * e + n * (1 * d)) * b
        gather n e d = omega arith

        turn : (e d : ℕ) → a * (1 * d * e) ≡ a * d * e
        turn e d = omega arith

        spread : (e : ℕ) → (left + count * c * b) * e ≡ left * e + count * c * e * b
        spread e = omega arith

        same_sum : (m n s : ℕ) → m + s ≡ n + s → m ≡ n
        same_sum m n s h = omega arith

-- the last count times its unit has the value that is left
last_unit_count_value : (c a b : ℕ) (unit count : Fraction) → unit.num ≡ pos c → (is : IsPlain count)
    → HasValue (total_of_unit_counts (count ∷ []) (unit ∷ [])) a b
    → is.num * (c * b) ≡ a * unit.den * count.den
last_unit_count_value c a b unit count c_is is value = gather is.num ∙ ap (λ z. z * b) (sym whole_unit_count)
    ∙ value.same
    ∙ turn count.den unit.den
  where
    whole_unit_count : value.num ≡ is.num * c * 1 + 0 * (count.den * unit.den)
    whole_unit_count = unit_count_pos_is_injective _ _ (sym value.num_is
        ∙ ap (λ z. z *ℤ unit.num *ℤ pos 1 +ℤ pos 0 *ℤ pos (count.den * unit.den)) is.num_is
        ∙ ap (λ z. pos is.num *ℤ z *ℤ pos 1 +ℤ pos 0 *ℤ pos (count.den * unit.den)) c_is)

    gather : (n : ℕ) → n * (c * b) ≡ (n * c * 1 + 0 * (count.den * unit.den)) * b
    gather n = omega arith

    turn : (e d : ℕ) → a * (e * d * 1) ≡ a * d * e
    turn e d = omega arith

-- two last counts in lowest terms with the same value are equal
last_unit_count_is_unique : ReducedFractionLaw → (k l : ℕ) (count other : Fraction) (is : IsPlain count)
    (of : IsPlain other) → 0 < k
    → is.num * k ≡ l * count.den → of.num * k ≡ l * other.den → count ≡ other
last_unit_count_is_unique law k l count other is of some first second =
    let cross : is.num * other.den ≡ of.num * count.den =
    eq_of_mul-eq-mul_right k some _ _ (crossed is.num of.num count.den other.den first second) in
    let same : AreEquivalentFractions count other =
    ap (λ z. z *ℤ pos other.den) is.num_is ∙ ap pos cross ∙ ap (λ z. z *ℤ pos count.den) (sym of.num_is) in
    let unique = (law other.num other.den of.reduced.den_positive).2 in
    unique count is.reduced same ∙ sym (unique other of.reduced refl)
  where
    crossed : (m n d e : ℕ) → m * k ≡ l * d → n * k ≡ l * e → m * e * k ≡ n * d * k
    crossed m n d e p q = left m e ∙ ap (λ z. z * e) p ∙ across d e ∙ ap (λ z. z * d) (sym q) ∙ right n d
      where
        left : (m e : ℕ) → m * e * k ≡ m * k * e
        left m e = omega arith

        across : (d e : ℕ) → l * d * e ≡ l * e * d
        across d e = omega arith

        right : (n d : ℕ) → n * k * d ≡ n * d * k
        right n d = omega arith

-- ---- the counts of a value

-- a whole count is that of its natural numerator
whole_unit_count : (count : Fraction) (is : IsPlain count) → count ≡ whole_fraction count.num
    → count ≡ whole_fraction (pos is.num)
whole_unit_count count is h = h ∙ ap whole_fraction is.num_is

-- two lists of counts that add up to the same value, each but the last the greatest possible, are equal
unit_counts_are_unique : ReducedFractionLaw → (units ms ns : List Fraction) (y : Fraction) (a b : ℕ) → HasValue y a b
    → 0 < b
    → Each IsUnitNumber units
    → Each IsPlain ms → Each IsPlain ns
    → length ms ≡ length units → length ns ≡ length units → AreGreatestUnitCounts y units ms
    → AreGreatestUnitCounts y units ns
    → HasValue (total_of_unit_counts ms units) a b → HasValue (total_of_unit_counts ns units) a b → ms ≡ ns
unit_counts_are_unique law [] [] [] y a b is some units_are plain others one_each others_each greatest others_greatest
    value
    others_value = refl
unit_counts_are_unique law [] [] (n ∷ ns) y a b is some units_are plain others one_each others_each greatest
    others_greatest value
    others_value = absurd (omega arith)
unit_counts_are_unique law [] (m ∷ ms) ns y a b is some units_are plain others one_each others_each greatest
    others_greatest value
    others_value = absurd (omega arith)
unit_counts_are_unique law (unit ∷ units) [] ns y a b is some units_are plain others one_each others_each greatest
    others_greatest
    value others_value = absurd (omega arith)
unit_counts_are_unique law (unit ∷ units) (m ∷ ms) [] y a b is some units_are plain others one_each others_each greatest
    others_greatest value others_value = absurd (omega arith)
unit_counts_are_unique law (unit ∷ []) (m ∷ []) (n ∷ []) y a b is some units_are plain others one_each others_each
    greatest
    others_greatest value others_value =
    let natural = unit_number_is_natural unit units_are.0 in
    let same = last_unit_count_is_unique law (natural.num * b) (a * unit.den) m n plain.0 others.0
    (mul-pos natural.some some)
    (last_unit_count_value natural.num a b unit m natural.num_is plain.0 value)
    (last_unit_count_value natural.num a b unit n natural.num_is others.0 others_value) in
    ap (λ z. z ∷ []) same
unit_counts_are_unique law (unit ∷ []) (m ∷ []) (n ∷ o ∷ ns) y a b is some units_are plain others one_each others_each
    greatest
    others_greatest value others_value = absurd (omega arith)
unit_counts_are_unique law (unit ∷ []) (m ∷ l ∷ ms) (n ∷ ns) y a b is some units_are plain others one_each others_each
    greatest
    others_greatest value others_value = absurd (omega arith)
unit_counts_are_unique law (unit ∷ next ∷ units) (m ∷ ms) (n ∷ ns) y a b is some units_are plain others one_each
    others_each
    greatest others_greatest value others_value =
    let natural = unit_number_is_natural unit units_are.0 in
    let c = natural.num in
    let d = unit.den in
    let k = plain.0.num in
    let m_is : m ≡ whole_fraction (pos k) = whole_unit_count m plain.0 greatest.0.is_whole in
    let n_is : n ≡ whole_fraction (pos others.0.num) = whole_unit_count n others.0 others_greatest.0.is_whole in
    let bounds = greatest_unit_count_bounds y unit m a b c k is some natural.num_is m_is greatest.0 in
    let others_bounds = greatest_unit_count_bounds y unit n a b c others.0.num is some natural.num_is n_is
    others_greatest.0 in
    let same : m ≡ n =
    m_is ∙ ap (λ j. whole_fraction (pos j))
    (greatest_unit_count_is_unique a b c d k others.0.num (mul-pos natural.some some) bounds others_bounds)
    ∙ sym n_is in
    let left = a * d - k * c * b in
    let left_is : left + k * c * b ≡ a * d = together (a * d) (k * c * b) bounds.low in
    let rest = total_of_units_is_natural ms (next ∷ units) plain.1 units_are.1 in
    let others_rest = total_of_units_is_natural ns (next ∷ units) others.1 units_are.1 in
    let first = subst (λ z.
    HasValue (exact_fraction_sum (exact_fraction_product z unit) (total_of_unit_counts ms (next ∷ units))) a b) m_is
    value in
    let second = subst (λ z.
    HasValue (exact_fraction_sum (exact_fraction_product z unit) (total_of_unit_counts ns (next ∷ units))) a b)
    (sym same ∙ m_is) others_value in
    ap₂ (λ z zs. z ∷ zs) same
    (unit_counts_are_unique law (next ∷ units) ms ns (exact_fraction_difference y (exact_fraction_product m unit)) left
    (b * d)
    (part_remainder_value y unit m a b c k left is natural.num_is units_are.0.denominator m_is left_is some)
    (mul-pos some units_are.0.denominator)
    units_are.1 plain.1 others.1 (omega arith) (omega arith)
    greatest.1 (subst (λ z. AreGreatestUnitCounts (exact_fraction_difference y (exact_fraction_product z unit))
    (next ∷ units) ns) (sym same) others_greatest.1)
    (split_rest_value k c a b left unit (total_of_unit_counts ms (next ∷ units)) natural.num_is rest left_is first)
    (split_rest_value k c a b left unit (total_of_unit_counts ns (next ∷ units)) natural.num_is others_rest left_is
    second))
  where
    together : (m n : ℕ) → n ≤ m → m - n + n ≡ m
    together m n h = omega arith

-- ---- with the sign

-- the magnitude of a product is the product of the magnitudes
unit_count_abs-times : (z : ℤ) (k : ℕ) → unsigned_abs (z *ℤ pos k) ≡ unsigned_abs z * k
unit_count_abs-times (pos n) k = refl
unit_count_abs-times (negsuc n) k = abs-neg (pos (suc n * k))

-- the magnitudes of counts add up to the magnitude of their sum
unit_count_magnitudes_value : (negative : Bool) (counts units : List Fraction) (y : Fraction) → Each IsPlain counts
    → All IsUnitNumber units
    → AreEquivalentFractions (total_of_unit_counts (map (fraction_negated_if negative) counts) units) y
    → HasValue (total_of_unit_counts counts units) (unsigned_abs y.num) y.den
unit_count_magnitudes_value negative counts units y plain units_are same =
    let natural = total_of_units_is_natural counts units plain (recursion_from_All IsUnitNumber units units_are) in
    record {
      num = natural.num;
      num_is = natural.num_is;
      positive = natural.positive;
      same = by_sign negative natural.num natural.num_is same;
    }
  where
    magnitudes : (z : ℤ) (e n : ℕ) → unsigned_abs z ≡ n → z *ℤ pos y.den ≡ y.num *ℤ pos e
        → n * y.den ≡ unsigned_abs y.num * e
    magnitudes z e n n_is h = ap (λ m. m * y.den) (sym n_is) ∙ sym (unit_count_abs-times z y.den) ∙ ap unsigned_abs h
        ∙ unit_count_abs-times y.num e

    by_sign : (negative : Bool) (n : ℕ) → (total_of_unit_counts counts units).num ≡ pos n
        → AreEquivalentFractions (total_of_unit_counts (map (fraction_negated_if negative) counts) units) y
        → n * y.den ≡ unsigned_abs y.num * (total_of_unit_counts counts units).den
    by_sign false n n_is h =
        magnitudes _ _ n (ap unsigned_abs n_is)
        (subst (λ cs. AreEquivalentFractions (total_of_unit_counts cs units) y) (unit_counts-plain counts) h)
    by_sign true n n_is h =
        magnitudes _ _ n (abs-neg (total_of_unit_counts counts units).num ∙ ap unsigned_abs n_is)
        (subst (λ t. AreEquivalentFractions t y) (total_of_unit_counts-negated counts units units_are) h)

-- the number to split has a denominator
split_denominator : (round : Bool) (x : Fraction) (units : List Fraction) → 0 < x.den → 0 < length units
    → All IsUnitNumber units
    → 0 < (split_number round (last_of_units units) x).den
split_denominator false x units some many units_are = some
split_denominator true x units some many units_are =
    by_sign (is_negative_fraction x) (last_unit_of_split units many units_are).denominator
  where
    by_sign : (negative : Bool) → 0 < (last_of_units units).den
        → 0 < (fraction_negated_if negative
        (exact_fraction_product
        (whole_fraction (pos (nearest_unit_count (count_magnitude_quotient x (last_of_units units)))))
        (last_of_units units))).den
    by_sign false h = omega arith
    by_sign true h = omega arith

-- the law that the counts are unique
pub unique_split_law : ReducedFractionLaw → UniqueSplitLaw
unique_split_law law round x units counts others some many units_are first second =
    let y = split_number round (last_of_units units) x in
    let negative = is_negative_fraction x in
    let ms = map fraction_magnitude counts in
    let ns = map fraction_magnitude others in
    let plain = plain_unit_counts counts (recursion_from_All IsReducedFraction counts first.lowest) in
    let others_plain = plain_unit_counts others (recursion_from_All IsReducedFraction others second.lowest) in
    let denominator = split_denominator round x units some many units_are in
    let same =
    unit_counts_are_unique law units ms ns (fraction_magnitude y) (unsigned_abs y.num) y.den
    (unit_own_value (fraction_magnitude y) (unsigned_abs y.num) refl denominator) denominator
    (recursion_from_All IsUnitNumber units units_are) plain others_plain
    (length-map counts fraction_magnitude ∙ first.one_each)
    (length-map others fraction_magnitude ∙ second.one_each)
    first.greatest second.greatest
    (unit_count_magnitudes_value negative ms units y plain units_are
    (subst (λ cs. AreEquivalentFractions (total_of_unit_counts cs units) y) first.signs first.sum))
    (unit_count_magnitudes_value negative ns units y others_plain units_are
    (subst (λ cs. AreEquivalentFractions (total_of_unit_counts cs units) y) second.signs second.sum)) in
    first.signs ∙ ap (map (fraction_negated_if negative)) same ∙ sym second.signs
