-- The counts of a number that is not below 0.
use Rattle.std.proofs.Common.{◌≡◌, ◌<◌, ◌≤◌, ◌+◌, ◌-◌, ◌*◌, ◌/◌, ◌%◌, ◌*ℤ◌, ◌+ℤ◌, ◌-ℤ◌, ◌<ℤ◌, ◌≤ℤ◌, ℕ, ℤ, pos, negsuc}
use Rattle.std.proofs.Common.{suc, unsigned_abs, arith, refl, sym, ap, subst, ◌∙◌}
use Rattle.std.specs.Prelude.{List, [], ◌∷◌, length, map, All, Result, Ok, Err}
use Rattle.std.proofs.lemmas.Int.{ints}
use Rattle.std.proofs.lemmas.List.Elements.{All-cons, All-head, All-nil, All-tail}
use Rattle.std.proofs.Math.Nat.{div-add-mod, le_of_mul-le-mul_right, lt_of_mul-lt-mul_right, mod-lt, mul-le-mul_right}
use Rattle.std.proofs.Math.Nat.{mul-lt-mul_of_pos_right, mul-pos}
use Rattle.frac128.specs.declared.fault.FracFault.{FracFault}
use Rattle.frac128.specs.Divisors.{LcmLaw}
use Rattle.frac128.specs.Floor.{fraction_floor}
use Rattle.frac128.specs.Fraction.{Fraction, IsReducedFraction, whole_fraction}
use Rattle.frac128.specs.Steps.{◌>>=◌, ReducedFractionLaw, fraction_product, fraction_quotient}
use Rattle.frac128.specs.Sums.{fraction_difference}
use Rattle.unit_list.specs.declared.part.Part.{Part}
use Rattle.frac128.specs.Exact.{exact_fraction_difference, exact_fraction_product, exact_fraction_sum}
use Rattle.unit_list.specs.Counts.{AreGreatestUnitCounts, IsGreatestUnitCount, IsUnitNumber, total_of_unit_counts}
use Rattle.frac128.specs.Sign.{fraction_magnitude}
use Rattle.unit_list.specs.Splits.{counts_of_units, part_by_unit}
use Rattle.unit_list.proofs.Values.{HasValue, unit_difference_value, unit_floor_value, unit_multiple_value}
use Rattle.unit_list.proofs.Values.{unit_quotient_is_lowest, unit_quotient_value, whole_count_is_lowest}

-- the value with which a step that succeeds continues
pub record Goes {A B : Type 0} (first : Result A FracFault) (step : A → Result B FracFault) (answer : B) : Type 0 where
  pub value : A
  pub first_is : first ≡ Ok value
  pub step_is : step value ≡ Ok answer

-- if a step succeeds, its first part does
pub split_step_first_succeeds : {A B : Type 0} (first : Result A FracFault) (step : A → Result B FracFault) (answer : B)
    → (first >>= step) ≡ Ok answer
    → Goes first step answer
split_step_first_succeeds (Ok x) step answer h = record { value = x; first_is = refl; step_is = h }
split_step_first_succeeds (Err fault) step answer h = absurd (cc)

-- two results of the same step are equal
pub split_step_results_are_equal : {A : Type 0} (result : Result A FracFault) (x y : A) → result ≡ Ok x → result ≡ Ok y
    → x ≡ y
split_step_results_are_equal result x y p q = cc

-- the numerator of a unit is a natural number above 0
pub record HasNatural (unit : Fraction) : Type 0 where
  pub num : ℕ
  pub num_is : unit.num ≡ pos num
  pub some : 0 < num

-- the numerator of a unit is a natural number above 0
pub unit_number_is_natural : (unit : Fraction) → IsUnitNumber unit → HasNatural unit
unit_number_is_natural unit is = by_num unit.num refl is.unit_positive
  where
    by_num : (z : ℤ) → unit.num ≡ z → pos 0 <ℤ z → HasNatural unit
    by_num (pos n) e some = record { num = n; num_is = e; some = omega (arith, ints) }
    by_num (negsuc n) e some = absurd (omega (arith, ints))

-- the part of a / b by a unit c / d: a whole count and a remainder
pub record IsPart (a b c d : ℕ) (part : Part) : Type 0 where
  pub count : ℕ
  pub count_is : part.count ≡ whole_fraction (pos count)
  pub left : ℕ
  pub left_is : left + count * c * b ≡ a * d
  pub next : a * d < (count + 1) * c * b
  pub rest : HasValue part.rest left (b * d)

-- the part of a number by a unit has the greatest count and the remainder that this count leaves
pub part_by_unit_is_greatest : ReducedFractionLaw → LcmLaw → (x unit : Fraction) (a b c : ℕ) (part : Part)
    → HasValue x a b → 0 < b
    → unit.num ≡ pos c
    → 0 < c → 0 < unit.den
    → part_by_unit x unit ≡ Ok part → IsPart a b c unit.den part
part_by_unit_is_greatest law multiples x unit a b c part is some_b c_is some_c some_d h =
    let quotient = split_step_first_succeeds (fraction_quotient x unit) _ part h in
    let taken = split_step_first_succeeds (fraction_product (fraction_floor quotient.value) unit) _ part
    quotient.step_is in
    let rest = split_step_first_succeeds (fraction_difference x taken.value) _ part taken.step_is in
    let q = unit_quotient_value law x unit quotient.value a b c is c_is some_d some_c some_b quotient.first_is in
    let k = q.num / quotient.value.den in
    let floor_is : fraction_floor quotient.value ≡ whole_fraction (pos k) =
    unit_floor_value quotient.value q.num q.num_is in
    let t = unit_multiple_value law k c unit taken.value c_is some_d
    (ap (λ n. fraction_product n unit) (sym floor_is) ∙ taken.first_is) in
    let some_bc : 0 < b * c = mul-pos some_b some_c in
    let low : k * c * b ≤ a * unit.den = at_most q.num quotient.value.den unit.den q.positive some_bc q.same in
    let high : a * unit.den < (k + 1) * c * b =
    below_next q.num quotient.value.den unit.den q.positive some_bc q.same in
    let left_is : (a * unit.den - k * c * b) + k * c * b ≡ a * unit.den = together (a * unit.den) (k * c * b) low in
    record {
      count = k;
      count_is = sym (ap (λ p. p.count) (split_step_results_are_equal _ _ _ refl rest.step_is)) ∙ floor_is;
      left = a * unit.den - k * c * b;
      left_is = left_is;
      next = high;
      rest = subst (λ y. HasValue y (a * unit.den - k * c * b) (b * unit.den))
          (ap (λ p. p.rest) (split_step_results_are_equal _ _ _ refl rest.step_is))
          (unit_difference_value law multiples x taken.value rest.value a b
          (k * c) unit.den _ is t some_b some_d left_is rest.first_is);
    }
  where
    together : (m n : ℕ) → n ≤ m → m - n + n ≡ m
    together m n h = omega arith

    at_most : (n e d : ℕ) → 0 < e → 0 < b * c → n * (b * c) ≡ a * d * e → n / e * c * b ≤ a * d
    at_most n e d some some_bc h =
        let whole : n / e * e ≤ n = quotient_low (n / e) e (n % e) n (div-add-mod n e) in
        let fraction_product : n / e * e * (b * c) ≤ n * (b * c) = mul-le-mul_right (b * c) whole in
        let both : n / e * c * b * e ≤ a * d * e = rw (turn (n / e) e, ← h) fraction_product in
        le_of_mul-le-mul_right both some
      where
        quotient_low : (q e r n : ℕ) → e * q + r ≡ n → q * e ≤ n
        quotient_low q e r n h = omega arith

        turn : (q e : ℕ) → q * c * b * e ≡ q * e * (b * c)
        turn q e = omega arith

    below_next : (n e d : ℕ) → 0 < e → 0 < b * c → n * (b * c) ≡ a * d * e → a * d < (n / e + 1) * c * b
    below_next n e d some some_bc h =
        let whole : n < (n / e + 1) * e = quotient_high (n / e) e (n % e) n (div-add-mod n e) (mod-lt n some) in
        let fraction_product : n * (b * c) < (n / e + 1) * e * (b * c) = mul-lt-mul_of_pos_right whole some_bc in
        let both : a * d * e < (n / e + 1) * c * b * e = rw (turn (n / e) e, ← h) fraction_product in
        lt_of_mul-lt-mul_right e both
      where
        quotient_high : (q e r n : ℕ) → e * q + r ≡ n → r < e → n < (q + 1) * e
        quotient_high q e r n h k = omega arith

        turn : (q e : ℕ) → (q + 1) * c * b * e ≡ (q + 1) * e * (b * c)
        turn q e = omega arith

-- the sum of a whole multiple of a unit and a remainder has the value of the number
part_sum_value : (count c left b : ℕ) (unit rest : Fraction) (a : ℕ) → unit.num ≡ pos c → 0 < unit.den
    → HasValue rest left (b * unit.den)
    → left + count * c * b ≡ a * unit.den
    → HasValue (exact_fraction_sum (exact_fraction_product (whole_fraction (pos count)) unit) rest) a b
part_sum_value count c left b unit rest a c_is some_d is left_is = record {
  num = count * c * rest.den + is.num * (1 * unit.den);
  num_is = ap (λ z. (pos count *ℤ z) *ℤ pos rest.den +ℤ rest.num *ℤ pos (1 * unit.den)) c_is
      ∙ ap (λ z. pos (count * c * rest.den) +ℤ z *ℤ pos (1 * unit.den)) is.num_is;
  positive = mul-pos {m = 1 * unit.den} (once unit.den some_d) is.positive;
  same = spread is.num rest.den unit.den ∙ ap (λ z. count * c * b * rest.den + z) is.same ∙ gather rest.den
      ∙ ap (λ z. z * rest.den) left_is ∙ turn rest.den unit.den;
}
  where
    once : (d : ℕ) → 0 < d → 0 < 1 * d
    once d h = omega arith

    spread : (n e d : ℕ) → (count * c * e + n * (1 * d)) * b ≡ count * c * b * e + n * (b * d)
    spread n e d = omega arith

    gather : (e : ℕ) → count * c * b * e + left * e ≡ (left + count * c * b) * e
    gather e = omega arith

    turn : (e d : ℕ) → a * d * e ≡ a * (1 * d * e)
    turn e d = omega arith

-- the count of a part is the greatest one in each fraction with that value
unit_count_of_part_is_greatest : (y unit count : Fraction) (a b c k : ℕ) → HasValue y a b → 0 < b → unit.num ≡ pos c
    → 0 < unit.den
    → count ≡ whole_fraction (pos k)
    → k * c * b ≤ a * unit.den → a * unit.den < (k + 1) * c * b → IsGreatestUnitCount y unit count
unit_count_of_part_is_greatest y unit count a b c k is some_b c_is some_d count_is low high =
    rw count_is (record {
      is_whole = refl;
      is_at_most = rw (c_is, is.num_is) (natural_at_most _ _ (at_most is.num y.den is.same));
      next_is_more = rw (c_is, is.num_is) (natural_less _ _ (less is.num y.den is.positive is.same));
    })
  where
    natural_at_most : (m n : ℕ) → m ≤ n → pos m ≤ℤ pos n
    natural_at_most m n h = omega (arith, ints)

    natural_less : (m n : ℕ) → m < n → pos m <ℤ pos n
    natural_less m n h = omega (arith, ints)

    at_most : (n e : ℕ) → n * b ≡ a * e → k * c * e ≤ n * (1 * unit.den)
    at_most n e same =
        let fraction_product : k * c * b * e ≤ a * unit.den * e = mul-le-mul_right e low in
        let both : k * c * e * b ≤ n * (1 * unit.den) * b =
        rw (turn e, turn_back n unit.den, same, turn_on e unit.den) fraction_product in
        le_of_mul-le-mul_right both some_b
      where
        turn : (e : ℕ) → k * c * e * b ≡ k * c * b * e
        turn e = omega arith

        turn_back : (n d : ℕ) → n * (1 * d) * b ≡ n * b * d
        turn_back n d = omega arith

        turn_on : (e d : ℕ) → a * e * d ≡ a * d * e
        turn_on e d = omega arith

    less : (n e : ℕ) → 0 < e → n * b ≡ a * e → n * (1 * unit.den) < (k + 1) * c * e
    less n e some same =
        let fraction_product : a * unit.den * e < (k + 1) * c * b * e = mul-lt-mul_of_pos_right high some in
        let both : n * (1 * unit.den) * b < (k + 1) * c * e * b =
        rw (turn e, turn_back n unit.den, same, turn_on e unit.den) fraction_product in
        lt_of_mul-lt-mul_right b both
      where
        turn : (e : ℕ) → (k + 1) * c * e * b ≡ (k + 1) * c * b * e
        turn e = omega arith

        turn_back : (n d : ℕ) → n * (1 * d) * b ≡ n * b * d
        turn_back n d = omega arith

        turn_on : (e d : ℕ) → a * e * d ≡ a * d * e
        turn_on e d = omega arith

-- each fraction with that value has the same remainder
pub part_remainder_value : (y unit count : Fraction) (a b c k left : ℕ) → HasValue y a b → unit.num ≡ pos c
    → 0 < unit.den
    → count ≡ whole_fraction (pos k)
    → left + k * c * b ≡ a * unit.den → 0 < b
    → HasValue (exact_fraction_difference y (exact_fraction_product count unit)) left (b * unit.den)
part_remainder_value y unit count a b c k left is c_is some_d count_is left_is some_b =
    let low : k * c * y.den ≤ is.num * (1 * unit.den) = at_most is.num y.den is.same in
    rw count_is (record {
      num = is.num * (1 * unit.den) - k * c * y.den;
      num_is = rw (c_is, is.num_is) (natural (is.num * (1 * unit.den)) (k * c * y.den) low);
      positive = mul-pos is.positive (once unit.den some_d);
      same = settled is.num y.den unit.den (is.num * (1 * unit.den) - k * c * y.den) is.same
          (together (is.num * (1 * unit.den)) (k * c * y.den) low) left_is;
    })
  where
    natural : (m n : ℕ) → n ≤ m → pos m -ℤ pos n ≡ pos (m - n)
    natural m n h = omega (arith, ints)

    together : (m n : ℕ) → n ≤ m → m - n + n ≡ m
    together m n h = omega arith

    once : (d : ℕ) → 0 < d → 0 < 1 * d
    once d h = omega arith

    at_most : (n e : ℕ) → n * b ≡ a * e → k * c * e ≤ n * (1 * unit.den)
    at_most n e same =
        let low : k * c * b ≤ a * unit.den = smaller (k * c * b) (a * unit.den) left_is in
        let fraction_product : k * c * b * e ≤ a * unit.den * e = mul-le-mul_right e low in
        let both : k * c * e * b ≤ n * (1 * unit.den) * b =
        rw (turn e, turn_back n unit.den, same, turn_on e unit.den) fraction_product in
        le_of_mul-le-mul_right both some_b
      where
        smaller : (m n : ℕ) → left + m ≡ n → m ≤ n
        smaller m n h = omega arith

        turn : (e : ℕ) → k * c * e * b ≡ k * c * b * e
        turn e = omega arith

        turn_back : (n d : ℕ) → n * (1 * d) * b ≡ n * b * d
        turn_back n d = omega arith

        turn_on : (e d : ℕ) → a * e * d ≡ a * d * e
        turn_on e d = omega arith

    settled : (n e d m : ℕ) → n * b ≡ a * e → m + k * c * e ≡ n * (1 * d) → left + k * c * b ≡ a * d
        → m * (b * d) ≡ left * (e * (1 * d))
    settled n e d m same whole_fraction parts =
        let first : m * (b * d) + k * c * e * (b * d) ≡ a * d * (e * d) =
        gather m e d ∙ ap (λ z. z * (b * d)) whole_fraction ∙ turn n d ∙ ap (λ z. z * (d * d)) same ∙ turn_on e d in
        let second : a * d * (e * d) ≡ left * (e * (1 * d)) + k * c * e * (b * d) = ap (λ z. z * (e * d)) (sym parts)
        ∙ split e d in
        same_sum _ _ _ (first ∙ second)
      where
        gather : (m e d : ℕ) → m * (b * d) + k * c * e * (b * d) ≡ (m + k * c * e) * (b * d)
        gather m e d = omega arith

        turn : (n d : ℕ) → n * (1 * d) * (b * d) ≡ n * b * (d * d)
        turn n d = omega arith

        turn_on : (e d : ℕ) → a * e * (d * d) ≡ a * d * (e * d)
        turn_on e d = omega arith

        split : (e d : ℕ) → (left + k * c * b) * (e * d) ≡ left * (e * (1 * d)) + k * c * e * (b * d)
        split e d = omega arith

        same_sum : (m n s : ℕ) → m + s ≡ n + s → m ≡ n
        same_sum m n s h = omega arith

-- the counts of the value a / b
pub record AreCounts (a b : ℕ) (units counts : List Fraction) : Type 0 where
  pub one_each : length counts ≡ length units
  pub sum : HasValue (total_of_unit_counts counts units) a b
  pub greatest : (y : Fraction) → HasValue y a b → AreGreatestUnitCounts y units counts
  pub plain : map fraction_magnitude counts ≡ counts
  pub lowest : All IsReducedFraction counts

-- the counts of a number by some units have the properties that the definition requires
pub counts_of_units_are : ReducedFractionLaw → LcmLaw → (units counts : List Fraction) (x : Fraction) (a b : ℕ)
    → HasValue x a b → 0 < b
    → All IsUnitNumber units → 0 < length units
    → counts_of_units x units ≡ Ok counts → AreCounts a b units counts
unfolding counts_of_units
counts_of_units_are law multiples [] counts x a b is some_b units_are some h = absurd (omega arith)
counts_of_units_are law multiples (unit ∷ []) counts x a b is some_b units_are some h =
    let unit_is : IsUnitNumber unit = All-head IsUnitNumber unit [] units_are in
    let natural = unit_number_is_natural unit unit_is in
    let quotient = split_step_first_succeeds (fraction_quotient x unit) _ counts h in
    let q =
    unit_quotient_value law x unit quotient.value a b natural.num is natural.num_is unit_is.denominator natural.some
    some_b
    quotient.first_is in
    let counts_is : quotient.value ∷ [] ≡ counts = split_step_results_are_equal _ _ _ refl quotient.step_is in
    subst (AreCounts a b (unit ∷ [])) counts_is (record {
      one_each = refl;
      sum = record {
        num = q.num * natural.num * 1 + 0 * (quotient.value.den * unit.den);
        num_is = ap (λ z. (z *ℤ unit.num) *ℤ pos 1 +ℤ pos 0 *ℤ pos (quotient.value.den * unit.den)) q.num_is
            ∙ ap (λ z. (pos q.num *ℤ z) *ℤ pos 1 +ℤ pos 0 *ℤ pos (quotient.value.den * unit.den)) natural.num_is;
        positive = mul-pos {m = quotient.value.den * unit.den} (mul-pos q.positive unit_is.denominator) (omega arith);
        same = spread q.num natural.num quotient.value.den unit.den ∙ q.same ∙ turn unit.den quotient.value.den;
      };
      greatest = λ y value. tt;
      plain = ap (λ z. z ∷ []) (natural_plain quotient.value q.num q.num_is);
      lowest = All-cons IsReducedFraction quotient.value
          [] (unit_quotient_is_lowest law x unit quotient.value is.num natural.num is.num_is natural.num_is is.positive
          natural.some
          quotient.first_is) (All-nil IsReducedFraction);
    })
  where
    spread : (n c e d : ℕ) → (n * c * 1 + 0 * (e * d)) * b ≡ n * (b * c)
    spread n c e d = omega arith

    turn : (d e : ℕ) → a * d * e ≡ a * (e * d * 1)
    turn d e = omega arith

    natural_plain : (q : Fraction) (n : ℕ) → q.num ≡ pos n → fraction_magnitude q ≡ q
    natural_plain q n is =
        ap (λ z. record { num = pos (unsigned_abs z); den = q.den }) is
        ∙ sym (ap (λ z. record { num = z; den = q.den }) is)
counts_of_units_are law multiples (unit ∷ next ∷ units) counts x a b is some_b units_are some h =
    let unit_is : IsUnitNumber unit = All-head IsUnitNumber unit (next ∷ units) units_are in
    let natural = unit_number_is_natural unit unit_is in
    let part = split_step_first_succeeds (part_by_unit x unit) _ counts h in
    let others = split_step_first_succeeds (counts_of_units part.value.rest (next ∷ units)) _ counts part.step_is in
    let taken =
    part_by_unit_is_greatest law multiples x unit a b natural.num part.value is some_b natural.num_is natural.some
    unit_is.denominator
    part.first_is in
    let some_bd : 0 < b * unit.den = mul-pos some_b unit_is.denominator in
    let rest = counts_of_units_are law multiples (next ∷ units) others.value part.value.rest taken.left
    (b * unit.den) taken.rest some_bd
    (All-tail IsUnitNumber unit (next ∷ units) units_are) (omega arith) others.first_is in
    let counts_is : part.value.count ∷ others.value ≡ counts = split_step_results_are_equal _ _ _ refl others.step_is in
    let low : taken.count * natural.num * b ≤ a * unit.den = smaller _ _ _ taken.left_is in
    subst (AreCounts a b (unit ∷ next ∷ units)) counts_is (record {
      one_each = ap suc rest.one_each;
      sum = subst (λ z. HasValue
          (exact_fraction_sum (exact_fraction_product z unit) (total_of_unit_counts others.value (next ∷ units))) a b)
          (sym taken.count_is)
          (part_sum_value taken.count natural.num taken.left b unit
          (total_of_unit_counts others.value (next ∷ units)) a natural.num_is unit_is.denominator rest.sum
          taken.left_is);
      greatest = λ y value. (
        unit_count_of_part_is_greatest y unit part.value.count a b natural.num taken.count value some_b natural.num_is
            unit_is.denominator taken.count_is low taken.next,
        rest.greatest (exact_fraction_difference y (exact_fraction_product part.value.count unit))
            (part_remainder_value y unit part.value.count a b natural.num taken.count taken.left value natural.num_is
            unit_is.denominator taken.count_is taken.left_is some_b),
      );
      plain = ap (λ z. z ∷ map fraction_magnitude others.value)
          (ap fraction_magnitude taken.count_is ∙ sym taken.count_is)
          ∙ ap (λ xs. part.value.count ∷ xs) rest.plain;
      lowest = All-cons IsReducedFraction part.value.count others.value
          (subst IsReducedFraction (sym taken.count_is) (whole_count_is_lowest (pos taken.count))) rest.lowest;
    })
  where
    smaller : (l m n : ℕ) → l + m ≡ n → m ≤ n
    smaller l m n h = omega arith
