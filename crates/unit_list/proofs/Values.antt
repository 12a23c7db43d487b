-- The values of fractions that are not below 0, as ratios of two numbers.
use Rattle.std.proofs.Common.{◌≡◌, ◌<◌, ◌≤◌, ◌+◌, ◌-◌, ◌*◌, ◌/◌, ◌*ℤ◌, ◌-ℤ◌, ℕ, ℤ, pos, suc, zero, unsigned_abs, arith}
use Rattle.std.proofs.Common.{refl, sym, ap, subst, ◌∙◌}
use Rattle.std.specs.Prelude.{◌&&◌, Bool, true, false, Ok, Err, if◌then◌else◌}
use Rattle.std.proofs.lemmas.Int.{ints}
use Rattle.std.proofs.lemmas.Nat.Gcd.{dvd_antisymm, dvd-zero}
use Rattle.std.proofs.Math.Nat.{dvd_refl, one-dvd, dvd-mul_left, dvd-mul_right, eq_of_mul-eq-mul_right}
use Rattle.std.proofs.Math.Nat.{le_of_mul-le-mul_right, mul-div_cancel', mul-le-mul_right, mul-pos}
use Prim.Native.Nat.{◌∣◌}
use Rattle.frac128.specs.declared.fault.FracFault.TheVariants.{Overflow}
use Rattle.std.specs.Int.{int_div_euclid}
use Rattle.frac128.specs.Divisors.{LcmLaw, gcd, lcm}
use Rattle.frac128.specs.Floor.{fraction_floor}
use Rattle.frac128.specs.Fraction.{Fraction, IsReducedFraction, fraction_fits, whole_fraction}
use Rattle.frac128.specs.Steps.{ReducedFractionLaw, fraction_product, fraction_quotient, lowest_terms, ratio}
use Rattle.frac128.specs.Sums.{in_numerator_range, fraction_step_over, fraction_difference, fraction_sum_over}
use Rattle.frac128.specs.Sums.{numerator_over}

-- x has the value a / b
pub record HasValue (x : Fraction) (a b : ℕ) : Type 0 where
  pub num : ℕ
  pub num_is : x.num ≡ pos num
  pub positive : 0 < x.den
  pub same : num * b ≡ a * x.den

-- if a test succeeds with a value, it is that value
split_value_if_ok : {A : Type 0} (b : Bool) (x y : A) → (if b then Ok x else Err Overflow) ≡ Ok y → y ≡ x
split_value_if_ok true x y h = cc
split_value_if_ok false x y h = absurd (cc)

-- a ratio that succeeds is in lowest terms
unit_ratio_ok : (n : ℤ) (d : ℕ) (y : Fraction) → 0 < d → ratio n (pos d) ≡ Ok y → y ≡ lowest_terms n d
unit_ratio_ok n zero y some h = absurd (omega arith)
unit_ratio_ok n (suc d) y some h = split_value_if_ok (fraction_fits (lowest_terms n (suc d))) (lowest_terms n (suc d)) y
    h

-- a sum or difference that succeeds is in lowest terms
split_sum_ok : (step : ℤ → ℤ → ℤ) (m : ℕ) (l r : ℤ) (y : Fraction) → fraction_step_over step m l r ≡ Ok y
    → y ≡ lowest_terms (step l r) m
split_sum_ok step m l r y h = by_tests (in_numerator_range (pos m)) (in_numerator_range l) (in_numerator_range r) h
  where
    by_tests : (a b c : Bool) → (if a && b && c then fraction_sum_over m (step l r) else Err Overflow) ≡ Ok y
        → y ≡ lowest_terms (step l r) m
    by_tests true true true h = split_value_if_ok (in_numerator_range (step l r)) (lowest_terms (step l r) m) y h
    by_tests true true false h = absurd (cc)
    by_tests true false c h = absurd (cc)
    by_tests false b c h = absurd (cc)

-- natural numbers that are equal as integers are equal
pub unit_count_pos_is_injective : (m n : ℕ) → pos m ≡ pos n → m ≡ n
unit_count_pos_is_injective m n h = cc

-- a quotient in lowest terms has its value
reduced_unit_value : ReducedFractionLaw → (a d : ℕ) → 0 < d → HasValue (lowest_terms (pos a) d) a d
unfolding lowest_terms
reduced_unit_value law a d some =
    let facts = law (pos a) d some in
    record {
      num = a / gcd a d;
      num_is = refl;
      positive = facts.0.den_positive;
      same =
          unit_count_pos_is_injective _ _ facts.1;
    }

-- x has the value of its own numerator and denominator
pub unit_own_value : (x : Fraction) (n : ℕ) → x.num ≡ pos n → 0 < x.den → HasValue x n x.den
unit_own_value x n is some = record { num = n; num_is = is; positive = some; same = refl }

-- the quotient of two fractions with natural numerators, in lowest terms
pub unit_quotient_is_reduced : (x unit q : Fraction) (n c : ℕ) → x.num ≡ pos n → unit.num ≡ pos c → 0 < x.den → 0 < c
    → fraction_quotient x unit ≡ Ok q
    → q ≡ lowest_terms (pos (n * unit.den)) (x.den * c)
unit_quotient_is_reduced x unit q n c n_is c_is some_x some_c h =
    let ratio_is : fraction_quotient x unit ≡ ratio (pos (n * unit.den)) (pos (x.den * c)) =
    ap (λ z. ratio (z *ℤ pos unit.den) (pos x.den *ℤ unit.num)) n_is
    ∙ ap (λ z. ratio (pos n *ℤ pos unit.den) (pos x.den *ℤ z)) c_is in
    unit_ratio_ok (pos (n * unit.den)) (x.den * c) q (mul-pos some_x some_c) (sym ratio_is ∙ h)

-- the quotient is in lowest terms
pub unit_quotient_is_lowest : ReducedFractionLaw → (x unit q : Fraction) (n c : ℕ) → x.num ≡ pos n → unit.num ≡ pos c
    → 0 < x.den → 0 < c
    → fraction_quotient x unit ≡ Ok q → IsReducedFraction q
unit_quotient_is_lowest law x unit q n c n_is c_is some_x some_c h =
    subst IsReducedFraction (sym (unit_quotient_is_reduced x unit q n c n_is c_is some_x some_c h))
    (law (pos (n * unit.den)) (x.den * c) (mul-pos some_x some_c)).0

-- a whole number is in lowest terms
pub whole_count_is_lowest : (n : ℤ) → IsReducedFraction (whole_fraction n)
whole_count_is_lowest n =
    record { den_positive = omega arith; coprime = (one-dvd (unsigned_abs n), dvd_refl 1, λ d p q. q) }

-- the value of a quotient
pub unit_quotient_value : ReducedFractionLaw → (x unit q : Fraction) (a b c : ℕ) → HasValue x a b → unit.num ≡ pos c
    → 0 < unit.den
    → 0 < c → 0 < b
    → fraction_quotient x unit ≡ Ok q → HasValue q (a * unit.den) (b * c)
unit_quotient_value law x unit q a b c is c_is some_d some_c some_b h =
    let some : 0 < x.den * c = mul-pos is.positive some_c in
    let q_is = unit_quotient_is_reduced x unit q is.num c is.num_is c_is is.positive some_c h in
    let raw : HasValue q (is.num * unit.den) (x.den * c) =
    subst (λ y. HasValue y (is.num * unit.den) (x.den * c)) (sym q_is)
    (reduced_unit_value law (is.num * unit.den) (x.den * c) some) in
    record {
      num = raw.num;
      num_is = raw.num_is;
      positive = raw.positive;
      same = eq_of_mul-eq-mul_right x.den is.positive _ _
          (crossed raw.num q.den is.num x.den unit.den raw.same is.same);
    }
  where
    crossed : (n e m k d : ℕ) → n * (k * c) ≡ m * d * e → m * b ≡ a * k → n * (b * c) * k ≡ a * d * e * k
    crossed n e m k d p r = first n k ∙ ap (λ z. z * b) p ∙ second m d e ∙ ap (λ z. z * (d * e)) r ∙ third k d e
      where
        first : (n k : ℕ) → n * (b * c) * k ≡ n * (k * c) * b
        first n k = omega arith

        second : (m d e : ℕ) → m * d * e * b ≡ m * b * (d * e)
        second m d e = omega arith

        third : (k d e : ℕ) → a * k * (d * e) ≡ a * d * e * k
        third k d e = omega arith

-- the value of a whole multiple of a unit
pub unit_multiple_value : ReducedFractionLaw → (k c : ℕ) (unit t : Fraction) → unit.num ≡ pos c → 0 < unit.den
    → fraction_product (whole_fraction (pos k)) unit ≡ Ok t
    → HasValue t (k * c) unit.den
unit_multiple_value law k c unit t c_is some h =
    let ratio_is : fraction_product (whole_fraction (pos k)) unit ≡ ratio (pos (k * c)) (pos (1 * unit.den)) =
    ap (λ z. ratio (pos k *ℤ z) (pos (1 * unit.den))) c_is in
    let once : 1 * unit.den ≡ unit.den = one_times unit.den in
    let t_is : t ≡ lowest_terms (pos (k * c)) unit.den =
    unit_ratio_ok (pos (k * c)) unit.den t some (ap (λ d. ratio (pos (k * c)) (pos d)) (sym once) ∙ sym ratio_is ∙ h) in
    subst (λ y. HasValue y (k * c) unit.den) (sym t_is) (reduced_unit_value law (k * c) unit.den some)
  where
    one_times : (d : ℕ) → 1 * d ≡ d
    one_times d = omega arith

-- the whole part of a value
pub unit_floor_value : (q : Fraction) (n : ℕ) → q.num ≡ pos n → fraction_floor q ≡ whole_fraction (pos (n / q.den))
unit_floor_value q n is = ap (λ z. whole_fraction (int_div_euclid z (pos q.den))) is

-- a common multiple of two denominators
record IsMultiple (b e m : ℕ) : Type 0 where
  first : b * (m / b) ≡ m
  second : e * (m / e) ≡ m
  some : 0 < m

-- the least common multiple is a multiple of both numbers, by factors above 0
unit_lcm_multiple : LcmLaw → (b e : ℕ) → 0 < b → 0 < e → IsMultiple b e (lcm b e)
unit_lcm_multiple law b e some_b some_e =
    let is = law b e some_e in
    record {
      first = mul-div_cancel' b is.first_divides;
      second = mul-div_cancel' e is.second_divides;
      some = above (lcm b e) (is.least_multiple (b * e) (dvd-mul_right b e) (dvd-mul_left e b));
    }
  where
    above : (m : ℕ) → m ∣ b * e → 0 < m
    above zero h =
        let none : 0 ≡ b * e = dvd_antisymm h (dvd-zero (b * e)) in
        let some : 0 < b * e = mul-pos some_b some_e in
        absurd (omega arith)
    above (suc m) h = omega arith

-- the value of a difference that is not below 0
pub unit_difference_value : ReducedFractionLaw → LcmLaw → (x t r : Fraction) (a b p e left : ℕ) → HasValue x a b
    → HasValue t p e → 0 < b
    → 0 < e
    → left + p * b ≡ a * e → fraction_difference x t ≡ Ok r → HasValue r left (b * e)
unit_difference_value law multiples x t r a b p e left is_x is_t some_b some_e left_is h =
    let m = lcm x.den t.den in
    let is = unit_lcm_multiple multiples x.den t.den is_x.positive is_t.positive in
    let f = m / x.den in
    let g = m / t.den in
    let under : is_t.num * g ≤ is_x.num * f =
    below is_x.num x.den is_t.num t.den f g m is.first is.second is.some is_x.positive is_t.positive
    (crossed is_x.num x.den is_t.num t.den is_x.same is_t.same) in
    let step_is : numerator_over x m -ℤ numerator_over t m ≡ pos (is_x.num * f - is_t.num * g) =
    ap (λ z. z *ℤ pos f -ℤ t.num *ℤ pos g) is_x.num_is ∙ ap (λ z. pos is_x.num *ℤ pos f -ℤ z *ℤ pos g) is_t.num_is
    ∙ natural (is_x.num * f) (is_t.num * g) under in
    let r_is : r ≡ lowest_terms (pos (is_x.num * f - is_t.num * g)) m =
    split_sum_ok ◌-ℤ◌ m (numerator_over x m) (numerator_over t m) r h ∙ ap (λ z. lowest_terms z m) step_is in
    let raw : HasValue r (is_x.num * f - is_t.num * g) m =
    subst (λ y. HasValue y (is_x.num * f - is_t.num * g) m) (sym r_is)
    (reduced_unit_value law (is_x.num * f - is_t.num * g) m is.some) in
    let whole_is : (is_x.num * f - is_t.num * g) + is_t.num * g ≡ is_x.num * f =
    together (is_x.num * f) (is_t.num * g) under in
    record {
      num = raw.num;
      num_is = raw.num_is;
      positive = raw.positive;
      same = settled is_x.num x.den is_t.num t.den f g m (is_x.num * f - is_t.num * g) raw.num r.den is.first is.second
          is.some is_x.positive is_t.positive is_x.same is_t.same whole_is raw.same;
    }
  where
    natural : (m n : ℕ) → n ≤ m → pos m -ℤ pos n ≡ pos (m - n)
    natural m n h = omega (arith, ints)

    together : (m n : ℕ) → n ≤ m → m - n + n ≡ m
    together m n h = omega arith

    -- the values have the order of their numerators
    crossed : (xn xd tn td : ℕ) → xn * b ≡ a * xd → tn * e ≡ p * td → tn * xd * (b * e) ≤ xn * td * (b * e)
    crossed xn xd tn td h k =
        let least : p * b * (td * xd) ≤ a * e * (td * xd) =
        mul-le-mul_right (td * xd) (smaller (p * b) (a * e) left_is) in
        let low : tn * xd * (b * e) ≡ p * b * (td * xd) = turn tn xd ∙ ap (λ z. z * (xd * b)) k ∙ spread p td xd b in
        let high : xn * td * (b * e) ≡ a * e * (td * xd) = turn_back xn td ∙ ap (λ z. z * (td * e)) h
        ∙ spread_back a xd td e in
        rw (low, high) least
      where
        smaller : (m n : ℕ) → left + m ≡ n → m ≤ n
        smaller m n h = omega arith

        turn : (tn xd : ℕ) → tn * xd * (b * e) ≡ tn * e * (xd * b)
        turn tn xd = omega arith

        turn_back : (xn td : ℕ) → xn * td * (b * e) ≡ xn * b * (td * e)
        turn_back xn td = omega arith

        spread : (p td xd b : ℕ) → p * td * (xd * b) ≡ p * b * (td * xd)
        spread p td xd b = omega arith

        spread_back : (a xd td e : ℕ) → a * xd * (td * e) ≡ a * e * (td * xd)
        spread_back a xd td e = omega arith

    below : (xn xd tn td f g m : ℕ) → xd * f ≡ m → td * g ≡ m → 0 < m → 0 < xd → 0 < td
        → tn * xd * (b * e) ≤ xn * td * (b * e)
        → tn * g ≤ xn * f
    below xn xd tn td f g m p q some some_x some_t h =
        let plain : tn * xd ≤ xn * td = le_of_mul-le-mul_right h (mul-pos some_b some_e) in
        let fraction_product : tn * xd * m ≤ xn * td * m = mul-le-mul_right m plain in
        let low : tn * g * (xd * td) ≡ tn * xd * m = turn tn g xd td ∙ ap (λ z. tn * xd * z) q in
        let high : xn * f * (xd * td) ≡ xn * td * m = turn_back xn f xd td ∙ ap (λ z. xn * td * z) p in
        let both : tn * g * (xd * td) ≤ xn * f * (xd * td) = rw (low, high) fraction_product in
        le_of_mul-le-mul_right both (mul-pos some_x some_t)
      where
        turn : (tn g xd td : ℕ) → tn * g * (xd * td) ≡ tn * xd * (td * g)
        turn tn g xd td = omega arith

        turn_back : (xn f xd td : ℕ) → xn * f * (xd * td) ≡ xn * td * (xd * f)
        turn_back xn f xd td = omega arith

    -- the difference of the numerators over the denominators
    plain : (xn xd tn td f g m d n rd : ℕ) → xd * f ≡ m → td * g ≡ m → 0 < m → d + tn * g ≡ xn * f → n * m ≡ d * rd
        → n * (xd * td) + tn * xd * rd ≡ xn * td * rd
    plain xn xd tn td f g m d n rd first second some d_is n_is = (eq_of_mul-eq-mul_right m some _ _ (
        spread n (xd * td) (tn * xd * rd) m
        ∙ ap (λ z. z * (xd * td) + tn * xd * rd * m) n_is
        ∙ ap (λ z. d * rd * (xd * td) + tn * xd * rd * z) (sym second)
        ∙ gather d rd xd td tn g
        ∙ ap (λ z. z * (rd * xd * td)) d_is
        ∙ turn xn f rd xd td
        ∙ ap (λ z. xn * td * rd * z) first
        ))
      where
        spread : (n k s m : ℕ) → (n * k + s) * m ≡ n * m * k + s * m
        spread n k s m = omega arith

        gather : (d rd xd td tn g : ℕ) → d * rd * (xd * td) + tn * xd * rd * (td * g) ≡ (d + tn * g) * (rd * xd * td)
        gather d rd xd td tn g = omega arith

        turn : (xn f rd xd td : ℕ) → xn * f * (rd * xd * td) ≡ xn * td * rd * (xd * f)
        turn xn f rd xd td = omega arith

    settled : (xn xd tn td f g m d n rd : ℕ) → xd * f ≡ m → td * g ≡ m → 0 < m → 0 < xd → 0 < td → xn * b ≡ a * xd
        → tn * e ≡ p * td
        → d + tn * g ≡ xn * f → n * m ≡ d * rd → n * (b * e) ≡ left * rd
    settled xn xd tn td f g m d n rd first second some some_x some_t x_is t_is d_is n_is =
        let parts = plain xn xd tn td f g m d n rd first second some d_is n_is in
        let scaled : n * (b * e) * (xd * td) + p * b * rd * (xd * td) ≡ a * e * rd * (xd * td) =
        split n xd td rd
        ∙ ap (λ z. n * (xd * td) * (b * e) + z * (xd * rd * b)) (sym t_is)
        ∙ gather n xd td tn rd
        ∙ ap (λ z. z * (b * e)) parts
        ∙ turn xn td rd
        ∙ ap (λ z. z * (td * rd * e)) x_is
        ∙ turn_back xd td rd in
        let whole : a * e * rd * (xd * td) ≡ left * rd * (xd * td) + p * b * rd * (xd * td) =
        ap (λ z. z * rd * (xd * td)) (sym left_is) ∙ parted (p * b) rd (xd * td) in
        (eq_of_mul-eq-mul_right (xd * td) (mul-pos some_x some_t) _ _ (same_sum _ _ _ (scaled ∙ whole)))
      where
        split : (n xd td rd : ℕ)
            → n * (b * e) * (xd * td) + p * b * rd * (xd * td) ≡ n * (xd * td) * (b * e) + p * td * (xd * rd * b)
        split n xd td rd = omega arith

        gather : (n xd td tn rd : ℕ)
            → n * (xd * td) * (b * e) + tn * e * (xd * rd * b) ≡ (n * (xd * td) + tn * xd * rd) * (b * e)
        gather n xd td tn rd = omega arith

        turn : (xn td rd : ℕ) → xn * td * rd * (b * e) ≡ xn * b * (td * rd * e)
        turn xn td rd = omega arith

        turn_back : (xd td rd : ℕ) → a * xd * (td * rd * e) ≡ a * e * rd * (xd * td)
        turn_back xd td rd = omega arith

        parted : (s rd k : ℕ) → (left + s) * rd * k ≡ left * rd * k + s * rd * k
        parted s rd k = omega arith

        same_sum : (m n s : ℕ) → m + s ≡ n + s → m ≡ n
        same_sum m n s h = omega arith
