-- The invariants of the two rounding loops, and the proof that the loops end with the rounded number.
use Rattle.std.proofs.Common.{◌≡◌, ◌<◌, ◌≤◌, ◌+◌, ◌-◌, ◌*◌, ◌/◌, ◌%◌, ◌^◌, ◌-ℤ◌, ℕ, ℤ, pos, neg_ℤ, suc, zero, arith}
use Rattle.std.proofs.Common.{refl, sym, ap, subst, ◌∙◌, lit<, inl, inr}
use Rattle.std.specs.Ordering.{nat_cmp}
use Rattle.std.proofs.lemmas.Bool.{cases_lt}
use Rattle.std.proofs.lemmas.Nat.{div-mul-add, le-div, mod_below, mod-mul-add, mul-le}
use Rattle.std.proofs.Math.Nat.{div-add-mod, mul-pos, pow-succ'}
use Rattle.frac128.specs.Nearest.{whole_by_fraction_part}
use Rattle.digits_print.specs.Nearest.{decimal_scale_denominator, decimal_scale_numerator}
use Rattle.digits_print.specs.RatioRounding.{digits_rounding, power_of_first_digit, rounded_at_scale, rounding_carry}
use Rattle.digits_print.proofs.Scales.{IsScaled, decimal_scale_unique, digit_power_before, digit_power_some}
use Rattle.digits_print.proofs.Scales.{digit_power_up, rounding_digit_scale}

-- at a scale at which the ratio has n digits before the point, rounding is determined by the quotient and the
-- remainder
rounding_by_remainder : (n a b q r : ℕ) (s : ℤ) → 0 < n → 0 < a → 0 < b
    → q * (b * decimal_scale_numerator s) + r ≡ a * decimal_scale_denominator s → r < b * decimal_scale_numerator s
    → 10 ^ (n - 1) ≤ q
    → q < 10 ^ n
    → rounding_carry n (whole_by_fraction_part q (nat_cmp (2 * r) (b * decimal_scale_numerator s))) s ≡ digits_rounding
    n a b
unfolding digits_rounding rounded_at_scale
rounding_by_remainder n a b q r s some some_a some_b whole part low high =
    let quotient : a * decimal_scale_denominator s / (b * decimal_scale_numerator s) ≡ q =
    ap (λ v. v / (b * decimal_scale_numerator s)) (sym whole)
    ∙ div-mul-add q (b * decimal_scale_numerator s) r part in
    let rest : a * decimal_scale_denominator s % (b * decimal_scale_numerator s) ≡ r =
    ap (λ v. v % (b * decimal_scale_numerator s)) (sym whole) ∙ mod-mul-add q (b * decimal_scale_numerator s) r part
    in
    let same : s ≡ power_of_first_digit a b -ℤ pos (n - 1) =
    decimal_scale_unique n a b s _ some_b at (rounding_digit_scale n a b some some_a some_b) in
    sym (ap (λ v. rounding_carry n
    (whole_by_fraction_part v
    (nat_cmp (2 * (a * decimal_scale_denominator s % (b * decimal_scale_numerator s)))
    (b * decimal_scale_numerator s))) s) quotient
    ∙ ap (λ v. rounding_carry n (whole_by_fraction_part q (nat_cmp (2 * v) (b * decimal_scale_numerator s))) s) rest)
    ∙ ap (rounded_at_scale n a b) same
  where
    low_of : (l q b r a : ℕ) → q * b + r ≡ a → l ≤ q → l * b ≤ a
    low_of l q b r a e h = let times : l * b ≤ q * b = mul-le l b q b h (omega arith) in omega arith

    high_of : (l q b r a : ℕ) → q * b + r ≡ a → r < b → q < l → a < l * b
    high_of l q b r a e k h = let times : (q + 1) * b ≤ l * b =
        mul-le (q + 1) b l b (omega arith) (omega arith) in let one : (q + 1) * b ≡ q * b + b =
        omega arith in omega arith

    at : IsScaled n a b s
    at = record {
      low = low_of (10 ^ (n - 1)) q (b * decimal_scale_numerator s) r (a * decimal_scale_denominator s) whole low;
      high = high_of (10 ^ n) q (b * decimal_scale_numerator s) r (a * decimal_scale_denominator s) whole part high;
    }

-- top over bottom, with this many places after the point, is the number and a remainder
pub record IsLengthened (n top bottom number rest places : ℕ) : Type 0 where
  pub value : number * bottom + rest ≡ top * 10 ^ places
  pub part : rest < bottom
  pub below : number < 10 ^ n

-- one more digit of the remainder makes the number one place longer
pub lengthened_digits_more : (n top bottom number rest places digit next : ℕ) → 0 < n
    → IsLengthened n top bottom number rest places
    → number < 10 ^ (n - 1)
    → digit * bottom + next ≡ 10 * rest → next < bottom → digit < 10
    → IsLengthened n top bottom (number * 10 + digit) next (places + 1)
lengthened_digits_more n top bottom number rest places digit next some is few e part small = record {
  value = value number bottom rest top digit next (10 ^ places) (10 ^ (places + 1)) is.value e (power places);
  part = part;
  below = omega (arith, digit_power_before n some);
}
  where
    power : (p : ℕ) → 10 ^ (p + 1) ≡ 10 * 10 ^ p
    power p = let more : p + 1 ≡ suc p = omega arith in ap (λ v. 10 ^ v) more ∙ pow-succ' 10 p

    value : (q b r t d s p u : ℕ) → q * b + r ≡ t * p → d * b + s ≡ 10 * r → u ≡ 10 * p → (q * 10 + d) * b + s ≡ t * u
    value q b r t d s p u whole step e = let left : (q * 10 + d) * b + s ≡ 10 * (q * b + r) = omega arith in left
        ∙ ap (λ v. 10 * v) whole ∙ turn t p ∙ ap (λ v. t * v) (sym e)
      where
        turn : (t p : ℕ) → 10 * (t * p) ≡ t * (10 * p)
        turn t p = omega arith

-- top times this power of ten is below the limit, since the number is
pub lengthened_digits_low : (n top bottom number rest places : ℕ) → IsLengthened n top bottom number rest places
    → top * 10 ^ places < 10 ^ n * bottom
lengthened_digits_low n top bottom number rest places is =
    low number bottom rest (top * 10 ^ places) (10 ^ n) is.value is.part is.below
  where
    low : (q b r t l : ℕ) → q * b + r ≡ t → r < b → q < l → t < l * b
    low q b r t l e k h = let times : (q + 1) * b ≤ l * b =
        mul-le (q + 1) b l b (omega arith) (omega arith) in let one : (q + 1) * b ≡ q * b + b =
        omega arith in omega arith

-- the loop adds at most 74 places
pub few_decimal_places : (n top bottom number rest places : ℕ) → 0 < top → bottom ≤ 2 ^ 127 → n ≤ 36
    → IsLengthened n top bottom number rest places → places < 75
few_decimal_places n top bottom number rest places some fits most is = elim (cases_lt places 75) [
  | inl h ↦ h
  | inr h ↦ absurd (many h)
]
  where
    many : 75 ≤ places → ⊥
    many h =
        let low = lengthened_digits_low n top bottom number rest places is in
        let power : 10 ^ 75 ≤ 10 ^ places = digit_power_up 75 places h in
        let times : 1 * 10 ^ places ≤ top * 10 ^ places = mul-le 1 (10 ^ places) top (10 ^ places) some (omega arith) in
        let limit : 10 ^ n ≤ 10 ^ 36 = digit_power_up n 36 most in
        let wide : 10 ^ n * bottom ≤ 10 ^ 36 * 2 ^ 127 = mul-le (10 ^ n) bottom (10 ^ 36) (2 ^ 127) limit fits in
        let big : 10 ^ 36 * 2 ^ 127 < 10 ^ 75 = lit< tt in
        omega arith

-- the measure decreases with each place
pub lengthened_digits_less : (n top bottom number rest places : ℕ) → 0 < top
    → IsLengthened n top bottom number rest places
    → 10 ^ n * bottom - top * 10 ^ (places + 1) < 10 ^ n * bottom - top * 10 ^ places
lengthened_digits_less n top bottom number rest places some is =
    let low = lengthened_digits_low n top bottom number rest places is in
    let some_top = mul-pos some (digit_power_some places) in
    let next : top * 10 ^ (places + 1) ≡ 10 * (top * 10 ^ places) = ap (λ v. top * v) (power places)
    ∙ turn top (10 ^ places) in
    omega arith
  where
    power : (p : ℕ) → 10 ^ (p + 1) ≡ 10 * 10 ^ p
    power p = let more : p + 1 ≡ suc p = omega arith in ap (λ v. 10 ^ v) more ∙ pow-succ' 10 p

    turn : (t p : ℕ) → t * (10 * p) ≡ 10 * (t * p)
    turn t p = omega arith

-- a number with n digits is rounded by its remainder
pub lengthened_digits_end : (n top bottom number rest places : ℕ) → 0 < n → 0 < top
    → IsLengthened n top bottom number rest places
    → 10 ^ (n - 1) ≤ number
    → rounding_carry n (whole_by_fraction_part number (nat_cmp (rest * 2) bottom))
    (neg_ℤ (pos places)) ≡ digits_rounding n top bottom
lengthened_digits_end n top bottom number rest places some some_top is least =
    ap (λ v. rounding_carry n (whole_by_fraction_part number (nat_cmp v bottom)) (neg_ℤ (pos places))) twice
    ∙ ap (λ v. rounding_carry n (whole_by_fraction_part number (nat_cmp (2 * rest) v)) (neg_ℤ (pos places))) (sym step)
    ∙ rounding_by_remainder n top bottom number rest (neg_ℤ (pos places)) some some_top (omega (arith, is.part))
    (ap (λ v. number * v + rest) step ∙ is.value ∙ ap (λ v. top * v) (sym (down_is places)))
    (rw step is.part) least is.below
  where
    twice : rest * 2 ≡ 2 * rest
    twice = omega arith

    up_is : (p : ℕ) → decimal_scale_numerator (neg_ℤ (pos p)) ≡ 1
    up_is zero = refl
    up_is (suc p) = refl

    down_is : (p : ℕ) → decimal_scale_denominator (neg_ℤ (pos p)) ≡ 10 ^ p
    down_is zero = refl
    down_is (suc p) = refl

    step : bottom * decimal_scale_numerator (neg_ℤ (pos places)) ≡ bottom
    step = ap (λ v. bottom * v) (up_is places) ∙ one bottom
      where
        one : (b : ℕ) → b * 1 ≡ b
        one b = omega arith

-- this many digits are cut off from a whole number, and n or more digits are left
pub record IsShortened (n whole unit places : ℕ) : Type 0 where
  pub power : unit ≡ 10 ^ places
  pub some : 0 < places
  pub least : 10 ^ (n - 1) ≤ whole / unit

-- the unit is at most a tenth of the whole number if more than n digits are left
pub shortened_digits_wide : (n whole unit : ℕ) → 0 < n → 0 < unit → 10 ^ n ≤ whole / unit
    → 10 ^ (n - 1) * (unit * 10) ≤ whole
shortened_digits_wide n whole unit some some_unit high =
    let times : 10 ^ n * unit ≤ whole / unit * unit = mul-le (10 ^ n) unit (whole / unit) unit high (omega arith) in
    let turned : 10 ^ n * unit ≡ 10 ^ (n - 1) * (unit * 10) = ap (λ v. v * unit) (digit_power_before n some)
    ∙ turn (10 ^ (n - 1)) unit in
    let below : unit * (whole / unit) + whole % unit ≡ whole = div-add-mod whole unit in
    let swap : whole / unit * unit ≡ unit * (whole / unit) = omega arith in
    omega arith
  where
    turn : (p u : ℕ) → 10 * p * u ≡ p * (u * 10)
    turn p u = omega arith

-- the unit of a cut is above 0
pub digit_unit_some : (n whole unit places : ℕ) → IsShortened n whole unit places → 0 < unit
digit_unit_some n whole unit places is = rw is.power (digit_power_some places)

-- if the rest is still too long, ten times the unit is at most the whole number
pub shortened_digits_room : (n whole unit places : ℕ) → 0 < n → IsShortened n whole unit places → 10 ^ n ≤ whole / unit
    → unit * 10 ≤ whole
shortened_digits_room n whole unit places some is high =
    let wide = shortened_digits_wide n whole unit some (digit_unit_some n whole unit places is) high in
    let times : 1 * (unit * 10) ≤ 10 ^ (n - 1) * (unit * 10) =
    mul-le 1 (unit * 10) (10 ^ (n - 1)) (unit * 10) (digit_power_some (n - 1)) (omega arith) in
    omega arith

-- if the rest is still too long, one more place is cut off
pub shortened_digits_more : (n whole unit places : ℕ) → 0 < n → IsShortened n whole unit places → 10 ^ n ≤ whole / unit
    → IsShortened n whole (unit * 10) (places + 1)
shortened_digits_more n whole unit places some is high =
    let some_unit = digit_unit_some n whole unit places is in
    record {
      power = ap (λ v. v * 10) is.power ∙ power places;
      some = omega arith;
      least = le-div (10 ^ (n - 1)) whole (unit * 10) (omega arith)
          (shortened_digits_wide n whole unit some some_unit high);
    }
  where
    power : (p : ℕ) → 10 ^ p * 10 ≡ 10 ^ (p + 1)
    power p = let more : p + 1 ≡ suc p = omega arith in let ten = pow-succ' 10 p in let same =
        ap (λ v. 10 ^ v) more in omega arith

-- at most 38 places are cut off
pub few_digits_cut : (n whole unit places : ℕ) → whole < 2 ^ 128 → IsShortened n whole unit places → places < 39
few_digits_cut n whole unit places fits is = elim (cases_lt places 39) [
  | inl h ↦ h
  | inr h ↦ absurd (many h)
]
  where
    many : 39 ≤ places → ⊥
    many h =
        let power : 10 ^ 39 ≤ 10 ^ places = digit_power_up 39 places h in
        let big : 2 ^ 128 < 10 ^ 39 = lit< tt in
        let some = digit_power_some (n - 1) in
        let times : 1 * unit ≤ whole / unit * unit =
        mul-le 1 unit (whole / unit) unit (omega (arith, is.least)) (omega arith) in
        let below : unit * (whole / unit) + whole % unit ≡ whole = div-add-mod whole unit in
        let swap : whole / unit * unit ≡ unit * (whole / unit) = omega arith in
        omega (arith, is.power)

-- half of the unit is a whole number
pub digit_unit_even : (n whole unit places : ℕ) → IsShortened n whole unit places → 2 * (unit / 2) ≡ unit
digit_unit_even n whole unit places is = let ten = digit_power_before places is.some in let power = is.power in
    omega arith

-- a number with n digits is rounded by the part that is cut off
pub shortened_digits_end : (n top bottom unit places : ℕ) → 0 < n → 0 < bottom
    → IsShortened n (top / bottom) unit places
    → top / bottom / unit < 10 ^ n
    → rounding_carry n (whole_by_fraction_part (top / bottom / unit)
    (nat_cmp (2 * (top / bottom % unit * bottom + top % bottom)) (bottom * unit))) (pos places) ≡ digits_rounding n top
    bottom
shortened_digits_end n top bottom unit places some some_bottom is below =
    let some_unit = digit_unit_some n (top / bottom) unit places is in
    let whole : bottom * (top / bottom) + top % bottom ≡ top = div-add-mod top bottom in
    let digits : unit * (top / bottom / unit) + top / bottom % unit ≡ top / bottom = div-add-mod (top / bottom) unit in
    let q = top / bottom / unit in
    let r = top / bottom % unit * bottom + top % bottom in
    let value : q * (bottom * unit) + r ≡ top =
    value_of q unit (top / bottom % unit) bottom (top % bottom) top (top / bottom) whole digits in
    let less : r < bottom * unit =
    less_of unit (top / bottom % unit) bottom (top % bottom) (mod_below (top / bottom) unit some_unit)
    (mod_below top bottom some_bottom) in
    ap (λ v. rounding_carry n (whole_by_fraction_part q (nat_cmp (2 * r) (bottom * v))) (pos places)) is.power
    ∙ rounding_by_remainder n top bottom q r (pos places) some
    (some_top (top / bottom) (some_whole n (top / bottom) unit places is) whole) some_bottom
    (ap (λ v. q * (bottom * v) + r) (sym is.power) ∙ value ∙ one top)
    (subst (λ v. r < bottom * v) is.power less) is.least below
  where
    one : (t : ℕ) → t ≡ t * 1
    one t = omega arith

    value_of : (q u w b p t v : ℕ) → b * v + p ≡ t → u * q + w ≡ v → q * (b * u) + (w * b + p) ≡ t
    value_of q u w b p t v e f = spread q u w b p ∙ ap (λ x. b * x + p) f ∙ e
      where
        spread : (q u w b p : ℕ) → q * (b * u) + (w * b + p) ≡ b * (u * q + w) + p
        spread q u w b p = omega arith

    less_of : (u w b p : ℕ) → w < u → p < b → w * b + p < b * u
    less_of u w b p h k = let times : (w + 1) * b ≤ u * b =
        mul-le (w + 1) b u b (omega arith) (omega arith) in let one : (w + 1) * b ≡ w * b + b =
        omega arith in let turn : u * b ≡ b * u = omega arith in omega arith

    positive : (w u : ℕ) → 0 < w / u → 0 < u → 0 < w
    positive w u h some = let times : 1 * u ≤ w / u * u =
        mul-le 1 u (w / u) u h (omega arith) in let below : u * (w / u) + w % u ≡ w =
        div-add-mod w u in let turn : w / u * u ≡ u * (w / u) = omega arith in omega arith

    some_whole : (n whole unit places : ℕ) → IsShortened n whole unit places → 0 < whole
    some_whole n whole unit places is =
        positive whole unit (omega (arith, is.least, digit_power_some (n - 1))) (digit_unit_some n whole unit places is)

    some_top : (w : ℕ) → 0 < w → bottom * w + top % bottom ≡ top → 0 < top
    some_top w some_w e = let product = mul-pos some_bottom some_w in omega arith
