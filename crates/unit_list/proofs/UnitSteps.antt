-- Counting unit by unit.
use Rattle.std.proofs.Common.{◌≡◌, ◌<◌, ◌≤◌, ◌+◌, ◌-◌, ℕ, suc, zero, arith, refl, sym, ap, ◌∙◌}
use Rattle.std.specs.Prelude.{◌⊎◌, Bool, not, cond, All, int_lt, nat_lt, true, false, List, [], ◌∷◌, ◌++◌, length, map}
use Rattle.std.specs.Prelude.{drop, position, IsErrAnd, Some, None, Option, Result, Ok, Err}
use Rattle.std.specs.List.{AllByRecursion as Each, position_or_len}
use Rattle.units_io.specs.Outcomes.{GivesIoResult}
use Rattle.std.proofs.Common.{append_assoc, get_or, inl, inr, ◌<ℤ◌, ℤ, pos}
use Rattle.std.proofs.lemmas.Bool.Decides.{nat_tests}
use Rattle.std.proofs.lemmas.Int.{ints}
use Rattle.std.proofs.lemmas.List.Elements.{All-from_recursion, All-map}
use Rattle.unit_list.specs.Counts.{IsUnitNumber}
use Rattle.std.proofs.lemmas.List.{drop_more}
use Rattle.std.proofs.Math.Seq.{drop-nil}
use Rattle.frac128.specs.declared.fault.FracFault.{FracFault}
use Rattle.frac128.specs.Fraction.{Fraction}
use Rattle.frac128.specs.Steps.{◌>>=◌, fraction_quotient}
use Rattle.quantity.specs.Amount.{Amount}
use Rattle.unit_list.specs.declared.part.Part.{Part}
use Rattle.unit_list.specs.declared.fault.SplitFault.{SplitFault}
use Rattle.unit_list.specs.declared.fault.SplitFault.TheVariants.{Number, OutOfMemory}
use Rattle.unit_list.specs.Amounts.{HasUnitDenominator, is_unit_not_positive, unit_counts_in, unit_counts_or_fault}
use Rattle.unit_list.specs.Amounts.{unit_fault_or_counts, is_unlike_unit, number_of_unit, numbers_of_units}
use Rattle.unit_list.specs.Amounts.{unit_list_fault, unit_place_fault}
use Rattle.frac128.specs.Sign.{fraction_magnitude, fraction_negated_if, is_negative_fraction}
use Rattle.unit_list.specs.Splits.{counts_of_units, last_of_units, part_by_unit, rounded_to_unit_if, signed_unit_counts}
use Rattle.unit_list.specs.Splits.{unit_counts_of_number}

-- the counts so far followed by other counts
abbrev pub behind : List Fraction → Result (List Fraction) FracFault → Result (List Fraction) FracFault
behind done counts = counts >>= (λ cs. Ok (done ++ cs))

-- the counts so far, followed by those of the remainder for the units from index i on, are all counts
pub record IsCounting (negative : Bool) (units : List Amount) (all : Result (List Fraction) FracFault) (i : ℕ)
    (rest : Fraction) (done : List Fraction) : Type 0 where
  pub same : behind done (signed_unit_counts negative (counts_of_units rest (map number_of_unit (drop i units)))) ≡ all

-- the units from an index on that is not the last one
more_units_of_split : (units : List Amount) (i : ℕ) (d : Amount) → i + 1 < length units
    → map number_of_unit (drop i units) ≡ number_of_unit (get_or units i d) ∷ number_of_unit (get_or units (i + 1) d)
    ∷ map number_of_unit (drop (i + 1 + 1) units)
more_units_of_split units i d h =
    ap (map number_of_unit)
    (drop_more units i d (omega arith) ∙ ap (λ xs. get_or units i d ∷ xs) (drop_more units (i + 1) d h))

-- the units after an index start with the next one
next_units_of_split : (units : List Amount) (i : ℕ) (d : Amount) → i + 1 < length units
    → map number_of_unit (drop (i + 1) units) ≡ number_of_unit (get_or units (i + 1) d) ∷ map number_of_unit
    (drop (i + 1 + 1) units)
next_units_of_split units i d h = ap (map number_of_unit) (drop_more units (i + 1) d h)

-- the count of a part comes before the other counts
unit_count_before_others : (negative : Bool) (done : List Fraction) (count : Fraction)
    (others : Result (List Fraction) FracFault)
    → behind done (signed_unit_counts negative (others >>= (λ counts. Ok (count ∷ counts))))
    ≡ behind (done ++ fraction_negated_if negative count ∷ []) (signed_unit_counts negative others)
unit_count_before_others negative done count (Ok others) =
    ap Ok (sym (append_assoc done (fraction_negated_if negative count ∷ [])
    (map (fraction_negated_if negative) others)))
unit_count_before_others negative done count (Err fault) = refl

-- one more unit appends its count to those so far and leaves its remainder
pub counting_units_more : (negative : Bool) (units : List Amount) (all : Result (List Fraction) FracFault) (i : ℕ)
    (rest : Fraction) (done : List Fraction) (unit : Amount) (part : Part)
    → IsCounting negative units all i rest done → i + 1 < length units → unit ≡ get_or units i unit
    → part_by_unit rest (number_of_unit unit) ≡ Ok part
    → IsCounting negative units all (i + 1) part.rest (done ++ fraction_negated_if negative part.count ∷ [])
unfolding counts_of_units
counting_units_more negative units all i rest done unit part is within unit_is part_is =
    let step : counts_of_units rest (map number_of_unit (drop i units)) ≡ counts_of_units part.rest
    (map number_of_unit (drop (i + 1) units))
    >>= (λ counts. Ok (part.count ∷ counts)) =
    ap (counts_of_units rest) (more_units_of_split units i unit within)
    ∙ ap (λ u. part_by_unit rest (number_of_unit u)
    >>= (λ part. counts_of_units part.rest
    (number_of_unit (get_or units (i + 1) unit) ∷ map number_of_unit (drop (i + 1 + 1) units))
    >>= (λ counts. Ok (part.count ∷ counts)))) (sym unit_is)
    ∙ ap (λ r. r >>= (λ part. counts_of_units part.rest
    (number_of_unit (get_or units (i + 1) unit) ∷ map number_of_unit (drop (i + 1 + 1) units))
    >>= (λ counts. Ok (part.count ∷ counts)))) part_is
    ∙ ap (λ us. counts_of_units part.rest us >>= (λ counts. Ok (part.count ∷ counts)))
    (sym (next_units_of_split units i unit within)) in
    record {
      same = sym (unit_count_before_others negative done part.count
          (counts_of_units part.rest (map number_of_unit (drop (i + 1) units))))
          ∙ ap (λ r. behind done (signed_unit_counts negative r)) (sym step) ∙ is.same;
    }

-- the fault of a part is the fault of the split
pub counting_units_fault : (negative : Bool) (units : List Amount) (all : Result (List Fraction) FracFault) (i : ℕ)
    (rest : Fraction) (done : List Fraction) (unit : Amount) (fault : FracFault)
    → IsCounting negative units all i rest done → i + 1 < length units → unit ≡ get_or units i unit
    → part_by_unit rest (number_of_unit unit) ≡ Err fault → all ≡ Err fault
unfolding counts_of_units
counting_units_fault negative units all i rest done unit fault is within unit_is part_is =
    let step : counts_of_units rest (map number_of_unit (drop i units)) ≡ Err fault =
    ap (counts_of_units rest) (more_units_of_split units i unit within)
    ∙ ap (λ u. part_by_unit rest (number_of_unit u)
    >>= (λ part. counts_of_units part.rest
    (number_of_unit (get_or units (i + 1) unit) ∷ map number_of_unit (drop (i + 1 + 1) units))
    >>= (λ counts. Ok (part.count ∷ counts)))) (sym unit_is)
    ∙ ap (λ r. r >>= (λ part. counts_of_units part.rest
    (number_of_unit (get_or units (i + 1) unit) ∷ map number_of_unit (drop (i + 1 + 1) units))
    >>= (λ counts. Ok (part.count ∷ counts)))) part_is in
    sym is.same ∙ ap (λ r. behind done (signed_unit_counts negative r)) step

-- the last unit is the only one from its index on
last_unit_alone : (units : List Amount) (i : ℕ) (unit : Amount) → i + 1 ≡ length units
    → unit ≡ get_or units (length units - 1) unit
    → map number_of_unit (drop i units) ≡ number_of_unit unit ∷ []
last_unit_alone units i unit last unit_is =
    ap (map number_of_unit)
    (drop_more units i unit (omega arith)
    ∙ ap (λ xs. get_or units i unit ∷ xs) (drop_past units (i + 1) (omega arith))
    ∙ ap (λ k. get_or units k unit ∷ []) (place i (length units) last) ∙ ap (λ u. u ∷ []) (sym unit_is))
  where
    place : (i n : ℕ) → i + 1 ≡ n → i ≡ n - 1
    place i n h = omega arith

    drop_past : (xs : List Amount) (n : ℕ) → length xs ≤ n → drop n xs ≡ []
    drop_past [] n h = drop-nil n
    drop_past (x ∷ xs) zero h = absurd (omega arith)
    drop_past (x ∷ xs) (suc n) h = drop_past xs n (omega arith)

-- the count of the last unit ends the counts
pub counting_units_end : (negative : Bool) (units : List Amount) (all : Result (List Fraction) FracFault) (i : ℕ)
    (rest : Fraction) (done : List Fraction) (unit : Amount) (count : Fraction)
    → IsCounting negative units all i rest done → i + 1 ≡ length units → unit ≡ get_or units (length units - 1) unit
    → fraction_quotient rest (number_of_unit unit) ≡ Ok count
    → all ≡ Ok (done ++ fraction_negated_if negative count ∷ [])
unfolding counts_of_units
counting_units_end negative units all i rest done unit count is last unit_is count_is =
    sym is.same
    ∙ ap (λ us. behind done (signed_unit_counts negative (counts_of_units rest us)))
    (last_unit_alone units i unit last unit_is)
    ∙ ap (λ r. behind done (signed_unit_counts negative (r >>= (λ count. Ok (count ∷ []))))) count_is

-- the fault of the last unit is the fault of the split
pub counting_units_end_fault : (negative : Bool) (units : List Amount) (all : Result (List Fraction) FracFault) (i : ℕ)
    (rest : Fraction) (done : List Fraction) (unit : Amount) (fault : FracFault)
    → IsCounting negative units all i rest done → i + 1 ≡ length units → unit ≡ get_or units (length units - 1) unit
    → fraction_quotient rest (number_of_unit unit) ≡ Err fault
    → all ≡ Err fault
unfolding counts_of_units
counting_units_end_fault negative units all i rest done unit fault is last unit_is count_is =
    sym is.same
    ∙ ap (λ us. behind done (signed_unit_counts negative (counts_of_units rest us)))
    (last_unit_alone units i unit last unit_is)
    ∙ ap (λ r. behind done (signed_unit_counts negative (r >>= (λ count. Ok (count ∷ []))))) count_is

-- the number of the last unit
last_unit_number : (units : List Amount) (unit : Amount) → 0 < length units
    → unit ≡ get_or units (length units - 1) unit
    → last_of_units (map number_of_unit units) ≡ number_of_unit unit
unfolding last_of_units
last_unit_number units unit some unit_is = by_place units (length units - 1) (next (length units) some) unit_is
  where
    next : (n : ℕ) → 0 < n → n - 1 + 1 ≡ n
    next n h = omega arith

    by_place : (units : List Amount) (i : ℕ) → i + 1 ≡ length units → unit ≡ get_or units i unit
        → last_of_units (map number_of_unit units) ≡ number_of_unit unit
    by_place [] i last is = absurd (omega arith)
    by_place (first ∷ []) zero last is = ap number_of_unit (sym is)
    by_place (first ∷ []) (suc i) last is = absurd (omega arith)
    by_place (first ∷ second ∷ units) zero last is = absurd (omega arith)
    by_place (first ∷ second ∷ units) (suc i) last is = by_place (second ∷ units) i (omega arith) is

-- a split has begun: its units have no fault, and its amount is that of the number
pub record IsBegun (round : Bool) (q : Amount) (units : List Amount) (negative : Bool)
    (amount : Result Fraction FracFault) : Type 0 where
  pub fine : None ≡ unit_list_fault q units
  pub negative_is : negative ≡ is_negative_fraction q.value
  pub amount_is : amount ≡ rounded_to_unit_if round (last_of_units (map number_of_unit units))
      (fraction_magnitude q.value)

-- the parts that the code computes begin a split
pub split_begun_by_parts : (round : Bool) (q : Amount) (units : List Amount) (number last size : Fraction)
    (negative : Bool)
    (unit : Amount) (amount : Result Fraction FracFault)
    → None ≡ unit_list_fault q units → 0 < length units → number ≡ q.value → negative ≡ is_negative_fraction number
    → unit ≡ get_or units (length units - 1) unit → last ≡ number_of_unit unit → size ≡ fraction_magnitude number
    → amount ≡ rounded_to_unit_if round last size
    → IsBegun round q units negative amount
split_begun_by_parts round q units number last size negative unit amount fine some number_is negative_is unit_is last_is
    size_is
    amount_is = record {
      fine = fine;
      negative_is = negative_is ∙ ap is_negative_fraction number_is;
      amount_is = amount_is ∙ ap (λ u. rounded_to_unit_if round u size)
          (last_is ∙ sym (last_unit_number units unit some unit_is))
          ∙ ap (rounded_to_unit_if round (last_of_units (map number_of_unit units)))
          (size_is ∙ ap fraction_magnitude number_is);
    }

-- the fault of the amount is the fault of the split
pub split_begun_fault : (round : Bool) (q : Amount) (units : List Amount) (negative : Bool)
    (amount : Result Fraction FracFault) (fault : FracFault)
    → IsBegun round q units negative amount → amount ≡ Err fault → unit_counts_in round q units ≡ Err (Number fault)
unfolding unit_counts_in
split_begun_fault round q units negative amount fault is amount_fault =
    ap (λ f. unit_fault_or_counts f (unit_counts_of_number round q.value (map number_of_unit units))) (sym is.fine)
    ∙ ap (λ r. unit_counts_or_fault (r
    >>= (λ amount. signed_unit_counts (is_negative_fraction q.value)
    (counts_of_units amount (map number_of_unit units)))))
    (sym is.amount_is ∙ amount_fault)

-- if the amount has no fault, the counts of the split are those of the amount
pub split_begun_counts : (round : Bool) (q : Amount) (units : List Amount) (negative : Bool)
    (amount : Result Fraction FracFault) (x : Fraction)
    → IsBegun round q units negative amount → amount ≡ Ok x
    → unit_counts_of_number round q.value (numbers_of_units units) ≡ signed_unit_counts negative
    (counts_of_units x (numbers_of_units units))
split_begun_counts round q units negative amount x is amount_ok =
    ap (λ r. r >>= (λ amount. signed_unit_counts (is_negative_fraction q.value)
    (counts_of_units amount (numbers_of_units units))))
    (sym is.amount_is ∙ amount_ok)
    ∙ ap (λ b. signed_unit_counts b (counts_of_units x (numbers_of_units units))) (sym is.negative_is)

-- if the number to split is found, the counts are those of that number
pub split_begun_ends : (round : Bool) (q : Amount) (units : List Amount) (negative : Bool)
    (amount : Result Fraction FracFault) (x : Fraction)
    → IsBegun round q units negative amount → amount ≡ Ok x
    → unit_counts_in round q units ≡ unit_counts_or_fault
    (signed_unit_counts negative (counts_of_units x (numbers_of_units units)))
unfolding unit_counts_in
split_begun_ends round q units negative amount x is amount_ok =
    ap (λ f. unit_fault_or_counts f (unit_counts_of_number round q.value (numbers_of_units units))) (sym is.fine)
    ∙ ap unit_counts_or_fault (split_begun_counts round q units negative amount x is amount_ok)

-- if the counts succeed, they are the given ones
pub unit_counts_ok : (counts : Result (List Fraction) FracFault) (given : List Fraction)
    → unit_counts_or_fault counts ≡ Ok given
    → counts ≡ Ok given
unit_counts_ok (Ok counts) given h = cc
unit_counts_ok (Err fault) given h = absurd (cc)

-- a fault that `?` passes on is an answer if it is an out-of-memory fault or the expected fault
pub split_fault_passes_on : {A B : Type 0} (seen : A → B) (answer : Result A SplitFault)
    (expected : Result B SplitFault)
    (fault : SplitFault)
    → IsErrAnd answer (λ given. given ≡ fault) → (fault ≡ OutOfMemory) ⊎ (expected ≡ Err fault)
    → GivesIoResult OutOfMemory seen answer expected
split_fault_passes_on seen (Ok x) expected fault given h = absurd given
split_fault_passes_on seen (Err other) expected fault given (inl none) = inl (given ∙ none)
split_fault_passes_on seen (Err other) expected fault given (inr h) = inr (h ∙ ap Err (sym given))

-- a fault that `?` passes on is an answer also for an expected result in another form
pub split_fault_passes_on_as_equal : {A B : Type 0} (seen : A → B) (answer : Result A SplitFault)
    (expected given : Result B SplitFault)
    (fault : SplitFault)
    → IsErrAnd answer (λ given. given ≡ fault) → expected ≡ given → (fault ≡ OutOfMemory) ⊎ (given ≡ Err fault)
    → GivesIoResult OutOfMemory seen answer expected
split_fault_passes_on_as_equal seen answer expected given fault is same (inl none) =
    split_fault_passes_on seen answer expected fault is (inl none)
split_fault_passes_on_as_equal seen answer expected given fault is same (inr h) =
    split_fault_passes_on seen answer expected fault is (inr (same ∙ h))

-- the fault of the units is the fault of the split
pub unit_list_fault_ends_split : (round : Bool) (q : Amount) (units : List Amount) (fault : SplitFault)
    → Some fault ≡ unit_list_fault q units
    → unit_counts_in round q units ≡ Err fault
unfolding unit_counts_in
unit_list_fault_ends_split round q units fault is =
    ap (λ f. unit_fault_or_counts f (unit_counts_of_number round q.value (map number_of_unit units))) (sym is)

-- ---- units without a fault

-- if no index is found, the index is not below the limit
unit_place_none_low : (place n : ℕ) → cond (nat_lt place n) (Some place) None ≡ None → n ≤ place
unit_place_none_low place n h = grind (arith, nat_tests)

-- an index at or after the end is not found
unit_place_none_high : (place n : ℕ) → n ≤ place → cond (nat_lt place n) (Some place) None ≡ None
unit_place_none_high place n h = grind (arith, nat_tests)

-- if the position of a test is `None`, no member passes it
no_unit_passes : (test : Amount → Bool) (xs : List Amount) → position test xs ≡ None → Each (λ x. test x ≡ false) xs
no_unit_passes test [] h = tt
no_unit_passes test (x ∷ xs) h =
    by_test (test x) refl (unit_place_none_low (position_or_len test (x ∷ xs)) (length (x ∷ xs)) h)
    (λ rest. no_unit_passes test xs rest)
  where
    by_test : (b : Bool) → test x ≡ b → length (x ∷ xs) ≤ position_or_len test (x ∷ xs)
        → (position test xs ≡ None → Each (λ x. test x ≡ false) xs) → Each (λ x. test x ≡ false) (x ∷ xs)
    by_test true is low rest =
        let first : position_or_len test (x ∷ xs) ≡ 0 = ap (λ b. cond (not b) (1 + position_or_len test xs) 0) is in
        absurd (omega arith)
    by_test false is low rest =
        let later : position_or_len test (x ∷ xs) ≡ 1 + position_or_len test xs =
        ap (λ b. cond (not b) (1 + position_or_len test xs) 0) is in
        (is, rest (unit_place_none_high (position_or_len test xs) (length xs) (omega arith)))

-- if the units have no fault, each is positive
faultless_units_are_positive : (q : Amount) (units : List Amount) → None ≡ unit_list_fault q units
    → position is_unit_not_positive units ≡ None
faultless_units_are_positive q units fine = go (position (is_unlike_unit q) units) (position is_unit_not_positive units)
    (sym fine)
  where
    go : (unlike place : Option ℕ) → unit_place_fault unlike place ≡ None → place ≡ None
    go (Some k) place h = absurd (cc)
    go None (Some k) h = absurd (cc)
    go None None h = refl

-- a number for which the test for above 0 does not fail is above 0
unit_numerator_is_positive : (z : ℤ) → not (int_lt (pos 0) z) ≡ false → pos 0 <ℤ z
unit_numerator_is_positive z h = grind (arith, ints)

-- if no unit has a fault, the number of each is a unit
pub faultless_units_are_units : (q : Amount) (units : List Amount) → None ≡ unit_list_fault q units
    → All HasUnitDenominator units
    → All IsUnitNumber (numbers_of_units units)
faultless_units_are_units q units fine denominators =
    let positive =
    All-from_recursion (λ (unit : Amount). is_unit_not_positive unit ≡ false) units
    (no_unit_passes is_unit_not_positive units (faultless_units_are_positive q units fine)) in
    All-map IsUnitNumber number_of_unit units (λ k d within. record {
      denominator = denominators k d within;
      unit_positive = unit_numerator_is_positive (get_or units k d).value.num (positive k d within);
    })
