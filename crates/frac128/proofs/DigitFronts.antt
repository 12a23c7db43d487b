-- Digits at the front of a numeral.
use Rattle.std.proofs.Common.{◌≡◌, ◌+◌, ◌-◌, ◌<◌, ℕ, suc, zero, Bool, true, false, List, [], ◌∷◌}
use Rattle.std.proofs.Common.{take, length, get_or, add-one, subst, Some, None, arith, refl, sym, ap, ◌∙◌}
use Rattle.std.specs.Prelude.{◌||◌, if◌then◌else◌}
use Rattle.std.specs.List.{list_all}
use Rattle.std.proofs.lemmas.Bool.{and_parts}
use Rattle.frac128.specs.declared.numeral_syntax.Kind.TheVariants.{Digit, Point, Mark, Sign, Other}
use Rattle.frac128.specs.declared.numeral_syntax.Stage.{Stage}
use Rattle.frac128.specs.declared.numeral_syntax.Stage.TheVariants.{Start, Whole, Pointed, Fraction, Marked, Signed}
use Rattle.frac128.specs.declared.numeral_syntax.Stage.TheVariants.{Exponent}
use Rattle.frac128.specs.Decimals.{numeral_decimal_places}
use Rattle.frac128.specs.Numerals.{is_numeral_digit, is_numeral_exponent_mark, is_numeral_point, is_numeral_sign}
use Rattle.frac128.specs.Numerals.{longest_numeral_len}
use Rattle.frac128.specs.Stages.{numeral_byte_kind, numeral_may_end, numeral_stage_after}
use Rattle.frac128.proofs.Readings.{IsSplit}
use Rattle.frac128.proofs.StageRuns.{IsReadTo, numeral_digit_is_no_mark, numeral_digit_is_no_point, numeral_read_end}
use Rattle.frac128.proofs.StageRuns.{numeral_read_more, numeral_read_start}
use Rattle.frac128.proofs.WholeNumerals.{digits_numeral, numeral_prefix_of_digits, numeral_suffix_of_digits}

-- the stage after `i` digits
abbrev pub digits_stage : ℕ → Stage
digits_stage zero = Start
digits_stage (suc n) = Whole

-- the first `i` bytes are digits
pub record IsDigitsTo (bytes : List ℕ) (i : ℕ) : Type 0 where
  pub read : IsReadTo bytes i (digits_stage i) i
  pub digits : list_all is_numeral_digit (take i bytes) ≡ true

-- no byte has been read
pub numeral_digits_start : (bytes : List ℕ) → IsDigitsTo bytes 0
numeral_digits_start bytes = record { read = numeral_read_start bytes; digits = refl }

-- if the first `i` bytes and the next one are digits, the first `i + 1` bytes are digits
numeral_digits_grow : (bytes : List ℕ) (i : ℕ) → list_all is_numeral_digit (take i bytes) ≡ true → i < length bytes
    → is_numeral_digit (get_or bytes i 0) ≡ true → list_all is_numeral_digit (take (suc i) bytes) ≡ true
numeral_digits_grow [] i h low digit = absurd (omega arith)
numeral_digits_grow (b ∷ bs) zero h low digit = rw digit refl
numeral_digits_grow (b ∷ bs) (suc i) h low digit =
    let parts = and_parts (is_numeral_digit b) (list_all is_numeral_digit (take i bs)) h in
    rw parts.0 (numeral_digits_grow bs i parts.1 (omega arith) digit)

-- reading one more digit
pub numeral_digits_more : (bytes : List ℕ) (i : ℕ) → IsDigitsTo bytes i → i < length bytes
    → is_numeral_digit (get_or bytes i 0) ≡ true → IsDigitsTo bytes (i + 1)
numeral_digits_more bytes i is low digit = record {
  read = subst (λ s. IsReadTo bytes (i + 1) s (i + 1)) (later i)
      (numeral_read_more bytes i (digits_stage i) Whole Digit i (i + 1) is.read low (sym (kind digit)) (next i) refl);
  digits = ap (λ n. list_all is_numeral_digit (take n bytes)) (add-one i)
      ∙ numeral_digits_grow bytes i is.digits low digit;
}
  where
    kind : is_numeral_digit (get_or bytes i 0) ≡ true → numeral_byte_kind (get_or bytes i 0) ≡ Digit
    kind h = rw h refl

    next : (i : ℕ) → Some Whole ≡ numeral_stage_after (digits_stage i) Digit
    next zero = refl
    next (suc i) = refl

    later : (i : ℕ) → Whole ≡ digits_stage (i + 1)
    later i = ap digits_stage (sym (add-one i))

-- if the next byte cannot continue a numeral, the longest numeral ends before it
pub numeral_digits_end : (bytes : List ℕ) (i : ℕ) → IsDigitsTo bytes i → i < length bytes
    → is_numeral_digit (get_or bytes i 0) ≡ false
    → (is_numeral_point (get_or bytes i 0) || is_numeral_exponent_mark (get_or bytes i 0)) ≡ false
    → 0 < i → i ≡ longest_numeral_len bytes
numeral_digits_end bytes zero is low other stops some = absurd (omega arith)
numeral_digits_end bytes (suc i) is low other stops some =
    numeral_read_end bytes (suc i) Whole (numeral_byte_kind (get_or bytes (suc i) 0)) (suc i) is.read low refl
    (none (is_numeral_digit (get_or bytes (suc i) 0)) (is_numeral_point (get_or bytes (suc i) 0))
    (is_numeral_exponent_mark (get_or bytes (suc i) 0)) (is_numeral_sign (get_or bytes (suc i) 0)) other stops)
  where
    none : (d p m s : Bool) → d ≡ false → (p || m) ≡ false
        → None ≡ numeral_stage_after Whole
        (if d then Digit else (if p then Point else (if m then Mark else (if s then Sign
        else Other))))
    none true p m s d_is h = absurd (cc)
    none false true m s d_is h = absurd (cc)
    none false false true s d_is h = absurd (cc)
    none false false false true d_is h = refl
    none false false false false d_is h = refl

-- after one more digit at a stage at which a numeral may end, the stage is the same and the longest numeral ends there
pub digit_extends_ended_numeral : (bytes : List ℕ) (i : ℕ) (s : Stage) (len : ℕ) → IsReadTo bytes i s len
    → i < length bytes
    → is_numeral_digit (get_or bytes i 0) ≡ true → numeral_may_end s ≡ true → IsReadTo bytes (i + 1) s (i + 1)
digit_extends_ended_numeral bytes i s len is low digit ends =
    numeral_read_more bytes i s s Digit len (i + 1) is low (sym (kind digit)) (stays s ends) (rw ends refl)
  where
    kind : is_numeral_digit (get_or bytes i 0) ≡ true → numeral_byte_kind (get_or bytes i 0) ≡ Digit
    kind h = rw h refl

    stays : (s : Stage) → numeral_may_end s ≡ true → Some s ≡ numeral_stage_after s Digit
    stays Start h = absurd (cc)
    stays Whole h = refl
    stays Pointed h = absurd (cc)
    stays Fraction h = refl
    stays Marked h = absurd (cc)
    stays Signed h = absurd (cc)
    stays Exponent h = refl

-- digits alone are a mantissa without an exponent
pub numeral_digits_are_mantissa : (bytes : List ℕ) → 0 < length bytes → list_all is_numeral_digit bytes ≡ true
    → IsSplit bytes bytes []
numeral_digits_are_mantissa bytes some h = record {
  numeral = digits_numeral bytes some h;
  m_is = sym (numeral_prefix_of_digits is_numeral_exponent_mark bytes numeral_digit_is_no_mark h);
  t_is = sym (numeral_suffix_of_digits is_numeral_exponent_mark bytes numeral_digit_is_no_mark h);
}

-- digits alone have no digits after a point
pub numeral_digits_have_no_places : (bytes : List ℕ) → list_all is_numeral_digit bytes ≡ true
    → 0 ≡ numeral_decimal_places bytes
numeral_digits_have_no_places bytes h =
    sym (ap (λ xs. length xs - 1) (numeral_suffix_of_digits is_numeral_point bytes numeral_digit_is_no_point h))
