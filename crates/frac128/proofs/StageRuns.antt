-- Numerals that are read byte by byte.
use Rattle.std.proofs.Common.{inl, inr, add-one, subst, ◌≡◌, ◌+◌, ◌-◌, ◌<◌, ◌≤◌, ℕ, suc, zero, Bool, true, false, List}
use Rattle.std.proofs.Common.{[], ◌∷◌, take, drop, length, get_or, Option, Some, None, arith, refl, sym, ap, ◌∙◌}
use Rattle.std.specs.Prelude.{nat_eq, ◌&&◌, if◌then◌else◌}
use Rattle.std.specs.List.{list_all}
use Rattle.std.proofs.lemmas.Bool.{cases_lt}
use Rattle.std.proofs.lemmas.Bool.Decides.{nat_tests}
use Rattle.std.proofs.lemmas.List.{drop_more, take_all}
use Rattle.std.proofs.Math.Bool.{and-false}
use Rattle.frac128.specs.declared.numeral_syntax.Kind.{Kind}
use Rattle.frac128.specs.declared.numeral_syntax.Stage.{Stage}
use Rattle.frac128.specs.declared.numeral_syntax.Stage.TheVariants.{Start, Whole, Pointed, Fraction, Marked, Signed}
use Rattle.frac128.specs.declared.numeral_syntax.Stage.TheVariants.{Exponent}
use Rattle.frac128.specs.Numerals.{after_numeral_sign, greatest_whole_passing, is_numeral_digit}
use Rattle.frac128.specs.Numerals.{is_numeral_exponent_part, prefix_until, suffix_from, is_numeral}
use Rattle.frac128.specs.Numerals.{is_numeral_exponent_mark, is_numeral_point, are_numeral_digits, is_numeral_sign}
use Rattle.frac128.specs.Numerals.{is_pointed_numeral, longest_numeral_len}
use Rattle.frac128.specs.Stages.{numeral_byte_kind, numeral_may_end, numeral_stage_after}

-- whether the bytes after a stage complete a numeral
abbrev rest_of : Stage → List ℕ → Bool
rest_of Start bs = is_numeral bs
rest_of Whole bs = is_pointed_numeral (prefix_until is_numeral_exponent_mark bs) && is_numeral_exponent_part
    (suffix_from is_numeral_exponent_mark bs)
rest_of Pointed bs = are_numeral_digits (prefix_until is_numeral_exponent_mark bs) && is_numeral_exponent_part
    (suffix_from is_numeral_exponent_mark bs)
rest_of Fraction bs = list_all is_numeral_digit (prefix_until is_numeral_exponent_mark bs) && is_numeral_exponent_part
    (suffix_from is_numeral_exponent_mark bs)
rest_of Marked bs = are_numeral_digits (after_numeral_sign bs)
rest_of Signed bs = are_numeral_digits bs
rest_of Exponent bs = list_all is_numeral_digit bs

-- whether the bytes after an optional stage complete a numeral; no bytes do if there is no stage
abbrev rest_of_some : Option Stage → List ℕ → Bool
rest_of_some None bs = false
rest_of_some (Some s) bs = rest_of s bs

-- the results of the four tests of a byte
record AreTests (b : ℕ) (digit point mark sign : Bool) : Type 0 where
  digit_is : is_numeral_digit b ≡ digit
  point_is : is_numeral_point b ≡ point
  mark_is : is_numeral_exponent_mark b ≡ mark
  sign_is : is_numeral_sign b ≡ sign

-- at most one of the tests of a byte passes
data IsTested (b : ℕ) : Type 0 where
  IsDigit : AreTests b true false false false → IsTested b
  IsPoint : AreTests b false true false false → IsTested b
  IsMark : AreTests b false false true false → IsTested b
  IsSign : AreTests b false false false true → IsTested b
  IsOther : AreTests b false false false false → IsTested b

-- a digit is not a point
pub numeral_digit_is_no_point : (b : ℕ) → is_numeral_digit b ≡ true → is_numeral_point b ≡ false
numeral_digit_is_no_point b h = grind (arith, nat_tests)

-- a digit is not a mark
pub numeral_digit_is_no_mark : (b : ℕ) → is_numeral_digit b ≡ true → is_numeral_exponent_mark b ≡ false
numeral_digit_is_no_mark b h = grind (arith, nat_tests)

-- a digit is not a sign
numeral_digit_is_no_sign : (b : ℕ) → is_numeral_digit b ≡ true → is_numeral_sign b ≡ false
numeral_digit_is_no_sign b h = grind (arith, nat_tests)

-- a point is not a mark
numeral_point_is_no_mark : (b : ℕ) → is_numeral_point b ≡ true → is_numeral_exponent_mark b ≡ false
numeral_point_is_no_mark b h = grind (arith, nat_tests)

-- a point is not a sign
numeral_point_is_no_sign : (b : ℕ) → is_numeral_point b ≡ true → is_numeral_sign b ≡ false
numeral_point_is_no_sign b h = grind (arith, nat_tests)

-- a mark is not a sign
numeral_mark_is_no_sign : (b : ℕ) → is_numeral_exponent_mark b ≡ true → is_numeral_sign b ≡ false
numeral_mark_is_no_sign b h = grind (arith, nat_tests)

-- at most one of the tests of each byte passes
numeral_byte_passes_one_test : (b : ℕ) → IsTested b
numeral_byte_passes_one_test b = by_tests (is_numeral_digit b) (is_numeral_point b) (is_numeral_exponent_mark b)
    (is_numeral_sign b) refl refl refl refl
  where
    by_tests : (d p m s : Bool) → is_numeral_digit b ≡ d → is_numeral_point b ≡ p → is_numeral_exponent_mark b ≡ m
        → is_numeral_sign b ≡ s
        → IsTested b
    by_tests true p m s d_is p_is m_is s_is =
        IsDigit (record {
          digit_is = d_is;
          point_is = numeral_digit_is_no_point b d_is;
          mark_is = numeral_digit_is_no_mark b d_is;
          sign_is =
              numeral_digit_is_no_sign b d_is;
        })
    by_tests false true m s d_is p_is m_is s_is =
        IsPoint (record {
          digit_is = d_is;
          point_is = p_is;
          mark_is = numeral_point_is_no_mark b p_is;
          sign_is =
              numeral_point_is_no_sign b p_is;
        })
    by_tests false false true s d_is p_is m_is s_is =
        IsMark (record { digit_is = d_is; point_is = p_is; mark_is = m_is; sign_is = numeral_mark_is_no_sign b m_is })
    by_tests false false false true d_is p_is m_is s_is =
        IsSign (record { digit_is = d_is; point_is = p_is; mark_is = m_is; sign_is = s_is })
    by_tests false false false false d_is p_is m_is s_is =
        IsOther (record { digit_is = d_is; point_is = p_is; mark_is = m_is; sign_is = s_is })

-- one more byte leads to the stage after it
numeral_rest_step : (s : Stage) (b : ℕ) (bs : List ℕ) → rest_of s (b ∷ bs) ≡ rest_of_some
    (numeral_stage_after s (numeral_byte_kind b)) bs
numeral_rest_step s b bs = by_tests s (numeral_byte_passes_one_test b)
  where
    by_tests : (s : Stage) → IsTested b → rest_of s (b ∷ bs) ≡ rest_of_some
        (numeral_stage_after s (numeral_byte_kind b)) bs
    by_tests Start (IsDigit t) = simp (t.digit_is, t.point_is, t.mark_is, t.sign_is)
    by_tests Start (IsPoint t) = simp (t.digit_is, t.point_is, t.mark_is, t.sign_is)
    by_tests Start (IsMark t) = simp (t.digit_is, t.point_is, t.mark_is, t.sign_is)
    by_tests Start (IsSign t) = simp (t.digit_is, t.point_is, t.mark_is, t.sign_is, and-false)
    by_tests Start (IsOther t) = simp (t.digit_is, t.point_is, t.mark_is, t.sign_is, and-false)
    by_tests Whole (IsDigit t) = simp (t.digit_is, t.point_is, t.mark_is, t.sign_is)
    by_tests Whole (IsPoint t) = simp (t.digit_is, t.point_is, t.mark_is, t.sign_is)
    by_tests Whole (IsMark t) = simp (t.digit_is, t.point_is, t.mark_is, t.sign_is)
    by_tests Whole (IsSign t) = simp (t.digit_is, t.point_is, t.mark_is, t.sign_is)
    by_tests Whole (IsOther t) = simp (t.digit_is, t.point_is, t.mark_is, t.sign_is)
    by_tests Pointed (IsDigit t) = simp (t.digit_is, t.point_is, t.mark_is, t.sign_is)
    by_tests Pointed (IsPoint t) = simp (t.digit_is, t.point_is, t.mark_is, t.sign_is, and-false)
    by_tests Pointed (IsMark t) = simp (t.digit_is, t.point_is, t.mark_is, t.sign_is)
    by_tests Pointed (IsSign t) = simp (t.digit_is, t.point_is, t.mark_is, t.sign_is, and-false)
    by_tests Pointed (IsOther t) = simp (t.digit_is, t.point_is, t.mark_is, t.sign_is, and-false)
    by_tests Fraction (IsDigit t) = simp (t.digit_is, t.point_is, t.mark_is, t.sign_is)
    by_tests Fraction (IsPoint t) = simp (t.digit_is, t.point_is, t.mark_is, t.sign_is)
    by_tests Fraction (IsMark t) = simp (t.digit_is, t.point_is, t.mark_is, t.sign_is)
    by_tests Fraction (IsSign t) = simp (t.digit_is, t.point_is, t.mark_is, t.sign_is)
    by_tests Fraction (IsOther t) = simp (t.digit_is, t.point_is, t.mark_is, t.sign_is)
    by_tests Marked (IsDigit t) = simp (t.digit_is, t.point_is, t.mark_is, t.sign_is)
    by_tests Marked (IsPoint t) = simp (t.digit_is, t.point_is, t.mark_is, t.sign_is, and-false)
    by_tests Marked (IsMark t) = simp (t.digit_is, t.point_is, t.mark_is, t.sign_is, and-false)
    by_tests Marked (IsSign t) = simp (t.digit_is, t.point_is, t.mark_is, t.sign_is)
    by_tests Marked (IsOther t) = simp (t.digit_is, t.point_is, t.mark_is, t.sign_is, and-false)
    by_tests Signed (IsDigit t) = simp (t.digit_is, t.point_is, t.mark_is, t.sign_is)
    by_tests Signed (IsPoint t) = simp (t.digit_is, t.point_is, t.mark_is, t.sign_is, and-false)
    by_tests Signed (IsMark t) = simp (t.digit_is, t.point_is, t.mark_is, t.sign_is, and-false)
    by_tests Signed (IsSign t) = simp (t.digit_is, t.point_is, t.mark_is, t.sign_is, and-false)
    by_tests Signed (IsOther t) = simp (t.digit_is, t.point_is, t.mark_is, t.sign_is, and-false)
    by_tests Exponent (IsDigit t) = simp (t.digit_is, t.point_is, t.mark_is, t.sign_is)
    by_tests Exponent (IsPoint t) = simp (t.digit_is, t.point_is, t.mark_is, t.sign_is)
    by_tests Exponent (IsMark t) = simp (t.digit_is, t.point_is, t.mark_is, t.sign_is)
    by_tests Exponent (IsSign t) = simp (t.digit_is, t.point_is, t.mark_is, t.sign_is)
    by_tests Exponent (IsOther t) = simp (t.digit_is, t.point_is, t.mark_is, t.sign_is)

-- without more bytes, a numeral is complete if it may end at the stage
numeral_rest_end : (s : Stage) → rest_of s [] ≡ numeral_may_end s
numeral_rest_end Start = refl
numeral_rest_end Whole = refl
numeral_rest_end Pointed = refl
numeral_rest_end Fraction = refl
numeral_rest_end Marked = refl
numeral_rest_end Signed = refl
numeral_rest_end Exponent = refl

-- after the first `i` bytes: the stage, which decides whether more bytes complete a numeral, and the length of the
-- longest numeral so far
pub record IsReadTo (bytes : List ℕ) (i : ℕ) (stage : Stage) (len : ℕ) : Type 0 where
  pub within : i ≤ length bytes
  pub rest : (n : ℕ) → is_numeral (take (i + n) bytes) ≡ rest_of stage (take n (drop i bytes))
  pub longest : len ≡ greatest_whole_passing (λ n. is_numeral (take n bytes)) i

-- before the first byte
pub numeral_read_start : (bytes : List ℕ) → IsReadTo bytes 0 Start 0
unfolding greatest_whole_passing
numeral_read_start bytes = record {
  within = omega arith;
  rest = λ n. ap (λ k. is_numeral (take k bytes)) (plain n);
  longest = refl;
}
  where
    plain : (n : ℕ) → 0 + n ≡ n
    plain n = omega arith

-- the stage after one more byte decides whether more bytes complete a numeral
numeral_rest_after_byte : (bytes : List ℕ) (i len : ℕ) (s : Stage) (k : Kind) → IsReadTo bytes i s len
    → i < length bytes
    → k ≡ numeral_byte_kind (get_or bytes i 0)
    → (n : ℕ) → is_numeral (take (i + 1 + n) bytes) ≡ rest_of_some (numeral_stage_after s k)
    (take n (drop (i + 1) bytes))
numeral_rest_after_byte bytes i len s k is h k_is n =
    ap (λ m. is_numeral (take m bytes)) (moved i n)
    ∙ is.rest (suc n)
    ∙ ap (λ xs. rest_of s (take (suc n) xs)) (drop_more bytes i 0 h)
    ∙ numeral_rest_step s (get_or bytes i 0) (take n (drop (i + 1) bytes))
    ∙ ap (λ t. rest_of_some (numeral_stage_after s t) (take n (drop (i + 1) bytes))) (sym k_is)
  where
    moved : (i n : ℕ) → i + 1 + n ≡ i + suc n
    moved i n = omega arith

-- the greatest number up to `i + 1` that passes
greatest_whole_more : (test : ℕ → Bool) (i : ℕ) (b : Bool) → test (i + 1) ≡ b
    → greatest_whole_passing test (i + 1) ≡ (if b then i + 1 else greatest_whole_passing test i)
unfolding greatest_whole_passing
greatest_whole_more test i b e =
    subst (λ n. test n ≡ b → greatest_whole_passing test n ≡ (if b then n else greatest_whole_passing test i))
    (sym (add-one i))
    (step (suc i) refl) e
  where
    step : (n : ℕ) → n ≡ suc i → test (suc i) ≡ b
        → greatest_whole_passing test (suc i) ≡ (if b then suc i else greatest_whole_passing test i)
    step n e h = rw h refl

-- reading one more byte
pub numeral_read_more : (bytes : List ℕ) (i : ℕ) (s next : Stage) (k : Kind) (len more : ℕ) → IsReadTo bytes i s len
    → i < length bytes
    → k ≡ numeral_byte_kind (get_or bytes i 0)
    → Some next ≡ numeral_stage_after s k → more ≡ (if numeral_may_end next then i + 1 else len)
    → IsReadTo bytes (i + 1) next more
numeral_read_more bytes i s next k len more is h k_is next_is more_is =
    let on : (n : ℕ) → is_numeral (take (i + 1 + n) bytes) ≡ rest_of next (take n (drop (i + 1) bytes)) =
    λ n. numeral_rest_after_byte bytes i len s k is h k_is n ∙ ap (λ t. rest_of_some t (take n (drop (i + 1) bytes)))
    (sym next_is) in
    let test : is_numeral (take (i + 1) bytes) ≡ numeral_may_end next = ap (λ n. is_numeral (take n bytes))
    (plain (i + 1))
    ∙ on 0 ∙ numeral_rest_end next in
    record {
      within = omega arith;
      rest = on;
      longest = more_is ∙ ap (λ n. if numeral_may_end next then i + 1 else n) is.longest
          ∙ sym (greatest_whole_more (λ n. is_numeral (take n bytes)) i (numeral_may_end next) test);
    }
  where
    plain : (n : ℕ) → n ≡ n + 0
    plain n = omega arith

-- if no number above `i` passes the test, the greatest one up to `n` is that up to `i`
greatest_whole-stays : (test : ℕ → Bool) (i n : ℕ) → i ≤ n → ((m : ℕ) → i < m → m ≤ n → test m ≡ false)
    → greatest_whole_passing test n ≡ greatest_whole_passing test i
unfolding greatest_whole_passing
greatest_whole-stays test i zero h none = let same : zero ≡ i = omega arith in ap (greatest_whole_passing test) same
greatest_whole-stays test i (suc n) h none = elim (cases_lt i (suc n)) [
  | inl low ↦ ap (λ b. if b then suc n else greatest_whole_passing test n) (none (suc n) low (omega arith))
      ∙ greatest_whole-stays test i n (omega arith) (λ m p q. none m p (omega arith))
  | inr high ↦ (let same : suc n ≡ i = omega arith in ap (greatest_whole_passing test) same)
]

-- if no numeral continues with the next byte, the longest numeral is found
pub numeral_read_end : (bytes : List ℕ) (i : ℕ) (s : Stage) (k : Kind) (len : ℕ) → IsReadTo bytes i s len
    → i < length bytes
    → k ≡ numeral_byte_kind (get_or bytes i 0)
    → None ≡ numeral_stage_after s k → len ≡ longest_numeral_len bytes
numeral_read_end bytes i s k len is h k_is none =
    is.longest ∙ sym (greatest_whole-stays (λ n. is_numeral (take n bytes)) i (length bytes) is.within
    (λ m p q. longer m p))
  where
    longer : (m : ℕ) → i < m → is_numeral (take m bytes) ≡ false
    longer m p =
        let n : ℕ = m - (i + 1) in
        ap (λ j. is_numeral (take j bytes)) (parts m p) ∙ numeral_rest_after_byte bytes i len s k is h k_is n
        ∙ ap (λ t. rest_of_some t (take n (drop (i + 1) bytes))) (sym none)
      where
        parts : (m : ℕ) → i < m → m ≡ i + 1 + (m - (i + 1))
        parts m p = omega arith

-- the greatest number that passes is at most the last number
greatest_whole-at_most : (test : ℕ → Bool) (n : ℕ) → greatest_whole_passing test n ≤ n
unfolding greatest_whole_passing
greatest_whole-at_most test zero = omega arith
greatest_whole-at_most test (suc n) = by_test (test (suc n)) (greatest_whole-at_most test n)
  where
    by_test : (b : Bool) → greatest_whole_passing test n ≤ n → (if b then suc n else greatest_whole_passing test n) ≤
        suc n
    by_test true h = omega arith
    by_test false h = omega arith

-- the last number is the greatest one that passes exactly if it passes
greatest_whole-last : (test : ℕ → Bool) (n : ℕ) → 0 < n → nat_eq (greatest_whole_passing test n) n ≡ test n
unfolding greatest_whole_passing
greatest_whole-last test zero h = absurd (omega arith)
greatest_whole-last test (suc n) h = by_test (test (suc n)) (greatest_whole-at_most test n)
  where
    by_test : (b : Bool) → greatest_whole_passing test n ≤ n
        → nat_eq (if b then suc n else greatest_whole_passing test n)
        (suc n) ≡ b
    by_test true h = grind (arith, nat_tests)
    by_test false h = grind (arith, nat_tests)

-- all bytes are a numeral exactly if the longest numeral has all of them
pub longest_numeral_len-all : (bytes : List ℕ) → 0 < length bytes
    → nat_eq (longest_numeral_len bytes) (length bytes) ≡ is_numeral bytes
longest_numeral_len-all bytes some = greatest_whole-last (λ n. is_numeral (take n bytes)) (length bytes) some
    ∙ ap is_numeral (take_all (length bytes) bytes (omega arith))
