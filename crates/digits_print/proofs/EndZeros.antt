-- Zeros at the end of digits.
use Rattle.std.proofs.Common.{subst, ◌≡◌, ◌<◌, ◌≤◌, ◌-◌, ◌++◌, ◌∷◌, [], ℕ, suc, zero, List, Bool, true, false, length}
use Rattle.std.proofs.Common.{get_or, take, arith, refl, sym, ap, ◌∙◌, if◌then◌else◌}
use Rattle.std.specs.Prelude.{◌==◌, ◌&&◌}
use Rattle.std.specs.List.{list_all}
use Rattle.std.proofs.lemmas.Bool.Decides.{nat_tests}
use Rattle.std.proofs.lemmas.List.Folds.{list_all-append}
use Rattle.std.proofs.Math.Seq.{take-suc}
use Rattle.digits_print.specs.Layout.{digits_without_end_zeros}

-- the byte of the digit 0
abbrev is_zero : ℕ → Bool
is_zero b = b == 48

-- removing trailing zeros also removes one more zero at the end
cut_end_zero_digit : (ds : List ℕ) → digits_without_end_zeros (ds ++ 48 ∷ []) ≡ digits_without_end_zeros ds
cut_end_zero_digit [] = refl
cut_end_zero_digit (d ∷ ds) =
    ap (λ b. if b then [] else d ∷ digits_without_end_zeros (ds ++ 48 ∷ []))
    (list_all-append is_zero (d ∷ ds) (48 ∷ []) ∙ and_true (list_all is_zero (d ∷ ds)))
    ∙ ap (λ r. if list_all is_zero (d ∷ ds) then [] else d ∷ r) (cut_end_zero_digit ds)
  where
    and_true : (b : Bool) → (b && true) ≡ b
    and_true true = refl
    and_true false = refl

-- removing trailing zeros keeps a last digit other than 0
keep_last_digit : (ds : List ℕ) (x : ℕ) → (x == 48) ≡ false → digits_without_end_zeros (ds ++ x ∷ []) ≡ ds ++ x ∷ []
keep_last_digit [] x other = rw other refl
keep_last_digit (d ∷ ds) x other =
    ap (λ b. if b then [] else d ∷ digits_without_end_zeros (ds ++ x ∷ []))
    (list_all-append is_zero (d ∷ ds) (x ∷ []) ∙ ap (λ v. list_all is_zero (d ∷ ds) && (v && true)) other
    ∙ and_false (list_all is_zero (d ∷ ds)))
    ∙ ap (λ r. d ∷ r) (keep_last_digit ds x other)
  where
    and_false : (b : Bool) → (b && false) ≡ false
    and_false true = refl
    and_false false = refl

-- all digits from this index on are zeros
pub record IsCutTo (ds : List ℕ) (end : ℕ) : Type 0 where
  pub within : end ≤ length ds
  pub same : digits_without_end_zeros (take end ds) ≡ digits_without_end_zeros ds

-- if the digit before the end is 0, the end can move before it
pub cut_more_end_digits : (ds : List ℕ) (end : ℕ) → 0 < end → IsCutTo ds end → get_or ds (end - 1) 0 ≡ 48
    → IsCutTo ds (end - 1)
cut_more_end_digits ds zero some is last = absurd (omega arith)
cut_more_end_digits ds (suc j) some is last = let less : j ≡ suc j - 1 =
    omega arith in subst (λ v. IsCutTo ds v) less (at (ap (λ v. get_or ds v 0) less ∙ last))
  where
    at : get_or ds j 0 ≡ 48 → IsCutTo ds j
    at last = record {
      within = omega (arith, is.within);
      same = sym (ap digits_without_end_zeros
          (take-suc ds j 0 (omega (arith, is.within)) ∙ ap (λ x. take j ds ++ x ∷ []) last)
          ∙ cut_end_zero_digit (take j ds)) ∙ is.same;
    }

-- the digits up to an end that does not follow a 0 are those without trailing zeros
pub cut_end_digits : (ds : List ℕ) (end : ℕ) → IsCutTo ds end → (0 < end → get_or ds (end - 1) 0 ≡ 48 → ⊥)
    → take end ds ≡ digits_without_end_zeros ds
cut_end_digits ds zero is other = is.same
cut_end_digits ds (suc j) is other =
    let less : suc j - 1 ≡ j = omega arith in
    let last = take-suc ds j 0 (omega (arith, is.within)) in
    last ∙ sym (keep_last_digit (take j ds) (get_or ds j 0)
    (no_zero (get_or ds j 0) (λ zero. other (omega arith) (ap (λ v. get_or ds v 0) less ∙ zero))))
    ∙ sym (ap digits_without_end_zeros last) ∙ is.same
  where
    no_zero : (x : ℕ) → (x ≡ 48 → ⊥) → (x == 48) ≡ false
    no_zero x h = grind (arith, nat_tests)
