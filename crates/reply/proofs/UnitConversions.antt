-- Two quantities: the conversion of one to the other, and its exact quotients.
use Rattle.std.proofs.Common.{◌≡◌, ◌∙◌, ◌&&◌, ◌==◌, arith, refl, sym, ap, ap₂, subst, ℤ, pos, negsuc, suc, unsigned_abs}
use Rattle.std.proofs.Common.{Bool, true, false, true≢false, not, if◌then◌else◌, Option, Some, None, Result, Ok, Err}
use Rattle.std.proofs.lemmas.Bool.{eqb-true}
use Rattle.frac128.specs.declared.fault.FracFault.{FracFault}
use Rattle.frac128.specs.Fraction.{Fraction, whole_fraction}
use Rattle.frac128.specs.Sign.{is_zero_fraction}
use Rattle.frac128.specs.Steps.{fraction_quotient}
use Rattle.quantity.specs.Amount.{Amount, are_reciprocal_exponents, exponents_conform}
use Rattle.reply.specs.declared.conversion.Conversion.{Conversion}
use Rattle.reply.specs.declared.conversion.Conversion.TheVariants.{Linear, Reciprocal, Inverse, NonConforming, Split}
use Rattle.reply.specs.declared.fault.ReplyFault.{ReplyFault}
use Rattle.reply.specs.declared.ratio.Ratio.{Ratio}
use Rattle.reply.specs.Conversions.{conversion_between, is_conversion_granted, linear_conversion, reciprocal_conversion}
use Rattle.reply.specs.Grants.{AreConversionFactors, IsConversionBackFactor, IsUnitConversion}
use Rattle.reply.specs.Quotients.{ConversionQuotientLaw}
use Rattle.reply.specs.Ratios.{conversion_ratio, inverse_conversion_ratio, reciprocal_conversion_ratio}
use Rattle.reply.proofs.InquiryResults.{bound, split-steps}
use Rattle.general_lemmas.proofs.Results.{same_Ok, err-ok}

-- ---- the two quotients of two numbers
conversion-number-is-zero : (z : ℤ) → (unsigned_abs z == 0) ≡ true → z ≡ pos 0
conversion-number-is-zero (pos n) h = ap pos (eqb-true n 0 h)
conversion-number-is-zero (negsuc k) h = let n : suc k ≡ 0 = eqb-true (suc k) 0 h in absurd (omega arith)

module _ (law : ConversionQuotientLaw) (x y : Fraction) where
  abbrev ratio_by : Result Fraction FracFault → Result (Option Fraction) FracFault → Result Ratio FracFault
  ratio_by forward back = bound forward (λ f. bound back (λ b. Ok (record { forward = f; back = b })))

  abbrev back_by : (zero : Bool) → Result Fraction FracFault → Result (Option Fraction) FracFault
  back_by zero quotient = if zero then Ok None else bound quotient (λ w. Ok (Some w))

  back-of : (zero : Bool) → is_zero_fraction x ≡ zero → (q : Result Fraction FracFault) → fraction_quotient y x ≡ q
      → (b : Option Fraction)
      → back_by zero q ≡ Ok b → IsConversionBackFactor x y b
  back-of true e q is b h = subst (IsConversionBackFactor x y) (same_Ok None b h) e
  back-of false e (Ok w) is b h = subst (IsConversionBackFactor x y) (same_Ok (Some w) b h) ((law y x w).0 is)
  back-of false e (Err fault) is b h = absurd (err-ok fault b h)

  -- a divisor is not 0
  not-zero : (w : Fraction) → fraction_quotient y x ≡ Ok w → is_zero_fraction x ≡ false
  not-zero w h = go (is_zero_fraction x) refl
    where
      go : (b : Bool) → is_zero_fraction x ≡ b → b ≡ false
      go true e = absurd (((law y x w).0 h).divisor (conversion-number-is-zero x.num e))
      go false e = refl

  of-back : (b : Option Fraction) → IsConversionBackFactor x y b → inverse_conversion_ratio x y ≡ Ok b
  of-back None h = ap (λ z. back_by z (fraction_quotient y x)) h
  of-back (Some w) h =
      let is : fraction_quotient y x ≡ Ok w = (law y x w).1 h in
      ap₂ back_by (not-zero w is) is

  factors-of : (r : Ratio) → conversion_ratio x y ≡ Ok r → AreConversionFactors x y r
  factors-of r h = go (fraction_quotient x y) refl (inverse_conversion_ratio x y) refl h
    where
      go : (f : Result Fraction FracFault) → fraction_quotient x y ≡ f → (b : Result (Option Fraction) FracFault)
          → inverse_conversion_ratio x y ≡ b → ratio_by f b ≡ Ok r → AreConversionFactors x y r
      go (Ok f) e (Ok b) is h =
          let same : (record { forward = f; back = b }) ≡ r = same_Ok _ r h in
          record {
            forward = (law x y r.forward).0 (e ∙ ap (λ (s : Ratio). Ok s.forward) same);
            back_factor = subst (λ (s : Ratio). IsConversionBackFactor x y s.back) same
                (back-of (is_zero_fraction x) refl (fraction_quotient y x) refl b is);
          }
      go (Ok f) e (Err fault) is h = absurd (err-ok fault r h)
      go (Err fault) e b is h = absurd (err-ok fault r h)

  of-factors : (r : Ratio) → AreConversionFactors x y r → conversion_ratio x y ≡ Ok r
  of-factors r q = ap₂ ratio_by ((law x y r.forward).1 q.forward) (of-back r.back q.back_factor)

-- ---- two quantities
-- the conversion by the three tests
abbrev pub conversion_by : (x y : Amount) (conforming opposite strict : Bool) → Result Conversion ReplyFault
conversion_by x y conforming opposite strict =
    if conforming then linear_conversion (conversion_ratio x.value y.value)
    else (if opposite && not strict then reciprocal_conversion (reciprocal_conversion_ratio x.value y.value) else Ok
    (NonConforming x y))

module _ (law : ConversionQuotientLaw) (strict : Bool) (x y : Amount) where
  module _ (c : Conversion) where
    linear-of : exponents_conform x.exponents y.exponents ≡ true → (q : Result Ratio FracFault)
        → conversion_ratio x.value y.value ≡ q
        → linear_conversion q ≡ Ok c → IsUnitConversion strict x y c
    linear-of conforming (Ok r) e h =
        subst (IsUnitConversion strict x y) (same_Ok (Linear r) c h)
        (record { conformable = conforming; factors = factors-of law x.value y.value r e })
    linear-of conforming (Err fault) e h = absurd (err-ok _ c h)

    reciprocal-of : exponents_conform x.exponents y.exponents ≡ false
        → are_reciprocal_exponents x.exponents y.exponents ≡ true
        → strict ≡ false → (q : Result Ratio FracFault) → reciprocal_conversion_ratio x.value y.value ≡ q
        → reciprocal_conversion q ≡ Ok c → IsUnitConversion strict x y c
    reciprocal-of unlike opposite lenient (Ok r) e h =
        let inverse = split-steps (fraction_quotient (whole_fraction (pos 1)) x.value) (λ i. conversion_ratio i y.value)
        r e in
        subst (IsUnitConversion strict x y) (same_Ok (Reciprocal r) c h) (
          lenient,
          record {
            unlike = unlike;
            opposite = opposite;
            inverse = inverse.0;
            inverse_is_quotient = (law (whole_fraction (pos 1)) x.value inverse.0).0 inverse.1;
            factors = factors-of law inverse.0 y.value r inverse.2;
          },
        )
    reciprocal-of unlike opposite lenient (Err fault) e h = absurd (err-ok _ c h)

    not-unlike : {A : Type 0} → ◌≡◌ {A = Result Conversion ReplyFault} (Ok (NonConforming x y)) (Ok c)
        → is_conversion_granted c ≡ true → A
    not-unlike h g = absurd (true≢false (sym (ap is_conversion_granted (same_Ok (NonConforming x y) c h) ∙ g)))

    pub conversion-of : conversion_between strict x y ≡ Ok c → is_conversion_granted c ≡ true
        → IsUnitConversion strict x y c
    conversion-of h g =
        go (exponents_conform x.exponents y.exponents) refl (are_reciprocal_exponents x.exponents y.exponents) refl
        strict refl h
      where
        go : (a : Bool) → exponents_conform x.exponents y.exponents ≡ a → (o : Bool)
            → are_reciprocal_exponents x.exponents y.exponents ≡ o
            → (s : Bool) → strict ≡ s → conversion_by x y a o s ≡ Ok c → IsUnitConversion strict x y c
        go true conforming o opposite s is h = linear-of conforming (conversion_ratio x.value y.value) refl h
        go false conforming true opposite false is h =
            reciprocal-of conforming opposite is (reciprocal_conversion_ratio x.value y.value) refl h
        go false conforming true opposite true is h = not-unlike h g
        go false conforming false opposite s is h = not-unlike h g

  pub of-conversion : (c : Conversion) → IsUnitConversion strict x y c → conversion_between strict x y ≡ Ok c
  of-conversion (Linear r) h =
      ap (λ a. conversion_by x y a (are_reciprocal_exponents x.exponents y.exponents) strict) h.conformable
      ∙ ap linear_conversion (of-factors law x.value y.value r h.factors)
  of-conversion (Reciprocal r) h =
      let is = h.1 in
      ap (λ a. conversion_by x y a (are_reciprocal_exponents x.exponents y.exponents) strict) is.unlike
      ∙ ap₂ (conversion_by x y false) is.opposite h.0
      ∙ ap (λ i. reciprocal_conversion (bound i (λ v. conversion_ratio v y.value)))
      ((law (whole_fraction (pos 1)) x.value is.inverse).1 is.inverse_is_quotient)
      ∙ ap reciprocal_conversion (of-factors law is.inverse y.value r is.factors)
  of-conversion (Inverse z) h = absurd h
  of-conversion (Split list counts) h = absurd h
  of-conversion (NonConforming p q) h = absurd h

module _ (strict : Bool) (x y : Amount) where
  -- there is no conversion to a quantity of the value 0
  pub none-to-zero : y.value.num ≡ pos 0 → (c : Conversion) → IsUnitConversion strict x y c → ⊥
  none-to-zero zero (Linear r) h = h.factors.forward.divisor zero
  none-to-zero zero (Reciprocal r) h = h.1.factors.forward.divisor zero
  none-to-zero zero (Inverse z) h = h
  none-to-zero zero (Split list counts) h = h
  none-to-zero zero (NonConforming p q) h = h
