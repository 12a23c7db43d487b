-- The result of a division is a fraction if and only if it is the exact quotient.
use Rattle.std.proofs.Common.{◌≡◌, ◌≢◌, ◌*◌, ◌<◌, ◌*ℤ◌, ◌&&◌, ℕ, ℤ, pos, negsuc, neg_ℤ, suc, zero, Bool, true, false}
use Rattle.std.proofs.Common.{arith, refl, sym, ap, ap₂, subst, ◌∙◌}
use Rattle.std.specs.Prelude.{nat_le, unsigned_abs, Ok, Err, if◌then◌else◌}
use Rattle.std.proofs.Math.IntN.{*ℤ-negsuc, neg_ℤ-neg_ℤ, pos-*ℤ-negsuc}
use Rattle.std.proofs.Math.Nat.{mul-pos, mul-zero, mul_comm}
use Rattle.std.proofs.lemmas.Bool.{le-leb, leb-true, and_parts}
use Rattle.frac128.specs.declared.fault.FracFault.TheVariants.{Overflow}
use Rattle.frac128.specs.Fraction.{AreEquivalentFractions, Fraction, IsFrac, IsReducedFraction, fraction_fits}
use Rattle.frac128.specs.Fraction.{largest_fraction_part}
use Rattle.frac128.specs.Steps.{ReducedFractionLaw, fraction_or_overflow, lowest_terms, ratio}
use Rattle.reply.specs.Quotients.{ConversionQuotientLaw}
use Rattle.general_lemmas.proofs.Integers.{neg-times, mul-twice}

-- two factors above 0 as one, in the other order
conversion-factors-turned : (z : ℤ) (a b : ℕ) → z *ℤ pos a *ℤ pos b ≡ z *ℤ pos (b * a)
conversion-factors-turned z a b = mul-twice z a b ∙ ap (λ j. z *ℤ pos j) (mul_comm a b)

-- a reduced fraction that fits is the result
fitting-conversion-quotient : (r v : Fraction) → fraction_or_overflow r ≡ Ok v → (fraction_fits r ≡ true) × (r ≡ v)
fitting-conversion-quotient r v h = go (fraction_fits r) refl h
  where
    go : (b : Bool) → fraction_fits r ≡ b → (if b then Ok r else Err Overflow) ≡ Ok v
        → (fraction_fits r ≡ true) × (r ≡ v)
    go true e h = let same : r ≡ v = cc in (e, same)
    go false e h = absurd (cc)

reduced-conversion-quotient-fits : (r : Fraction) → IsReducedFraction r → fraction_fits r ≡ true → IsFrac r
reduced-conversion-quotient-fits r is e = record {
  lowest_terms = is;
  num_fits = leb-true (unsigned_abs r.num) largest_fraction_part (and_parts _ (nat_le r.den largest_fraction_part) e).0;
  den_fits = leb-true r.den largest_fraction_part (and_parts (nat_le (unsigned_abs r.num) largest_fraction_part) _ e).1;
}

frac-fits-as-conversion-quotient : (v : Fraction) → IsFrac v → fraction_or_overflow v ≡ Ok v
frac-fits-as-conversion-quotient v is =
    ap (λ b. if b then Ok v else Err Overflow)
    (ap₂ (λ a b. a && b) (le-leb (unsigned_abs v.num) largest_fraction_part is.num_fits)
    (le-leb v.den largest_fraction_part is.den_fits))

module _ (law : ReducedFractionLaw) (v : Fraction) where
  -- v is n over d in lowest terms, and fits
  record IsRatio (n : ℤ) (d : ℕ) : Type 0 where
    frac : IsFrac v
    same : AreEquivalentFractions v (record { num = n; den = d })

  fitting-ratio : (n : ℤ) (d : ℕ) → 0 < d → fraction_or_overflow (lowest_terms n d) ≡ Ok v → IsRatio n d
  fitting-ratio n d some h =
      let found = fitting-conversion-quotient (lowest_terms n d) v h in
      let is = law n d some in
      record {
        frac = subst IsFrac found.1 (reduced-conversion-quotient-fits (lowest_terms n d) is.0 found.0);
        same = subst (λ (r : Fraction). AreEquivalentFractions r (record { num = n; den = d })) found.1 is.1;
      }

  ratio-fitting : (n : ℤ) (d : ℕ) → 0 < d → IsFrac v → AreEquivalentFractions v (record { num = n; den = d })
      → fraction_or_overflow (lowest_terms n d) ≡ Ok v
  ratio-fitting n d some is same = ap fraction_or_overflow (sym ((law n d some).2 v is.lowest_terms same))
      ∙ frac-fits-as-conversion-quotient v is

  -- the ratio over a number above 0
  ratio-of : (n : ℤ) (d : ℕ) → 0 < d → ratio n (pos d) ≡ Ok v → IsRatio n d
  ratio-of n zero some h = absurd (omega arith)
  ratio-of n (suc d) some h = fitting-ratio n (suc d) some h

  of-ratio : (n : ℤ) (d : ℕ) → 0 < d → IsFrac v → AreEquivalentFractions v (record { num = n; den = d })
      → ratio n (pos d) ≡ Ok v
  of-ratio n zero some is same = absurd (omega arith)
  of-ratio n (suc d) some is same = ratio-fitting n (suc d) some is same

  -- the ratio over a number below 0
  below-of : (n : ℤ) (j : ℕ) → 0 < j → ratio n (neg_ℤ (pos j)) ≡ Ok v → IsRatio (neg_ℤ n) j
  below-of n zero some h = absurd (omega arith)
  below-of n (suc j) some h = fitting-ratio (neg_ℤ n) (suc j) some h

  of-below : (n : ℤ) (j : ℕ) → 0 < j → IsFrac v → AreEquivalentFractions v (record { num = neg_ℤ n; den = j })
      → ratio n (neg_ℤ (pos j)) ≡ Ok v
  of-below n zero some is same = absurd (omega arith)
  of-below n (suc j) some is same = ratio-fitting (neg_ℤ n) (suc j) some is same

  -- there is no ratio over 0
  no-ratio : (n z : ℤ) → z ≡ pos 0 → ratio n z ≡ Ok v → ⊥
  no-ratio n (pos zero) e h = cc
  no-ratio n (pos (suc k)) e h = cc
  no-ratio n (negsuc k) e h = cc

  zero-times : (m : ℤ) → pos 0 *ℤ m ≡ pos 0
  zero-times (pos k) = ap pos (mul_comm 0 k ∙ mul-zero k)
  zero-times (negsuc k) =
      pos-*ℤ-negsuc 0 k ∙ ap (λ j. neg_ℤ (pos j)) (mul_comm 0 (suc k) ∙ mul-zero (suc k))

  module _ (n : ℤ) (d : ℕ) where
    -- v times m over b is n over d
    abbrev IsExact : (b : ℕ) → ℤ → Type 0
    IsExact b m = v.num *ℤ m *ℤ pos b ≡ n *ℤ pos (v.den * d)

    module _ (b k : ℕ) where
      below-left : v.num *ℤ negsuc k *ℤ pos b ≡ neg_ℤ (v.num *ℤ pos (b * suc k))
      below-left = ap (λ j. j *ℤ pos b) (*ℤ-negsuc v.num k) ∙ sym (neg-times (v.num *ℤ pos (suc k)) b)
          ∙ ap neg_ℤ (conversion-factors-turned v.num (suc k) b)

      above-exact : v.num *ℤ pos (b * suc k) ≡ n *ℤ pos d *ℤ pos v.den → IsExact b (pos (suc k))
      above-exact e = conversion-factors-turned v.num (suc k) b ∙ e ∙ conversion-factors-turned n d v.den

      exact-above : IsExact b (pos (suc k)) → v.num *ℤ pos (b * suc k) ≡ n *ℤ pos d *ℤ pos v.den
      exact-above e = sym (conversion-factors-turned v.num (suc k) b) ∙ e ∙ sym (conversion-factors-turned n d v.den)

      below-exact : v.num *ℤ pos (b * suc k) ≡ neg_ℤ (n *ℤ pos d) *ℤ pos v.den → IsExact b (negsuc k)
      below-exact e =
          below-left ∙ ap neg_ℤ (e ∙ sym (neg-times (n *ℤ pos d) v.den)) ∙ neg_ℤ-neg_ℤ (n *ℤ pos d *ℤ pos v.den)
          ∙ conversion-factors-turned n d v.den

      exact-below : IsExact b (negsuc k) → v.num *ℤ pos (b * suc k) ≡ neg_ℤ (n *ℤ pos d) *ℤ pos v.den
      exact-below e =
          sym (neg_ℤ-neg_ℤ (v.num *ℤ pos (b * suc k)))
          ∙ ap neg_ℤ (sym below-left ∙ e ∙ sym (conversion-factors-turned n d v.den))
          ∙ neg-times (n *ℤ pos d) v.den

    -- a quotient by a divisor of either sign
    record IsOver (b : ℕ) (m : ℤ) : Type 0 where
      denominator : 0 < b
      divisor : m ≢ pos 0
      exact : IsExact b m
      frac : IsFrac v

    over-some : (b : ℕ) → 0 < b → (m : ℤ) → ratio (n *ℤ pos d) (pos b *ℤ m) ≡ Ok v → IsOver b m
    over-some b some (pos zero) h = absurd (no-ratio (n *ℤ pos d) (pos (b * 0)) (ap pos (mul-zero b)) h)
    over-some b some (pos (suc k)) h =
        let is = ratio-of (n *ℤ pos d) (b * suc k) (mul-pos some (omega arith)) h in
        record { denominator = some; divisor = λ e. cc; exact = above-exact b k is.same; frac = is.frac }
    over-some b some (negsuc k) h =
        let is = below-of (n *ℤ pos d) (b * suc k) (mul-pos some (omega arith))
        (ap (ratio (n *ℤ pos d)) (sym (pos-*ℤ-negsuc b k)) ∙ h) in
        record { denominator = some; divisor = λ e. cc; exact = below-exact b k is.same; frac = is.frac }

    over-of : (b : ℕ) (m : ℤ) → ratio (n *ℤ pos d) (pos b *ℤ m) ≡ Ok v → IsOver b m
    over-of zero m h = absurd (no-ratio (n *ℤ pos d) (pos 0 *ℤ m) (zero-times m) h)
    over-of (suc b) m h = over-some (suc b) (omega arith) m h

    of-over : (b : ℕ) (m : ℤ) → 0 < b → m ≢ pos 0 → IsFrac v → IsExact b m
        → ratio (n *ℤ pos d) (pos b *ℤ m) ≡ Ok v
    of-over b (pos zero) some not_0 is e = absurd (not_0 refl)
    of-over b (pos (suc k)) some not_0 is e =
        of-ratio (n *ℤ pos d) (b * suc k) (mul-pos some (omega arith)) is (exact-above b k e)
    of-over b (negsuc k) some not_0 is e =
        ap (ratio (n *ℤ pos d)) (pos-*ℤ-negsuc b k)
        ∙ of-below (n *ℤ pos d) (b * suc k) (mul-pos some (omega arith)) is (exact-below b k e)

pub conversion-quotient-law : ReducedFractionLaw → ConversionQuotientLaw
conversion-quotient-law law x y v = (
  λ h.
      let q = over-of law v x.num y.den x.den y.num h in
      record { denominator = q.denominator; divisor = q.divisor; product_exact = q.exact; frac = q.frac },
  λ q. of-over law v x.num y.den x.den y.num q.denominator q.divisor q.frac q.product_exact,
)
