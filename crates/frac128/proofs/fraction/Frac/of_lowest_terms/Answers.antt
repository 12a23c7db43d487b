use Rattle.std.proofs.Common.{◌≡◌, ◌≤◌, ◌<◌, unsigned_abs, ℤ, ℕ, Bool, ap, ◌∙◌, SFits, rules}
use Rattle.std.specs.Int.{IsGcd, w128}
use Rattle.std.proofs.lemmas.Int.{to_z-of_z}
use Rattle.frac128.specs.Fraction.{IsFrac, largest_fraction_part}
use Rattle.frac128.specs.Sign.{signed_numerator}
use Rattle.frac128.proofs.Signs.{abs-signed_numerator}
use Rattle.frac128.proofs.fraction.Frac.of_lowest_terms.Goals as goal

-- a signed numerator and a denominator that are in lowest terms and in range make a valid fraction
kept : (num : ℤ) (s : Bool) (top bottom : ℕ) → num ≡ signed_numerator s top → 0 < bottom → IsGcd top bottom 1
    → top ≤ largest_fraction_part
    → bottom ≤ largest_fraction_part
    → IsFrac (record { num = num; den = bottom })
kept num s top bottom is some lowest low high =
    let abs : unsigned_abs num ≡ top = ap unsigned_abs is ∙ abs-signed_numerator s top in
    record {
      lowest_terms = record { den_positive = some; coprime = rw abs lowest };
      num_fits = rw abs low;
      den_fits =
          high;
    }

pub invariant_of-result : goal.invariant_of-result
invariant_of-result c =
    let fits : SFits w128 c.with_sign-num.result = search rules in
    kept _ c.args.negative c.args.top c.args.bottom (to_z-of_z w128 _ fits ∙ c.with_sign-num.ensures) c.requires.some
    c.requires.lowest c.if-top-gt-MOST.false c.if-bottom-gt-MOST.false
