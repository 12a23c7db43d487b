-- The counts of the units of a list.
use Rattle.std.proofs.Common.{◌≡◌, ◌∙◌, ◌+◌, refl, sym, ap, ap₂, ℕ, Bool, true, false, true≢false, not, cond}
use Rattle.std.proofs.Common.{List, [], ◌∷◌, Option, Some, None, Result, Ok, Err, All}
use Rattle.std.proofs.lemmas.Iterator.Adapters.{position_from-zero}
use Rattle.std.proofs.lemmas.List.Elements.{All-from_recursion, recursion_from_All}
use Rattle.std.specs.List.{AllByRecursion as Each, position, position_from}
use Rattle.frac128.specs.declared.fault.FracFault.{FracFault}
use Rattle.frac128.specs.Fraction.{Fraction}
use Rattle.frac128.specs.Sign.{is_positive_fraction}
use Rattle.quantity.specs.Amount.{Amount, exponents_conform}
use Rattle.unit_list.specs.declared.fault.SplitFault.{SplitFault}
use Rattle.unit_list.specs.declared.fault.SplitFault.TheVariants as split
use Rattle.unit_list.specs.Amounts.{is_unit_not_positive, is_unlike_unit, numbers_of_units, unit_counts_in}
use Rattle.unit_list.specs.Amounts.{unit_fault_or_counts, unit_place_fault}
use Rattle.unit_list.specs.Splits.{unit_counts_of_number}
use Rattle.reply.specs.declared.conversion.Conversion.{Conversion}
use Rattle.reply.specs.declared.conversion.Conversion.TheVariants.{Split}
use Rattle.reply.specs.Conversions.{is_conversion_granted, split_conversion}
use Rattle.general_lemmas.proofs.Results.{same_Ok, err-ok}

-- ---- no element passes a test if none has the first place
module _ {A : Type 0} (test : A → Bool) where
  each-from : (i : ℕ) (xs : List A) → position_from test i xs ≡ None → Each (λ x. test x ≡ false) xs
  each-from i [] e = tt
  each-from i (x ∷ xs) e = go (test x) refl e (each-from (i + 1) xs)
    where
      go : (b : Bool) → test x ≡ b → cond b (Some i) (position_from test (i + 1) xs) ≡ None
          → (position_from test (i + 1) xs ≡ None → Each (λ x. test x ≡ false) xs)
          → (test x ≡ false) × Each (λ x. test x ≡ false) xs
      go true is e rest = absurd (cc)
      go false is e rest = (is, rest e)

  from-each : (i : ℕ) (xs : List A) → Each (λ x. test x ≡ false) xs → position_from test i xs ≡ None
  from-each i [] h = refl
  from-each i (x ∷ xs) h = ap (λ b. cond b (Some i) (position_from test (i + 1) xs)) h.0 ∙ from-each (i + 1) xs h.1

  each-of : (xs : List A) → position test xs ≡ None → Each (λ x. test x ≡ false) xs
  each-of xs e = each-from 0 xs (sym (position_from-zero test xs) ∙ e)

  of-each : (xs : List A) → Each (λ x. test x ≡ false) xs → position test xs ≡ None
  of-each xs h = position_from-zero test xs ∙ from-each 0 xs h

module _ {A : Type 0} (test : A → Bool) where
  each-true : (xs : List A) → Each (λ x. not (test x) ≡ false) xs → Each (λ x. test x ≡ true) xs
  each-true [] h = tt
  each-true (x ∷ xs) h = (go (test x) h.0, each-true xs h.1)
    where
      go : (b : Bool) → not b ≡ false → b ≡ true
      go true e = refl
      go false e = absurd (true≢false e)

  each-not : (xs : List A) → Each (λ x. test x ≡ true) xs → Each (λ x. not (test x) ≡ false) xs
  each-not [] h = tt
  each-not (x ∷ xs) h = (ap not h.0, each-not xs h.1)

  -- all elements pass a test if and only if there is no first one that does not
  all-pass : (xs : List A) → position (λ x. not (test x)) xs ≡ None → All (λ x. test x ≡ true) xs
  all-pass xs e = All-from_recursion (λ x. test x ≡ true) xs (each-true xs (each-of (λ x. not (test x)) xs e))

  none-fails : (xs : List A) → All (λ x. test x ≡ true) xs → position (λ x. not (test x)) xs ≡ None
  none-fails xs h = of-each (λ x. not (test x)) xs (each-not xs (recursion_from_All (λ x. test x ≡ true) xs h))

-- ---- the counts of units
module _ (round : Bool) (x : Amount) (units : List Amount) where
  pub record HasCounts (counts : List Fraction) : Type 0 where
    pub conformable : All (λ unit. exponents_conform x.exponents unit.exponents ≡ true) units
    pub positive : All (λ unit. is_positive_fraction unit.value ≡ true) units
    pub counted : unit_counts_of_number round x.value (numbers_of_units units) ≡ Ok counts

  counts-of : (counts : List Fraction) → unit_counts_in round x units ≡ Ok counts → HasCounts counts
  unfolding unit_counts_in
  counts-of counts h =
      go (position (is_unlike_unit x) units) refl (position is_unit_not_positive units) refl
      (unit_counts_of_number round x.value (numbers_of_units units)) refl h
    where
      go : (p : Option ℕ) → position (is_unlike_unit x) units ≡ p → (q : Option ℕ)
          → position is_unit_not_positive units ≡ q
          → (r : Result (List Fraction) FracFault) → unit_counts_of_number round x.value (numbers_of_units units) ≡ r
          → unit_fault_or_counts (unit_place_fault p q) r ≡ Ok counts → HasCounts counts
      go None a None b (Ok counted) e h = record {
        conformable = all-pass (λ unit. exponents_conform x.exponents unit.exponents) units a;
        positive = all-pass (λ unit. is_positive_fraction unit.value) units b;
        counted = e ∙ ap Ok (same_Ok counted counts h);
      }
      go None a None b (Err fault) e h = absurd (err-ok _ counts h)
      go None a (Some k) b r e h = absurd (err-ok _ counts h)
      go (Some k) a q b r e h = absurd (err-ok _ counts h)

  pub of-counts : (counts : List Fraction) → HasCounts counts → unit_counts_in round x units ≡ Ok counts
  unfolding unit_counts_in
  of-counts counts h =
      ap₂ (λ p q. unit_fault_or_counts (unit_place_fault p q)
      (unit_counts_of_number round x.value (numbers_of_units units)))
      (none-fails (λ unit. exponents_conform x.exponents unit.exponents) units h.conformable)
      (none-fails (λ unit. is_positive_fraction unit.value) units h.positive)
      ∙ ap (unit_fault_or_counts None) h.counted

  module _ (list : List ℕ) (c : Conversion) where
    -- the conversion has counts of the units
    pub record IsCounts : Type 0 where
      pub counts : List Fraction
      pub has : HasCounts counts
      pub same : Split list counts ≡ c

    pub split-of : split_conversion x list units (unit_counts_in round x units) ≡ Ok c → is_conversion_granted c ≡ true
        → IsCounts
    split-of h g = go (unit_counts_in round x units) refl h
      where
        go : (r : Result (List Fraction) SplitFault) → unit_counts_in round x units ≡ r
            → split_conversion x list units r ≡ Ok c → IsCounts
        go (Ok counts) e h =
            record { counts = counts; has = counts-of counts e; same = same_Ok (Split list counts) c h }
        go (Err (split.NotConformable place)) e h =
            absurd (true≢false (sym (ap is_conversion_granted (same_Ok _ c h) ∙ g)))
        go (Err (split.ListUnitNotPositive place)) e h = absurd (err-ok _ c h)
        go (Err (split.Number fault)) e h = absurd (err-ok _ c h)
        go (Err split.OutOfMemory) e h = absurd (err-ok _ c h)
