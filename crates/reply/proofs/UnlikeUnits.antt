-- The place of a unit that does not conform.
use Rattle.std.proofs.Common.{◌≡◌, ◌⊎◌, inl, inr, ◌∙◌, ◌<◌, ℕ, Bool, List, length, refl, sym, ap, subst}
use Rattle.std.proofs.lemmas.List.{get_or_default}
use Rattle.std.proofs.lemmas.List.Quantifiers.{position-Some}
use Rattle.std.specs.Prelude.{Option, Some, None, Result, Ok, Err, position, slice_index_or}
use Rattle.frac128.specs.declared.fault.FracFault.{FracFault}
use Rattle.frac128.specs.Fraction.{Fraction}
use Rattle.quantity.specs.Amount.{Amount}
use Rattle.unit_list.specs.Amounts.{is_unit_not_positive, is_unlike_unit, numbers_of_units, unit_counts_in}
use Rattle.unit_list.specs.Amounts.{unit_fault_or_counts, unit_place_fault}
use Rattle.unit_list.specs.Splits.{unit_counts_of_number}
use Rattle.reply.specs.declared.conversion.Conversion.TheVariants.{NonConforming}
use Rattle.reply.specs.Conversions.{split_conversion}
use Rattle.unit_list.specs.declared.fault.SplitFault.TheVariants.{NotConformable, OutOfMemory}

module _ (round : Bool) (x : Amount) (units : List Amount) (place : ℕ) where
  -- the place is that of a unit
  within : unit_counts_in round x units ≡ Err (NotConformable place) → place < length units
  unfolding unit_counts_in
  within e =
      go (position (is_unlike_unit x) units) refl (position is_unit_not_positive units)
      (unit_counts_of_number round x.value (numbers_of_units units)) e
    where
      go : (p : Option ℕ) → position (is_unlike_unit x) units ≡ p
          → (q : Option ℕ) (counts : Result (List Fraction) FracFault)
          → unit_fault_or_counts (unit_place_fault p q) counts ≡ Err (NotConformable place) → place < length units
      go (Some k) is q counts e = let s : k ≡ place = cc in
          (position-Some (is_unlike_unit x) units place x (is ∙ ap Some s)).0
      go None is (Some k) counts e = cc
      go None is None (Ok counts) e = cc
      go None is None (Err fault) e = cc

  pub place-within : (NotConformable place ≡ OutOfMemory) ⊎ (unit_counts_in round x units ≡ Err (NotConformable place))
      → place < length units
  place-within h = elim h [ inl e ↦ cc | inr e ↦ within e ]

  -- the unit at the place is the one that does not conform
  pub counted-unlike : (list : List ℕ) (k : ℕ) (y : Amount)
      → (NotConformable place ≡ OutOfMemory) ⊎ (unit_counts_in round x units ≡ Err (NotConformable place))
      → k ≡ place → y ≡ slice_index_or units k y
      → split_conversion x list units (unit_counts_in round x units) ≡ Ok (NonConforming x y)
  counted-unlike list k y h e is = elim h [
    | inl p ↦ cc
    | inr p ↦
        ap (split_conversion x list units) p
        ∙ ap (λ (u : Amount). Ok (NonConforming x u))
        (sym (subst (λ (i : ℕ). y ≡ slice_index_or units i y) e is ∙ get_or_default units place y x (within p)))
  ]
