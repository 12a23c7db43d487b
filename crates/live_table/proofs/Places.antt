-- The items at the places of lists.
use Rattle.std.proofs.Common.{◌≡◌, ◌<◌, ℕ, zero, suc, List, [], ◌∷◌, ◌++◌, length, Some, refl, ap, ◌∙◌, arith, Contains}
use Rattle.std.specs.List.{slice_get}
use Rattle.std.proofs.lemmas.Option.{slice_get-get_or}

module _ {A : Type 0} where
  pub element : (xs : List A) (k : ℕ) → k < length xs → (x : A) × (slice_get xs k ≡ Some x)
  element [] k h = absurd (omega arith)
  element (x ∷ xs) zero h = (x, refl)
  element (x ∷ xs) (suc k) h = element xs k (omega arith)

  -- a member has a place
  pub place_in : (xs : List A) (x : A) → Contains xs x → (k : ℕ) × (slice_get xs k ≡ Some x)
  place_in xs x i = (i.0, slice_get-get_or xs i.0 x i.1 ∙ ap Some i.2)

  -- an appended item is at the last place
  pub get_last : (xs : List A) (y : A) → slice_get (xs ++ y ∷ []) (length xs) ≡ Some y
  get_last [] y = refl
  get_last (x ∷ xs) y = get_last xs y
