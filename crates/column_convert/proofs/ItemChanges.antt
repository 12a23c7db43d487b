-- A list with another item at a place, built item by item.
use Rattle.std.proofs.Common.{◌≡◌, ◌∙◌, ◌<◌, ℕ, List, [], ◌∷◌, get_or, length, sym, arith, zero, suc, Some, None}
use Rattle.std.specs.Prelude.{slice_set}
use Rattle.csv.specs.Records.{field_at}
use Rattle.std.proofs.lemmas.List.{get_or-set_other}

record_field_or_default : (fields : List (List ℕ)) (i : ℕ) (kept : List ℕ) → field_at fields i ≡ Some kept
    → get_or fields i [] ≡ kept
unfolding field_at
record_field_or_default [] i kept is = cc
record_field_or_default (f ∷ fs) zero kept is = cc
record_field_or_default (f ∷ fs) (suc i) kept is = record_field_or_default fs i kept is

-- the field at a place is unchanged if another field is replaced
pub other_record_field_is_unchanged : (fields : List (List ℕ)) (place i : ℕ) (field kept : List ℕ) → (i ≡ place → ⊥)
    → i < length fields
    → Some kept ≡ field_at fields i → kept ≡ get_or (slice_set fields place field) i []
other_record_field_is_unchanged fields place i field kept other lt is =
    sym (record_field_or_default fields i kept (sym is)) ∙ sym (get_or-set_other fields place i field [] other)

pub record_field_is_there : (fields : List (List ℕ)) (i : ℕ) → i < length fields → None ≡ field_at fields i → ⊥
unfolding field_at
record_field_is_there [] i lt is = omega arith
record_field_is_there (f ∷ fs) zero lt is = cc
record_field_is_there (f ∷ fs) (suc i) lt is = record_field_is_there fs i (omega arith) is

-- the place of a field is within the record
pub record_field_place_is_within : (fields : List (List ℕ)) (i : ℕ) (field : List ℕ) → Some field ≡ field_at fields i
    → i < length fields
unfolding field_at
record_field_place_is_within [] i field is = cc
record_field_place_is_within (f ∷ fs) zero field is = omega arith
record_field_place_is_within (f ∷ fs) (suc i) field is = let below : i < length fs =
    record_field_place_is_within fs i field is in omega arith
