-- Paths of known numbers, and the same paths of their keys.
use Rattle.std.proofs.Common.{◌≡◌, ℕ, Bool, true, false, cond, ◌||◌, List, [], ◌∷◌, ◌++◌, map}
use Rattle.std.proofs.Common.{nat_eq, refl, sym, ◌∙◌, ap, inl, inr, None}
use Rattle.std.specs.List.{AllByRecursion, IsDistinct, last_or}
use Rattle.std.specs.Prelude.{option_map}
use Rattle.std.proofs.lemmas.Bool.{cases_eq, eq-eqb, false_from_ne_true, ne_eqb}
use Rattle.std.proofs.lemmas.List.{map_push}
use Rattle.def_entry.specs.declared.key.Key.{Key}
use Rattle.def_entry.specs.SameKeys.{SameEntryKeysLaw, is_entry_key_among, is_same_entry_key}
use Rattle.name_walk.specs.Faults.{is_on_path, path_from_name}
use Rattle.table_names.specs.Faults.{name_fault_cycle_chain}

-- all numbers of a list are known
abbrev pub AllKnown : (ℕ → Bool) → List ℕ → Type 0
AllKnown known p = AllByRecursion (λ n. known n ≡ true) p

-- known numbers with one more known number appended are all known
pub known_numbers_after_push :
    (known : ℕ → Bool) (p : List ℕ) (n : ℕ) → AllKnown known p → known n ≡ true → AllKnown known (p ++ n ∷ [])
known_numbers_after_push known [] n ks k = (k, tt)
known_numbers_after_push known (m ∷ p) n ks k = (ks.0, known_numbers_after_push known p n ks.1 k)

-- the last key of a path is that of its last number
pub last_numbered_name_has_last_key : (key : ℕ → Key) (p : List ℕ) → last_or None (map key p) ≡ option_map key
    (last_or None p)
last_numbered_name_has_last_key key [] = refl
last_numbered_name_has_last_key key (n ∷ []) = refl
last_numbered_name_has_last_key key (n ∷ m ∷ p) = last_numbered_name_has_last_key key (m ∷ p)

-- the equality test is symmetric
number_equality_is_symmetric : (n m : ℕ) → nat_eq n m ≡ nat_eq m n
number_equality_is_symmetric n m = elim (cases_eq n m) [
  | inl e ↦ eq-eqb n m e ∙ sym (eq-eqb m n (sym e))
  | inr ne ↦ ne_eqb n m ne ∙ sym (ne_eqb m n (λ e. ne (sym e)))
]

module _ (same_keys : SameEntryKeysLaw) (key : ℕ → Key) (known : ℕ → Bool)
    (apart : (n m : ℕ) → known n ≡ true → known m ≡ true → key n ≡ key m → n ≡ m) where
  -- known numbers are equal exactly if their keys are equal
  same_test : (n m : ℕ) → known n ≡ true → known m ≡ true → is_same_entry_key (key n) (key m) ≡ nat_eq n m
  same_test n m kn km = elim (cases_eq n m) [
    | inl e ↦ (same_keys (key n) (key m)).1 (ap key e) ∙ sym (eq-eqb n m e)
    | inr ne ↦ false_from_ne_true _ (λ e. ne (apart n m kn km ((same_keys (key n) (key m)).0 e))) ∙ sym (ne_eqb n m ne)
  ]

  pub same_on : (p : List ℕ) (n : ℕ) → AllKnown known p → known n ≡ true
      → is_entry_key_among (map key p) (key n) ≡ is_on_path p n
  same_on [] n ks k = refl
  same_on (m ∷ p) n ks k = λ i. same_test n m k ks.0 i || same_on p n ks.1 k i

  pub same_chain :
      (p : List ℕ) (n : ℕ) → AllKnown known p → known n ≡ true
      → map key (path_from_name n p ++ n ∷ []) ≡ name_fault_cycle_chain (key n) (map key p)
  same_chain [] n ks k = refl
  same_chain (m ∷ p) n ks k =
      by (nat_eq m n)
      ∙ (λ i. cond (sym (same_test n m k ks.0 ∙ number_equality_is_symmetric n m) i) (key m ∷ map key p ++ key n ∷ [])
      (same_chain p n ks.1 k i))
    where
      by : (b : Bool)
          → map key (cond b (m ∷ p) (path_from_name n p) ++ n ∷ [])
          ≡ cond b (key m ∷ map key p ++ key n ∷ []) (map key (path_from_name n p ++ n ∷ []))
      by true = ap (λ ks. key m ∷ ks) (map_push key p n)
      by false = refl

  apart_keys :
      (n : ℕ) (ns : List ℕ) → known n ≡ true → AllKnown known ns → AllByRecursion (λ m. nat_eq n m ≡ false) ns
      → AllByRecursion (λ m. is_same_entry_key (key n) m ≡ false) (map key ns)
  apart_keys n [] k ks d = tt
  apart_keys n (m ∷ ns) k ks d = (same_test n m k ks.0 ∙ d.0, apart_keys n ns k ks.1 d.1)

  -- different known numbers have different keys
  pub distinct_keys : (ns : List ℕ) → AllKnown known ns → IsDistinct nat_eq ns
      → IsDistinct is_same_entry_key (map key ns)
  unfolding IsDistinct
  distinct_keys [] ks d = tt
  distinct_keys (n ∷ ns) ks d = (apart_keys n ns ks.0 ks.1 d.0, distinct_keys ns ks.1 d.1)
