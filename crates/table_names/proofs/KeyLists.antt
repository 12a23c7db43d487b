-- Membership of keys in lists.
use Rattle.std.proofs.Common.{◌≡◌, ◌⊎◌, true, false, List, [], ◌∷◌, ◌++◌, Contains, refl, sym, ◌∙◌, ap, inl, inr}
use Rattle.std.specs.Cmp.{IsEquivalence, both_ways}
use Rattle.std.proofs.lemmas.Bool.{false_from_ne_true, or_cases, or_from}
use Rattle.std.proofs.lemmas.List.Folds.{list_any-append}
use Rattle.std.proofs.lemmas.Map.Views.{Contains-from_any, list_any-from_Contains}
use Rattle.def_entry.specs.declared.key.Key.{Key}
use Rattle.def_entry.specs.SameKeys.{is_entry_key_among, is_same_entry_key}
use Rattle.def_entry.proofs.SameKeys.{same_entry_keys}

-- keys that are tested as the same are equal
pub same_table_keys_are_equal : (a b : Key) → is_same_entry_key a b ≡ true → a ≡ b
same_table_keys_are_equal a b e = (same_entry_keys a b).0 e

-- a key is the same as itself
pub table_key_is_same_as_itself : (a : Key) → is_same_entry_key a a ≡ true
table_key_is_same_as_itself a = (same_entry_keys a a).1 refl

-- the test is symmetric
table_key_sameness_is_symmetric : (a b : Key) → is_same_entry_key a b ≡ true → is_same_entry_key b a ≡ true
table_key_sameness_is_symmetric a b e = (same_entry_keys b a).1 (sym (same_table_keys_are_equal a b e))

-- the test is an equivalence
pub table_key_sameness_is_equivalence : IsEquivalence is_same_entry_key
table_key_sameness_is_equivalence = record {
  refl = table_key_is_same_as_itself;
  symm = λ a b. both_ways (is_same_entry_key a b) (is_same_entry_key b a) (table_key_sameness_is_symmetric a b)
      (table_key_sameness_is_symmetric b a);
  congr = λ a b c e. ap (λ (k : Key). is_same_entry_key k c) (same_table_keys_are_equal a b e);
}

-- a key that a list contains passes the membership test
pub member_table_key_is_among : (keys : List Key) (k : Key) → Contains keys k → is_entry_key_among keys k ≡ true
member_table_key_is_among keys k i = list_any-from_Contains table_key_sameness_is_equivalence k keys i

-- a list contains each key that passes the membership test
pub table_key_among_is_member : (keys : List Key) (k : Key) → is_entry_key_among keys k ≡ true → Contains keys k
table_key_among_is_member keys k e = Contains-from_any same_table_keys_are_equal k keys e

-- a key on an extended path is on the path or is the added key
pub key_on_longer_name_fault_path : (path : List Key) (n k : Key) → is_entry_key_among (path ++ n ∷ []) k ≡ true
    → (is_entry_key_among path k ≡ true) ⊎ (k ≡ n)
key_on_longer_name_fault_path path n k e =
    elim (or_cases _ _ (sym (list_any-append (is_same_entry_key k) path (n ∷ [])) ∙ e)) [
      | inl q ↦ inl q
      | inr q ↦ elim (or_cases (is_same_entry_key k n) false q)
          [ inl r ↦ inr (same_table_keys_are_equal k n r) | inr r ↦ absurd (cc r) ]
    ]

-- a key that is not on a path and differs from the added key is not on the extended path
pub key_off_longer_name_fault_path : (path : List Key) (n k : Key) → is_entry_key_among path k ≡ false → (k ≡ n → ⊥)
    → is_entry_key_among (path ++ n ∷ []) k ≡ false
key_off_longer_name_fault_path path n k off other =
    list_any-append (is_same_entry_key k) path (n ∷ [])
    ∙ or_from (is_entry_key_among path k) _ off
    (or_from (is_same_entry_key k n) false
    (false_from_ne_true (is_same_entry_key k n) (λ e. other (same_table_keys_are_equal k n e))) refl)
