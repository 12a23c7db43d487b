-- Keys and their numbers.
use Rattle.std.proofs.Common.{◌≡◌, ℕ, List, refl, sym, ap, subst, ◌∙◌, inl, inr, ◌⊎◌, Option, Some, None, option_map}
use Rattle.std.proofs.Common.{slice_get, []}
use Rattle.def_entry.specs.Entries.{Entry, Primitive}
use Rattle.def_entry.specs.Keys.{key}
use Rattle.def_entry.specs.declared.key.Key.{Key}
use Rattle.def_entry.specs.declared.key.Kind.{Kind}
use Rattle.def_entry.specs.declared.key.Kind.TheVariants as kind
use Rattle.deck_lines.specs.Names.{AreKeyNumbersExtended, AreKeyNumbersOneToOne, KeyNumberNames}
use Rattle.deck_lines.specs.Names.{key_number_names_of_kind, key_number_names_with_name, key_numbered}
use Rattle.deck_lines.specs.Names.{key_numbers_with_key, key_number_names_with_kind}
use Rattle.deck_lines.specs.Stores.{key_numbers_by_definition}
use Rattle.deck_lines.specs.declared.key_number.KeyNumber.{KeyNumber}
use Rattle.deck_lines.proofs.NameNumbers.{IsDistinct, key_number_names_distinct_put, key_numbers_of_names_stay}

-- replacing the names of one kind does not change those of the others
key_number_names_of_other_kind : (names : KeyNumberNames) (a b : Kind) (these : List (List ℕ))
    → ((a ≡ b) × (key_number_names_of_kind (key_number_names_with_kind names a these) b ≡ these))
    ⊎ (key_number_names_of_kind (key_number_names_with_kind names a these) b ≡ key_number_names_of_kind names b)
key_number_names_of_other_kind names kind.Unit kind.Unit these = inl (refl, refl)
key_number_names_of_other_kind names kind.Unit kind.Prefix these = inr refl
key_number_names_of_other_kind names kind.Unit kind.Func these = inr refl
key_number_names_of_other_kind names kind.Unit kind.List these = inr refl
key_number_names_of_other_kind names kind.Prefix kind.Unit these = inr refl
key_number_names_of_other_kind names kind.Prefix kind.Prefix these = inl (refl, refl)
key_number_names_of_other_kind names kind.Prefix kind.Func these = inr refl
key_number_names_of_other_kind names kind.Prefix kind.List these = inr refl
key_number_names_of_other_kind names kind.Func kind.Unit these = inr refl
key_number_names_of_other_kind names kind.Func kind.Prefix these = inr refl
key_number_names_of_other_kind names kind.Func kind.Func these = inl (refl, refl)
key_number_names_of_other_kind names kind.Func kind.List these = inr refl
key_number_names_of_other_kind names kind.List kind.Unit these = inr refl
key_number_names_of_other_kind names kind.List kind.Prefix these = inr refl
key_number_names_of_other_kind names kind.List kind.Func these = inr refl
key_number_names_of_other_kind names kind.List kind.List these = inl (refl, refl)

-- a key that is made from a kind and an optional name has this kind and this name
pub numbered_key_has_kind_and_name : (a : Kind) (o : Option (List ℕ)) (k : Key) → option_map (key a) o ≡ Some k
    → (a ≡ k.kind) × (o ≡ Some k.name)
numbered_key_has_kind_and_name a None k e = absurd (cc)
numbered_key_has_kind_and_name a (Some name) k e =
    let same : key a name ≡ k = cc in
    (ap (λ (x : Key). x.kind) same, ap (λ (x : Key). Some x.name) same)

-- no key has two numbers if no name of a kind has two numbers
key_numbers_one_to_one_by_kind : (names : KeyNumberNames) → ((a : Kind) → IsDistinct (key_number_names_of_kind names a))
    → AreKeyNumbersOneToOne names
key_numbers_one_to_one_by_kind names each m n k p q =
    let at = numbered_key_has_kind_and_name m.kind (slice_get (key_number_names_of_kind names m.kind) m.number) k p in
    let too = numbered_key_has_kind_and_name n.kind (slice_get (key_number_names_of_kind names n.kind) n.number) k q in
    let one = each k.kind m.number n.number k.name
    (subst (λ a. slice_get (key_number_names_of_kind names a) m.number ≡ Some k.name) at.0 at.1)
    (subst (λ a. slice_get (key_number_names_of_kind names a) n.number ≡ Some k.name) too.0 too.1) in
    λ i. record { kind = (at.0 ∙ sym too.0) i; number = one i }

-- if no key has two numbers, the names of each kind are distinct
key_number_names_are_distinct : (names : KeyNumberNames) → AreKeyNumbersOneToOne names → (a : Kind)
    → IsDistinct (key_number_names_of_kind names a)
key_number_names_are_distinct names one a i j x p q =
    ap (λ (n : KeyNumber). n.number)
    (one (record { kind = a; number = i }) (record { kind = a; number = j }) (key a x) (ap (option_map (key a)) p)
    (ap (option_map (key a)) q))

-- no key has two numbers after one more key is numbered
pub key_numbers_stay_one_to_one : (names : KeyNumberNames) (d : Option (Key × Entry)) → AreKeyNumbersOneToOne names
    → AreKeyNumbersOneToOne (key_numbers_by_definition names d)
key_numbers_stay_one_to_one names None one = one
key_numbers_stay_one_to_one names (Some d) one = key_numbers_one_to_one_by_kind (key_numbers_with_key names d.0) each
  where
    k : Key
    k = d.0

    each : (a : Kind) → IsDistinct (key_number_names_of_kind (key_numbers_with_key names k) a)
    each a = elim (key_number_names_of_other_kind names k.kind a
        (key_number_names_with_name k.name (key_number_names_of_kind names k.kind))) [
          | inl h ↦ subst IsDistinct (sym h.1)
              (key_number_names_distinct_put k.name (key_number_names_of_kind names k.kind)
              (key_number_names_are_distinct names one k.kind))
          | inr h ↦ subst IsDistinct (sym h) (key_number_names_are_distinct names one a)
        ]

-- keys keep their numbers when one more key is numbered
pub key_numbers_are_extended : (names : KeyNumberNames) (d : Option (Key × Entry))
    → AreKeyNumbersExtended names (key_numbers_by_definition names d)
key_numbers_are_extended names None n k e = e
key_numbers_are_extended names (Some d) n k e = ap (option_map (key n.kind)) stays
    ∙ sym (ap (option_map (key n.kind)) at) ∙ e
  where
    at : slice_get (key_number_names_of_kind names n.kind) n.number ≡ Some k.name
    at = (numbered_key_has_kind_and_name n.kind (slice_get (key_number_names_of_kind names n.kind) n.number) k e).1

    put : Key
    put = d.0

    stays : slice_get (key_number_names_of_kind (key_numbers_with_key names put) n.kind) n.number ≡ Some k.name
    stays = elim (key_number_names_of_other_kind names put.kind n.kind
        (key_number_names_with_name put.name (key_number_names_of_kind names put.kind))) [
          | inl h ↦
              ap (λ these. slice_get these n.number) h.1
              ∙ key_numbers_of_names_stay put.name (key_number_names_of_kind names put.kind) n.number k.name
              (subst (λ a. slice_get (key_number_names_of_kind names a) n.number ≡ Some k.name) (sym h.0) at)
          | inr h ↦ ap (λ these. slice_get these n.number) h ∙ at
        ]

-- keys keep their numbers when a number is given to one key
pub key_numbers_extended_by_key : (names room more : KeyNumberNames) (k : Key) → room ≡ names
    → more ≡ key_numbers_with_key room k → AreKeyNumbersExtended names more
key_numbers_extended_by_key names room more k p q n l e =
    ap (λ (t : KeyNumberNames). key_numbered t n) q
    ∙ key_numbers_are_extended room (Some (k, record { text = []; what = Primitive })) n l
    (ap (λ (t : KeyNumberNames). key_numbered t n) p ∙ e)

-- no key has two numbers after a number is given to one key
pub key_numbers_one_to_one_with_key : (names room more : KeyNumberNames) (k : Key) → room ≡ names
    → more ≡ key_numbers_with_key room k → AreKeyNumbersOneToOne names
    → AreKeyNumbersOneToOne more
key_numbers_one_to_one_with_key names room more k p q one =
    subst AreKeyNumbersOneToOne (sym q)
    (key_numbers_stay_one_to_one room (Some (k, record { text = []; what = Primitive }))
    (subst AreKeyNumbersOneToOne (sym p) one))
