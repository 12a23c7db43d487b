-- Pairs of a name and a value: the results of lookups, and pairs with one more value.
use Rattle.std.proofs.Common.{◌≡◌, ◌≢◌, ℕ, List, [], ◌∷◌, ◌++◌, Option, Some, None, refl, sym, ap, ◌∙◌, Bool}
use Rattle.std.proofs.Common.{slice_get, take, suc, zero, true, false, cond, Bor}
use Rattle.std.specs.Prelude.{IfNone}
use Rattle.std.specs.Option.{option_copied}
use Rattle.std.specs.Str.{bytes_eq}
use Rattle.std.proofs.lemmas.Option.{same_Some}
use Rattle.std.proofs.lemmas.Slice.Eq.{bytes_eq-Decides}
use Rattle.units_io.specs.NamedValues.{NamedTexts, named_text, with_named_text, SetsNamedText, HasNoTextOfName}
use Rattle.units_io.specs.NamedValues.{HasDistinctTextNames}
use Rattle.general_lemmas.proofs.Bytes.{ne_bytes_eq}

-- names for which the test is false are different
text_names_differ : (name other : List ℕ) → bytes_eq name other ≡ false → other ≢ name
text_names_differ name other differs same = let both : true ≡ false = sym ((bytes_eq-Decides name other).1 (sym same))
    ∙ differs in cc

-- bytes for which the test is true are the same list
equal_text_names_are_same : (name other : List ℕ) → bytes_eq name other ≡ true → name ≡ other
equal_text_names_are_same name other is = (bytes_eq-Decides name other).0 is

-- if a name is not found, no pair has it
HasNoName-from_value_of : (pairs : NamedTexts) (name : List ℕ) → named_text pairs name ≡ None
    → HasNoTextOfName pairs name
HasNoName-from_value_of [] name none = tt
HasNoName-from_value_of (pair ∷ pairs) name none = by _ refl (HasNoName-from_value_of pairs name)
  where
    by : (b : Bool) → bytes_eq name pair.0 ≡ b → (named_text pairs name ≡ None → HasNoTextOfName pairs name)
        → HasNoTextOfName (pair ∷ pairs) name
    by true is later = let found : Some pair.1 ≡ None = sym (ap (λ b. cond b (Some pair.1) (named_text pairs name)) is)
        ∙ none in cc
    by false is later = (
      text_names_differ name pair.0 is,
      later (sym (ap (λ b. cond b (Some pair.1) (named_text pairs name)) is)
          ∙ none),
    )

-- if a lookup does not find a name, no pair has it
pub HasNoName-not_found : (pairs : NamedTexts) (name : List ℕ) (found : Option (Bor (List ℕ)))
    → option_copied found ≡ named_text pairs name
    → IfNone found (HasNoTextOfName pairs name)
HasNoName-not_found pairs name None is = HasNoName-from_value_of pairs name (sym is)
HasNoName-not_found pairs name (Some value) is = tt

-- a value for a name that no pair has is appended
pub with_named_text-new : (pairs : NamedTexts) (name value : List ℕ) → HasNoTextOfName pairs name
    → with_named_text pairs name value ≡ pairs ++ (name, value) ∷ []
with_named_text-new [] name value none = refl
with_named_text-new (pair ∷ pairs) name value none =
    ap (λ b. cond b ((pair.0, value) ∷ pairs) (pair ∷ with_named_text pairs name value))
    (ne_bytes_eq name pair.0 (λ e. none.0 (sym e)))
    ∙ ap (λ (ps : NamedTexts). pair ∷ ps) (with_named_text-new pairs name value none.1)

-- the results of lookups after a value is set
pub with_named_text-Sets : (pairs : NamedTexts) (name value : List ℕ)
    → SetsNamedText pairs (with_named_text pairs name value) name value
with_named_text-Sets [] name value other = refl
with_named_text-Sets (pair ∷ pairs) name value other = by _ _ refl refl (with_named_text-Sets pairs name value other)
  where
    by : (b at : Bool) → bytes_eq name pair.0 ≡ b → bytes_eq other pair.0 ≡ at
        → named_text (with_named_text pairs name value) other ≡ cond (bytes_eq other name) (Some value)
        (named_text pairs other)
        → named_text (with_named_text (pair ∷ pairs) name value) other
        ≡ cond (bytes_eq other name) (Some value) (named_text (pair ∷ pairs) other)
    by true true is found later = rw (is, equal_text_names_are_same name pair.0 is, found) refl
    by true false is found later = rw (is, equal_text_names_are_same name pair.0 is, found) refl
    by false true is found later =
        rw (
          is,
          found,
          ne_bytes_eq other name
              (λ e. text_names_differ name pair.0 is (sym (sym e ∙ equal_text_names_are_same other pair.0 found))),
        ) refl
    by false false is found later = rw (is, found) later

-- setting the value of another name leaves a name absent
HasNoName-with_value : (pairs : NamedTexts) (name value other : List ℕ) → HasNoTextOfName pairs other → name ≢ other
    → HasNoTextOfName (with_named_text pairs name value) other
HasNoName-with_value [] name value other none differs = (differs, tt)
HasNoName-with_value (pair ∷ pairs) name value other none differs =
    by _ refl (HasNoName-with_value pairs name value other none.1 differs)
  where
    by : (b : Bool) → bytes_eq name pair.0 ≡ b → HasNoTextOfName (with_named_text pairs name value) other
        → HasNoTextOfName (with_named_text (pair ∷ pairs) name value) other
    by true is later = rw is (none.0, none.1)
    by false is later = rw is (none.0, later)

-- names remain distinct after a value is set
pub HasDistinctNames-with_value : (pairs : NamedTexts) (name value : List ℕ) → HasDistinctTextNames pairs
    → HasDistinctTextNames (with_named_text pairs name value)
HasDistinctNames-with_value [] name value distinct = (tt, tt)
HasDistinctNames-with_value (pair ∷ pairs) name value distinct =
    by _ refl (HasDistinctNames-with_value pairs name value distinct.1)
  where
    by : (b : Bool) → bytes_eq name pair.0 ≡ b → HasDistinctTextNames (with_named_text pairs name value)
        → HasDistinctTextNames (with_named_text (pair ∷ pairs) name value)
    by true is later = rw is (distinct.0, distinct.1)
    by false is later =
        rw is (
          HasNoName-with_value pairs name value pair.0 distinct.0
              (λ e. text_names_differ name pair.0 is (sym e)),
          later,
        )

-- if no pair has a name, none of the first n pairs has it
HasNoName-take : (n : ℕ) (pairs : NamedTexts) (name : List ℕ) → HasNoTextOfName pairs name
    → HasNoTextOfName (take n pairs) name
HasNoName-take zero pairs name none = tt
HasNoName-take (suc n) [] name none = tt
HasNoName-take (suc n) (pair ∷ pairs) name none = (none.0, HasNoName-take n pairs name none.1)

-- if pairs have distinct names, so do the first n of them
pub HasDistinctNames-take : (n : ℕ) (pairs : NamedTexts) → HasDistinctTextNames pairs
    → HasDistinctTextNames (take n pairs)
HasDistinctNames-take zero pairs distinct = tt
HasDistinctNames-take (suc n) [] distinct = tt
HasDistinctNames-take (suc n) (pair ∷ pairs) distinct =
    (HasNoName-take n pairs pair.0 distinct.0, HasDistinctNames-take n pairs distinct.1)

-- if names are distinct, the name of a pair differs from those of the pairs before it
pub HasNoName-before : (before : NamedTexts) (pair : List ℕ × List ℕ) (behind : NamedTexts)
    → HasDistinctTextNames (before ++ pair ∷ behind)
    → HasNoTextOfName before pair.0
HasNoName-before [] pair behind distinct = tt
HasNoName-before (p ∷ before) pair behind distinct =
    (first before distinct.0, HasNoName-before before pair behind distinct.1)
  where
    first : (before : NamedTexts) → HasNoTextOfName (before ++ pair ∷ behind) p.0 → p.0 ≢ pair.0
    first [] none = λ e. none.0 (sym e)
    first (q ∷ before) none = first before none.1

-- the name of a pair differs from a name that no pair has
pair_has_other_name : (pairs : NamedTexts) (name : List ℕ) (n : ℕ) (pair : List ℕ × List ℕ) → HasNoTextOfName pairs name
    → slice_get pairs n ≡ Some pair → name ≢ pair.0
pair_has_other_name [] name n pair none at same = absurd (cc)
pair_has_other_name (p ∷ pairs) name zero pair none at same =
    none.0 (ap (λ (q : List ℕ × List ℕ). q.0) (same_Some p pair at) ∙ sym same)
pair_has_other_name (p ∷ pairs) name (suc n) pair none at same = pair_has_other_name pairs name n pair none.1 at same

-- if names are distinct, no pair before a place has the name there
pub HasNoName-before_place : (pairs : NamedTexts) (n : ℕ) (pair : List ℕ × List ℕ) → HasDistinctTextNames pairs
    → slice_get pairs n ≡ Some pair → HasNoTextOfName (take n pairs) pair.0
HasNoName-before_place [] n pair distinct at = absurd (cc)
HasNoName-before_place (p ∷ pairs) zero pair distinct at = tt
HasNoName-before_place (p ∷ pairs) (suc n) pair distinct at =
    (pair_has_other_name pairs p.0 n pair distinct.0 at, HasNoName-before_place pairs n pair distinct.1 at)

-- if there is no pair at a place, all pairs are before it
pub named_texts_before_end : (pairs : NamedTexts) (n : ℕ) → slice_get pairs n ≡ None → take n pairs ≡ pairs
named_texts_before_end [] zero none = refl
named_texts_before_end [] (suc n) none = refl
named_texts_before_end (p ∷ pairs) zero none = absurd (cc)
named_texts_before_end (p ∷ pairs) (suc n) none =
    ap (λ (ps : NamedTexts). p ∷ ps) (named_texts_before_end pairs n none)
