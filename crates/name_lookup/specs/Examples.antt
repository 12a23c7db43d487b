-- Examples of lookups.
use Rattle.std.specs.Prelude.{◌≡◌, ℕ, List, [], ◌∷◌, codes}
use Rattle.expr_tree.specs.declared.word_list.WordKind.TheVariants as place
use Rattle.def_entry.specs.declared.key.Key.{Key}
use Rattle.def_entry.specs.declared.key.Kind.TheVariants as kind
use Rattle.def_entry.specs.Keys.{key}
use Rattle.def_entry.specs.SameKeys.{is_entry_key_among}
use Rattle.name_lookup.specs.Candidates.{candidates, found_targets}
use Rattle.name_lookup.specs.Plurals.{singulars}

abbrev pub lookup_unit : List ℕ → Key
lookup_unit name = key kind.Unit name

abbrev pub lookup_function : List ℕ → Key
lookup_function name = key kind.Func name

abbrev pub lookup_prefix : List ℕ → Key
lookup_prefix name = key kind.Prefix name

-- the keys that a word alone refers to if exactly these keys are present
abbrev pub lookup_targets_among : List Key → List ℕ → List Key
lookup_targets_among keys word = (found_targets (is_entry_key_among keys) (candidates place.Plain word)).targets

-- the singulars of words just below and just at the minimum length for each ending
pub record SingularExamples : Type 0 where
  pub two_bytes_in_s : singulars (codes "as") ≡ []
  pub three_bytes_in_s : singulars (codes "abs") ≡ codes "ab" ∷ []
  pub three_bytes_in_es : singulars (codes "aes") ≡ codes "ae" ∷ []
  pub four_bytes_in_es : singulars (codes "ames") ≡ codes "ame" ∷ codes "am" ∷ []
  pub four_bytes_in_ies : singulars (codes "pies") ≡ codes "pie" ∷ codes "pi" ∷ []
  pub five_bytes_in_ies : singulars (codes "foies") ≡ codes "foie" ∷ codes "foi" ∷ codes "foy" ∷ []
  pub another_ending : singulars (codes "pied") ≡ []

-- plurals, each looked up in a table of the listed keys
pub record PluralExamples : Type 0 where
  -- a word of two bytes is not a plural; a word of three bytes may be one
  pub too_short_for_s : lookup_targets_among (lookup_unit (codes "a") ∷ []) (codes "as") ≡ []
  pub long_enough_for_s : lookup_targets_among (lookup_unit (codes "ab") ∷ []) (codes "abs") ≡ lookup_unit
      (codes "ab") ∷ []
  -- a word of three bytes is not a plural in `es`; a word of four bytes may be one
  pub too_short_for_es : lookup_targets_among (lookup_unit (codes "a") ∷ []) (codes "aes") ≡ []
  pub long_enough_for_es : lookup_targets_among (lookup_unit (codes "am") ∷ []) (codes "ames") ≡ lookup_unit
      (codes "am") ∷ []
  -- a word of four bytes is not a plural in `ies`; a word of five bytes may be one
  pub too_short_for_ies : lookup_targets_among (lookup_unit (codes "py") ∷ []) (codes "pies") ≡ []
  pub long_enough_for_ies : lookup_targets_among (lookup_unit (codes "foy") ∷ []) (codes "foies") ≡ lookup_unit
      (codes "foy") ∷ []
  -- the word itself is preferred to its singulars, and a longer singular to a shorter one
  pub whole_word_first : lookup_targets_among (lookup_unit (codes "abs") ∷ lookup_unit (codes "ab") ∷ []) (codes "abs")
      ≡ lookup_unit (codes "abs") ∷ []
  pub longer_singular_first : lookup_targets_among (lookup_unit (codes "am") ∷ lookup_unit (codes "ame") ∷ [])
      (codes "ames")
      ≡ lookup_unit (codes "ame") ∷ []
  -- a singular may begin with a prefix, and is then preferred to the whole word with that prefix
  pub prefix_of_singular : lookup_targets_among
      (lookup_prefix (codes "k") ∷ lookup_unit (codes "am") ∷ lookup_unit (codes "ams") ∷ [])
      (codes "kams") ≡ lookup_prefix (codes "k") ∷ lookup_unit (codes "am") ∷ []
  -- only one ending is removed from a word
  pub one_ending : lookup_targets_among (lookup_unit (codes "ab") ∷ []) (codes "abss") ≡ []

-- prefixes, each looked up in a table of the listed keys
pub record PrefixExamples : Type 0 where
  pub prefix_alone : lookup_targets_among (lookup_prefix (codes "k") ∷ []) (codes "k") ≡ lookup_prefix (codes "k") ∷ []
  -- the longest prefix is preferred
  pub longest_prefix :
      lookup_targets_among (lookup_prefix (codes "da") ∷ lookup_prefix (codes "d") ∷ lookup_unit
      (codes "b") ∷ lookup_unit
      (codes "ab") ∷ []) (codes "dab")
      ≡ lookup_prefix (codes "da") ∷ lookup_unit (codes "b") ∷ []
  -- a longer prefix is passed over unless the rest of the word is a unit
  pub longest_prefix_of_a_unit :
      lookup_targets_among (lookup_prefix (codes "da") ∷ lookup_prefix (codes "d") ∷ lookup_unit (codes "ab") ∷ [])
      (codes "dab")
      ≡ lookup_prefix (codes "d") ∷ lookup_unit (codes "ab") ∷ []
  pub whole_word_as_prefix :
      lookup_targets_among (lookup_prefix (codes "dab") ∷ lookup_prefix (codes "d") ∷ lookup_unit (codes "ab") ∷ [])
      (codes "dab")
      ≡ lookup_prefix (codes "dab") ∷ []
  -- a word has at most one prefix
  pub two_prefixes : lookup_targets_among (lookup_prefix (codes "k") ∷ lookup_unit (codes "m") ∷ []) (codes "kkm") ≡ []
  -- a word never refers to a list
  pub list : lookup_targets_among (key kind.List (codes "hms") ∷ []) (codes "hms") ≡ []

-- a unit and a function of the same name
abbrev pub lookup_unit_and_function : List Key
lookup_unit_and_function = lookup_unit (codes "f") ∷ lookup_function (codes "f") ∷ []

-- the same name at each kind of place
pub record LookupPlaceExamples : Type 0 where
  pub plain_place : found_targets (is_entry_key_among lookup_unit_and_function) (candidates place.Plain (codes "f"))
      ≡ record { targets = lookup_unit (codes "f") ∷ []; keys_looked_at = lookup_unit (codes "f") ∷ [] }
  pub call_place : found_targets (is_entry_key_among lookup_unit_and_function) (candidates place.Call (codes "f"))
      ≡ record { targets = lookup_function (codes "f") ∷ []; keys_looked_at = lookup_function (codes "f") ∷ [] }
  pub inverse : found_targets (is_entry_key_among lookup_unit_and_function) (candidates place.Inverse (codes "f"))
      ≡ record { targets = lookup_function (codes "f") ∷ []; keys_looked_at = lookup_function (codes "f") ∷ [] }
  pub inverse_of_a_unit : found_targets (is_entry_key_among (lookup_unit (codes "f") ∷ []))
      (candidates place.Inverse (codes "f"))
      ≡ record { targets = []; keys_looked_at = lookup_function (codes "f") ∷ [] }

-- the candidates of a word, and the keys that a lookup looks at
pub record LookupOrderExamples : Type 0 where
  pub all_candidates : candidates place.Plain (codes "abs")
      ≡ (lookup_unit (codes "abs") ∷ []) ∷ (lookup_function (codes "abs") ∷ []) ∷ (lookup_unit (codes "ab") ∷ [])
      ∷ (lookup_prefix (codes "ab") ∷ []) ∷ (lookup_prefix (codes "a") ∷ lookup_unit (codes "b") ∷ [])
      ∷ (lookup_prefix (codes "abs") ∷ []) ∷ (lookup_prefix (codes "ab") ∷ lookup_unit (codes "s") ∷ [])
      ∷ (lookup_prefix (codes "a") ∷ lookup_unit (codes "bs") ∷ []) ∷ []
  pub none_present : (found_targets (is_entry_key_among []) (candidates place.Plain (codes "abs"))).keys_looked_at
      ≡ lookup_unit (codes "abs") ∷ lookup_function (codes "abs") ∷ lookup_unit (codes "ab") ∷ lookup_prefix
      (codes "ab") ∷ lookup_prefix (codes "a")
      ∷ lookup_prefix (codes "abs") ∷ lookup_prefix (codes "ab") ∷ lookup_prefix (codes "a") ∷ []
  pub shorter_prefix :
      found_targets (is_entry_key_among
      (lookup_prefix (codes "da") ∷ lookup_prefix (codes "d") ∷ lookup_unit (codes "ab") ∷ []))
      (candidates place.Plain (codes "dab"))
      ≡ record {
        targets = lookup_prefix (codes "d") ∷ lookup_unit (codes "ab") ∷ [];
        keys_looked_at = lookup_unit (codes "dab") ∷ lookup_function (codes "dab") ∷ lookup_prefix
            (codes "dab") ∷ lookup_prefix
            (codes "da")
            ∷ lookup_unit (codes "b") ∷ lookup_prefix (codes "d") ∷ lookup_unit (codes "ab") ∷ [];
      }

-- law: all examples hold
pub record LookupExamplesLaw : Type 0 where
  pub singular : SingularExamples
  pub plural_words : PluralExamples
  pub prefix_words : PrefixExamples
  pub at_places : LookupPlaceExamples
  pub candidate_order : LookupOrderExamples
