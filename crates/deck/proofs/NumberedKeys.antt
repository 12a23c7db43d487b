-- The keys that have a number.
use Rattle.std.proofs.Common.{◌≡◌, ◌++◌, ◌∷◌, ◌+◌, ◌&&◌, ◌||◌, [], ℕ, zero, suc, List, Bool, true, false, cond, map}
use Rattle.std.proofs.Common.{refl, sym, ap, ◌∙◌, arith, Some, option_map, slice_get}
use Rattle.std.proofs.lemmas.List.Elements.{filter-append}
use Rattle.std.proofs.lemmas.Bool.{and_parts}
use Rattle.std.proofs.lemmas.Slice.Eq.{bytes_eq-Decides}
use Rattle.std.specs.List.{filter, list_any}
use Rattle.std.specs.Str.{bytes_eq}
use Rattle.std.proofs.Math.Bool.{and-false}
use Rattle.def_entry.specs.declared.key.Key.{Key}
use Rattle.def_entry.specs.declared.key.Kind.{Kind}
use Rattle.def_entry.specs.declared.key.Kind.TheVariants as kind
use Rattle.def_entry.specs.Keys.{key}
use Rattle.def_entry.specs.SameKeys.{is_entry_key_among, is_same_key_kind}
use Rattle.deck_lines.specs.Names.{AreKeyNumbersOneToOne, KeyNumberNames, is_key_numbered, key_number_names_of_kind}
use Rattle.deck_lines.specs.Names.{key_numbered}
use Rattle.deck_lines.specs.declared.key_number.KeyNumber.{KeyNumber}
use Rattle.deck.specs.Changes.{AreDeckKeysOnce}
use Rattle.deck.specs.Numbers.{deck_key_if, deck_keys_where}
use Rattle.deck.proofs.DistinctKeys.{deck_key_among-append, deck_keys_once-append}
use Rattle.deck.proofs.Sameness.{same_deck_kinds_are_equal}

-- the key number of a kind and an index
abbrev pub number : Kind → ℕ → KeyNumber
number k n = record { kind = k; number = n }

-- all keys that have a number
abbrev pub all_keys : KeyNumberNames → List Key
all_keys names =
    map (key kind.Unit) names.units
    ++ (map (key kind.Prefix) names.prefixes
    ++ (map (key kind.Func) names.functions ++ map (key kind.List) names.lists))

-- the keys of a kind whose numbers pass a test are those that pass an equivalent test of the keys
deck_keys_where_filter : (test : KeyNumber → Bool) (own : Key → Bool) (k : Kind) (ns : List (List ℕ)) (i : ℕ) →
    ((j : ℕ) (name : List ℕ) → slice_get ns j ≡ Some name → test (number k (i + j)) ≡ own (key k name)) →
    deck_keys_where test k i ns ≡ filter own (map (key k) ns)
deck_keys_where_filter test own k [] i h = refl
deck_keys_where_filter test own k (n ∷ ns) i h =
    by (own (key k n)) (ap (λ m. test (number k m)) (sym (plus_zero i)) ∙ h zero n refl)
    ∙ ap (λ ks. cond (own (key k n)) (key k n ∷ ks) ks)
    (deck_keys_where_filter test own k ns (i + 1) (λ j name e. ap (λ m. test (number k m)) (next i j)
    ∙ h (suc j) name e))
  where
    plus_zero : (m : ℕ) → m + 0 ≡ m
    plus_zero m = omega arith

    next : (m j : ℕ) → (m + 1) + j ≡ m + suc j
    next m j = omega arith

    by : (b : Bool) → test (number k i) ≡ b
        → deck_key_if (test (number k i)) (Some (key k n)) ++ deck_keys_where test k (i + 1) ns
        ≡ cond b (key k n ∷ deck_keys_where test k (i + 1) ns) (deck_keys_where test k (i + 1) ns)
    by true e = ap (λ b. deck_key_if b (Some (key k n)) ++ deck_keys_where test k (i + 1) ns) e
    by false e = ap (λ b. deck_key_if b (Some (key k n)) ++ deck_keys_where test k (i + 1) ns) e

module _ (names : KeyNumberNames) where
  -- for all names of a kind, the keys whose numbers pass a test are those that pass an equivalent test of the keys
  pub kind_filter : (test : KeyNumber → Bool) (own : Key → Bool)
      → ((n : KeyNumber) (k : Key) → key_numbered names n ≡ Some k → test n ≡ own k) → (k : Kind) →
      deck_keys_where test k 0 (key_number_names_of_kind names k) ≡ filter own
      (map (key k) (key_number_names_of_kind names k))
  kind_filter test own h k =
      deck_keys_where_filter test own k (key_number_names_of_kind names k) 0
      (λ j name e. ap (λ m. test (number k m)) (zero_plus j) ∙ h (number k j) (key k name) (ap (option_map (key k)) e))
    where
      zero_plus : (m : ℕ) → 0 + m ≡ m
      zero_plus m = omega arith

  -- for the names of all kinds, the keys whose numbers pass a test are those that pass an equivalent test of the keys
  pub all_filter : (test : KeyNumber → Bool) (own : Key → Bool)
      → ((n : KeyNumber) (k : Key) → key_numbered names n ≡ Some k → test n ≡ own k) →
      deck_keys_where test kind.Unit 0 names.units
      ++ (deck_keys_where test kind.Prefix 0 names.prefixes
      ++ (deck_keys_where test kind.Func 0 names.functions ++ deck_keys_where test kind.List 0 names.lists))
      ≡ filter own (all_keys names)
  all_filter test own h =
      let us = map (key kind.Unit) names.units in
      let ps = map (key kind.Prefix) names.prefixes in
      let fs = map (key kind.Func) names.functions in
      let ls = map (key kind.List) names.lists in
      ap (λ ks. ks ++ (deck_keys_where test kind.Prefix 0 names.prefixes
      ++ (deck_keys_where test kind.Func 0 names.functions ++ deck_keys_where test kind.List 0 names.lists)))
      (kind_filter test own h kind.Unit)
      ∙ ap (λ ks. filter own us
      ++ (ks ++ (deck_keys_where test kind.Func 0 names.functions ++ deck_keys_where test kind.List 0 names.lists)))
      (kind_filter test own h kind.Prefix)
      ∙ ap (λ ks. filter own us ++ (filter own ps ++ (ks ++ deck_keys_where test kind.List 0 names.lists)))
      (kind_filter test own h kind.Func)
      ∙ ap (λ ks. filter own us ++ (filter own ps ++ (filter own fs ++ ks))) (kind_filter test own h kind.List)
      ∙ ap (λ ks. filter own us ++ (filter own ps ++ ks)) (sym (filter-append own fs ls))
      ∙ ap (λ ks. filter own us ++ ks) (sym (filter-append own ps (fs ++ ls)))
      ∙ sym (filter-append own us (ps ++ (fs ++ ls)))

-- a key is among those of a kind exactly if it has this kind and one of its names
pub deck_key_among_kind : (a : Kind) (ns : List (List ℕ)) (k : Key)
    → is_entry_key_among (map (key a) ns) k ≡ (is_same_key_kind k.kind a && list_any (bytes_eq k.name) ns)
deck_key_among_kind a [] k = sym (and-false (is_same_key_kind k.kind a))
deck_key_among_kind a (n ∷ ns) k = by (is_same_key_kind k.kind a) (deck_key_among_kind a ns k)
  where
    by : (b : Bool) → is_entry_key_among (map (key a) ns) k ≡ (b && list_any (bytes_eq k.name) ns)
        → ((b && bytes_eq k.name n) || is_entry_key_among (map (key a) ns) k)
        ≡ (b && (bytes_eq k.name n || list_any (bytes_eq k.name) ns))
    by true ih = ap (λ t. bytes_eq k.name n || t) ih
    by false ih = ih

-- a key is among all of them exactly if it has a number
pub deck_key_among_all : (names : KeyNumberNames) (k : Key) → is_entry_key_among (all_keys names) k ≡ is_key_numbered
    names k
deck_key_among_all names k =
    deck_key_among-append us (ps ++ (fs ++ ls)) k
    ∙ ap (λ b. is_entry_key_among us k || b)
    (deck_key_among-append ps (fs ++ ls) k ∙ ap (λ b. is_entry_key_among ps k || b) (deck_key_among-append fs ls k))
    ∙ ap (λ b. b || (is_entry_key_among ps k || (is_entry_key_among fs k || is_entry_key_among ls k)))
    (deck_key_among_kind kind.Unit names.units k)
    ∙ ap (λ b. (is_same_key_kind k.kind kind.Unit && has names.units) ||
    (b || (is_entry_key_among fs k || is_entry_key_among ls k)))
    (deck_key_among_kind kind.Prefix names.prefixes k)
    ∙ ap (λ b. (is_same_key_kind k.kind kind.Unit && has names.units)
    || ((is_same_key_kind k.kind kind.Prefix && has names.prefixes) || (b || is_entry_key_among ls k)))
    (deck_key_among_kind kind.Func names.functions k)
    ∙ ap (λ b. (is_same_key_kind k.kind kind.Unit && has names.units)
    || ((is_same_key_kind k.kind kind.Prefix && has names.prefixes)
    || ((is_same_key_kind k.kind kind.Func && has names.functions) || b))) (deck_key_among_kind kind.List names.lists k)
    ∙ by k.kind
  where
    us : List Key
    us = map (key kind.Unit) names.units

    ps : List Key
    ps = map (key kind.Prefix) names.prefixes

    fs : List Key
    fs = map (key kind.Func) names.functions

    ls : List Key
    ls = map (key kind.List) names.lists

    has : List (List ℕ) → Bool
    has ns = list_any (bytes_eq k.name) ns

    or_false : (b : Bool) → (b || false) ≡ b
    or_false true = refl
    or_false false = refl

    by : (a : Kind) → ((is_same_key_kind a kind.Unit && has names.units)
        || ((is_same_key_kind a kind.Prefix && has names.prefixes)
        || ((is_same_key_kind a kind.Func && has names.functions) ||
        (is_same_key_kind a kind.List && has names.lists))))
        ≡ has (key_number_names_of_kind names a)
    by kind.Unit = or_false (has names.units)
    by kind.Prefix = or_false (has names.prefixes)
    by kind.Func = or_false (has names.functions)
    by kind.List = refl

-- a name in a list has an index
pub deck_name_has_index : (ns : List (List ℕ)) (name : List ℕ) → list_any (bytes_eq name) ns ≡ true
    → (j : ℕ) × (slice_get ns j ≡ Some name)
deck_name_has_index [] name e = cc
deck_name_has_index (n ∷ ns) name e = by (λ h. deck_name_has_index ns name h) (bytes_eq name n) refl e
  where
    by : (list_any (bytes_eq name) ns ≡ true → (j : ℕ) × (slice_get ns j ≡ Some name)) → (b : Bool)
        → bytes_eq name n ≡ b → (b || list_any (bytes_eq name) ns) ≡ true → (j : ℕ) × (slice_get (n ∷ ns) j ≡ Some name)
    by ih true h g = (0, ap Some (sym ((bytes_eq-Decides name n).0 h)))
    by ih false h g = let p = ih g in (suc p.0, p.1)

-- if no name has two indices, each key of the kind occurs once
deck_keys_once_in_kind : (a : Kind) (ns : List (List ℕ))
    → ((i j : ℕ) (name : List ℕ) → slice_get ns i ≡ Some name → slice_get ns j ≡ Some name → i ≡ j)
    → AreDeckKeysOnce (map (key a) ns)
deck_keys_once_in_kind a [] h = tt
deck_keys_once_in_kind a (n ∷ ns) h = (
  deck_key_among_kind a ns (key a n) ∙ ap (λ b. is_same_key_kind a a && b) (by (list_any (bytes_eq n) ns) refl)
      ∙ and-false (is_same_key_kind a a),
  deck_keys_once_in_kind a ns (λ i j name e f. less i j (h (suc i) (suc j) name e f)),
)
  where
    less : (i j : ℕ) → suc i ≡ suc j → i ≡ j
    less i j e = omega (arith, e)

    first : (j : ℕ) → 0 ≡ suc j → ⊥
    first j e = absurd (omega (arith, e))

    by : (b : Bool) → list_any (bytes_eq n) ns ≡ b → list_any (bytes_eq n) ns ≡ false
    by true e = let p = deck_name_has_index ns n e in absurd (first p.0 (h 0 (suc p.0) n refl p.1))
    by false e = e

module _ (names : KeyNumberNames) (unique : AreKeyNumbersOneToOne names) where
  once_of : (a : Kind) → AreDeckKeysOnce (map (key a) (key_number_names_of_kind names a))
  once_of a = deck_keys_once_in_kind a (key_number_names_of_kind names a)
      (λ i j name e f. ap (λ (n : KeyNumber). n.number)
      (unique (number a i) (number a j) (key a name) (ap (option_map (key a)) e) (ap (option_map (key a)) f)))

  -- no key is among those of two different kinds
  kinds_apart : (a b : Kind) (ns ms : List (List ℕ)) → is_same_key_kind a b ≡ false → (k : Key)
      → is_entry_key_among (map (key a) ns) k ≡ true → is_entry_key_among (map (key b) ms) k ≡ false
  kinds_apart a b ns ms apart k e =
      let parts = and_parts (is_same_key_kind k.kind a) (list_any (bytes_eq k.name) ns)
      (sym (deck_key_among_kind a ns k) ∙ e) in
      deck_key_among_kind b ms k
      ∙ ap (λ t. t && list_any (bytes_eq k.name) ms)
      (ap (λ x. is_same_key_kind x b) (same_deck_kinds_are_equal k.kind a parts.0) ∙ apart)

  both_absent : (ks ls : List Key) (k : Key) → is_entry_key_among ks k ≡ false → is_entry_key_among ls k ≡ false
      → is_entry_key_among (ks ++ ls) k ≡ false
  both_absent ks ls k e f = deck_key_among-append ks ls k ∙ ap (λ b. b || is_entry_key_among ls k) e ∙ f

  -- each key occurs once among all keys
  pub once_all : AreDeckKeysOnce (all_keys names)
  once_all =
      let us = names.units in
      let ps = names.prefixes in
      let fs = names.functions in
      let ls = names.lists in
      deck_keys_once-append (map (key kind.Unit) us) _ (once_of kind.Unit)
      (deck_keys_once-append (map (key kind.Prefix) ps) _ (once_of kind.Prefix)
      (deck_keys_once-append (map (key kind.Func) fs) _ (once_of kind.Func) (once_of kind.List)
      (kinds_apart kind.Func kind.List fs ls refl))
      (λ k e. both_absent (map (key kind.Func) fs) (map (key kind.List) ls) k
      (kinds_apart kind.Prefix kind.Func ps fs refl k e) (kinds_apart kind.Prefix kind.List ps ls refl k e)))
      (λ k e. both_absent (map (key kind.Prefix) ps) (map (key kind.Func) fs ++ map (key kind.List) ls) k
      (kinds_apart kind.Unit kind.Prefix us ps refl k e)
      (both_absent (map (key kind.Func) fs) (map (key kind.List) ls) k (kinds_apart kind.Unit kind.Func us fs refl k e)
      (kinds_apart kind.Unit kind.List us ls refl k e)))
