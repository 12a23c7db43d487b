-- The definitions of lines, by the numbers of keys.
use Rattle.std.proofs.Common.{◌≡◌, ◌++◌, ◌∷◌, ◌+◌, ◌<◌, [], ℕ, List, map, take, drop, get_or, length, refl, sym, ap}
use Rattle.std.proofs.Common.{subst, ◌∙◌, Option, Some, None, option_map, slice_get}
use Rattle.std.specs.Option.{option_and_then}
use Rattle.std.proofs.lemmas.List.{drop-map, map-append, take-map, take_more}
use Rattle.std.proofs.lemmas.Option.{slice_get-map}
use Rattle.def_entry.specs.Entries.{Entry, What}
use Rattle.def_entry.specs.LineViews.{seen_entry}
use Rattle.def_entry.specs.Views.{entry_definition_view, entry_with_definition}
use Rattle.def_entry.specs.declared.entry.What.{What as MadeWhat}
use Rattle.def_entry.specs.declared.key.Key.{Key}
use Rattle.deck_lines.specs.StoredDefinitions.{IsStoreDefined, keyed_store_definition, seen_store_definition}
use Rattle.deck_lines.specs.Names.{AreKeyNumbersExtended, KeyNumberNames, key_numbered, key_numbers_with_key}
use Rattle.deck_lines.specs.Readings.{entry_in_store_line}
use Rattle.deck_lines.specs.Stores.{store_definition_at}
use Rattle.deck_lines.specs.declared.key_number.KeyNumber.{KeyNumber}
use Rattle.deck_lines.specs.declared.line.DeckLine.{DeckLine}
use Rattle.deck_lines.specs.declared.store.definitions.Definition.{Definition}
use Rattle.deck_lines.proofs.Keys.{key_numbers_are_extended}

module _ (names more : KeyNumberNames) (extended : AreKeyNumbersExtended names more) where
  grown_one : (d : Option Definition) (said : Option (Key × Entry))
      → option_map (seen_store_definition names) d ≡ option_map keyed_store_definition said
      → option_map (seen_store_definition more) d ≡ option_map keyed_store_definition said
  grown_one None None e = refl
  grown_one None (Some said) e = absurd (cc)
  grown_one (Some d) None e = absurd (cc)
  grown_one (Some d) (Some said) e =
      let same : seen_store_definition names d ≡ keyed_store_definition said = cc in
      let at : key_numbered names d.key ≡ Some said.0 = ap (λ (p : Option Key × What). p.0) same in
      ap (λ k. Some (k, entry_definition_view d.what)) (extended d.key said.0 at)
      ∙ ap (λ (p : Option Key × What). Some (Some said.0, p.1)) same

  -- definitions stay those of the lines if more keys have numbers
  pub defined_with_more : (ds : List (Option Definition)) (said : List (Option (Key × Entry)))
      → IsStoreDefined names ds said
      → IsStoreDefined more ds said
  defined_with_more [] [] e = refl
  defined_with_more [] (s ∷ said) e = absurd (cc)
  defined_with_more (d ∷ ds) [] e = absurd (cc)
  defined_with_more (d ∷ ds) (s ∷ said) e =
      let head : option_map (seen_store_definition names) d ≡ option_map keyed_store_definition s = cc in
      let tail : IsStoreDefined names ds said = cc in
      ap (λ t. t ∷ map (option_map (seen_store_definition more)) ds) (grown_one d s head)
      ∙ ap (λ t. option_map keyed_store_definition s ∷ t) (defined_with_more ds said tail)

  -- appending a definition to the definitions of lines
  pub defined_put : (ds : List (Option Definition)) (said : List (Option (Key × Entry))) (d : Option Definition)
      (s : Option (Key × Entry)) →
      option_map (seen_store_definition more) d ≡ option_map keyed_store_definition s → IsStoreDefined names ds said
      → IsStoreDefined more (ds ++ d ∷ []) (said ++ s ∷ [])
  defined_put ds said d s e are =
      map-append (option_map (seen_store_definition more)) ds (d ∷ [])
      ∙ ap (λ t. t ++ option_map (seen_store_definition more) d ∷ []) (defined_with_more ds said are)
      ∙ ap (λ o. map (option_map keyed_store_definition) said ++ o ∷ []) e
      ∙ sym (map-append (option_map keyed_store_definition) said (s ∷ []))

-- appending the definition of a key with its number
pub definition_put_with_key_number : (names more : KeyNumberNames) (k : Key) (what : MadeWhat) (n : KeyNumber)
    (made : Option (Key × MadeWhat))
    (line : List ℕ) (ds after : List (Option Definition)) (said : List (Option (Key × Entry))) →
    made ≡ Some (k, what) → more ≡ key_numbers_with_key names k → key_numbered more n ≡ Some k
    → after ≡ ds ++ Some (record { key = n; what = what }) ∷ [] →
    IsStoreDefined names ds said → IsStoreDefined more after (said ++ option_map (seen_entry line) made ∷ [])
definition_put_with_key_number names more k what n made line ds after said is grows at put are =
    let wider : AreKeyNumbersExtended names more =
    subst (AreKeyNumbersExtended names) (sym grows)
    (key_numbers_are_extended names (Some (k, entry_with_definition line what))) in
    ap (map (option_map (seen_store_definition more))) put
    ∙ defined_put names more wider ds said (Some (record { key = n; what = what })) (Some (seen_entry line (k, what)))
    (ap (λ key. Some (key, entry_definition_view what)) at) are
    ∙ ap (λ o. map (option_map keyed_store_definition) (said ++ option_map (seen_entry line) o ∷ [])) (sym is)

-- the first definitions are those of the first lines
pub store_defined_take : (names : KeyNumberNames) (ds : List (Option Definition)) (said : List (Option (Key × Entry)))
    (n : ℕ)
    → IsStoreDefined names ds said → IsStoreDefined names (take n ds) (take n said)
store_defined_take names ds said n are =
    sym (take-map (option_map (seen_store_definition names)) n ds) ∙ ap (take n) are
    ∙ take-map (option_map keyed_store_definition) n said

-- the definitions after the first ones are those of the lines after the first ones
pub store_defined_drop : (names : KeyNumberNames) (ds : List (Option Definition)) (said : List (Option (Key × Entry)))
    (n : ℕ)
    → IsStoreDefined names ds said → IsStoreDefined names (drop n ds) (drop n said)
store_defined_drop names ds said n are =
    sym (drop-map (option_map (seen_store_definition names)) n ds) ∙ ap (drop n) are
    ∙ drop-map (option_map keyed_store_definition) n said

-- two lists of definitions, one after the other, are those of two lists of lines, one after the other
pub store_defined_append : (names : KeyNumberNames) (ds more : List (Option Definition))
    (said behind : List (Option (Key × Entry)))
    → IsStoreDefined names ds said → IsStoreDefined names more behind → IsStoreDefined names (ds ++ more)
    (said ++ behind)
store_defined_append names ds more said behind are too =
    map-append (option_map (seen_store_definition names)) ds more
    ∙ ap (λ t. t ++ map (option_map (seen_store_definition names)) more) are
    ∙ ap (λ t. map (option_map keyed_store_definition) said ++ t) too
    ∙ sym (map-append (option_map keyed_store_definition) said behind)

-- if definitions are replaced like their lines, they are the definitions of the resulting lines
pub store_defined_exchange : (names : KeyNumberNames) (ds put : List (Option Definition))
    (said by : List (Option (Key × Entry)))
    (at cut : ℕ) → IsStoreDefined names ds said → IsStoreDefined names put by →
    IsStoreDefined names (take at ds ++ (put ++ drop (at + cut) ds)) (take at said ++ (by ++ drop (at + cut) said))
store_defined_exchange names ds put said by at cut are too =
    store_defined_append names (take at ds) (put ++ drop (at + cut) ds) (take at said) (by ++ drop (at + cut) said)
    (store_defined_take names ds said at are)
    (store_defined_append names put (drop (at + cut) ds) by (drop (at + cut) said) too
    (store_defined_drop names ds said (at + cut) are))

module _ (names : KeyNumberNames) (ds : List (Option Definition)) (lines : List DeckLine) (place : ℕ)
    (are : IsStoreDefined names ds (map entry_in_store_line lines)) where
  pub definition_at_place : option_map (option_map (seen_store_definition names)) (slice_get ds place)
      ≡ option_map (option_map keyed_store_definition) (option_map entry_in_store_line (slice_get lines place))
  definition_at_place =
      sym (slice_get-map (option_map (seen_store_definition names)) ds place)
      ∙ ap (λ t. slice_get t place) are
      ∙ slice_get-map (option_map keyed_store_definition) (map entry_in_store_line lines) place
      ∙ ap (option_map (option_map keyed_store_definition)) (slice_get-map entry_in_store_line lines place)

  -- the stored definition at a place is the definition of the line there
  pub defined_at : (d : Option Definition) → slice_get ds place ≡ Some d
      → option_map (seen_store_definition names) d ≡ option_map keyed_store_definition (store_definition_at lines place)
  defined_at d at = by (slice_get lines place) (sym (ap (option_map (option_map (seen_store_definition names))) at)
      ∙ definition_at_place)
    where
      by : (o : Option DeckLine)
          → Some (option_map (seen_store_definition names) d)
          ≡ option_map (option_map keyed_store_definition) (option_map entry_in_store_line o)
          → option_map (seen_store_definition names) d ≡ option_map keyed_store_definition
          (option_and_then entry_in_store_line o)
      by None e = absurd (cc)
      by (Some line) e = cc

  -- there is no definition at a place without a line
  pub undefined_at : slice_get ds place ≡ None → store_definition_at lines place ≡ None
  undefined_at at = by (slice_get lines place) (sym (ap (option_map (option_map (seen_store_definition names))) at)
      ∙ definition_at_place)
    where
      by : (o : Option DeckLine) → None ≡ option_map (option_map keyed_store_definition)
          (option_map entry_in_store_line o)
          → option_and_then entry_in_store_line o ≡ None
      by None e = refl
      by (Some line) e = absurd (cc)

-- the key of a definition is the key of its entry
pub keyed_store_definition_key : (d : Option (Key × Entry)) → option_map (λ (p : Option Key × What). p.0)
    (option_map keyed_store_definition d)
    ≡ option_map (λ (p : Key × Entry). Some p.0) d
keyed_store_definition_key None = refl
keyed_store_definition_key (Some d) = refl

-- the definitions of the first lines, extended by that of the next line
pub store_defined_more : (names more : KeyNumberNames) → AreKeyNumbersExtended names more
    → (ds after : List (Option Definition))
    (d : Option Definition) (lines : List DeckLine) (i : ℕ) (line : DeckLine) →
    i < length lines → line ≡ get_or lines i line → after ≡ ds ++ d ∷ []
    → option_map (seen_store_definition more) d ≡ option_map keyed_store_definition (entry_in_store_line line) →
    IsStoreDefined names ds (map entry_in_store_line (take i lines))
    → IsStoreDefined more after (map entry_in_store_line (take (i + 1) lines))
store_defined_more names more wider ds after d lines i line h at put reads are =
    ap (map (option_map (seen_store_definition more))) put
    ∙ defined_put names more wider ds (map entry_in_store_line (take i lines)) d (entry_in_store_line line) reads are
    ∙ ap (map (option_map keyed_store_definition))
    (sym (ap (map entry_in_store_line) (take_more lines i line h ∙ ap (λ t. take i lines ++ t ∷ []) (sym at))
    ∙ map-append entry_in_store_line (take i lines) (line ∷ [])))
