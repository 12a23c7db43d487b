-- New numbers for the keys that lines define.
use Rattle.std.proofs.Common.{◌≡◌, ◌++◌, ◌∷◌, ◌+◌, ◌<◌, [], ℕ, suc, List, map, take, drop, get_or, length}
use Rattle.std.proofs.Common.{refl, sym, ap, subst, ◌∙◌, arith, Option, Some, None, option_map}
use Rattle.std.specs.Option.{option_and_then}
use Rattle.std.proofs.lemmas.List.{append-nil, drop_all, length-map, map-append, take_all, take_more}
use Rattle.std.proofs.lemmas.Option.{same_Some, slice_get-get_or}
use Rattle.def_entry.specs.Entries.{Entry, What}
use Rattle.def_entry.specs.Views.{entry_definition_view}
use Rattle.def_entry.specs.declared.key.Key.{Key}
use Rattle.deck_lines.specs.StoredDefinitions.{AreStoreDefinitionsOf, HoldsStoreDefinitions, IsStoreDefined}
use Rattle.deck_lines.specs.StoredDefinitions.{key_numbered_definitions, keyed_store_definition, seen_store_definition}
use Rattle.deck_lines.specs.StoredDefinitions.{key_numbered_definition}
use Rattle.deck_lines.specs.Loads.{key_numbers_by_definitions}
use Rattle.deck_lines.specs.Marks.{plain_store_line}
use Rattle.deck_lines.specs.Names.{AreKeyNumbersExtended, AreKeyNumbersOneToOne, KeyNumberNames, key_numbered}
use Rattle.deck_lines.specs.Names.{no_key_number_names}
use Rattle.deck_lines.specs.NumberedKeys.{key_number_names_in}
use Rattle.deck_lines.specs.Readings.{entry_in_store_line}
use Rattle.deck_lines.specs.Renumberings.{AreKeyNumbersOfLines, IsKeyRenumbering, key_number_names_after}
use Rattle.deck_lines.specs.Stores.{key_numbers_by_definition, store_definition_at}
use Rattle.deck_lines.specs.declared.key_number.KeyNumber.{KeyNumber}
use Rattle.deck_lines.specs.declared.line.DeckLine.{DeckLine}
use Rattle.deck_lines.specs.declared.store.definitions.Definition.{Definition}
use Rattle.deck_lines.specs.declared.store.definitions.Definitions.{Definitions}
use Rattle.deck_lines.specs.declared.store.new_key_numbers.Renumbering.{Renumbering}
use Rattle.deck_lines.proofs.DraftAppends.{key_numbers_by_definitions-append}
use Rattle.deck_lines.proofs.Keys.{key_numbers_are_extended, key_numbers_stay_one_to_one}
use Rattle.deck_lines.proofs.StoredLines.{store_definitions_per_line}

-- the key of a definition
abbrev keyed : Key × Entry → Option Key
keyed d = Some d.0

module _ (names more : KeyNumberNames) (wider : AreKeyNumbersExtended names more) where
  wider_one : (n : Option KeyNumber) (s : Option (Key × Entry)) → option_map (key_numbered names) n ≡ option_map keyed s
      → option_map (key_numbered more) n ≡ option_map keyed s
  wider_one None None e = refl
  wider_one None (Some s) e = absurd (cc)
  wider_one (Some n) None e = absurd (cc)
  wider_one (Some n) (Some s) e = ap Some (wider n s.0 (same_Some (key_numbered names n) (Some s.0) e))

  -- keys have the same numbers if more keys have numbers
  pub numbers_wider : (ns : List (Option KeyNumber)) (said : List (Option (Key × Entry)))
      → AreKeyNumbersOfLines names ns said
      → AreKeyNumbersOfLines more ns said
  numbers_wider [] [] e = refl
  numbers_wider [] (s ∷ said) e = absurd (cc)
  numbers_wider (n ∷ ns) [] e = absurd (cc)
  numbers_wider (n ∷ ns) (s ∷ said) e =
      let head : option_map (key_numbered names) n ≡ option_map keyed s = cc in
      let tail : AreKeyNumbersOfLines names ns said = cc in
      ap (λ t. t ∷ map (option_map (key_numbered more)) ns) (wider_one n s head)
      ∙ ap (λ t. option_map keyed s ∷ t) (numbers_wider ns said tail)

module _ (names more : KeyNumberNames) (lines : List DeckLine) (i : ℕ) (inside : i < length lines)
    (put : more ≡ key_numbers_by_definition names (store_definition_at lines i)) where
  -- the line at this place
  abbrev line : DeckLine
  line = get_or lines i (plain_store_line 0 [])

  there : store_definition_at lines i ≡ entry_in_store_line line
  there = ap (option_and_then entry_in_store_line) (slice_get-get_or lines i (plain_store_line 0 []) inside)

  first : take (i + 1) lines ≡ take i lines ++ line ∷ []
  first = take_more lines i (plain_store_line 0 []) inside

  -- the names of the keys of the first lines, extended by that of the next line
  pub names_more : names ≡ key_numbers_by_definitions no_key_number_names (take i lines)
      → more ≡ key_numbers_by_definitions no_key_number_names (take (i + 1) lines)
  names_more is =
      put ∙ ap (key_numbers_by_definition names) there
      ∙ ap (λ n. key_numbers_by_definition n (entry_in_store_line line)) is
      ∙ sym (key_numbers_by_definitions-append (take i lines) (line ∷ []) no_key_number_names)
      ∙ ap (key_numbers_by_definitions no_key_number_names) (sym first)

  wider : AreKeyNumbersExtended names more
  wider = subst (AreKeyNumbersExtended names) (sym put) (key_numbers_are_extended names (store_definition_at lines i))

  -- the numbers of the keys of the first lines, extended by that of the next line
  pub numbers_more : (ns after : List (Option KeyNumber)) (n : Option KeyNumber) → after ≡ ns ++ n ∷ []
      → option_map (key_numbered more) n ≡ option_map keyed (store_definition_at lines i)
      → AreKeyNumbersOfLines names ns (map entry_in_store_line (take i lines)) → AreKeyNumbersOfLines more after
      (map entry_in_store_line (take (i + 1) lines))
  numbers_more ns after n pushed at are =
      ap (map (option_map (key_numbered more))) pushed
      ∙ map-append (option_map (key_numbered more)) ns (n ∷ [])
      ∙ ap (λ t. t ++ option_map (key_numbered more) n ∷ [])
      (numbers_wider names more wider ns (map entry_in_store_line (take i lines)) are)
      ∙ ap (λ o. map (option_map keyed) (map entry_in_store_line (take i lines)) ++ o ∷ [])
      (at ∙ ap (option_map keyed) there)
      ∙ sym (map-append (option_map keyed) (map entry_in_store_line (take i lines)) (entry_in_store_line line ∷ []))
      ∙ ap (map (option_map keyed)) (sym (map-append entry_in_store_line (take i lines) (line ∷ []))
      ∙ ap (map entry_in_store_line) (sym first))

  -- no key has two numbers after one more key is numbered
  pub unique_more : AreKeyNumbersOneToOne names → AreKeyNumbersOneToOne more
  unique_more one = subst AreKeyNumbersOneToOne (sym put)
      (key_numbers_stay_one_to_one names (store_definition_at lines i) one)

module _ (names more : KeyNumberNames) where
  numbered_one : (n : Option KeyNumber) (d : Option Definition) (s : Option (Key × Entry))
      → option_map (seen_store_definition names) d ≡ option_map keyed_store_definition s
      → option_map (key_numbered more) n ≡ option_map keyed s
      → option_map (seen_store_definition more) (key_numbered_definition n d) ≡ option_map keyed_store_definition s
  numbered_one None None None e f = refl
  numbered_one (Some n) None None e f = absurd (cc)
  numbered_one n (Some d) None e f = absurd (cc)
  numbered_one n None (Some s) e f = absurd (cc)
  numbered_one None (Some d) (Some s) e f = absurd (cc)
  numbered_one (Some n) (Some d) (Some s) e f =
      let what : entry_definition_view d.what ≡ s.1.what =
      ap (λ (p : Option Key × What). p.1) (same_Some (seen_store_definition names d) (keyed_store_definition s) e) in
      ap (λ k. Some (k, entry_definition_view d.what)) (same_Some (key_numbered more n) (Some s.0) f)
      ∙ ap (λ w. Some (Some s.0, w)) what

  -- the definitions of lines are the same with other numbers of their keys
  pub defined_numbered : (ns : List (Option KeyNumber)) (ds : List (Option Definition))
      (said : List (Option (Key × Entry))) → IsStoreDefined names ds said → AreKeyNumbersOfLines more ns said
      → IsStoreDefined more (key_numbered_definitions ns ds) said
  defined_numbered [] [] [] e f = refl
  defined_numbered (n ∷ ns) [] [] e f = absurd (cc)
  defined_numbered ns (d ∷ ds) [] e f = absurd (cc)
  defined_numbered ns [] (s ∷ said) e f = absurd (cc)
  defined_numbered [] (d ∷ ds) (s ∷ said) e f = absurd (cc)
  defined_numbered (n ∷ ns) (d ∷ ds) (s ∷ said) e f =
      let head : option_map (seen_store_definition names) d ≡ option_map keyed_store_definition s = cc in
      let tail : IsStoreDefined names ds said = cc in
      let number : option_map (key_numbered more) n ≡ option_map keyed s = cc in
      let numbers : AreKeyNumbersOfLines more ns said = cc in
      ap (λ t. t ∷ map (option_map (seen_store_definition more)) (key_numbered_definitions ns ds))
      (numbered_one n d s head number)
      ∙ ap (λ t. option_map keyed_store_definition s ∷ t) (defined_numbered ns ds said tail numbers)

-- renumbering does not change the number of definitions
pub length-key_numbered_definitions : (ns : List (Option KeyNumber)) (ds : List (Option Definition))
    → length (key_numbered_definitions ns ds) ≡ length ds
length-key_numbered_definitions [] ds = refl
length-key_numbered_definitions (n ∷ ns) [] = refl
length-key_numbered_definitions (n ∷ ns) (d ∷ ds) = ap suc (length-key_numbered_definitions ns ds)

-- writing back all definitions replaces all of them
pub renumbered_keys_written_back : (len : ℕ) (ds written : List (Option Definition)) → length written ≡ length ds
    → length ds ≡ len
    → take len (written ++ drop (length written) ds) ≡ written
renumbered_keys_written_back len ds written same all =
    ap (λ t. take len (written ++ t)) (drop_all (length written) ds (omega (arith, same)))
    ∙ ap (take len) (append-nil written) ∙ take_all len written (omega (arith, same, all))

-- there are as many numbers as definitions
pub key_numbers_per_definition : (lines : List DeckLine) (d : Definitions) (r : Renumbering)
    → HoldsStoreDefinitions lines d
    → IsKeyRenumbering lines r → length r.of_lines.items ≡ length d.of_lines.listed
key_numbers_per_definition lines d r kept are =
    sym (length-map r.of_lines.items (option_map (key_numbered (key_number_names_after r))))
    ∙ ap length are.definition_numbers
    ∙ length-map (map entry_in_store_line lines) (option_map keyed) ∙ length-map lines entry_in_store_line
    ∙ sym (store_definitions_per_line (key_number_names_in d.keys) d.of_lines.listed lines kept.definitions_right)

-- the definitions with other numbers are still those of the lines
pub store_definitions_renumbered : (lines : List DeckLine) (d new : Definitions) (r : Renumbering)
    → HoldsStoreDefinitions lines d
    → IsKeyRenumbering lines r
    → ((said : List (Option (Key × Entry))) → AreStoreDefinitionsOf d said
    → AreKeyNumbersOfLines (key_number_names_after r) r.of_lines.items said
    → AreStoreDefinitionsOf new said) → key_number_names_in new.keys ≡ key_number_names_after r
    → HoldsStoreDefinitions lines new
store_definitions_renumbered lines d new r kept are put names = record {
  definitions_right = put (map entry_in_store_line lines) kept.definitions_right are.definition_numbers;
  unique = subst AreKeyNumbersOneToOne (sym names) are.unique;
}
