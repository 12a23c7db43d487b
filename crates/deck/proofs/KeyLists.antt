-- The list of all keys.
use Rattle.std.proofs.Common.{◌≡◌, ◌++◌, ◌∷◌, ◌&&◌, [], ℕ, zero, suc, List, Bool, true, false, true≢false, refl, sym}
use Rattle.std.proofs.Common.{ap, subst, ◌∙◌, arith, Some, option_map}
use Rattle.std.proofs.lemmas.List.Sorted.{list_any-IsPermutation, ranks_by, sorted_far}
use Rattle.std.proofs.lemmas.Map.Keys.{IsDistinct-IsPermutation}
use Rattle.std.specs.List.{All, AllByRecursion, AllPairs, IsDistinct, filter}
use Rattle.std.specs.List.Sorted.{IsPermutation, IsSorted, IsStrictlySortedBy}
use Rattle.std.specs.Option.{is_some, option_and_then}
use Rattle.std.specs.Ordering.{is_lt, ordering_reverse}
use Rattle.std.specs.declared.cmp.Ordering.{Ordering}
use Rattle.std.specs.declared.cmp.Ordering.TheVariants.{Less, Equal, Greater}
use Rattle.def_entry.specs.declared.key.Key.{Key}
use Rattle.def_entry.specs.declared.key.Kind.TheVariants as kind
use Rattle.def_entry.specs.KeyOrder.{KeyOrderLaw, key_cmp}
use Rattle.def_entry.specs.SameKeys.{is_entry_key_among, is_same_entry_key}
use Rattle.def_entry.proofs.SameKeys.{same_entry_keys}
use Rattle.deck_lines.specs.Names.{is_key_numbered, key_numbered}
use Rattle.deck_lines.specs.KeyNumbering.{IsKeyNumbering}
use Rattle.deck_lines.specs.Stores.{LineStoreView}
use Rattle.deck_lines.specs.declared.key_number.KeyNumber.{KeyNumber}
use Rattle.deck.specs.Changes.{AreDeckKeysOnce}
use Rattle.deck.specs.SubstringKeys.{has_substring, is_deck_key_holding_text, is_deck_number_holding_text}
use Rattle.deck.specs.LastPlaces.{AreLastDefinitionPlaces}
use Rattle.deck.specs.Numbers.{AreDefinitionsInPlace, deck_keys_where}
use Rattle.deck.specs.Tables.{DeckDefinitions, definition_place_of, is_entry_present, table_of_deck_definitions}
use Rattle.deck.specs.declared.places.last_places.LastPlaces.{LastPlaces}
use Rattle.deck.proofs.ChangedKeys.{not_defined}
use Rattle.deck.proofs.KeyCounts.{deck_keys_once_are_distinct, is_same_deck_key_sym}
use Rattle.deck.proofs.DistinctKeys.{deck_key_among_filter, deck_keys_once_filter}
use Rattle.deck.proofs.NumberedKeys.{all_filter, all_keys, deck_key_among_all, once_all}
use Rattle.deck.proofs.PlacedDefinitions.{definition_place_if_present}

module _ (law : KeyOrderLaw) where
  -- if a key is not above a different key, it is below it
  below : (y z : Key) → is_lt (key_cmp z y) ≡ false → is_same_entry_key y z ≡ false → key_cmp y z ≡ Less
  below y z up apart = law.total_order.antisymm y z ∙ by (key_cmp z y) refl up
    where
      by : (o : Ordering) → key_cmp z y ≡ o → is_lt o ≡ false → ordering_reverse o ≡ Less
      by Less e h = absurd (true≢false h)
      by Equal e h = absurd
          (true≢false (sym (ap (is_same_entry_key y) (law.equal_keys z y e) ∙ (same_entry_keys y y).1 refl) ∙ apart))
      by Greater e h = refl

  all_below : (y : Key) (zs : List Key) → All (λ z. is_lt (key_cmp z y) ≡ false) zs
      → AllByRecursion (λ z. is_same_entry_key y z ≡ false) zs → AllByRecursion (λ z. key_cmp y z ≡ Less) zs
  all_below y [] up apart = tt
  all_below y (z ∷ zs) up apart =
      (below y z (up zero z (omega arith)) apart.0, all_below y zs (λ j e inside. up (suc j) e (omega arith)) apart.1)

  strict : (ys : List Key) → AllPairs (λ a b. is_lt (key_cmp b a) ≡ false) ys → IsDistinct is_same_entry_key ys
      → IsStrictlySortedBy key_cmp ys
  unfolding IsStrictlySortedBy IsDistinct
  strict [] up apart = tt
  strict (y ∷ ys) up apart = (
    all_below y ys (λ j e inside. up zero (suc j) e (omega arith) (omega arith)) apart.0,
    strict ys (λ i j e before inside. up (suc i) (suc j) e (omega arith) (omega arith)) apart.1,
  )

  -- sorted distinct keys are strictly sorted
  pub in_strict_order : (ys : List Key) → IsSorted key_cmp ys → IsDistinct is_same_entry_key ys
      → IsStrictlySortedBy key_cmp ys
  in_strict_order ys sorted =
      strict ys (λ i j e before inside. sorted_far _ (ranks_by law.total_order (λ k. k)) ys sorted i j e
      (omega arith) inside)

-- the keys that have a number and a last place, in order
module _ (store : LineStoreView) (numbering : IsKeyNumbering store) (ds : DeckDefinitions)
    (placed : AreDefinitionsInPlace store.lines ds)
    (last : LastPlaces) (are_last : AreLastDefinitionPlaces store.names ds last) where
  -- a number is found exactly if its key has an entry and the name of the key contains the text
  by_number : (text : List ℕ) (n : KeyNumber) (k : Key) → key_numbered store.names n ≡ Some k
      → is_deck_number_holding_text store.names last text
      n ≡ (is_entry_present (table_of_deck_definitions ds) k && has_substring k.name text)
  by_number text n k e =
      ap (λ b. b && is_deck_key_holding_text text (key_numbered store.names n))
      (ap is_some (are_last.place n ∙ ap (option_and_then (definition_place_of ds)) e)
      ∙ definition_place_if_present ds k)
      ∙ ap (λ o. is_entry_present (table_of_deck_definitions ds) k && is_deck_key_holding_text text o) e

  -- each key that has an entry has a number
  present_numbered : (k : Key)
      → (is_entry_present (table_of_deck_definitions ds) k && is_entry_key_among (all_keys store.names) k)
      ≡ is_entry_present (table_of_deck_definitions ds) k
  present_numbered k = by (is_entry_present (table_of_deck_definitions ds) k) refl (is_key_numbered store.names k) refl
    where
      by : (p : Bool) → is_entry_present (table_of_deck_definitions ds) k ≡ p → (n : Bool)
          → is_key_numbered store.names k ≡ n
          → (is_entry_present (table_of_deck_definitions ds) k && is_entry_key_among (all_keys store.names) k)
          ≡ is_entry_present (table_of_deck_definitions ds) k
      by true e true h = ap (λ b. is_entry_present (table_of_deck_definitions ds) k && b)
          (deck_key_among_all store.names k ∙ h) ∙ ap (λ b. b && true) e
          ∙ sym e
      by true e false h =
          absurd (true≢false (sym e ∙ sym (definition_place_if_present ds k)
          ∙ ap (λ o. is_some (option_map (λ p. p.0) o)) (not_defined store numbering ds placed k h)))
      by false e n h = ap (λ b. b && is_entry_key_among (all_keys store.names) k) e ∙ sym e

  -- the found keys are strictly sorted, and they are those that have an entry and whose names contain the text
  pub keys_found : KeyOrderLaw → (text : List ℕ) (found sorted : List Key) →
      found ≡ deck_keys_where (is_deck_number_holding_text store.names last text) kind.Unit 0 store.names.units
      ++ (deck_keys_where (is_deck_number_holding_text store.names last text) kind.Prefix 0 store.names.prefixes
      ++ (deck_keys_where (is_deck_number_holding_text store.names last text) kind.Func 0 store.names.functions
      ++ deck_keys_where (is_deck_number_holding_text store.names last text) kind.List 0 store.names.lists)) →
      IsPermutation found sorted → IsSorted key_cmp sorted → IsStrictlySortedBy key_cmp sorted
      × ((k : Key) → is_entry_key_among sorted
      k ≡ (is_entry_present (table_of_deck_definitions ds) k && has_substring k.name text))
  keys_found law text found sorted e moved up = (in_strict_order law sorted up apart, each)
    where
      own : Key → Bool
      own k = is_entry_present (table_of_deck_definitions ds) k && has_substring k.name text

      is : found ≡ filter own (all_keys store.names)
      is = e ∙ all_filter store.names (is_deck_number_holding_text store.names last text) own (by_number text)

      apart : IsDistinct is_same_entry_key sorted
      apart =
          IsDistinct-IsPermutation is_same_entry_key is_same_deck_key_sym found sorted moved
          (deck_keys_once_are_distinct found (subst AreDeckKeysOnce (sym is)
          (deck_keys_once_filter own (all_keys store.names) (once_all store.names numbering.unique))))

      both : (p h a : Bool) → (p && a) ≡ p → ((p && h) && a) ≡ (p && h)
      both true true a g = g
      both true false a g = refl
      both false h a g = refl

      each : (k : Key) → is_entry_key_among sorted k ≡ own k
      each k =
          sym (list_any-IsPermutation (is_same_entry_key k) found sorted moved) ∙ ap (λ ks. is_entry_key_among ks k) is
          ∙ deck_key_among_filter own (all_keys store.names) k
          ∙ both (is_entry_present (table_of_deck_definitions ds) k) (has_substring k.name text)
          (is_entry_key_among (all_keys store.names) k)
          (present_numbered k)
