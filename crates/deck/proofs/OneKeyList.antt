-- A table has exactly one list of its keys in order.
use Rattle.std.proofs.Common.{◌≡◌, ◌∷◌, [], ◌&&◌, ◌||◌, ℕ, List, Bool, true, false, T, cond, map, is_some, Option, Some}
use Rattle.std.proofs.Common.{refl, sym, ap, subst, ◌∙◌, inl, inr}
use Rattle.std.proofs.lemmas.Bool.{and_parts, cases_Bool, false_from_ne_true, true≢false}
use Rattle.std.proofs.lemmas.Map.Lookups.{btree_set_from_contains}
use Rattle.std.specs.Cmp.{Equal-is, tied_itself}
use Rattle.std.specs.FinMap as map_of
use Rattle.std.specs.FinMap.Entries.{below_all}
use Rattle.std.specs.List.{AllByRecursion, filter, list_any}
use Rattle.std.specs.List.Sorted.{IsStrictlySortedBy}
use Rattle.std.specs.Ordering.{eq_by_cmp, is_eq, is_lt}
use Rattle.std.specs.declared.cmp.Ordering.TheVariants.{Less, Equal}
use Rattle.std.proofs.lemmas.List.Kept.{IsStrictlySortedBy-filter}
use Rattle.def_entry.specs.declared.key.Key.{Key}
use Rattle.def_entry.specs.declared.key.Kind.{Kind}
use Rattle.def_entry.specs.Entries.{Entry}
use Rattle.def_entry.specs.KeyOrder.{key_cmp}
use Rattle.def_entry.specs.SameKeys.{is_entry_key_among, is_same_entry_key}
use Rattle.def_entry.proofs.SameKeys.{key_order, same_entry_keys}
use Rattle.deck.specs.Changes.{AreDeckKeysOnce}
use Rattle.deck.specs.SubstringKeys.{deck_keys_holding_text, has_substring}
use Rattle.deck.specs.KeyLists.{AreDeckTableKeys, DeckKeyListLaw, DeckTableKeysLaw, deck_key_count, deck_table_keys}
use Rattle.deck.specs.LastPlaces.{deck_key_tally}
use Rattle.deck.specs.Tables.{EntryTable, is_entry_present, keys_of_entries}
use Rattle.deck.proofs.KeyTallies.{key_among_deck_table_keys}
use Rattle.deck.proofs.KeyCounts.{listed_deck_keys_are_counted}
use Rattle.deck.proofs.DistinctKeys.{deck_key_among_filter}
use Rattle.deck.proofs.TextPlaces.{empty_text_is_substring}
use Rattle.general_lemmas.proofs.Orders.{less_is}

-- a proof of `T b` shows that `b` is true
true_by_proof : (b : Bool) → T b → b ≡ true
true_by_proof true h = refl
true_by_proof false h = absurd h

-- a key that is below all entries is less than the key of each
lower_deck_key_is_less :
    (k : Key) (es : List (Key × Entry)) → below_all key_cmp k es ≡ true
    → AllByRecursion (λ y. key_cmp k y ≡ Less) (map (λ (e : Key × Entry). e.0) es)
lower_deck_key_is_less k [] below = tt
lower_deck_key_is_less k (e ∷ es) below =
    let parts = and_parts (is_lt (key_cmp k e.0)) (below_all key_cmp k es) below in
    (less_is (key_cmp k e.0) parts.0, lower_deck_key_is_less k es parts.1)

-- the keys of sorted entries are sorted
deck_keys_of_sorted_entries :
    (es : List (Key × Entry)) → map_of.is_sorted key_cmp es ≡ true
    → IsStrictlySortedBy key_cmp (map (λ (e : Key × Entry). e.0) es)
unfolding IsStrictlySortedBy
deck_keys_of_sorted_entries [] order = tt
deck_keys_of_sorted_entries (e ∷ es) order =
    let parts = and_parts (below_all key_cmp e.0 es) (map_of.is_sorted key_cmp es) order in
    (lower_deck_key_is_less e.0 es parts.0, deck_keys_of_sorted_entries es parts.1)

-- the finite map of a table
abbrev map_of_table : EntryTable → map_of.FinMap key_cmp Entry
map_of_table table = map_of.from_entries table

-- the keys of a table are strictly sorted
deck_table_keys_are_sorted : (table : EntryTable) → IsStrictlySortedBy key_cmp (deck_table_keys table)
deck_table_keys_are_sorted table =
    let m = map_of_table table in
    deck_keys_of_sorted_entries (map_of.entries m)
    (true_by_proof (map_of.is_sorted key_cmp (map_of.entries m)) (map_of.entries_sorted m))

-- comparing keys by `key_cmp` and by `is_same_entry_key` gives the same result
deck_key_cmp_agrees : (k l : Key) → eq_by_cmp key_cmp k l ≡ is_same_entry_key k l
deck_key_cmp_agrees k l = elim (cases_Bool (is_same_entry_key k l)) [
  | inl e ↦ ap is_eq (subst (λ (x : Key). key_cmp k x ≡ Equal) ((same_entry_keys k l).0 e)
      (tied_itself key_order.total_order k))
      ∙ sym e
  | inr e ↦ false_from_ne_true (eq_by_cmp key_cmp k l) (λ t. true≢false (sym ((same_entry_keys k l).1 (exact t)) ∙ e))
      ∙ sym e
]
  where
    exact : eq_by_cmp key_cmp k l ≡ true → k ≡ l
    exact t = key_order.equal_keys k l ((Equal-is (key_cmp k l)).0 t)

-- finding a key in a list by `key_cmp` and by `is_same_entry_key` gives the same result
deck_key_found_by_cmp : (k : Key) (ks : List Key) → list_any (eq_by_cmp key_cmp k) ks ≡ is_entry_key_among ks k
deck_key_found_by_cmp k ks = ap (λ (t : Key → Bool). list_any t ks) (λ i l. deck_key_cmp_agrees k l i)

-- after one more entry is added, an entry is found if its key is the requested one or if an entry was found before
deck_entry_found_with_one_more : (a b : Bool) → a ≡ b → (v : Entry) (o : Option Entry)
    → is_some (cond a (Some v) o) ≡ (b || is_some o)
deck_entry_found_with_one_more true b same v o = ap (λ c. c || is_some o) same
deck_entry_found_with_one_more false b same v o = ap (λ c. c || is_some o) same

-- a key is in the finite map exactly if it is among the keys of the table
deck_map_contains_key : (table : EntryTable) (k : Key) → map_of.contains_key (map_of_table table) k ≡ is_entry_key_among
    (keys_of_entries table) k
deck_map_contains_key [] k = ap is_some (map_of.get-empty key_cmp k)
deck_map_contains_key (e ∷ es) k =
    ap is_some (map_of.get-insert key_order.total_order (map_of_table es) e.0 e.1 k)
    ∙ deck_entry_found_with_one_more (eq_by_cmp key_cmp k e.0) (is_same_entry_key k e.0) (deck_key_cmp_agrees k e.0) e.1
    (map_of.get (map_of_table es) k)
    ∙ ap (λ b. is_same_entry_key k e.0 || b) (deck_map_contains_key es k)

-- two strictly sorted lists with the same keys are equal
pub sorted_deck_keys_are_unique : (ks ls : List Key) → IsStrictlySortedBy key_cmp ks → IsStrictlySortedBy key_cmp ls
    → ((k : Key) → is_entry_key_among ks k ≡ is_entry_key_among ls k) → ks ≡ ls
sorted_deck_keys_are_unique ks ls order too same =
    btree_set_from_contains key_order.total_order (record { keys = ks }) (record { keys = ls }) order too
    (λ k. deck_key_found_by_cmp k ks ∙ same k ∙ sym (deck_key_found_by_cmp k ls)) key_order.equal_keys

-- the law of the keys of a table
pub deck_table_keys_law : DeckTableKeysLaw
deck_table_keys_law table = record { key_membership = each; sorted_keys = deck_table_keys_are_sorted table }
  where
    each : (k : Key) → is_entry_key_among (deck_table_keys table) k ≡ is_entry_present table k
    each k =
        sym (deck_key_found_by_cmp k (deck_table_keys table))
        ∙ (sym (map_of.contains_key-keys (map_of_table table) k)
        ∙ (deck_map_contains_key table k ∙ key_among_deck_table_keys table k))

-- the law that the list of keys is unique
pub deck_key_list_law : DeckKeyListLaw
deck_key_list_law table keys are =
    sorted_deck_keys_are_unique keys (deck_table_keys table) are.sorted_keys (deck_table_keys_are_sorted table)
    (λ k. are.key_membership k ∙ sym ((deck_table_keys_law table).key_membership k))

-- strictly sorted keys are those of `deck_keys_holding_text` if they are the present keys whose names contain the text
pub deck_keys_holding_are_found : (text : List ℕ) (table : EntryTable) (ks : List Key) → IsStrictlySortedBy key_cmp ks
    → ((k : Key) → is_entry_key_among ks k ≡ (is_entry_present table k && has_substring k.name text))
    → ks ≡ deck_keys_holding_text text table
deck_keys_holding_are_found text table ks order each =
    sorted_deck_keys_are_unique ks (deck_keys_holding_text text table) order
    (IsStrictlySortedBy-filter key_cmp (λ k. has_substring k.name text) (deck_table_keys table)
    (deck_table_keys_are_sorted table))
    (λ k. each k ∙ turned (is_entry_present table k) (has_substring k.name text)
    ∙ sym (deck_key_among_filter (λ j. has_substring j.name text) (deck_table_keys table) k
    ∙ ap (λ b. has_substring k.name text && b) ((deck_table_keys_law table).key_membership k)))
  where
    turned : (a b : Bool) → (a && b) ≡ (b && a)
    turned true true = refl
    turned true false = refl
    turned false true = refl
    turned false false = refl

-- a key that is less than all keys of a list is not in the list
lower_deck_key_is_absent : (k : Key) (ks : List Key) → AllByRecursion (λ y. key_cmp k y ≡ Less) ks
    → is_entry_key_among ks k ≡ false
lower_deck_key_is_absent k [] h = refl
lower_deck_key_is_absent k (y ∷ ks) h =
    ap (λ b. b || is_entry_key_among ks k) (sym (deck_key_cmp_agrees k y) ∙ ap is_eq h.0)
    ∙ lower_deck_key_is_absent k ks h.1

-- strictly sorted keys occur once each
sorted_deck_keys_are_once : (ks : List Key) → IsStrictlySortedBy key_cmp ks → AreDeckKeysOnce ks
unfolding IsStrictlySortedBy
sorted_deck_keys_are_once [] order = tt
sorted_deck_keys_are_once (k ∷ ks) order = (lower_deck_key_is_absent k ks order.0, sorted_deck_keys_are_once ks order.1)

-- counting each key where it occurs last gives the number of keys in `deck_table_keys`
pub deck_key_tally_is_count : (table : EntryTable) (kind : Kind) → deck_key_tally table kind ≡ deck_key_count table kind
deck_key_tally_is_count table kind =
    let are = deck_table_keys_law table in
    sym (listed_deck_keys_are_counted table (deck_table_keys table) are.key_membership
    (sorted_deck_keys_are_once (deck_table_keys table) are.sorted_keys) kind)

-- filtering by a test that all keys pass removes none
deck_keys_all_pass_filter : (p : Key → Bool) (ks : List Key) → ((k : Key) → p k ≡ true) → filter p ks ≡ ks
deck_keys_all_pass_filter p [] h = refl
deck_keys_all_pass_filter p (k ∷ ks) h = ap (λ b. cond b (k ∷ filter p ks) (filter p ks)) (h k)
    ∙ ap (λ t. k ∷ t) (deck_keys_all_pass_filter p ks h)

-- every name contains the empty text, so `deck_keys_holding_text []` are all keys of the table
pub deck_keys_hold_empty_text : (table : EntryTable) → deck_keys_holding_text [] table ≡ deck_table_keys table
deck_keys_hold_empty_text table = deck_keys_all_pass_filter (λ k. has_substring k.name []) (deck_table_keys table)
    (λ k. empty_text_is_substring k.name)
