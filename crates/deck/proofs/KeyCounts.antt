-- Two lists with the same keys, each once, have the same length.
use Rattle.std.proofs.Common.{◌≡◌, ◌∷◌, ◌&&◌, ◌||◌, [], suc, List, Bool, true, false, true≢false, not, cond, length}
use Rattle.std.proofs.Common.{refl, sym, ap, ◌∙◌}
use Rattle.std.specs.Cmp.{both_ways}
use Rattle.std.specs.List.{AllByRecursion, IsDistinct, filter}
use Rattle.def_entry.specs.declared.key.Key.{Key}
use Rattle.def_entry.specs.declared.key.Kind.{Kind}
use Rattle.def_entry.specs.SameKeys.{is_entry_key_among, is_same_entry_key, is_same_key_kind}
use Rattle.def_entry.proofs.SameKeys.{same_entry_keys}
use Rattle.deck.specs.Changes.{AreDeckKeysOnce, each_deck_key_once}
use Rattle.deck.specs.KeyLists.{deck_keys_of_kind}
use Rattle.deck.specs.LastPlaces.{deck_key_tally}
use Rattle.deck.specs.Tables.{EntryTable, is_entry_present, keys_of_entries}
use Rattle.deck.proofs.KeyTallies.{key_among_deck_table_keys}
use Rattle.deck.proofs.DistinctKeys.{deck_key_among_each_once, deck_key_among_filter, deck_keys_once_filter}
use Rattle.deck.proofs.DistinctKeys.{each_deck_key_is_once}

-- the comparison of two keys is symmetric
pub is_same_deck_key_sym : (x y : Key) → is_same_entry_key x y ≡ is_same_entry_key y x
is_same_deck_key_sym x y = both_ways (is_same_entry_key x y) (is_same_entry_key y x) (turned x y) (turned y x)
  where
    turned : (a b : Key) → is_same_entry_key a b ≡ true → is_same_entry_key b a ≡ true
    turned a b e = ap (is_same_entry_key b) ((same_entry_keys a b).0 e) ∙ (same_entry_keys b b).1 refl

-- a key that is not among others differs from each of them
absent_deck_key_differs : (k : Key) (ks : List Key) → is_entry_key_among ks k ≡ false
    → AllByRecursion (λ y. is_same_entry_key k y ≡ false) ks
absent_deck_key_differs k [] h = tt
absent_deck_key_differs k (x ∷ ks) h = by (absent_deck_key_differs k ks) (is_same_entry_key k x) refl h
  where
    by : (is_entry_key_among ks k ≡ false → AllByRecursion (λ y. is_same_entry_key k y ≡ false) ks) → (b : Bool)
        → is_same_entry_key k x ≡ b
        → (b || is_entry_key_among ks k) ≡ false → AllByRecursion (λ y. is_same_entry_key k y ≡ false) (x ∷ ks)
    by ih true e g = absurd (true≢false g)
    by ih false e g = (e, ih g)

-- keys that occur once each are distinct
pub deck_keys_once_are_distinct : (ks : List Key) → AreDeckKeysOnce ks → IsDistinct is_same_entry_key ks
unfolding IsDistinct
deck_keys_once_are_distinct [] h = tt
deck_keys_once_are_distinct (k ∷ ks) h = (absent_deck_key_differs k ks h.0, deck_keys_once_are_distinct ks h.1)

-- the keys other than a given one
abbrev others : Key → List Key → List Key
others x ks = filter (λ k. not (is_same_entry_key x k)) ks

-- if the given key is absent, the others are all of the keys
other_deck_keys_are_all : (x : Key) (ks : List Key) → is_entry_key_among ks x ≡ false → others x ks ≡ ks
other_deck_keys_are_all x [] h = refl
other_deck_keys_are_all x (k ∷ ks) h = by (other_deck_keys_are_all x ks) (is_same_entry_key x k) refl h
  where
    by : (is_entry_key_among ks x ≡ false → others x ks ≡ ks) → (b : Bool) → is_same_entry_key x k ≡ b
        → (b || is_entry_key_among ks x) ≡ false
        → cond (not (is_same_entry_key x k)) (k ∷ others x ks) (others x ks) ≡ k ∷ ks
    by ih true e g = absurd (true≢false g)
    by ih false e g = ap (λ b. cond (not b) (k ∷ others x ks) (others x ks)) e ∙ ap (λ t. k ∷ t) (ih g)

-- if the given key is present, there is one key more than the others
other_deck_keys_are_one_less : (x : Key) (ks : List Key) → AreDeckKeysOnce ks → is_entry_key_among ks x ≡ true
    → length ks ≡ suc (length (others x ks))
other_deck_keys_are_one_less x [] once h = absurd (true≢false (sym h))
other_deck_keys_are_one_less x (k ∷ ks) once h = by (other_deck_keys_are_one_less x ks once.1) (is_same_entry_key x k)
    refl h
  where
    by : (is_entry_key_among ks x ≡ true → length ks ≡ suc (length (others x ks))) → (b : Bool)
        → is_same_entry_key x k ≡ b
        → (b || is_entry_key_among ks x) ≡ true
        → suc (length ks) ≡ suc (length (cond (not (is_same_entry_key x k)) (k ∷ others x ks) (others x ks)))
    by ih true e g =
        ap (λ t. suc (length t))
        (sym (other_deck_keys_are_all x ks (ap (is_entry_key_among ks) ((same_entry_keys x k).0 e) ∙ once.0)))
        ∙ sym (ap (λ b. suc (length (cond (not b) (k ∷ others x ks) (others x ks)))) e)
    by ih false e g = ap suc (ih g) ∙ sym (ap (λ b. suc (length (cond (not b) (k ∷ others x ks) (others x ks)))) e)

-- two lists with the same keys, each once, have the same length
same_deck_keys_have_same_count : (xs ys : List Key) → AreDeckKeysOnce xs → AreDeckKeysOnce ys
    → ((k : Key) → is_entry_key_among xs k ≡ is_entry_key_among ys k)
    → length xs ≡ length ys
same_deck_keys_have_same_count [] [] h g e = refl
same_deck_keys_have_same_count [] (y ∷ ys) h g e =
    absurd (true≢false (sym (e y ∙ ap (λ b. b || is_entry_key_among ys y) ((same_entry_keys y y).1 refl))))
same_deck_keys_have_same_count (x ∷ xs) ys h g e =
    ap suc (same_deck_keys_have_same_count xs (others x ys) h.1
    (deck_keys_once_filter (λ k. not (is_same_entry_key x k)) ys g) rest)
    ∙ sym (other_deck_keys_are_one_less x ys g
    (sym (e x) ∙ ap (λ b. b || is_entry_key_among xs x) ((same_entry_keys x x).1 refl)))
  where
    rest : (k : Key) → is_entry_key_among xs k ≡ is_entry_key_among (others x ys) k
    rest k = by (is_same_entry_key x k) refl ∙ sym (deck_key_among_filter (λ k. not (is_same_entry_key x k)) ys k)
      where
        by : (b : Bool) → is_same_entry_key x k ≡ b
            → is_entry_key_among xs k ≡ (not (is_same_entry_key x k) && is_entry_key_among ys k)
        by true s = ap (is_entry_key_among xs) (sym ((same_entry_keys x k).0 s)) ∙ h.0
            ∙ sym (ap (λ b. not b && is_entry_key_among ys k) s)
        by false s =
            sym (ap (λ b. b || is_entry_key_among xs k) (is_same_deck_key_sym k x ∙ s)) ∙ e k
            ∙ sym (ap (λ b. not b && is_entry_key_among ys k) s)

-- a list with all keys of a table, each once, has as many keys of each kind as the table
pub listed_deck_keys_are_counted : (t : EntryTable) (keys : List Key)
    → ((k : Key) → is_entry_key_among keys k ≡ is_entry_present t k) → AreDeckKeysOnce keys
    → (kind : Kind) → length (deck_keys_of_kind kind keys) ≡ deck_key_tally t kind
listed_deck_keys_are_counted t keys each once kind =
    same_deck_keys_have_same_count (deck_keys_of_kind kind keys)
    (deck_keys_of_kind kind (each_deck_key_once (keys_of_entries t))) (deck_keys_once_filter own keys once)
    (deck_keys_once_filter own (each_deck_key_once (keys_of_entries t)) (each_deck_key_is_once (keys_of_entries t)))
    (λ k. deck_key_among_filter own keys k
    ∙ ap (λ b. own k && b)
    (each k ∙ sym (deck_key_among_each_once (keys_of_entries t) k ∙ key_among_deck_table_keys t k))
    ∙ sym (deck_key_among_filter own (each_deck_key_once (keys_of_entries t)) k))
  where
    own : Key → Bool
    own key = is_same_key_kind kind key.kind

-- tables with the same keys have as many keys of each kind
pub same_deck_keys_have_same_tally : (t u : EntryTable) → ((k : Key) → is_entry_present t k ≡ is_entry_present u k)
    → (kind : Kind)
    → deck_key_tally t kind ≡ deck_key_tally u kind
same_deck_keys_have_same_tally t u same kind =
    listed_deck_keys_are_counted u (each_deck_key_once (keys_of_entries t))
    (λ k. deck_key_among_each_once (keys_of_entries t) k ∙ key_among_deck_table_keys t k ∙ same k)
    (each_deck_key_is_once (keys_of_entries t)) kind
