-- The number of keys in a table.
use Rattle.std.proofs.Common.{◌≡◌, ◌∷◌, ◌+◌, ◌||◌, [], ℕ, suc, Bool, true, false, cond, length, refl, ap, ◌∙◌, arith}
use Rattle.std.proofs.Common.{Some}
use Rattle.std.specs.Option.{is_some}
use Rattle.def_entry.specs.declared.key.Key.{Key}
use Rattle.def_entry.specs.declared.key.Kind.{Kind}
use Rattle.def_entry.specs.Entries.{Entry}
use Rattle.def_entry.specs.SameKeys.{is_entry_key_among, is_same_entry_key, is_same_key_kind}
use Rattle.deck.specs.Changes.{each_deck_key_once}
use Rattle.deck.specs.KeyLists.{deck_keys_of_kind}
use Rattle.deck.specs.LastPlaces.{deck_key_tally}
use Rattle.deck.specs.Tables.{EntryTable, entry_at, is_entry_present, keys_of_entries}

-- a key is among the keys of a table exactly if it has an entry there
pub key_among_deck_table_keys : (t : EntryTable) (k : Key) → is_entry_key_among (keys_of_entries t) k ≡ is_entry_present
    t k
key_among_deck_table_keys [] k = refl
key_among_deck_table_keys (e ∷ t) k = by (is_same_entry_key k e.0) (key_among_deck_table_keys t k)
  where
    by : (b : Bool) → is_entry_key_among (keys_of_entries t) k ≡ is_entry_present t k
        → (b || is_entry_key_among (keys_of_entries t) k) ≡ is_some (cond b (Some e.1) (entry_at t k))
    by true ih = refl
    by false ih = ih

-- an entry added in front increases the count of its kind exactly if its key had no entry
pub deck_key_tally_push : (t : EntryTable) (k : Key) (e : Entry) (kind : Kind) → deck_key_tally ((k, e) ∷ t) kind ≡
    cond (is_same_key_kind kind k.kind)
    (cond (is_entry_present t k) (deck_key_tally t kind) (deck_key_tally t kind + 1)) (deck_key_tally t kind)
deck_key_tally_push t k e kind =
    ap (λ b. length (deck_keys_of_kind kind
    (cond b (each_deck_key_once (keys_of_entries t)) (k ∷ each_deck_key_once (keys_of_entries t)))))
    (key_among_deck_table_keys t k)
    ∙ by (is_entry_present t k) (is_same_key_kind kind k.kind) refl
  where
    more : (n : ℕ) → suc n ≡ n + 1
    more n = omega arith

    front : (s : Bool)
        → length (cond s (k ∷ deck_keys_of_kind kind (each_deck_key_once (keys_of_entries t)))
        (deck_keys_of_kind kind (each_deck_key_once (keys_of_entries t))))
        ≡ cond s (deck_key_tally t kind + 1) (deck_key_tally t kind)
    front true = more (deck_key_tally t kind)
    front false = refl

    same : (s : Bool) → deck_key_tally t kind ≡ cond s (deck_key_tally t kind) (deck_key_tally t kind)
    same true = refl
    same false = refl

    by : (b s : Bool) → is_same_key_kind kind k.kind ≡ s
        → length (deck_keys_of_kind kind
        (cond b (each_deck_key_once (keys_of_entries t)) (k ∷ each_deck_key_once (keys_of_entries t)))) ≡
        cond s (cond b (deck_key_tally t kind) (deck_key_tally t kind + 1)) (deck_key_tally t kind)
    by true s h = same s
    by false s h = ap
        (λ c. length (cond c (k ∷ deck_keys_of_kind kind (each_deck_key_once (keys_of_entries t)))
        (deck_keys_of_kind kind (each_deck_key_once (keys_of_entries t))))) h
        ∙ front s
