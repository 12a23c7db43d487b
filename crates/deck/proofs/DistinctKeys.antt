-- Keys in lists, and lists in which each key occurs once.
use Rattle.std.proofs.Common.{◌≡◌, ◌++◌, ◌∷◌, ◌&&◌, ◌||◌, [], List, Bool, true, false, cond, refl, sym, ap, ◌∙◌}
use Rattle.std.proofs.Common.{append_assoc}
use Rattle.std.specs.List.{filter}
use Rattle.std.proofs.Math.Bool.{and-false}
use Rattle.def_entry.specs.declared.key.Key.{Key}
use Rattle.def_entry.specs.SameKeys.{is_entry_key_among, is_same_entry_key}
use Rattle.def_entry.proofs.SameKeys.{same_entry_keys}
use Rattle.deck.specs.Changes.{AreDeckKeysOnce, each_deck_key_once}

-- a key is in two concatenated lists exactly if it is in one of them
pub deck_key_among-append : (ks ls : List Key) (k : Key)
    → is_entry_key_among (ks ++ ls) k ≡ (is_entry_key_among ks k || is_entry_key_among ls k)
deck_key_among-append [] ls k = refl
deck_key_among-append (x ∷ ks) ls k = ap (λ b. is_same_entry_key k x || b) (deck_key_among-append ks ls k)
    ∙ or_assoc (is_same_entry_key k x) (is_entry_key_among ks k) (is_entry_key_among ls k)
  where
    or_assoc : (a b c : Bool) → (a || (b || c)) ≡ ((a || b) || c)
    or_assoc true b c = refl
    or_assoc false b c = refl

-- a key is in a filtered list exactly if it passes the test and is in the list
pub deck_key_among_filter : (p : Key → Bool) (ks : List Key) (k : Key)
    → is_entry_key_among (filter p ks) k ≡ (p k && is_entry_key_among ks k)
deck_key_among_filter p [] k = sym (and-false (p k))
deck_key_among_filter p (x ∷ ks) k = by (deck_key_among_filter p ks k) (p x) refl (is_same_entry_key k x) refl
  where
    by : is_entry_key_among (filter p ks) k ≡ (p k && is_entry_key_among ks k) → (b : Bool) → p x ≡ b → (s : Bool)
        → is_same_entry_key k x ≡ s
        → is_entry_key_among (cond b (x ∷ filter p ks) (filter p ks)) k ≡ (p k && (s || is_entry_key_among ks k))
    by ih true h true e = ap (λ s. s || is_entry_key_among (filter p ks) k) e
        ∙ sym (ap (λ b. b && true) (ap p ((same_entry_keys k x).0 e) ∙ h))
    by ih true h false e = ap (λ s. s || is_entry_key_among (filter p ks) k) e ∙ ih
    by ih false h true e = ih ∙ ap (λ b. b && is_entry_key_among ks k) (ap p ((same_entry_keys k x).0 e) ∙ h)
        ∙ sym (ap (λ b. b && true) (ap p ((same_entry_keys k x).0 e) ∙ h))
    by ih false h false e = ih

-- filtering preserves that keys occur once
pub deck_keys_once_filter : (p : Key → Bool) (ks : List Key) → AreDeckKeysOnce ks → AreDeckKeysOnce (filter p ks)
deck_keys_once_filter p [] h = tt
deck_keys_once_filter p (x ∷ ks) h = by (p x) (deck_keys_once_filter p ks h.1)
  where
    by : (b : Bool) → AreDeckKeysOnce (filter p ks) → AreDeckKeysOnce (cond b (x ∷ filter p ks) (filter p ks))
    by true ih = (deck_key_among_filter p ks x ∙ ap (λ b. p x && b) h.0 ∙ and-false (p x), ih)
    by false ih = ih

-- if two lists share no key, and keys occur once in each, they do so in the concatenation
pub deck_keys_once-append : (ks ls : List Key) → AreDeckKeysOnce ks → AreDeckKeysOnce ls
    → ((k : Key) → is_entry_key_among ks k ≡ true → is_entry_key_among ls k ≡ false) → AreDeckKeysOnce (ks ++ ls)
deck_keys_once-append [] ls h g apart = g
deck_keys_once-append (x ∷ ks) ls h g apart = (
  deck_key_among-append ks ls x ∙ ap (λ b. b || is_entry_key_among ls x) h.0
      ∙ apart x (ap (λ b. b || is_entry_key_among ks x) ((same_entry_keys x x).1 refl)),
  deck_keys_once-append ks ls h.1 g (λ k e. apart k (later (is_same_entry_key k x) (is_entry_key_among ks k) e)),
)
  where
    later : (a b : Bool) → b ≡ true → (a || b) ≡ true
    later true b e = refl
    later false b e = e

-- `each_deck_key_once` keeps the keys of a list
pub deck_key_among_each_once : (ks : List Key) (k : Key)
    → is_entry_key_among (each_deck_key_once ks) k ≡ is_entry_key_among ks k
deck_key_among_each_once [] k = refl
deck_key_among_each_once (x ∷ ks) k = by (deck_key_among_each_once ks k) (is_entry_key_among ks x) refl
  where
    absorbed : (b : Bool) → is_same_entry_key k x ≡ b → is_entry_key_among ks x ≡ true
        → is_entry_key_among ks k ≡ (b || is_entry_key_among ks k)
    absorbed true e h = ap (is_entry_key_among ks) ((same_entry_keys k x).0 e) ∙ h
    absorbed false e h = refl

    by : is_entry_key_among (each_deck_key_once ks) k ≡ is_entry_key_among ks k → (b : Bool)
        → is_entry_key_among ks x ≡ b
        → is_entry_key_among (cond b (each_deck_key_once ks) (x ∷ each_deck_key_once ks))
        k ≡ (is_same_entry_key k x || is_entry_key_among ks k)
    by ih true h = ih ∙ absorbed (is_same_entry_key k x) refl h
    by ih false h = ap (λ b. is_same_entry_key k x || b) ih

-- in the result of `each_deck_key_once` each key occurs once
pub each_deck_key_is_once : (ks : List Key) → AreDeckKeysOnce (each_deck_key_once ks)
each_deck_key_is_once [] = tt
each_deck_key_is_once (x ∷ ks) = by (is_entry_key_among ks x) refl (each_deck_key_is_once ks)
  where
    by : (b : Bool) → is_entry_key_among ks x ≡ b → AreDeckKeysOnce (each_deck_key_once ks)
        → AreDeckKeysOnce (cond b (each_deck_key_once ks) (x ∷ each_deck_key_once ks))
    by true h ih = ih
    by false h ih = (deck_key_among_each_once ks x ∙ h, ih)

-- concatenation of four lists is associative
pub four_lists : {A : Type 0} (a b c d : List A) → ((a ++ b) ++ c) ++ d ≡ a ++ (b ++ (c ++ d))
four_lists a b c d = append_assoc (a ++ b) c d ∙ append_assoc a b (c ++ d)
