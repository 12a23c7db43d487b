-- Words and keys from which every descent ends.
use Rattle.std.proofs.Common.{◌≡◌, ◌≢◌, ℕ, zero, suc, false, List, [], ◌∷◌, ◌++◌, Contains, None}
use Rattle.expr_tree.specs.declared.word_list.WordUse.{WordUse}
use Rattle.expr_tree.specs.Names.{is_refused}
use Rattle.def_entry.specs.declared.key.Key.{Key}
use Rattle.def_entry.specs.SameKeys.{is_entry_key_among}
use Rattle.def_entry.specs.Tables.{EntryTable}
use Rattle.name_walk.specs.Lists.{first_some}
use Rattle.table_names.specs.ClosedKeys.{TableWordLeadsInto}
use Rattle.table_names.specs.Faults.{key_fault_within, target_fault, targets_fault, word_fault}
use Rattle.table_names.specs.Leads.{TableNameReaches, TableWordsLeadTo, TableWordsReach, at_once, further}
use Rattle.table_names.specs.Leads.{table_word_targets}
use Rattle.table_names.specs.Words.{table_words_of_key}
use Rattle.table_names.proofs.Members.{first_none}
use Rattle.general_lemmas.proofs.Options.{not_chosen}

module _ (table : EntryTable) where
  -- every descent from the key ends within this many keys
  abbrev pub EndsWithin : ℕ → Key → Type 0
  EndsWithin zero n = ⊥
  EndsWithin (suc k) n = (u : WordUse) → Contains (table_words_of_key table n) u
      → TableWordLeadsInto table (EndsWithin k) u

  -- every descent from the words ends within this many keys
  abbrev pub AreEnding : ℕ → List WordUse → Type 0
  AreEnding k words = (u : WordUse) → Contains words u → TableWordLeadsInto table (EndsWithin k) u

  pub into_others :
      (P Q : Key → Type 0) (u : WordUse) → ((n : Key) → Contains (table_word_targets table u) n → P n → Q n)
      → TableWordLeadsInto table P u → TableWordLeadsInto table Q u
  into_others P Q u f h =
      record { not_refused = h.not_refused; has_targets = h.has_targets; into = λ n t. f n t (h.into n t) }

  pub ends_more : (k : ℕ) (n : Key) → EndsWithin k n → EndsWithin (suc k) n
  ends_more zero n h = absurd h
  ends_more (suc k) n h = λ u i. into_others (EndsWithin k) (EndsWithin (suc k)) u (λ m t. ends_more k m) (h u i)

  pub ends_below : (k : ℕ) (words : List WordUse) (n : Key) → AreEnding k words → TableWordsLeadTo table words n
      → EndsWithin k n
  ends_below k words n h l = (h l.0 l.1).into n l.2

  pub ends_reached : {words : List WordUse} {m : Key} → TableWordsReach table words m → (k : ℕ) → AreEnding k words
      → EndsWithin k m
  ends_reached (at_once l) k h = ends_below k _ _ h l
  ends_reached (further l r) zero h = absurd (ends_below 0 _ _ h l)
  ends_reached (further l r) (suc k) h = ends_more k _ (ends_reached r k (ends_below (suc k) _ _ h l))

  -- a key from which every descent ends does not reach itself
  pub no_loop : (k : ℕ) (n : Key) → EndsWithin k n → TableNameReaches table n n → ⊥
  no_loop zero n h r = h
  no_loop (suc k) n h r = no_loop k n (ends_reached r k h) r

  -- if no fault is met, every descent ends
  word_ends :
      (k : ℕ) (path : List Key)
      → ((longer : List Key) (n : Key) → key_fault_within table k longer n ≡ None → EndsWithin k n)
      → (u : WordUse) → word_fault table (key_fault_within table k) path u ≡ None
      → TableWordLeadsInto table (EndsWithin k) u
  word_ends k path deeper u e =
      record {
        not_refused = h.0;
        has_targets = known (table_word_targets table u) h.1;
        into =
            into (table_word_targets table u) h.1;
      }
    where
      h : (is_refused u.text ≡ false)
          × (targets_fault table (key_fault_within table k) path u (table_word_targets table u) ≡ None)
      h = not_chosen (is_refused u.text) _ _ e

      known : (ns : List Key) → targets_fault table (key_fault_within table k) path u ns ≡ None → ns ≢ []
      known [] q = cc
      known (n ∷ ns) q = λ r. cc

      into : (ns : List Key) → targets_fault table (key_fault_within table k) path u ns ≡ None → (n : Key)
          → Contains ns n
          → EndsWithin k n
      into [] q = cc
      into (m ∷ ms) q = λ n i.
          deeper (path ++ n ∷ []) n
          (not_chosen (is_entry_key_among path n) _ _
          (first_none (target_fault table (key_fault_within table k) path) (m ∷ ms) q n i)).1

  key_ends : (k : ℕ) (path : List Key) (n : Key) → key_fault_within table k path n ≡ None → EndsWithin k n
  key_ends zero path n e = cc
  key_ends (suc k) path n e = λ u i.
      word_ends k path (key_ends k) u
      (first_none (word_fault table (key_fault_within table k) path) (table_words_of_key table n) e u i)

  pub words_end :
      (k : ℕ) (path : List Key) (words : List WordUse)
      → first_some (word_fault table (key_fault_within table k) path) words ≡ None → AreEnding k words
  words_end k path words e u i =
      word_ends k path (key_ends k) u (first_none (word_fault table (key_fault_within table k) path) words e u i)
