-- The stored outcomes of numbers, by their keys.
use Rattle.std.proofs.Common.{◌≡◌, ◌<◌, ℕ, zero, suc, Bool, true, false, cond, List, [], ◌∷◌, map, set, length}
use Rattle.std.proofs.Common.{Option, Some, None, is_some, refl, sym, ◌∙◌, ap, arith}
use Rattle.std.specs.FinMap as map_of
use Rattle.std.specs.List.{slice_get}
use Rattle.std.specs.Ordering.{eq_by_cmp}
use Rattle.std.proofs.lemmas.List.{length-map}
use Rattle.std.proofs.lemmas.Option.{same_Some, slice_get_within}
use Rattle.def_entry.specs.declared.key.Key.{Key}
use Rattle.def_entry.specs.KeyOrder.{key_cmp}
use Rattle.def_entry.proofs.SameKeys.{key_order}
use Rattle.deck.specs.Decks.{DeckContents}
use Rattle.deck.specs.Tables.{table_of_deck}
use Rattle.name_walk.specs.ClosedNames.{IsSettledInGraph}
use Rattle.tree_eval.specs.declared.outcome.Outcome.{Outcome}
use Rattle.table_names.specs.Meanings.{outcome}
use Rattle.live_table.specs.Right as right_of
use Rattle.live_table.specs.TableView.{IsRightLiveView, live_state_with_steps}
use Rattle.live_table.specs.Sound.{AreSoundNodes}
use Rattle.live_table.specs.States.{CachedOutcomes}
use Rattle.live_table.specs.TableContents.{NodeLists, cached_outcomes_of, live_view_of_nodes, node_key_at}
use Rattle.live_table.specs.TableContents.{with_optional_cached_outcome}
use Rattle.live_table.proofs.Outcomes.{equal_cached_keys_tie, tied_cached_keys_are_equal}

-- keys of different numbers differ
abbrev pub AreApart : List Key → Type 0
AreApart ks = (n m : ℕ) → n < length ks → m < length ks → node_key_at ks n ≡ node_key_at ks m → n ≡ m

-- keys that differ still do without the first
pub node_keys_apart_without_first : (k : Key) (ks : List Key) → AreApart (k ∷ ks) → AreApart ks
node_keys_apart_without_first k ks a n m h j e = let q : suc n ≡ suc m = a (suc n) (suc m) (omega arith)
    (omega arith) e in omega arith

-- the first key is none of the others
pub first_node_key_is_apart : (k : Key) (ks : List Key) → AreApart (k ∷ ks) → (n : ℕ) → n < length ks
    → k ≡ node_key_at ks n → ⊥
first_node_key_is_apart k ks a n h e = let z : 0 ≡ suc n = a 0 (suc n) (omega arith) (omega arith) e in omega arith

-- ---- more outcomes
cached_outcome_choices_swap : (a b : Bool) (x y z : Option Outcome) → (a ≡ true → b ≡ true → ⊥)
    → cond a x (cond b y z) ≡ cond b y (cond a x z)
cached_outcome_choices_swap true true x y z h = absurd (h refl refl)
cached_outcome_choices_swap true false x y z h = refl
cached_outcome_choices_swap false b x y z h = refl

-- the outcome of a key in a map with one more outcome
inserted_cached_outcome_is_read : (m : CachedOutcomes) (k : Key) (x : Outcome) (q : Key)
    → map_of.get (map_of.insert m k x) q ≡ cond (eq_by_cmp
    key_cmp q k) (Some x) (map_of.get m q)
inserted_cached_outcome_is_read m k x q = map_of.get-insert key_order.total_order m k x q

-- the outcomes of two keys may be inserted in either order
cached_inserts_swap : (m : CachedOutcomes) (k l : Key) (x y : Outcome) → (k ≡ l → ⊥)
    → map_of.insert (map_of.insert m l y) k x ≡ map_of.insert (map_of.insert m k x) l y
cached_inserts_swap m k l x y ne = map_of.same_map key_order.total_order key_order.equal_keys _ _ (λ q.
    inserted_cached_outcome_is_read (map_of.insert m l y) k x q
    ∙ (ap (cond (eq_by_cmp key_cmp q k) (Some x)) (inserted_cached_outcome_is_read m l y q)
    ∙ (cached_outcome_choices_swap (eq_by_cmp key_cmp q k) (eq_by_cmp key_cmp q l) (Some x) (Some y) (map_of.get m q)
    (λ a b. ne (sym (tied_cached_keys_are_equal q k a) ∙ tied_cached_keys_are_equal q l b))
    ∙ sym (inserted_cached_outcome_is_read (map_of.insert m k x) l y q ∙ ap (cond (eq_by_cmp key_cmp q l) (Some y))
    (inserted_cached_outcome_is_read m k x q)))))

-- an optional outcome and another may be inserted in either order
optional_cached_inserts_swap : (m : CachedOutcomes) (k l : Key) (x : Option Outcome) (y : Outcome) → (k ≡ l → ⊥)
    → with_optional_cached_outcome k x (map_of.insert m l y) ≡ map_of.insert (with_optional_cached_outcome k x m) l y
optional_cached_inserts_swap m k l None y ne = refl
optional_cached_inserts_swap m k l (Some x) y ne = cached_inserts_swap m k l x y ne

-- to set the outcome of a number is to insert that of its key
pub settled_number_inserts_outcome : (ks : List Key) (os : List (Option Outcome)) (n : ℕ) (o : Outcome) → AreApart ks
    → n < length ks
    → slice_get os n ≡ Some None
    → cached_outcomes_of ks (set os n (Some o)) ≡ map_of.insert (cached_outcomes_of ks os) (node_key_at ks n) o
settled_number_inserts_outcome [] os n o a h e = absurd (omega arith)
settled_number_inserts_outcome (k ∷ ks) [] n o a h e = cc
settled_number_inserts_outcome (k ∷ ks) (x ∷ os) zero o a h e =
    ap (λ (y : Option Outcome). map_of.insert (with_optional_cached_outcome k y (cached_outcomes_of ks os)) k o)
    (sym (same_Some x None e))
settled_number_inserts_outcome (k ∷ ks) (x ∷ os) (suc n) o a h e =
    ap (with_optional_cached_outcome k x)
    (settled_number_inserts_outcome ks os n o (node_keys_apart_without_first k ks a) (omega arith) e)
    ∙ optional_cached_inserts_swap (cached_outcomes_of ks os) k (node_key_at ks n) x o
    (first_node_key_is_apart k ks a n (omega arith))

-- ---- the outcome of a number is the one that is stored for its key
pub cached_insert_keeps_other_keys : (m : CachedOutcomes) (k q : Key) (x : Option Outcome) → (q ≡ k → ⊥)
    → map_of.get (with_optional_cached_outcome k x m) q ≡ map_of.get m q
cached_insert_keeps_other_keys m k q None ne = refl
cached_insert_keeps_other_keys m k q (Some x) ne = inserted_cached_outcome_is_read m k x q
    ∙ by (eq_by_cmp key_cmp q k) refl
  where
    by : (b : Bool) → eq_by_cmp key_cmp q k ≡ b → cond b (Some x) (map_of.get m q) ≡ map_of.get m q
    by true e = absurd (ne (tied_cached_keys_are_equal q k e))
    by false e = refl

-- the inserted outcome of a key is there afterwards
pub cached_insert_is_read_back : (m : CachedOutcomes) (k : Key) (x : Option Outcome) → map_of.get m k ≡ None
    → map_of.get (with_optional_cached_outcome k x m) k ≡ x
cached_insert_is_read_back m k None e = e
cached_insert_is_read_back m k (Some x) e = inserted_cached_outcome_is_read m k x k
    ∙ ap (λ b. cond b (Some x) (map_of.get m k)) (equal_cached_keys_tie k k refl)

-- a key without a number has no outcome
pub key_without_node_is_not_cached : (ks : List Key) (os : List (Option Outcome)) (q : Key)
    → ((n : ℕ) → n < length ks → q ≡ node_key_at ks n → ⊥)
    → map_of.get (cached_outcomes_of ks os) q ≡ None
key_without_node_is_not_cached [] os q h = map_of.get-empty key_cmp q
key_without_node_is_not_cached (k ∷ ks) [] q h = map_of.get-empty key_cmp q
key_without_node_is_not_cached (k ∷ ks) (x ∷ os) q h =
    cached_insert_keeps_other_keys (cached_outcomes_of ks os) k q x (h 0 (omega arith))
    ∙ key_without_node_is_not_cached ks os q (λ n l. h (suc n) (omega arith))

-- the outcome at a number is the one that is stored for its key
pub cached_outcome_at_number : (ks : List Key) (os : List (Option Outcome)) (n : ℕ) → AreApart ks → n < length ks
    → length os ≡ length ks
    → slice_get os n ≡ Some (map_of.get (cached_outcomes_of ks os) (node_key_at ks n))
cached_outcome_at_number [] os n a h e = absurd (omega arith)
cached_outcome_at_number (k ∷ ks) [] n a h e = absurd (omega arith)
cached_outcome_at_number (k ∷ ks) (x ∷ os) zero a h e =
    ap Some (sym (cached_insert_is_read_back (cached_outcomes_of ks os) k x
    (key_without_node_is_not_cached ks os k (λ n l. first_node_key_is_apart k ks a n l))))
cached_outcome_at_number (k ∷ ks) (x ∷ os) (suc n) a h e =
    cached_outcome_at_number ks os n (node_keys_apart_without_first k ks a) (omega arith) (omega arith)
    ∙ ap Some (sym (cached_insert_keeps_other_keys (cached_outcomes_of ks os) k (node_key_at ks n) x
    (λ q. first_node_key_is_apart k ks a n (omega arith) (sym q))))

-- a mark says whether there is an outcome
pub settled_mark_tells_outcome : (os : List (Option Outcome)) (n : ℕ) (o : Option Outcome) → slice_get os n ≡ Some o
    → slice_get (map is_some os) n ≡ Some (is_some o)
settled_mark_tells_outcome [] n o e = cc
settled_mark_tells_outcome (x ∷ os) zero o e = ap (λ (y : Option Outcome). Some (is_some y)) (same_Some x o e)
settled_mark_tells_outcome (x ∷ os) (suc n) o e = settled_mark_tells_outcome os n o e

-- if the mark of a number is not set, it has no outcome
pub unsettled_number_has_no_outcome : (os : List (Option Outcome)) (n : ℕ) → slice_get (map is_some os) n ≡ Some false
    → slice_get os n ≡ Some None
unsettled_number_has_no_outcome [] n e = cc
unsettled_number_has_no_outcome (None ∷ os) zero e = refl
unsettled_number_has_no_outcome (Some o ∷ os) zero e = cc
unsettled_number_has_no_outcome (x ∷ os) (suc n) e = unsettled_number_has_no_outcome os n e

module _ (deck : DeckContents) (l : NodeLists) (r : ℕ) (nodes : AreSoundNodes (table_of_deck deck) l) where
  abbrev kept : CachedOutcomes
  kept = cached_outcomes_of l.keys l.outcomes

  kept_is : (n : ℕ) → n < length l.keys → slice_get l.outcomes n ≡ Some (map_of.get kept (node_key_at l.keys n))
  kept_is n h = cached_outcome_at_number l.keys l.outcomes n nodes.numbers_apart h nodes.outcome_count

  -- the mark of a number says whether its key is settled
  mark_is : (n : ℕ) → n < length l.keys → slice_get l.settled_flags n ≡ Some
      (is_some (map_of.get kept (node_key_at l.keys n)))
  mark_is n h = ap (λ (bs : List Bool). slice_get bs n) nodes.marks_right ∙ settled_mark_tells_outcome l.outcomes n _
      (kept_is n h)

  pub settled_count : length l.settled_flags ≡ length l.keys
  settled_count = ap length nodes.marks_right ∙ (length-map l.outcomes is_some ∙ nodes.outcome_count)

  pub settled_within : (n : ℕ) → IsSettledInGraph l.settled_flags n → n < length l.keys
  settled_within n e =
      let a : n < length l.settled_flags = slice_get_within l.settled_flags n true e in
      let b : length l.settled_flags ≡ length l.keys = settled_count in omega arith

  pub key_settled : (n : ℕ) → IsSettledInGraph l.settled_flags n
      → right_of.IsKeySettled (live_state_with_steps (live_view_of_nodes deck l r) 0)
      (node_key_at l.keys n)
  key_settled n e = same_Some _ true (sym (mark_is n (settled_within n e)) ∙ e)

  pub number_settled : (n : ℕ) → n < length l.keys
      → right_of.IsKeySettled (live_state_with_steps (live_view_of_nodes deck l r) 0)
      (node_key_at l.keys n)
      → IsSettledInGraph l.settled_flags n
  number_settled n h e = mark_is n h ∙ ap Some e

  -- a settled number has an outcome, which is that of its key
  pub right_outcome : IsRightLiveView (live_view_of_nodes deck l r) → (n : ℕ) → IsSettledInGraph l.settled_flags n
      → slice_get l.outcomes n ≡ Some (Some (outcome (table_of_deck deck) (node_key_at l.keys n)))
  right_outcome right n e = kept_is n (settled_within n e) ∙ ap Some (by (map_of.get kept (node_key_at l.keys n)) refl)
    where
      by : (o : Option Outcome) → map_of.get kept (node_key_at l.keys n) ≡ o
          → o ≡ Some (outcome (table_of_deck deck) (node_key_at l.keys n))
      by None q = let z : false ≡ true = sym (ap is_some q) ∙ key_settled n e in cc
      by (Some o) q = ap Some (right.outcomes_right (node_key_at l.keys n) o q)
