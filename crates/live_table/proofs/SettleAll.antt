-- The names of a walk are settled in its order.
use Rattle.std.proofs.Common.{◌≡◌, ◌+◌, ◌-◌, ◌^◌, ◌≤◌, min, ℕ, zero, suc, List, [], ◌∷◌, ◌++◌, map, take, drop}
use Rattle.std.proofs.Common.{length, Some, refl, sym, ◌∙◌, ap, subst, arith, length-append}
use Rattle.std.specs.FinMap as map_of
use Rattle.std.specs.List.{slice_get}
use Rattle.def_entry.specs.declared.key.Key.{Key}
use Rattle.def_entry.specs.Tables.{EntryTable}
use Rattle.deck.specs.Decks.{DeckContents}
use Rattle.deck.specs.Tables.{table_of_deck}
use Rattle.tree_eval.specs.declared.outcome.Outcome.{Outcome}
use Rattle.table_names.specs.Meanings.{outcome}
use Rattle.live_table.specs.declared.callee.Callee.{Callee}
use Rattle.live_table.specs.QueryEffects.{live_view_with_settled}
use Rattle.live_table.specs.Due.{AreDueToBeSettled, IsDueToBeSettled, nodes_with_settled_outcome}
use Rattle.live_table.specs.TableView.{LiveView}
use Rattle.live_table.specs.Sound.{IsSoundLiveTable}
use Rattle.live_table.specs.States.{CachedOutcomes, with_cached_outcomes}
use Rattle.live_table.specs.TableContents.{NodeLists, live_view_of_nodes, node_key_at}
use Rattle.general_lemmas.proofs.Places.{drop_at, take_at}

-- ---- outcomes inserted in turn
cached_outcomes_append : (t : EntryTable) (ks : List Key) (k : Key) (m : CachedOutcomes)
    → with_cached_outcomes t (k ∷ []) (with_cached_outcomes t ks m) ≡ with_cached_outcomes t (ks ++ k ∷ []) m
cached_outcomes_append t [] k m = refl
cached_outcomes_append t (x ∷ ks) k m = cached_outcomes_append t ks k (map_of.insert m x (outcome t x))

-- one more is counted, up to the maximum
settled_count_adds_one : (r n m : ℕ) → m ≡ n + 1 → min (2 ^ 64 - 1) (min (2 ^ 64 - 1) (r + n) + 1) ≡ min (2 ^ 64 - 1)
    (r + m)
settled_count_adds_one r n m e = omega (arith, e)

-- one more key is inserted after others
live_view_settles_one_more : (s : LiveView) (ks : List Key) (k : Key)
    → live_view_with_settled (live_view_with_settled s ks) (k ∷ []) ≡ live_view_with_settled s (ks ++ k ∷ [])
live_view_settles_one_more s ks k = λ i. record {
  deck = s.deck;
  kept_outcomes = cached_outcomes_append (table_of_deck s.deck) ks k s.kept_outcomes i;
  reductions = settled_count_adds_one s.reductions (length ks) (length (ks ++ k ∷ [])) (length-append ks (k ∷ [])) i;
}

-- inserting no key changes nothing
live_view_settles_none : (s : LiveView) → s.reductions ≤ 2 ^ 64 - 1 → live_view_with_settled s [] ≡ s
live_view_settles_none s h =
    let e : min (2 ^ 64 - 1) (s.reductions + 0) ≡ s.reductions = omega (arith, h) in
    λ i. record { deck = s.deck; kept_outcomes = s.kept_outcomes; reductions = e i }

-- an item of a mapped list is the image of the item at its place
get_map : {A B : Type 0} (f : A → B) (xs : List A) (i : ℕ) (x : A) → slice_get xs i ≡ Some x
    → slice_get (map f xs) i ≡ Some (f x)
get_map f [] i x e = cc
get_map f (y ∷ xs) zero x e = cc
get_map f (y ∷ xs) (suc i) x e = get_map f xs i x e

-- ---- the state of the loop
pub record IsStanding (deck : DeckContents) (old now : NodeLists) (r count : ℕ) (order : List ℕ)
    (i before after : ℕ) : Type
    0 where
  pub sound : IsSoundLiveTable deck now count
  pub keys : now.keys ≡ old.keys
  pub due : AreDueToBeSettled (table_of_deck deck) now (drop i order)
  pub put : live_view_of_nodes deck now count ≡ live_view_with_settled (live_view_of_nodes deck old r)
      (take i (map (node_key_at old.keys) order))
  pub steps : after ≡ before + i

-- at the start no name is settled
pub no_name_settled_at_start : (deck : DeckContents) (old : NodeLists) (r : ℕ) (order : List ℕ) (before : ℕ)
    → IsSoundLiveTable deck old r
    → AreDueToBeSettled (table_of_deck deck) old order
    → IsStanding deck old old r r order 0 before before
no_name_settled_at_start deck old r order before sound due = record {
  sound = sound;
  keys = refl;
  due = due;
  put = sym (live_view_settles_none (live_view_of_nodes deck old r) sound.few_reductions);
  steps = omega arith;
}

module _ (deck : DeckContents) (old now : NodeLists) (r count : ℕ) (order : List ℕ) (i before after : ℕ) (n : ℕ)
    (at : slice_get order i ≡ Some n)
    (s : IsStanding deck old now r count order i before after) where
  due_now : AreDueToBeSettled (table_of_deck deck) now (n ∷ drop (i + 1) order)
  due_now = subst (AreDueToBeSettled (table_of_deck deck) now) (drop_at order i n at) s.due

  pub is_due : IsDueToBeSettled (table_of_deck deck) now n
  is_due = due_now.0

  -- one more name is settled
  pub standing_next : (later : NodeLists) (counted then : ℕ) (o : Outcome) (c : Callee)
      → IsSoundLiveTable deck later counted
      → later ≡ nodes_with_settled_outcome n o c now
      → live_view_of_nodes deck later counted ≡ live_view_with_settled (live_view_of_nodes deck now count)
      (node_key_at now.keys n ∷ []) → then ≡ after + 1
      → IsStanding deck old later r counted order (i + 1) before then
  standing_next later counted then o c sound is put step = record {
    sound = sound;
    keys = ap (λ (l : NodeLists). l.keys) is ∙ s.keys;
    due = subst (λ (l : NodeLists). AreDueToBeSettled (table_of_deck deck) l (drop (i + 1) order)) (sym is)
        (due_now.1 o c);
    put =
        put ∙ (ap (λ (x : LiveView). live_view_with_settled x (node_key_at now.keys n ∷ [])) s.put
        ∙ (live_view_settles_one_more (live_view_of_nodes deck old r) (take i (map (node_key_at old.keys) order))
        (node_key_at now.keys n)
        ∙ ap (live_view_with_settled (live_view_of_nodes deck old r)) (sym all_more)));
    steps = let a : after ≡ before + i = s.steps in omega (arith, step, a);
  }
    where
      all_more : take (i + 1) (map (node_key_at old.keys) order)
          ≡ take i (map (node_key_at old.keys) order) ++ node_key_at now.keys n ∷ []
      all_more = take_at (map (node_key_at old.keys) order) i (node_key_at old.keys n)
          (get_map (node_key_at old.keys) order i n at)
          ∙ ap (λ (ks : List Key). take i (map (node_key_at old.keys) order) ++ node_key_at ks n ∷ []) (sym s.keys)
