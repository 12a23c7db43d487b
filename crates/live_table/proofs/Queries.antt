-- The postcondition of a query, from the result of its walk and the names that were settled.
use Rattle.std.proofs.Common.{◌≡◌, ◌⊎◌, ◌↔◌, ◌+◌, ◌-◌, ◌^◌, ◌<◌, ◌≤◌, ℕ, min, Bool, true, false, List, [], ◌∷◌, map}
use Rattle.std.proofs.Common.{length-take, take, length, Contains, Option, Some, None, is_none, is_some, option_map}
use Rattle.std.proofs.Common.{refl, sym, ◌∙◌, ap, subst, inl, inr, arith}
use Rattle.std.specs.Prelude.{Ok, Err}
use Rattle.std.specs.FinMap as map_of
use Rattle.std.proofs.lemmas.Bool.{false_from_ne_true, true≢false}
use Rattle.def_entry.specs.declared.key.Key.{Key}
use Rattle.def_entry.specs.Tables.{EntryTable}
use Rattle.name_walk.specs.declared.step.Step.{Step}
use Rattle.name_walk.specs.ClosedNames.{IsSettledInGraph}
use Rattle.name_walk.specs.Faults as walk
use Rattle.name_walk.specs.NewlyClosed.{AreNewlyClosedByWalk, IsReachedInGraph}
use Rattle.name_walk.proofs.DoneNames.{settled_graph_law_holds}
use Rattle.tree_eval.specs.declared.outcome.Outcome.{Outcome}
use Rattle.table_names.specs.declared.fault.NameFault.{NameFault}
use Rattle.table_names.specs.Meanings.{outcome}
use Rattle.deck.specs.Decks.{DeckContents}
use Rattle.deck.specs.Tables.{table_of_deck}
use Rattle.table_names.specs.NumberedNames.{fault_by_name}
use Rattle.table_names.specs.SettlingLaws.{AreNewNumberedKeys, AreNumberedNameMarks}
use Rattle.table_names.proofs.NewKeys.{key_of_numbered_name_is_member}
use Rattle.live_table.specs.declared.dead_end.DeadEnd.{DeadEnd}
use Rattle.live_table.specs.declared.fault.QueryFault.{QueryFault}
use Rattle.live_table.specs.declared.fault.QueryFault.TheVariants.{Name, Value, OutOfMemory}
use Rattle.live_table.specs.QueryEffects.{AreAllSettled, AreSomeSettled, AreUnsettledNamesClosed, IsLiveQueryAnswered}
use Rattle.live_table.specs.QueryEffects.{IsLiveQueryEffect, live_view_with_settled}
use Rattle.live_table.specs.ExploredNames.{AreExplored, explored_fault_at}
use Rattle.live_table.specs.New.{AreNewlySettled}
use Rattle.live_table.specs.Right.{IsRightLiveState}
use Rattle.live_table.specs.TableView.{AreLiveEventsCutOff, IsAfterLiveEvents, IsRightLiveView, LiveView}
use Rattle.live_table.specs.TableView.{live_state_with_steps}
use Rattle.live_table.specs.Sound.{AreSoundNodes, IsSoundLiveTable}
use Rattle.live_table.specs.States.{CachedOutcomes, LiveEvent, LiveState, live_state_after_all, live_state_after_event}
use Rattle.live_table.specs.States.{live_state_after_query}
use Rattle.live_table.specs.TableContents.{NodeLists, live_view_of_nodes, node_key_at}
use Rattle.live_table.proofs.OutcomesByKey.{key_settled, number_settled}
use Rattle.live_table.proofs.New.{newly_settled_law}
use Rattle.live_table.proofs.Outcomes as outcomes
use Rattle.live_table.proofs.SettleCounts.{settled_count_of_live_view}

-- outcomes that are right do not depend on the counts
right_live_view_ignores_counts : (s : LiveView) (old : ℕ) → IsRightLiveView s
    → IsRightLiveState (live_state_with_steps s old)
right_live_view_ignores_counts s old h = record {
  settled_have_entries = h.settled_have_entries;
  settled_closed =
      h.settled_closed;
  reached_settled = h.reached_settled;
  outcomes_right = h.outcomes_right;
}

-- ---- a count of names newly settled that does not exceed 2^64 - 1
settled_count_is_no_lower : (before some now : ℕ) → before ≤ 2 ^ 64 - 1 → now ≡ min (2 ^ 64 - 1) (before + some)
    → before ≤ now
settled_count_is_no_lower before some now can few = omega arith

settled_count_is_within_all : (before some all now : ℕ) → some ≤ all → now ≡ min (2 ^ 64 - 1) (before + some)
    → now ≤ min (2 ^ 64 - 1) (before + all)
settled_count_is_within_all before some all now within few = omega arith

-- ---- no query lowers the count of steps or changes the deck
live_query_never_lowers_steps : (b : Bool) (keys : List Key) (s : LiveState)
    → s.steps ≤ (live_state_after_query b keys s).steps
live_query_never_lowers_steps true keys s = omega arith
live_query_never_lowers_steps false keys s = omega arith

-- a query by its name fault and the names that it reaches
pub record IsQueryOf (event : LiveEvent) (t : EntryTable) (fault : Option NameFault) (reached : List Key) : Type 0 where
  pub after : (s : LiveState) → s.table ≡ t → live_state_after_event event s ≡ live_state_after_query
      (is_none fault) reached s

module _ (event : LiveEvent) (fault : Option NameFault) (reached : List Key) (before : LiveView) (old : ℕ)
    (right : IsRightLiveView before)
    (is : IsQueryOf event (table_of_deck before.deck) fault reached) where
  abbrev was : LiveState
  was = live_state_with_steps before old

  then : live_state_after_all (event ∷ []) was ≡ live_state_after_query (is_none fault) reached was
  then = is.after was refl

  pub cut_off : AreLiveEventsCutOff (event ∷ []) before before old old
  cut_off = record {
    deck = refl;
    is_right = right;
    steps_least = omega arith;
    steps_most = subst (λ (s : LiveState). old ≤ s.steps) (sym then)
        (live_query_never_lowers_steps (is_none fault) reached was);
    reductions_counted = λ can. (omega arith, (settled_count_of_live_view (event ∷ []) before old can).0);
  }

  pub fault_follows : (f : NameFault) → fault ≡ Some f → IsAfterLiveEvents (event ∷ []) before before old old
  fault_follows f e = record {
    state_after_events = sym (then ∙ ap (λ (o : Option NameFault). live_state_after_query (is_none o) reached was) e);
    is_right = right;
  }

  -- without a name fault the new names are settled
  module _ (none : fault ≡ None) (keys : List Key) (new : AreNewlySettled was reached keys) where
    settles : live_state_after_all (event ∷ []) was ≡ live_state_with_steps (live_view_with_settled before keys)
        (old + length keys)
    settles =
        then ∙ (ap (λ (o : Option NameFault). live_state_after_query (is_none o) reached was) none
        ∙ newly_settled_law was reached keys (right_live_view_ignores_counts before old right) new)

    pub all_follow : (now : LiveView) (then_steps : ℕ) → AreAllSettled keys before now old then_steps
        → IsRightLiveView now
        → IsAfterLiveEvents (event ∷ []) before now old then_steps
    all_follow now then_steps all right_now = record {
      state_after_events = (λ i. live_state_with_steps (all.table_after i) (all.steps i)) ∙ sym settles;
      is_right = right_now;
    }

    pub some_cut_off : (now : LiveView) (then_steps : ℕ) → AreSomeSettled keys before now old then_steps
        → IsRightLiveView now
        → AreLiveEventsCutOff (event ∷ []) before now old then_steps
    some_cut_off now then_steps some right_now = record {
      deck = ap (λ (s : LiveView). s.deck) some.table_after;
      is_right = right_now;
      steps_least = let a : old + some.count ≤ then_steps = some.steps_least in omega arith;
      steps_most =
          let a : then_steps ≤ old + length keys = some.steps_most in
          subst (λ (s : LiveState). then_steps ≤ s.steps) (sym settles) a;
      reductions_counted = λ can.
          let within : length (take some.count keys) ≤ length keys = omega (arith, length-take some.count keys) in
          let few : now.reductions ≡ min (2 ^ 64 - 1) (before.reductions + length (take some.count keys)) =
          ap (λ (s : LiveView). s.reductions) some.table_after in (
            settled_count_is_no_lower before.reductions (length (take some.count keys)) now.reductions can few,
            subst (λ (s : LiveState). now.reductions ≤ s.reductions) (sym settles)
                (settled_count_is_within_all before.reductions (length (take some.count keys))
                (length keys) now.reductions within
                few),
          );
    }

-- ---- the keys that are new by number are new by name
abbrev pub is_kept : CachedOutcomes → Key → Bool
is_kept kept k = is_some (map_of.get kept k)

-- the keys that a query newly settles
pub query_keys_are_newly_settled : (before : LiveView) (old : ℕ) (Asked : Key → Type 0) (reached keys : List Key)
    → ((n : Key) → Contains reached n ↔ Asked n)
    → AreNewNumberedKeys (is_kept before.kept_outcomes) Asked keys → AreNewlySettled (live_state_with_steps before old)
    reached keys
query_keys_are_newly_settled before old Asked reached keys same new = record {
  unsettled_names = λ n. (
    λ i. let h = (new.unsettled_keys n).0 i in ((same n).1 h.0, λ e. true≢false (sym e ∙ h.1)),
    λ h. (new.unsettled_keys n).1 ((same n).0 h.0, false_from_ne_true (is_kept before.kept_outcomes n) h.1),
  );
  names_distinct = new.keys_listed_once;
}

-- the marks are those of the stored names
pub settled_marks_are_cached_names : (deck : DeckContents) (l : NodeLists) (r : ℕ) (ends : List DeadEnd)
    (known : ℕ → Bool)
    → AreSoundNodes (table_of_deck deck) l → AreExplored (table_of_deck deck) l ends known
    → AreNumberedNameMarks (node_key_at l.keys) known l.settled_flags
    (is_kept (live_view_of_nodes deck l r).kept_outcomes)
settled_marks_are_cached_names deck l r ends known nodes explored n k = (
  λ e. key_settled deck l r nodes n e,
  λ e. number_settled deck l r nodes n (let a : n < length l.graph = explored.numbers_are.known_in_range n k in
      let b : length l.graph ≡ length l.keys = nodes.step_count in omega arith) e,
)

-- ---- from the result by number to that by name
module _ (event : LiveEvent) (fault : Option NameFault) (reached : List Key) (Asked : Key → Type 0)
    (deck : DeckContents)
    (l : NodeLists) (r : ℕ) (ends : List DeadEnd)
    (query : List Step) (sound : IsSoundLiveTable deck l r) (is : IsQueryOf event (table_of_deck deck) fault reached)
    (by_name : option_map (fault_by_name (table_of_deck deck) (node_key_at l.keys) (explored_fault_at ends))
    (walk.steps_fault_after_path l.graph [] query) ≡ fault)
    (same : fault ≡ None → (n : Key) → Contains reached n ↔ Asked n)
    (new : fault ≡ None → (order : List ℕ) → AreNewlyClosedByWalk l.graph l.settled_flags query order
    → AreNewNumberedKeys (is_kept (live_view_of_nodes deck l r).kept_outcomes) Asked (map (node_key_at l.keys) order))
  where
    abbrev start : LiveView
    start = live_view_of_nodes deck l r

    no_fault : walk.steps_fault_after_path l.graph [] query ≡ None → fault ≡ None
    no_fault e = sym by_name
        ∙ ap (option_map (fault_by_name (table_of_deck deck) (node_key_at l.keys) (explored_fault_at ends))) e

    new_names : (old : ℕ) (order : List ℕ) → AreUnsettledNamesClosed l query order
        → AreNewlySettled (live_state_with_steps start old) reached
        (map (node_key_at l.keys) order)
    new_names old order c = query_keys_are_newly_settled start old Asked reached (map (node_key_at l.keys) order)
        (same (no_fault c.query_has_no_fault))
        (new (no_fault c.query_has_no_fault) order c.closes)

    -- the same result with an additional part if there is no fault
    module _ {A : Type 0} (Given : A → Type 0) (now : LiveView) (old then : ℕ) (right_now : IsRightLiveView now) where
      pub asked_fault : (q : QueryFault) → IsLiveQueryAnswered (table_of_deck deck) l ends query (Err q) start now old
          then
          → IsLiveQueryEffect event fault Given (Err q) start now old then
      asked_fault (Name f) (faulty, still) = (
        some,
        subst (λ (p : LiveView × ℕ). IsAfterLiveEvents (event ∷ []) start p.0 old p.1)
            (λ i. (sym still.table_after i, sym still.steps i))
            (fault_follows event fault reached start old sound.is_right is f some),
      )
        where
          some : fault ≡ Some f
          some = sym by_name ∙ (ap
              (option_map (fault_by_name (table_of_deck deck) (node_key_at l.keys) (explored_fault_at ends)))
              faulty.is_fault
              ∙ ap Some (sym faulty.by_name))
      asked_fault (Value v) a = a
      asked_fault OutOfMemory (inl still) =
          subst (λ (p : LiveView × ℕ). AreLiveEventsCutOff (event ∷ []) start p.0 old p.1)
          (λ i. (sym still.table_after i, sym still.steps i))
          (cut_off event fault reached start old sound.is_right is)
      asked_fault OutOfMemory (inr (order, c, some)) =
          some_cut_off event fault reached start old sound.is_right is (no_fault c.query_has_no_fault)
          (map (node_key_at l.keys) order)
          (new_names old order c) now then some right_now

      pub asked_none : (x : A) (order : List ℕ) → AreUnsettledNamesClosed l query order
          → AreAllSettled (map (node_key_at l.keys) order) start now old then → Given x
          → IsLiveQueryEffect event fault Given (Ok x) start now old then
      asked_none x order c all given = (
        no_fault c.query_has_no_fault,
        given,
        all_follow event fault reached start old sound.is_right is (no_fault c.query_has_no_fault)
            (map (node_key_at l.keys) order)
            (new_names old order c) now then all right_now,
      )

-- the names that a query reaches are settled after it
pub reached_settled : (deck : DeckContents) (l now : NodeLists) (r count old then : ℕ) (query : List Step)
    (order : List ℕ)
    → IsSoundLiveTable deck l r → AreSoundNodes (table_of_deck deck) now
    → now.keys ≡ l.keys → AreNewlyClosedByWalk l.graph l.settled_flags query order
    → AreAllSettled (map (node_key_at l.keys) order) (live_view_of_nodes deck l r) (live_view_of_nodes deck now count)
    old then
    → (n : ℕ) → n < length l.keys → IsReachedInGraph l.graph query n → IsSettledInGraph now.settled_flags n
reached_settled deck l now r count old then query order sound nodes keys closing all n h reached =
    number_settled deck now count nodes n (let a : length now.keys ≡ length l.keys = ap length keys in
    omega arith) kept_now
  where
    place : Contains (map (node_key_at l.keys) order) (node_key_at l.keys n) ⊎
        (map_of.get (live_view_of_nodes deck l r).kept_outcomes (node_key_at l.keys n) ≡ Some
        (outcome (table_of_deck deck) (node_key_at l.keys n)))
    place = elim (settled_graph_law_holds.query_settled l.graph l.settled_flags query order closing n reached) [
      | inl e ↦ inr (some_of (map_of.get (live_view_of_nodes deck l r).kept_outcomes (node_key_at l.keys n))
          (key_settled deck l r sound.numbers n e) (sound.is_right.outcomes_right (node_key_at l.keys n)))
      | inr i ↦ inl (key_of_numbered_name_is_member (node_key_at l.keys) order n i)
    ]
      where
        some_of : (o : Option Outcome) → is_some o ≡ true
            → ((y : Outcome) → o ≡ Some y → y ≡ outcome (table_of_deck deck) (node_key_at l.keys n))
            → o ≡ Some (outcome (table_of_deck deck) (node_key_at l.keys n))
        some_of None e f = cc
        some_of (Some y) e f = ap Some (f y refl)

    kept_now : is_some (map_of.get (live_view_of_nodes deck now count).kept_outcomes (node_key_at now.keys n)) ≡ true
    kept_now =
        ap is_some ((λ i. map_of.get (all.table_after i).kept_outcomes (node_key_at (keys i) n))
        ∙ outcomes.put_in (table_of_deck deck) (map (node_key_at l.keys) order)
        (live_view_of_nodes deck l r).kept_outcomes
        (node_key_at l.keys n) place)
