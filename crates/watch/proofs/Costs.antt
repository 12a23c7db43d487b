-- The cost of queries of settled names.
use Rattle.std.proofs.Common.{◌≡◌, ◌∙◌, ◌+◌, ℕ, Bool, true, false, List, [], ◌∷◌, Contains, refl, sym, ap, subst, arith}
use Rattle.std.specs.List.{IsDistinct}
use Rattle.std.specs.Option.{is_none}
use Rattle.std.proofs.lemmas.List.Elements.{All-head, All-tail, All-weaker}
use Rattle.def_entry.specs.declared.key.Key.{Key}
use Rattle.def_entry.specs.Tables.{EntryTable}
use Rattle.table_names.specs.Faults.{key_fault, name_fault}
use Rattle.table_names.specs.Reach.{key_reach, reach}
use Rattle.live_table.specs.New.{AreNewlySettled}
use Rattle.live_table.specs.Right.{IsKeySettled, IsRightLiveState}
use Rattle.live_table.specs.States.{AsksKey, AsksWords, Becomes, CachedOutcomes, LiveEvent, LiveState}
use Rattle.live_table.specs.States.{live_state_after_event, live_state_after_query, with_settled}
use Rattle.live_table.proofs.New.{newly_settled_law}
use Rattle.watch.specs.Costs.{WatchAsksSettled, WatchCostLaw, WatchLeavesTableUnchanged}

module _ (s : LiveState) (right : IsRightLiveState s) where
  none_new : (keys : List Key) → ((n : Key) → Contains keys n → IsKeySettled s n) → AreNewlySettled s keys []
  unfolding IsDistinct
  none_new keys h = record {
    unsettled_names = λ n. ((λ i. let no : ⊥ = omega (arith, i.1) in absurd no), λ p. absurd (p.1 (h n p.0)));
    names_distinct = tt;
  }

  settled : (keys : List Key) → ((n : Key) → Contains keys n → IsKeySettled s n)
      → WatchLeavesTableUnchanged s (with_settled keys s)
  settled keys h =
      let e = newly_settled_law s keys [] right (none_new keys h) in
      let z : s.steps + 0 ≡ s.steps = omega arith in
      record {
        table = refl;
        same_cache = ap (λ (t : LiveState). t.kept_outcomes) e;
        steps = ap (λ (t : LiveState). t.steps) e ∙ z;
      }

  asked : (closed : Bool) (keys : List Key) → ((n : Key) → Contains keys n → IsKeySettled s n)
      → WatchLeavesTableUnchanged s (live_state_after_query closed keys s)
  asked true keys h = settled keys h
  asked false keys h = record { table = refl; same_cache = refl; steps = refl }

  stays_once : (e : LiveEvent) → WatchAsksSettled s e → WatchLeavesTableUnchanged s (live_state_after_event e s)
  stays_once (AsksWords words) h = asked (is_none (name_fault s.table words)) (reach s.table words) h
  stays_once (AsksKey k) h = asked (is_none (key_fault s.table k)) (k ∷ key_reach s.table k) h
  stays_once (Becomes later) h = absurd h

-- a state with these parts
abbrev state_of : EntryTable → CachedOutcomes → (reductions steps : ℕ) → LiveState
state_of table kept reductions steps =
    record { table = table; kept_outcomes = kept; reductions = reductions; steps = steps }

-- a state stays right whatever its counts are
watch_state_right_at_any_count : (table : EntryTable) (kept : CachedOutcomes) (r n q m : ℕ)
    → IsRightLiveState (state_of table kept r n)
    → IsRightLiveState (state_of table kept q m)
watch_state_right_at_any_count table kept r n q m h =
    record {
      settled_have_entries = h.settled_have_entries;
      settled_closed = h.settled_closed;
      reached_settled =
          h.reached_settled;
      outcomes_right = h.outcomes_right;
    }

watch_asks_settled_at_any_count : (table : EntryTable) (kept : CachedOutcomes) (r n q m : ℕ) (e : LiveEvent)
    → WatchAsksSettled (state_of table kept r n) e
    → WatchAsksSettled (state_of table kept q m) e
watch_asks_settled_at_any_count table kept r n q m (AsksWords words) h = h
watch_asks_settled_at_any_count table kept r n q m (AsksKey k) h = h
watch_asks_settled_at_any_count table kept r n q m (Becomes later) h = h

module _ (s t : LiveState) (stays : WatchLeavesTableUnchanged s t) where
  right_stays : IsRightLiveState s → IsRightLiveState t
  right_stays h =
      subst (λ (x : EntryTable). IsRightLiveState (state_of x t.kept_outcomes t.reductions t.steps)) (sym stays.table)
      (subst (λ (x : CachedOutcomes). IsRightLiveState (state_of s.table x t.reductions t.steps)) (sym stays.same_cache)
      (watch_state_right_at_any_count s.table s.kept_outcomes s.reductions s.steps t.reductions t.steps h))

  asks_stays : (e : LiveEvent) → WatchAsksSettled s e → WatchAsksSettled t e
  asks_stays e h =
      subst (λ (x : EntryTable). WatchAsksSettled (state_of x t.kept_outcomes t.reductions t.steps) e) (sym stays.table)
      (subst (λ (x : CachedOutcomes). WatchAsksSettled (state_of s.table x t.reductions t.steps) e)
      (sym stays.same_cache)
      (watch_asks_settled_at_any_count s.table s.kept_outcomes s.reductions s.steps t.reductions t.steps e h))

pub cost_law : WatchCostLaw
cost_law [] s right h = record { table = refl; same_cache = refl; steps = refl }
cost_law (e ∷ es) s right h =
    let a = stays_once s right e (All-head (WatchAsksSettled s) e es h) in
    let b = cost_law es (live_state_after_event e s) (right_stays s (live_state_after_event e s) a right)
    (All-weaker (WatchAsksSettled s) (WatchAsksSettled (live_state_after_event e s))
    (asks_stays s (live_state_after_event e s) a) es
    (All-tail (WatchAsksSettled s) e es h)) in
    record { table = b.table ∙ a.table; same_cache = b.same_cache ∙ a.same_cache; steps = b.steps ∙ a.steps }
