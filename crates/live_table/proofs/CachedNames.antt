-- The cached names after events determine the computed state.
use Rattle.std.proofs.Common.{◌≡◌, ◌↔◌, ◌≤◌, ◌+◌, ◌-◌, ◌^◌, ℕ, min, Bool, true, false, List, [], ◌∷◌, Option, Some}
use Rattle.std.proofs.Common.{None, is_none, is_some, refl, sym, ◌∙◌, ap, subst, arith}
use Rattle.std.specs.FinMap as map_of
use Rattle.std.proofs.lemmas.Bool.{true≢false}
use Rattle.def_entry.specs.declared.key.Key.{Key}
use Rattle.def_entry.specs.Tables.{EntryTable}
use Rattle.def_entry.proofs.SameKeys.{key_order}
use Rattle.table_names.specs.Faults.{key_fault, name_fault}
use Rattle.table_names.specs.Meanings.{outcome}
use Rattle.table_names.specs.Reach.{key_reach, reach}
use Rattle.tree_eval.specs.declared.outcome.Outcome.{Outcome}
use Rattle.live_table.specs.CachedNames.{AreCachedBy, CachedNamesLaw, IsCachedBy, newly_cached}
use Rattle.live_table.specs.Right.{IsRightLiveState}
use Rattle.live_table.specs.States.{ArePossibleLiveEvents, AsksKey, AsksWords, Becomes, CachedOutcomes}
use Rattle.live_table.specs.States.{IsPossibleLiveEvent, LiveEvent, LiveState, live_state_after_all}
use Rattle.live_table.specs.States.{live_state_after_event, live_state_after_query}
use Rattle.live_table.proofs.Events.{event_keeps_live_state_right}
use Rattle.live_table.proofs.KeptNames.{live_event_yields_table, names_cached_after_event}
use Rattle.live_table.proofs.SettleCounts.{settled_count_never_falls}

-- two options that are both present or both absent, with at most this value, are equal
cached_options_are_equal : (x y : Option Outcome) (o : Outcome) → (is_some x ≡ true) ↔ (is_some y ≡ true)
    → ((p : Outcome) → x ≡ Some p → p ≡ o) → ((p : Outcome) → y ≡ Some p → p ≡ o) → x ≡ y
cached_options_are_equal None None o same f g = refl
cached_options_are_equal None (Some q) o same f g = absurd (true≢false (sym (same.1 refl)))
cached_options_are_equal (Some p) None o same f g = absurd (true≢false (sym (same.0 refl)))
cached_options_are_equal (Some p) (Some q) o same f g = ap Some (f p refl ∙ sym (g q refl))

-- ---- the counts after an event
-- the counts of reductions and steps grow by the number of names that an event adds to the cache
record AreCounted (event : LiveEvent) (s t : LiveState) : Type 0 where
  pub reductions : t.reductions ≡ min (2 ^ 64 - 1) (s.reductions + newly_cached event s.kept_outcomes t.kept_outcomes)
  pub steps : t.steps ≡ s.steps + newly_cached event s.kept_outcomes t.kept_outcomes

word_query_counts_cached_names : (event : LiveEvent) (b : Bool) (keys : List Key) (s : LiveState)
    → s.reductions ≤ 2 ^ 64 - 1
    → ((old new : CachedOutcomes) → newly_cached event old new ≡ map_of.len new - map_of.len old)
    → AreCounted event s (live_state_after_query b keys s)
word_query_counts_cached_names event true keys s few by_size =
    let n = by_size s.kept_outcomes (live_state_after_query true keys s).kept_outcomes in
    record {
      reductions = ap (λ (k : ℕ). min (2 ^ 64 - 1) (s.reductions + k)) (sym n);
      steps = ap (λ (k : ℕ). s.steps + k) (sym n);
    }
word_query_counts_cached_names event false keys s few by_size =
    let n = by_size s.kept_outcomes s.kept_outcomes in
    record { reductions = omega (arith, n, few); steps = omega (arith, n) }

event_counts_cached_names : (e : LiveEvent) (s : LiveState) → s.reductions ≤ 2 ^ 64 - 1
    → AreCounted e s (live_state_after_event e s)
event_counts_cached_names (AsksWords words) s few =
    word_query_counts_cached_names (AsksWords words) (is_none (name_fault s.table words)) (reach s.table words) s few
    (λ old new. refl)
event_counts_cached_names (AsksKey k) s few =
    word_query_counts_cached_names (AsksKey k) (is_none (key_fault s.table k)) (k ∷ key_reach s.table k) s few
    (λ old new. refl)
event_counts_cached_names (Becomes later) s few = record { reductions = omega (arith, few); steps = omega arith }

-- ---- one event
module _ (event : LiveEvent) (s : LiveState) (right : IsRightLiveState s) (can : IsPossibleLiveEvent event s)
    (few : s.reductions ≤ 2 ^ 64 - 1) where
  abbrev next : LiveState
  next = live_state_after_event event s

  -- the computed state is determined as stated
  next_cached : IsCachedBy event s next
  next_cached =
      let counted = event_counts_cached_names event s few in
      record {
        later_table = live_event_yields_table event s;
        names = names_cached_after_event event s can right;
        outcomes = (event_keeps_live_state_right event s can right).outcomes_right;
        reductions_counted = counted.reductions;
        steps_counted = counted.steps;
      }

  -- a state that is determined as stated is the computed one
  module _ (t : LiveState) (c : IsCachedBy event s t) where
    same_table : t.table ≡ next.table
    same_table = c.later_table ∙ sym next_cached.later_table

    same_at : (n : Key) → map_of.get t.kept_outcomes n ≡ map_of.get next.kept_outcomes n
    same_at n =
        cached_options_are_equal (map_of.get t.kept_outcomes n) (map_of.get next.kept_outcomes n) (outcome t.table n)
        (λ i. (next_cached.names n).1 ((c.names n).0 i), λ i. (c.names n).1 ((next_cached.names n).0 i))
        (c.outcomes n)
        (λ o e. next_cached.outcomes n o e
        ∙ ap (λ (table : EntryTable). outcome table n) (sym same_table))

    same_kept : t.kept_outcomes ≡ next.kept_outcomes
    same_kept = map_of.same_map key_order.total_order key_order.equal_keys _ _ same_at

    same_reductions : t.reductions ≡ next.reductions
    same_reductions =
        c.reductions_counted
        ∙ (ap (λ (k : CachedOutcomes). min (2 ^ 64 - 1) (s.reductions + newly_cached event s.kept_outcomes k)) same_kept
        ∙ sym next_cached.reductions_counted)

    same_steps : t.steps ≡ next.steps
    same_steps =
        c.steps_counted
        ∙ (ap (λ (k : CachedOutcomes). s.steps + newly_cached event s.kept_outcomes k) same_kept
        ∙ sym next_cached.steps_counted)

    same_state : t ≡ next
    same_state = λ i. record {
      table = same_table i;
      kept_outcomes = same_kept i;
      reductions = same_reductions i;
      steps = same_steps i;
    }

-- ---- events in turn
settled_count_after_event_is_few : (event : LiveEvent) (s : LiveState) → s.reductions ≤ 2 ^ 64 - 1
    → (live_state_after_event event s).reductions ≤ 2 ^ 64 - 1
settled_count_after_event_is_few event s few = (settled_count_never_falls (event ∷ []) s few).1

live_state_is_cached_by_events : (events : List LiveEvent) (s t : LiveState) → IsRightLiveState s
    → ArePossibleLiveEvents events s → s.reductions ≤ 2 ^ 64 - 1
    → t ≡ live_state_after_all events s → AreCachedBy events s t
live_state_is_cached_by_events [] s t right can few e = e
live_state_is_cached_by_events (event ∷ events) s t right can few e = (
  live_state_after_event event s,
  next_cached event s right can.0 few,
  live_state_is_cached_by_events events (live_state_after_event event s) t
      (event_keeps_live_state_right event s can.0 right) can.1 (settled_count_after_event_is_few event s few) e,
)

cached_by_events_is_live_state : (events : List LiveEvent) (s t : LiveState) → IsRightLiveState s
    → ArePossibleLiveEvents events s → s.reductions ≤ 2 ^ 64 - 1
    → AreCachedBy events s t → t ≡ live_state_after_all events s
cached_by_events_is_live_state [] s t right can few c = c
cached_by_events_is_live_state (event ∷ events) s t right can few (then, one, rest) =
    cached_by_events_is_live_state events (live_state_after_event event s) t
    (event_keeps_live_state_right event s can.0 right) can.1 (settled_count_after_event_is_few event s few)
    (subst (λ (u : LiveState). AreCachedBy events u t) (same_state event s right can.0 few then one) rest)

-- the law of cached names
pub cached_names_law : CachedNamesLaw
cached_names_law events before after right can few = (
  live_state_is_cached_by_events events before after right can few,
  cached_by_events_is_live_state events before
      after right can few,
)
