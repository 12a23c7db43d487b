-- The state after events does not depend on the steps before.
use Rattle.std.proofs.Common.{◌≡◌, ◌+◌, ◌-◌, ℕ, Bool, true, false, List, [], ◌∷◌, refl, ap, ◌∙◌, add_assoc, arith}
use Rattle.std.specs.FinMap as map_of
use Rattle.std.specs.Option.{is_none}
use Rattle.def_entry.specs.declared.key.Key.{Key}
use Rattle.table_names.specs.Faults.{key_fault, name_fault}
use Rattle.table_names.specs.Reach.{key_reach, reach}
use Rattle.live_table.specs.TableView.{IsAfterLiveEvents, LiveView, live_state_with_steps}
use Rattle.live_table.specs.States.{AsksKey, AsksWords, Becomes, LiveEvent, LiveState, live_state_after_all}
use Rattle.live_table.specs.States.{live_state_after_event, live_state_after_query, with_cached_outcomes}
use Rattle.session.specs.Queries.{LeavesSessionTable, names_settled_in_session, session_table_after_events}
use Rattle.session.specs.Queries.{session_table_with_deck}

-- the state n steps later
abbrev later : ℕ → LiveState → LiveState
later n s = record s { steps = n + s.steps }

session_query_at_later_step : (b : Bool) (keys : List Key) (n : ℕ) (s : LiveState)
    → live_state_after_query b keys (later n s) ≡ later n (live_state_after_query b keys s)
session_query_at_later_step true keys n s =
    let new : ℕ = map_of.len (with_cached_outcomes s.table keys s.kept_outcomes) - map_of.len s.kept_outcomes in
    ap (λ (m : ℕ). record (live_state_after_query true keys s) { steps = m }) (add_assoc n s.steps new)
session_query_at_later_step false keys n s = refl

session_event_at_later_step : (e : LiveEvent) (n : ℕ) (s : LiveState) → live_state_after_event e (later n s) ≡ later n
    (live_state_after_event e s)
session_event_at_later_step (AsksWords words) n s =
    session_query_at_later_step (is_none (name_fault s.table words)) (reach s.table words) n s
session_event_at_later_step (AsksKey k) n s =
    session_query_at_later_step (is_none (key_fault s.table k)) (k ∷ key_reach s.table k) n s
session_event_at_later_step (Becomes t) n s = refl

session_events_at_later_step : (es : List LiveEvent) (n : ℕ) (s : LiveState)
    → live_state_after_all es (later n s) ≡ later n (live_state_after_all es s)
session_events_at_later_step [] n s = refl
session_events_at_later_step (e ∷ es) n s = ap (live_state_after_all es) (session_event_at_later_step e n s)
    ∙ session_events_at_later_step es n (live_state_after_event e s)

no_session_steps_before : (n : ℕ) → n ≡ n + 0
no_session_steps_before n = omega arith

module _ (es : List LiveEvent) (before after : LiveView) (old new : ℕ) (f : IsAfterLiveEvents es before after old new)
  where
    stands : live_state_with_steps after new ≡ later old (live_state_after_all es (live_state_with_steps before 0))
    stands =
        f.state_after_events ∙ ap (λ (n : ℕ). live_state_after_all es (live_state_with_steps before n))
        (no_session_steps_before old)
        ∙ session_events_at_later_step es old (live_state_with_steps before 0)

    pub leaves : LeavesSessionTable es before after old new
    unfolding session_table_after_events names_settled_in_session
    leaves = record {
      table = ap (λ (s : LiveState). session_table_with_deck after.deck s) stands;
      steps = ap (λ (s : LiveState). s.steps) stands;
    }
