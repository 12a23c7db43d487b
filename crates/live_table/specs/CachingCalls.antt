-- The effect of calls for which memory sufficed, by the names whose outcomes are cached before and after each.
use Rattle.std.specs.Prelude.{◌≡◌, ◌↔◌, ◌≤◌, ◌-◌, ◌^◌, ⊤, ℕ, true, List}
use Rattle.def_entry.specs.declared.key.Kind.TheVariants as kind
use Rattle.def_entry.specs.Keys.{key}
use Rattle.def_entry.specs.Tables.{is_entry_present}
use Rattle.deck.specs.Tables.{table_of_deck}
use Rattle.live_table.specs.CachedNames.{AreCachedBy}
use Rattle.live_table.specs.CallLists.{AcceptedEdit, AreCompleteLiveCalls, AreLiveCalls, IsLiveCall, LiveCall}
use Rattle.live_table.specs.CallLists.{MadeLiveCall, Unapply, all_live_call_events, is_complete_live_call}
use Rattle.live_table.specs.CallLists.{live_call_events, steps_after_live_calls, view_after_live_calls}
use Rattle.live_table.specs.TableView.{IsRightLiveView, LiveView, live_state_with_steps}

-- the call is possible: only a function that has an entry can be inverted
abbrev pub IsPossible : LiveCall → LiveView → Type 0
IsPossible (Unapply name result) before = is_entry_present (table_of_deck before.deck) (key kind.Func name) ≡ true
IsPossible call before = ⊤

-- only an accepted edit changes the deck
abbrev pub HasDeckAfter : LiveCall → LiveView → LiveView → Type 0
HasDeckAfter AcceptedEdit before after = ⊤
HasDeckAfter call before after = after.deck ≡ before.deck

-- a call that caches names as its queries and edits do
pub record IsCachingCall (call : LiveCall) (before after : LiveView) (old new : ℕ) : Type 0 where
  pub possible : IsPossible call before
  pub deck_after : HasDeckAfter call before after
  pub names_cached :
      AreCachedBy (live_call_events call before after) (live_state_with_steps before old)
      (live_state_with_steps after new)

-- law: if memory sufficed for a call, its clauses are that it caches names so; and then a list of calls caches names as
-- all its queries and edits do. The premises are facts about every live table (`outcomes_are_right`, `counts`)
pub record CachingCallsLaw : Type 0 where
  pub one_call : (call : LiveCall) (before after : LiveView) (old new : ℕ) → IsRightLiveView before
      → before.reductions ≤ 2 ^ 64 - 1 → is_complete_live_call call ≡ true
      → IsLiveCall call before after old new ↔ IsCachingCall call before after old new
  pub all_calls : (calls : List MadeLiveCall) (before : LiveView) (steps : ℕ) → IsRightLiveView before
      → before.reductions ≤ 2 ^ 64 - 1 → AreLiveCalls calls before steps → AreCompleteLiveCalls calls
      → AreCachedBy (all_live_call_events calls before) (live_state_with_steps before steps)
      (live_state_with_steps (view_after_live_calls calls before) (steps_after_live_calls calls steps))
