-- Lists of calls of one live table, and the outcomes that they leave stored. Each call is described by its contract.
use Rattle.std.specs.Prelude.{◌≡◌, ◌↔◌, ⊤, ℕ, Bool, true, false, List, [], ◌∷◌, ◌++◌, Some, Result, Ok, Err}
use Rattle.std.specs.FinMap as map_of
use Rattle.std.specs.declared.alloc.AllocError.{AllocError}
use Rattle.expr_tree.specs.Syntax.{Syntax}
use Rattle.expr_tree.specs.Words.{words_in}
use Rattle.quantity.specs.Amount.{Amount}
use Rattle.def_entry.specs.declared.key.Key.{Key}
use Rattle.def_entry.specs.declared.key.Kind.TheVariants as kind
use Rattle.def_entry.specs.Keys.{key}
use Rattle.def_entry.specs.Tables.{is_entry_present}
use Rattle.tree_eval.specs.declared.outcome.Outcome.{Outcome}
use Rattle.table_names.specs.Kinds.{TableNamesFitKinds}
use Rattle.table_names.specs.Meanings.{outcome}
use Rattle.deck.specs.Decks.{DeckContents}
use Rattle.deck.specs.Tables.{table_of_deck}
use Rattle.live_table.specs.declared.fault.QueryFault.{QueryFault}
use Rattle.live_table.specs.declared.fault.QueryFault.TheVariants.{OutOfMemory}
use Rattle.live_table.specs.Calls.{AreLiveQueries, IsAcceptedLiveEdit, IsLiveQuery, settle_all_queries}
use Rattle.live_table.specs.KeptNames.{IsNameCachedByAll}
use Rattle.live_table.specs.Right.{IsKeySettled}
use Rattle.live_table.specs.TableView.{IsAfterLiveEvents, IsRightLiveView, LiveView, live_state_with_steps}
use Rattle.live_table.specs.States.{AsksKey, AsksWords, Becomes, IsPossibleLiveEvent, LiveEvent, LiveState}

-- a call of a live table, with its result: `value` of an expression, `unapply` of a function, `settle_all`, or any
-- edit, accepted or refused
pub data LiveCall : Type 0 where
  Value : Syntax → Result Amount QueryFault → LiveCall
  Unapply : List ℕ → Result Amount QueryFault → LiveCall
  SettleAll : Result (Unit {0}) AllocError → LiveCall
  AcceptedEdit : LiveCall
  RefusedEdit : LiveCall

-- the clauses of a call: how the table and the count of steps change
abbrev pub IsLiveCall : LiveCall → LiveView → LiveView → ℕ → ℕ → Type 0
IsLiveCall (Value e result) before after old new =
    (after.deck ≡ before.deck) × IsLiveQuery (AsksWords (words_in e)) result before after old new
IsLiveCall (Unapply name result) before after old new =
    (is_entry_present (table_of_deck before.deck) (key kind.Func name) ≡ true) × (after.deck ≡ before.deck)
    × IsLiveQuery (AsksKey (key kind.Func name)) result before after old new
IsLiveCall (SettleAll result) before after old new =
    (after.deck ≡ before.deck) × AreLiveQueries (settle_all_queries (table_of_deck before.deck)) result before after old
    new
IsLiveCall AcceptedEdit before after old new = (new ≡ old) × IsAcceptedLiveEdit before after
IsLiveCall RefusedEdit before after old new = (new ≡ old) × (after ≡ before)

-- memory sufficed for the query
abbrev pub has_live_answer : Result Amount QueryFault → Bool
has_live_answer (Err OutOfMemory) = false
has_live_answer _ = true

-- memory sufficed for the call; an edit that lacks memory is refused as a whole
abbrev pub is_complete_live_call : LiveCall → Bool
is_complete_live_call (Value e result) = has_live_answer result
is_complete_live_call (Unapply name result) = has_live_answer result
is_complete_live_call (SettleAll (Ok x)) = true
is_complete_live_call (SettleAll (Err x)) = false
is_complete_live_call AcceptedEdit = true
is_complete_live_call RefusedEdit = true

-- the events that a call represents
abbrev pub live_call_events : LiveCall → LiveView → LiveView → List LiveEvent
live_call_events (Value e result) before after = AsksWords (words_in e) ∷ []
live_call_events (Unapply name result) before after = AsksKey (key kind.Func name) ∷ []
live_call_events (SettleAll result) before after = settle_all_queries (table_of_deck before.deck)
live_call_events AcceptedEdit before after = Becomes (table_of_deck after.deck) ∷ []
live_call_events RefusedEdit before after = []

-- a call, with the table and the count of steps after it
pub record MadeLiveCall : Type 0 where
  pub table_call : LiveCall
  pub shown_after : LiveView
  pub steps : ℕ

-- these calls were made in turn, from this table and this count of steps
abbrev pub AreLiveCalls : List MadeLiveCall → LiveView → ℕ → Type 0
AreLiveCalls [] s n = ⊤
AreLiveCalls (d ∷ ds) s n = IsLiveCall d.table_call s d.shown_after n d.steps × AreLiveCalls ds d.shown_after d.steps

-- memory sufficed for all calls
abbrev pub AreCompleteLiveCalls : List MadeLiveCall → Type 0
AreCompleteLiveCalls [] = ⊤
AreCompleteLiveCalls (d ∷ ds) = (is_complete_live_call d.table_call ≡ true) × AreCompleteLiveCalls ds

-- the table after all calls, and the count of steps
abbrev pub view_after_live_calls : List MadeLiveCall → LiveView → LiveView
view_after_live_calls [] s = s
view_after_live_calls (d ∷ ds) s = view_after_live_calls ds d.shown_after

abbrev pub steps_after_live_calls : List MadeLiveCall → ℕ → ℕ
steps_after_live_calls [] n = n
steps_after_live_calls (d ∷ ds) n = steps_after_live_calls ds d.steps

-- the events that the calls represent
abbrev pub all_live_call_events : List MadeLiveCall → LiveView → List LiveEvent
all_live_call_events [] s = []
all_live_call_events (d ∷ ds) s = live_call_events d.table_call s d.shown_after ++ all_live_call_events ds d.shown_after

-- after these calls a name is stored exactly if it was stored before or a query reached it, and no later edit affected
-- it; its outcome is that of the present table
pub record IsCachedAfterCalls (ds : List MadeLiveCall) (s : LiveView) (n : ℕ) : Type 0 where
  pub events_after : IsAfterLiveEvents (all_live_call_events ds s) s (view_after_live_calls ds s) n
      (steps_after_live_calls ds n)
  pub settled_names : (k : Key) → IsKeySettled (live_state_with_steps (view_after_live_calls ds s) 0) k
      ↔ IsNameCachedByAll (all_live_call_events ds s) (table_of_deck s.deck) (IsKeySettled (live_state_with_steps s 0))
      k
  pub outcomes : (k : Key) (o : Outcome) → map_of.get (view_after_live_calls ds s).kept_outcomes k ≡ Some o
      → o ≡ outcome (table_of_deck (view_after_live_calls ds s).deck) k

-- law: an edit from any deck to any other is a possible event, whatever names are stored
abbrev pub PossibleLiveEditsLaw : Type 0
PossibleLiveEditsLaw = (before after : DeckContents) (s : LiveState) → s.table ≡ table_of_deck before
    → IsPossibleLiveEvent (Becomes (table_of_deck after)) s

-- law: in the table of every deck each entry fits the kind of its key
abbrev pub LiveDeckKindsLaw : Type 0
LiveDeckKindsLaw = (deck : DeckContents) → TableNamesFitKinds (table_of_deck deck)

-- law: after any calls every stored outcome is right. If memory sufficed for all calls, the stored names are exactly
-- those that the calls reached and no later call affected
pub record LiveCallsLaw : Type 0 where
  pub stays_right : (ds : List MadeLiveCall) (s : LiveView) (n : ℕ) → IsRightLiveView s → AreLiveCalls ds s n
      → IsRightLiveView (view_after_live_calls ds s)
  pub keeps_names : (ds : List MadeLiveCall) (s : LiveView) (n : ℕ) → IsRightLiveView s → AreLiveCalls ds s n
      → AreCompleteLiveCalls ds
      → IsCachedAfterCalls ds s n
