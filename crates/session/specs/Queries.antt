-- The state in which queries and edits leave a live table.
use Rattle.std.specs.Prelude.{◌≡◌, ◌+◌, ℕ, List}
use Rattle.std.specs.FinMap as map_of
use Rattle.deck.specs.Decks.{DeckContents}
use Rattle.live_table.specs.TableView.{IsAfterLiveEvents, LiveView, live_state_with_steps}
use Rattle.live_table.specs.States.{LiveEvent, LiveState, live_state_after_all}

-- a state as contracts see it, with its deck
abbrev pub session_table_with_deck : DeckContents → LiveState → LiveView
session_table_with_deck deck s = record { deck = deck; kept_outcomes = s.kept_outcomes; reductions = s.reductions }

-- the table after these events, which lead to this deck
unfoldable pub session_table_after_events : List LiveEvent → DeckContents → LiveView → LiveView
session_table_after_events events deck table = session_table_with_deck deck
    (live_state_after_all events (live_state_with_steps table 0))

-- a table over a deck in which no name is settled
abbrev pub fresh_session_table : DeckContents → LiveView
fresh_session_table deck = record { deck = deck; kept_outcomes = map_of.empty; reductions = 0 }

-- the table after queries, which do not change the deck
abbrev pub session_table_after_queries : List LiveEvent → LiveView → LiveView
session_table_after_queries events table = session_table_after_events events table.deck table

-- the number of names that queries newly settle
unfoldable pub names_settled_in_session : List LiveEvent → LiveView → ℕ
names_settled_in_session events table = (live_state_after_all events (live_state_with_steps table 0)).steps

-- after a sequence of events the table and the count of steps are those that the events lead to
pub record LeavesSessionTable (events : List LiveEvent) (before after : LiveView) (old new : ℕ) : Type 0 where
  pub table : after ≡ session_table_after_events events after.deck before
  pub steps : new ≡ old + names_settled_in_session events before

-- law: events lead to the same table and the same further steps, whatever the counts before
abbrev pub LeavesSessionTableLaw : Type 0
LeavesSessionTableLaw = (events : List LiveEvent) (before after : LiveView) (old new : ℕ)
    → IsAfterLiveEvents events before after old new
    → LeavesSessionTable events before after old new
