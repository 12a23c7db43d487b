-- Queries after others.
use Rattle.std.proofs.Common.{◌≡◌, ◌++◌, ◌∙◌, ℕ, List, ap}
use Rattle.std.specs.Prelude.{Result, Ok, Err}
use Rattle.std.specs.declared.alloc.AllocError.{AllocError}
use Rattle.deck.specs.Decks.{DeckContents}
use Rattle.deck.specs.Tables.{table_of_deck}
use Rattle.live_table.specs.Calls.{AreLiveQueries}
use Rattle.live_table.specs.TableView.{IsAfterLiveEvents, LiveView}
use Rattle.live_table.specs.States.{LiveEvent}
use Rattle.live_table.proofs.QuerySequence.{live_event_runs_in_turn}
use Rattle.live_table.proofs.Runs.{live_event_run_law}
use Rattle.reply.specs.declared.reply.FromValue.{FromValue}
use Rattle.survey.specs.ConversionReplies.{conformable_to}

-- queries that follow others that were made are the queries of both
pub survey_queries_appended : {A : Type 0} (es fs : List LiveEvent) (r : Result A AllocError) (a b c : LiveView)
    (n m k : ℕ)
    → b.deck ≡ a.deck → IsAfterLiveEvents es a b n m → AreLiveQueries fs r b c m k → AreLiveQueries (es ++ fs) r a c n k
survey_queries_appended es fs (Ok x) a b c n m k deck f q = live_event_runs_in_turn es fs a b c n m k f q
survey_queries_appended es fs (Err e) a b c n m k deck f q = live_event_run_law.cut_behind es fs a b c n m k deck f q

-- the units that conform to equal values are the same over equal decks
pub conformable_units_of_equal_values : (d e : DeckContents) (x y : FromValue) → d ≡ e → x ≡ y
    → conformable_to (table_of_deck d) x ≡ conformable_to (table_of_deck e) y
conformable_units_of_equal_values d e x y deck is = ap (λ (c : DeckContents). conformable_to (table_of_deck c) x) deck
    ∙ ap (conformable_to (table_of_deck e)) is
