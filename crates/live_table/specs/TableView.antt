-- The view of a live table that contracts see.
use Rattle.std.specs.Prelude.{◌≡◌, ◌≤◌, ◌^◌, ◌-◌, ℕ, List, refl}
use Rattle.std.specs.Coded.{Coded, code_by, coded×, coded_ℕ}
use Rattle.std.specs.FinMap as map_of
use Rattle.def_entry.specs.KeyOrder.{key_order_code}
use Rattle.tree_eval.specs.contracts.outcome.Outcome as outcome
use Rattle.deck.specs.contracts.deck.Deck as deck
use Rattle.deck.specs.Decks.{DeckContents}
use Rattle.deck.specs.Tables.{table_of_deck}
use Rattle.live_table.specs.Right.{IsRightLiveState}
use Rattle.live_table.specs.States.{CachedOutcomes, LiveEvent, LiveState, live_state_after_all}

-- the deck, the settled names with their outcomes, and the number of names that were settled
pub record LiveView : Type 0 where
  pub deck : DeckContents
  pub kept_outcomes : CachedOutcomes
  pub reductions : ℕ

-- the code of a view is that of its parts
abbrev pub live_view_code : Coded LiveView
live_view_code =
    code_by _ (coded× deck.the_row.coded (coded× (map_of.code key_order_code outcome.the_row.coded) coded_ℕ))
    (λ s. (s.deck, (s.kept_outcomes, s.reductions)))
    (λ p. record { deck = p.0; kept_outcomes = p.1.0; reductions = p.1.1 }) (λ _. refl)

-- a live table with this number of steps
abbrev pub live_state_with_steps : LiveView → ℕ → LiveState
live_state_with_steps s steps =
    record { table = table_of_deck s.deck; kept_outcomes = s.kept_outcomes; reductions = s.reductions; steps = steps }

-- the stored outcomes are right, whatever the counts
abbrev pub IsRightLiveView : LiveView → Type 0
IsRightLiveView s = IsRightLiveState (live_state_with_steps s 0)

-- the state after these events
pub record IsAfterLiveEvents (events : List LiveEvent) (before after : LiveView) (old new : ℕ) : Type 0 where
  pub state_after_events : live_state_with_steps after new ≡ live_state_after_all events
      (live_state_with_steps before old)
  pub is_right : IsRightLiveView after

-- after memory ran out: the deck is unchanged; each stored outcome is right; the query lowered neither the count of
-- steps nor that of newly settled names, and raised neither above that after the whole query (no live table counts more
-- than 2^64 - 1 names)
pub record AreLiveEventsCutOff (events : List LiveEvent) (before after : LiveView) (old new : ℕ) : Type 0 where
  pub deck : after.deck ≡ before.deck
  pub is_right : IsRightLiveView after
  pub steps_least : old ≤ new
  pub steps_most : new ≤ (live_state_after_all events (live_state_with_steps before old)).steps
  pub reductions_counted : before.reductions ≤ 2 ^ 64 - 1 → (before.reductions ≤ after.reductions)
      × (after.reductions ≤ (live_state_after_all events (live_state_with_steps before old)).reductions)
