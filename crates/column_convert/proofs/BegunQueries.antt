-- Queries of which some were made before all are made.
use Rattle.std.proofs.Common.{◌≡◌, ◌≤◌, ◌-◌, ◌^◌, ◌++◌, ◌∙◌, ℕ, List, map, refl, sym, ap, subst, arith}
use Rattle.std.specs.Prelude.{Result, Ok, Err}
use Rattle.std.specs.declared.alloc.AllocError.{AllocError}
use Rattle.expr_tree.specs.declared.word_list.WordUse.{WordUse}
use Rattle.live_table.specs.Calls.{AreLiveQueries}
use Rattle.live_table.specs.TableView.{AreLiveEventsCutOff, IsAfterLiveEvents, IsRightLiveView, LiveView}
use Rattle.live_table.specs.TableView.{live_state_with_steps}
use Rattle.live_table.specs.States.{AsksWords, LiveEvent, LiveState, live_state_after_all}
use Rattle.live_table.proofs.Events.{live_event_order_law}
use Rattle.live_table.proofs.QuerySequence.{live_events_never_lower_steps}
use Rattle.live_table.proofs.SettleCounts.{settled_count_of_live_view}
use Rattle.reply.proofs.Runs.{inquiry_queries_cut_after_last}
use Rattle.column_convert.specs.CachedValues.{AreCellQueriesBegun}
use Rattle.column_convert.proofs.Again.{cell_queries_again_take_no_step}

-- no query was made yet
pub cell_queries_begun_by_none : (events : List LiveEvent) (s : LiveView) (n : ℕ) → IsRightLiveView s
    → AreCellQueriesBegun events s s n n
cell_queries_begun_by_none events s n right = record {
  same_events = refl;
  deck = refl;
  table_right = right;
  steps_grow = omega arith;
  reductions_bounded = λ can. (omega arith, can);
}

-- the words of some texts were queried
pub cell_queries_begun_by_texts : (texts : List (List WordUse)) (rest : List LiveEvent) (a b : LiveView) (n m : ℕ)
    → b.deck ≡ a.deck
    → b.reductions ≤ 2 ^ 64 - 1 → IsAfterLiveEvents (map AsksWords texts) a b n m
    → AreCellQueriesBegun (map AsksWords texts ++ rest) a b n m
cell_queries_begun_by_texts texts rest a b n m deck few f = record {
  same_events =
      live_event_order_law (map AsksWords texts) rest (live_state_with_steps b m)
      ∙ ap (live_state_after_all rest) (sym (cell_queries_again_take_no_step texts a b n m m few f).state_after_events
      ∙ f.state_after_events)
      ∙ sym (live_event_order_law (map AsksWords texts) rest (live_state_with_steps a n));
  deck = deck;
  table_right = f.is_right;
  steps_grow = (inquiry_queries_cut_after_last (map AsksWords texts) a b n m deck f).steps_least;
  reductions_bounded = λ can.
      (((inquiry_queries_cut_after_last (map AsksWords texts) a b n m deck f).reductions_counted can).0, few);
}

module _ (events : List LiveEvent) (a b : LiveView) (n m : ℕ) (begun : AreCellQueriesBegun events a b n m) where
  -- all queries are made afterwards
  pub begun_follows : (c : LiveView) (k : ℕ) → IsAfterLiveEvents events b c m k → IsAfterLiveEvents events a c n k
  begun_follows c k f = record { state_after_events = f.state_after_events ∙ begun.same_events; is_right = f.is_right }

  pub begun_cut : (c : LiveView) (k : ℕ) → AreLiveEventsCutOff events b c m k → AreLiveEventsCutOff events a c n k
  begun_cut c k f = record {
    deck = f.deck ∙ begun.deck;
    is_right = f.is_right;
    steps_least = let x : n ≤ m = begun.steps_grow in let y : m ≤ k = f.steps_least in omega arith;
    steps_most = subst (λ (s : LiveState). k ≤ s.steps) begun.same_events f.steps_most;
    reductions_counted = λ can.
        let was = begun.reductions_bounded can in
        let now = f.reductions_counted was.1 in
        let x : a.reductions ≤ b.reductions = was.0 in
        let y : b.reductions ≤ c.reductions = now.0 in
        (omega arith, subst (λ (s : LiveState). c.reductions ≤ s.reductions) begun.same_events now.1);
  }

  pub begun_made : {A : Type 0} (r : Result A AllocError) (c : LiveView) (k : ℕ) → AreLiveQueries events r b c m k
      → AreLiveQueries events r a c n k
  begun_made (Ok x) c k f = begun_follows c k f
  begun_made (Err e) c k f = begun_cut c k f

  -- memory runs out before more queries
  pub begun_stopped : AreLiveEventsCutOff events a b n m
  begun_stopped = record {
    deck = begun.deck;
    is_right = begun.table_right;
    steps_least = begun.steps_grow;
    steps_most =
        let x : m ≤ (live_state_after_all events (live_state_with_steps b m)).steps =
        live_events_never_lower_steps events (live_state_with_steps b m) in
        subst (λ (s : LiveState). m ≤ s.steps) begun.same_events x;
    reductions_counted = λ can.
        let was = begun.reductions_bounded can in
        let x : b.reductions ≤ (live_state_after_all events (live_state_with_steps b m)).reductions =
        (settled_count_of_live_view events b m was.1).0 in
        (was.0, subst (λ (s : LiveState). b.reductions ≤ s.reductions) begun.same_events x);
  }
