use Rattle.std.proofs.Common.{◌≡◌, ◌∙◌, List, ap, subst, sym, ℕ}
use Rattle.std.specs.Prelude.{Result}
use Rattle.std.specs.declared.alloc.AllocError.{AllocError}
use Rattle.std.proofs.lemmas.Result.{err_from_is_err_and}
use Rattle.def_entry.specs.declared.key.Key.{Key}
use Rattle.deck.specs.Decks.{DeckContents}
use Rattle.deck.specs.KeyLists.{deck_table_keys}
use Rattle.deck.specs.PlacedKeys.{deck_keys_at_places}
use Rattle.deck.specs.Tables.{table_of_deck}
use Rattle.live_table.specs.Calls.{AreLiveQueries, settle_all_queries}
use Rattle.live_table.specs.TableView.{AreLiveEventsCutOff, IsAfterLiveEvents}
use Rattle.live_table.proofs.QuerySequence.{live_event_runs_in_turn}
use Rattle.live_table.proofs.Runs.{live_event_run_law}
use Rattle.survey.specs.Checks.{check_queries, queries_among}
use Rattle.survey.proofs.key_checks.check_report.Goals as goal

pub returns-in_err-places-clause-queries : goal.returns-in_err-places-clause-queries
returns-in_err-places-clause-queries g c =
    let p = err_from_is_err_and c.from_residual.result c.from_residual.ensures.1 in
    subst (λ (r : Result (List ℕ) AllocError). AreLiveQueries (check_queries (table_of_deck c.args.table.now.deck)) r
    c.args.table.now c.check_places.new.table c.args.steps.now c.check_places.new.steps) (sym p.1)
    (live_event_run_law.cut_before (settle_all_queries (table_of_deck c.args.table.now.deck))
    (queries_among (table_of_deck c.args.table.now.deck) (deck_table_keys (table_of_deck c.args.table.now.deck)))
    c.args.table.now c.check_places.new.table c.args.steps.now c.check_places.new.steps
    c.in_err-places.ensures.queries)

pub returns-in_err-put_checks-clause-queries : goal.returns-in_err-put_checks-clause-queries
returns-in_err-put_checks-clause-queries g c =
    let deck = c.args.table.now.deck in
    let p = err_from_is_err_and c.from_residual-in_err-put_checks.result c.from_residual-in_err-put_checks.ensures.1 in
    let keys : deck_keys_at_places deck.lines c.as_slice.result.now ≡ deck_table_keys (table_of_deck deck) =
    ap (deck_keys_at_places deck.lines) c.as_slice.ensures.value ∙ c.in_ok-places.ensures.keys in
    subst (λ (r : Result (List ℕ) AllocError). AreLiveQueries (check_queries (table_of_deck deck)) r c.args.table.now
    c.put_checks.new.table c.args.steps.now c.put_checks.new.steps) (sym p.1)
    (live_event_run_law.cut_behind (settle_all_queries (table_of_deck deck))
    (queries_among (table_of_deck deck) (deck_table_keys (table_of_deck deck)))
    c.args.table.now c.check_places.new.table c.put_checks.new.table c.args.steps.now c.check_places.new.steps
    c.put_checks.new.steps c.check_places.ensures.deck c.in_ok-places.ensures.queries
    (subst (λ (ks : List Key). AreLiveEventsCutOff (queries_among (table_of_deck deck) ks) c.check_places.new.table
    c.put_checks.new.table c.check_places.new.steps c.put_checks.new.steps) keys
    (subst (λ (d : DeckContents).
    AreLiveEventsCutOff (queries_among (table_of_deck d) (deck_keys_at_places d.lines c.as_slice.result.now))
    c.check_places.new.table c.put_checks.new.table c.check_places.new.steps c.put_checks.new.steps)
    c.check_places.ensures.deck c.in_err-put_checks.ensures.queries)))

pub returns-clause-queries : goal.returns-clause-queries
returns-clause-queries g c =
    let deck = c.args.table.now.deck in
    let keys : deck_keys_at_places deck.lines c.as_slice.result.now ≡ deck_table_keys (table_of_deck deck) =
    ap (deck_keys_at_places deck.lines) c.as_slice.ensures.value ∙ c.in_ok-places.ensures.keys in
    live_event_runs_in_turn (settle_all_queries (table_of_deck deck))
    (queries_among (table_of_deck deck) (deck_table_keys (table_of_deck deck))) c.args.table.now
    c.check_places.new.table c.put_checks.new.table c.args.steps.now c.check_places.new.steps c.put_checks.new.steps
    c.in_ok-places.ensures.queries
    (subst (λ (ks : List Key). IsAfterLiveEvents (queries_among (table_of_deck deck) ks) c.check_places.new.table
    c.put_checks.new.table c.check_places.new.steps c.put_checks.new.steps) keys
    (subst (λ (d : DeckContents).
    IsAfterLiveEvents (queries_among (table_of_deck d) (deck_keys_at_places d.lines c.as_slice.result.now))
    c.check_places.new.table c.put_checks.new.table c.check_places.new.steps c.put_checks.new.steps)
    c.check_places.ensures.deck c.in_ok-put_checks.ensures.queries))
