use Rattle.std.proofs.Common.{◌≡◌, ◌∙◌, List, ap, subst, sym, ℕ}
use Rattle.std.specs.Prelude.{Result}
use Rattle.std.specs.declared.alloc.AllocError.{AllocError}
use Rattle.std.proofs.lemmas.Result.{err_from_is_err_and}
use Rattle.def_entry.specs.declared.key.Key.{Key}
use Rattle.deck.specs.Decks.{DeckContents}
use Rattle.deck.specs.KeyLists.{deck_table_keys}
use Rattle.deck.specs.PlacedKeys.{deck_keys_at_places}
use Rattle.deck.specs.Tables.{table_of_deck}
use Rattle.live_table.specs.Calls.{AreLiveQueries}
use Rattle.live_table.proofs.NameQueries.{live_events_cut_at_start}
use Rattle.reply.proofs.Runs.{inquiry_queries_made_or_cut}
use Rattle.survey.specs.Conformable.{conformable_queries, unit_queries}
use Rattle.survey.proofs.conformable_units.conformable_report.Goals as goal

pub returns-in_err-places-clause-queries : goal.returns-in_err-places-clause-queries
returns-in_err-places-clause-queries g c =
    let p = err_from_is_err_and c.from_residual.result c.from_residual.ensures.1 in
    subst (λ (r : Result (List ℕ) AllocError).
    AreLiveQueries (conformable_queries (table_of_deck c.args.table.now.deck)) r
    c.args.table.now c.args.table.now c.args.steps.now c.args.steps.now) (sym p.1)
    (live_events_cut_at_start (conformable_queries (table_of_deck c.args.table.now.deck)) c.args.table.now
    c.args.steps.now
    c.deck.ensures.right)

pub returns-clause-queries : goal.returns-clause-queries
returns-clause-queries g c =
    let keys : deck_keys_at_places c.args.table.now.deck.lines c.as_slice.result.now ≡ deck_table_keys
    (table_of_deck c.args.table.now.deck) =
    ap (deck_keys_at_places c.args.table.now.deck.lines) c.as_slice.ensures.value
    ∙ subst (λ (d : DeckContents). deck_keys_at_places d.lines c.in_ok-places.places.items ≡ deck_table_keys
    (table_of_deck d))
    c.deck.ensures.deck (c.in_ok-places.ensures {u = tt}) in
    subst (λ (ks : List Key). AreLiveQueries (unit_queries (table_of_deck c.args.table.now.deck) ks)
    c.rows_or_none.result
    c.args.table.now c.put_rows.new.table c.args.steps.now c.put_rows.new.steps) keys
    (inquiry_queries_made_or_cut c.rows_or_none.result
    (unit_queries (table_of_deck c.args.table.now.deck)
    (deck_keys_at_places c.args.table.now.deck.lines c.as_slice.result.now))
    c.args.table.now c.put_rows.new.table c.args.steps.now c.put_rows.new.steps
    c.put_rows.ensures.deck c.in_ok-put_rows.ensures.queries)
