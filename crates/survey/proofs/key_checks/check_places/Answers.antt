use Rattle.std.proofs.Common.{◌≡◌, List, subst, sym, ℕ}
use Rattle.std.specs.Prelude.{Result, Vec}
use Rattle.std.specs.declared.alloc.AllocError.{AllocError}
use Rattle.std.specs.declared.alloc.Global.{Global}
use Rattle.std.proofs.lemmas.Result.{err_from_is_err_and}
use Rattle.deck.specs.Decks.{DeckContents}
use Rattle.deck.specs.KeyLists.{deck_table_keys}
use Rattle.deck.specs.PlacedKeys.{deck_keys_at_places}
use Rattle.deck.specs.Tables.{table_of_deck}
use Rattle.live_table.specs.Calls.{AreLiveQueries, settle_all_queries}
use Rattle.live_table.proofs.NameQueries.{live_events_cut_at_start}
use Rattle.survey.proofs.key_checks.check_places.Goals as goal

pub returns-in_err-places-clause-queries : goal.returns-in_err-places-clause-queries
returns-in_err-places-clause-queries g c =
    let p = err_from_is_err_and c.from_residual.result c.from_residual.ensures.1 in
    subst (λ (r : Result (Vec ℕ Global) AllocError).
    AreLiveQueries (settle_all_queries (table_of_deck c.args.table.now.deck)) r
    c.args.table.now c.args.table.now c.args.steps.now c.args.steps.now) (sym p.1)
    (live_events_cut_at_start (settle_all_queries (table_of_deck c.args.table.now.deck)) c.args.table.now
    c.args.steps.now c.deck.ensures.right)

pub returns-clause-keys : goal.returns-clause-keys
returns-clause-keys g c =
    subst (λ (d : DeckContents). deck_keys_at_places d.lines c.in_ok-places.places.items ≡ deck_table_keys
    (table_of_deck d))
    c.deck.ensures.deck (c.in_ok-places.ensures {u = tt})
