use Rattle.std.proofs.Common.{Some, sym, ◌∙◌, ap, subst, arith}
use Rattle.std.specs.Prelude.{Result}
use Rattle.std.specs.declared.alloc.AllocError.{AllocError}
use Rattle.std.proofs.lemmas.Option.{slice_get-get_or}
use Rattle.std.proofs.lemmas.Result.{err_from_is_err_and}
use Rattle.def_entry.specs.Tables.{is_entry_present}
use Rattle.deck.specs.Decks.{DeckContents}
use Rattle.deck.specs.Tables.{table_of_deck}
use Rattle.live_table.specs.Calls.{AreLiveQueries, live_key_queries}
use Rattle.live_table.proofs.NameQueries.{asking_cut, asking_next, queried_live_key_is_among_keys}
use Rattle.live_table.proofs.live_table.LiveTable.settle_keys.Goals as goal

pub settle_key-requires-clause-present : goal.settle_key-requires-clause-present
settle_key-requires-clause-present g c =
    ap (λ (d : DeckContents). is_entry_present (table_of_deck d) c.key-item.result) c.loop-key.invariant.deck
    ∙ c.requires.present c.key-item.result
    (queried_live_key_is_among_keys c.args.keys.now c.loop-key.key-index c.key-item.result
    (slice_get-get_or c.args.keys.now c.loop-key.key-index c.key-item.result (omega arith)
    ∙ ap Some (sym c.key-item.is)))

pub loop-key-preserved : goal.loop-key-preserved
loop-key-preserved g c =
    asking_next c.args.keys.now c.loop-key.key-index c.args.self.now c.loop-key.self c.args.steps.now c.loop-key.steps
    c.loop-key.invariant c.key-item.result
    (slice_get-get_or c.args.keys.now c.loop-key.key-index c.key-item.result (omega arith)
    ∙ ap Some (sym c.key-item.is))
    c.settle_key.new.self c.settle_key.new.steps c.settle_key.ensures.deck c.in_ok-settle_key.ensures.after

pub returns-in_err-settle_key-clause-after : goal.returns-in_err-settle_key-clause-after
returns-in_err-settle_key-clause-after g c =
    let p = err_from_is_err_and c.from_residual.result c.from_residual.ensures.1 in
    subst (λ (r : Result (Unit {0}) AllocError). AreLiveQueries (live_key_queries c.args.keys.now) r c.args.self.now
    c.settle_key.new.self c.args.steps.now c.settle_key.new.steps) (sym p.1)
    (asking_cut c.args.keys.now c.loop-key.key-index c.args.self.now c.loop-key.self c.args.steps.now c.loop-key.steps
    c.loop-key.invariant c.key-item.result
    (slice_get-get_or c.args.keys.now c.loop-key.key-index c.key-item.result (omega arith)
    ∙ ap Some (sym c.key-item.is))
    c.settle_key.new.self c.settle_key.new.steps c.in_err-settle_key.ensures.after)
