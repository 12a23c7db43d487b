use Rattle.std.proofs.Common.{List, sym, ap, subst, ◌∙◌}
use Rattle.std.specs.Prelude.{Result}
use Rattle.std.specs.declared.alloc.AllocError.{AllocError}
use Rattle.std.proofs.lemmas.Result.{err_from_is_err_and}
use Rattle.def_entry.specs.declared.key.Key.{Key}
use Rattle.def_entry.specs.SameKeys.{is_entry_key_among}
use Rattle.deck.specs.Tables.{table_of_deck}
use Rattle.live_table.specs.Calls.{AreKeysPresentInLiveTable, AreLiveQueries, settle_all_queries}
use Rattle.live_table.specs.TableView.{IsRightLiveView, LiveView}
use Rattle.live_table.proofs.NameQueries.{live_events_cut_at_start}
use Rattle.live_table.proofs.live_table.LiveTable.settle_all.Goals as goal

pub returns-in_err-keys-clause-after : goal.returns-in_err-keys-clause-after
returns-in_err-keys-clause-after g c =
    let p = err_from_is_err_and c.from_residual.result c.from_residual.ensures.1 in
    subst (λ (r : Result (Unit {0}) AllocError).
    AreLiveQueries (settle_all_queries (table_of_deck c.args.self.now.deck)) r c.args.self.now
    c.args.self.now c.args.steps.now c.args.steps.now) (sym p.1)
    (live_events_cut_at_start (settle_all_queries (table_of_deck c.args.self.now.deck)) c.args.self.now c.args.steps.now
    (subst IsRightLiveView c.self.view_is c.self.invariant.0.is_sound.is_right))

pub settle_keys-requires-clause-present : goal.settle_keys-requires-clause-present
settle_keys-requires-clause-present g c =
    subst (λ (s : LiveView). AreKeysPresentInLiveTable (table_of_deck s.deck) c.as_slice.result.now) c.self.view_is
    (λ k among. sym ((c.table_keys_law.ensures (table_of_deck c.self.inside.deck)).key_membership k)
    ∙ ap (λ (keys : List Key). is_entry_key_among keys k) (sym (c.as_slice.ensures ∙ c.in_ok-keys.ensures {u = tt}))
    ∙ among)
