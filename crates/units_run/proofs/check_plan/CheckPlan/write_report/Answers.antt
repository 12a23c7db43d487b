use Rattle.std.proofs.Common.{◌≡◌, ◌∙◌, ◌++◌, List, ap, refl, subst}
use Rattle.deck.specs.Decks.{DeckContents}
use Rattle.deck.specs.KeyLists.{deck_table_keys}
use Rattle.deck.specs.PlacedKeys.{deck_keys_at_places}
use Rattle.deck.specs.Tables.{table_of_deck}
use Rattle.def_entry.specs.declared.key.Key.{Key}
use Rattle.live_table.specs.Calls.{settle_all_queries}
use Rattle.live_table.specs.TableView.{IsAfterLiveEvents}
use Rattle.live_table.proofs.QuerySequence.{live_event_runs_in_turn}
use Rattle.reply.specs.Options.{reply_style}
use Rattle.survey.specs.Checks.{check_among, queries_among}
use Rattle.units_run.specs.Checks.{IsRunReportWritten}
use Rattle.units_run.proofs.PlanRuns.{unwritten_run_output_is_front}
use Rattle.units_run.proofs.check_plan.CheckPlan.write_report.Goals as goal

pub returns-in_default-clause-written : goal.returns-in_default-clause-written
returns-in_default-clause-written g c =
    unwritten_run_output_is_front (g.O.Sink.written c.args.out.now) (g.O.Sink.written c.args.out.now) _ refl

pub returns-clause-written : goal.returns-clause-written
returns-clause-written g c =
    let deck = c.args.self.now.table.deck in
    let keys : deck_keys_at_places deck.lines c.as_slice.result.now ≡ deck_table_keys (table_of_deck deck) =
    ap (deck_keys_at_places deck.lines) c.as_slice.ensures.value ∙ c.in-Ok.ensures.keys in
    subst
    (λ (ks : List Key). IsRunReportWritten
    (c.args.self.now.notices.items ++ check_among (table_of_deck deck) (reply_style c.args.self.now.options) ks)
    c.write_blocks.result
    (g.O.Sink.written c.args.out.now) (g.O.Sink.written c.write_blocks.new.out))
    keys
    (subst
    (λ (d : DeckContents). IsRunReportWritten
    (c.args.self.now.notices.items
    ++ check_among (table_of_deck d) (reply_style c.args.self.now.options)
    (deck_keys_at_places d.lines c.as_slice.result.now))
    c.write_blocks.result (g.O.Sink.written c.args.out.now) (g.O.Sink.written c.write_blocks.new.out))
    c.check_places.ensures.deck c.write_blocks.ensures.written)

pub returns-clause-queries : goal.returns-clause-queries
returns-clause-queries g c = λ worked.
    let deck = c.args.self.now.table.deck in
    let keys : deck_keys_at_places deck.lines c.as_slice.result.now ≡ deck_table_keys (table_of_deck deck) =
    ap (deck_keys_at_places deck.lines) c.as_slice.ensures.value ∙ c.in-Ok.ensures.keys in
    live_event_runs_in_turn (settle_all_queries (table_of_deck deck))
    (queries_among (table_of_deck deck) (deck_table_keys (table_of_deck deck))) c.args.self.now.table
    c.check_places.new.table c.write_blocks.new.self.table c.args.steps.now c.check_places.new.steps
    c.write_blocks.new.steps
    c.in-Ok.ensures.queries
    (subst (λ (ks : List Key). IsAfterLiveEvents (queries_among (table_of_deck deck) ks) c.check_places.new.table
    c.write_blocks.new.self.table c.check_places.new.steps c.write_blocks.new.steps) keys
    (subst (λ (d : DeckContents).
    IsAfterLiveEvents (queries_among (table_of_deck d) (deck_keys_at_places d.lines c.as_slice.result.now))
    c.check_places.new.table c.write_blocks.new.self.table c.check_places.new.steps c.write_blocks.new.steps)
    c.check_places.ensures.deck (c.write_blocks.ensures.queries worked)))
