use Rattle.std.proofs.Common.{[], refl, subst, sym}
use Rattle.deck.specs.Tables.{table_of_deck}
use Rattle.live_table.specs.Calls.{AreLiveQueries}
use Rattle.live_table.proofs.QuerySequence.{no_live_events_keep_view}
use Rattle.reply.proofs.Runs.{inquiry_queries_made_or_cut}
use Rattle.reply.specs.declared.reply.FromValue.{FromValue}
use Rattle.survey.specs.ConversionReplies.{conformable_to}
use Rattle.survey.proofs.units_reply.conformable_to.Goals as goal

pub returns-in-Bad-clause-queries : goal.returns-in-Bad-clause-queries
returns-in-Bad-clause-queries g c =
    subst (λ (v : FromValue). AreLiveQueries (conformable_to (table_of_deck c.args.table.now.deck) v).queries
    c.fault_reply.result
    c.args.table.now c.args.table.now c.args.steps.now c.args.steps.now) (sym c.in-Bad.is)
    (inquiry_queries_made_or_cut c.fault_reply.result [] c.args.table.now c.args.table.now c.args.steps.now
    c.args.steps.now refl
    (no_live_events_keep_view c.args.table.now c.args.steps.now c.requires))
