use Rattle.std.proofs.Common.{◌≡◌, subst, sym}
use Rattle.std.specs.Prelude.{Result, IfOk}
use Rattle.std.specs.declared.alloc.AllocError.{AllocError}
use Rattle.std.proofs.lemmas.Result.{err_from_is_err_and}
use Rattle.deck.specs.Tables.{table_of_deck}
use Rattle.live_table.specs.Calls.{AreLiveQueries}
use Rattle.live_table.proofs.Runs.{live_event_run_law}
use Rattle.reply.specs.Replies.{from_value, inquiry_value_queries}
use Rattle.reply.specs.declared.reply.Reply.{Reply}
use Rattle.survey.specs.ConversionReplies.{SurveyedReply, asked_conformable, conformable_to}
use Rattle.survey.proofs.QueriesAfter.{conformable_units_of_equal_values, survey_queries_appended}
use Rattle.survey.proofs.units_reply.conformable_reply.Goals as goal

pub returns-in_err-value-clause-queries : goal.returns-in_err-value-clause-queries
returns-in_err-value-clause-queries g c =
    let t = table_of_deck c.args.table.now.deck in
    let p = err_from_is_err_and c.from_residual.result c.from_residual.ensures.1 in
    subst (λ (r : Result Reply AllocError).
    AreLiveQueries (asked_conformable t c.args.options.now c.args.from.now).queries
    r
    c.args.table.now c.from_value.new.table c.args.steps.now c.from_value.new.steps) (sym p.1)
    (live_event_run_law.cut_before (inquiry_value_queries t c.args.from.now)
    (conformable_to t (from_value t c.args.options.now c.args.from.now)).queries c.args.table.now
    c.from_value.new.table c.args.steps.now c.from_value.new.steps c.in_err-value.ensures.queries)

pub returns-clause-reply : goal.returns-clause-reply
returns-clause-reply g c =
    let t = table_of_deck c.args.table.now.deck in
    subst (λ (asked : SurveyedReply). IfOk c.conformable_to.result (λ reply. reply ≡ asked.reply))
    (conformable_units_of_equal_values c.from_value.new.table.deck c.args.table.now.deck c.in_ok-value.value
    (from_value t c.args.options.now c.args.from.now) c.from_value.ensures.deck c.in_ok-value.ensures.value)
    c.conformable_to.ensures.reply

pub returns-clause-queries : goal.returns-clause-queries
returns-clause-queries g c =
    let t = table_of_deck c.args.table.now.deck in
    let value = from_value t c.args.options.now c.args.from.now in
    survey_queries_appended (inquiry_value_queries t c.args.from.now) (conformable_to t value).queries
    c.conformable_to.result
    c.args.table.now
    c.from_value.new.table c.conformable_to.new.table c.args.steps.now c.from_value.new.steps c.conformable_to.new.steps
    c.from_value.ensures.deck c.in_ok-value.ensures.queries
    (subst (λ (asked : SurveyedReply). AreLiveQueries asked.queries c.conformable_to.result c.from_value.new.table
    c.conformable_to.new.table c.from_value.new.steps c.conformable_to.new.steps)
    (conformable_units_of_equal_values c.from_value.new.table.deck c.args.table.now.deck c.in_ok-value.value value
    c.from_value.ensures.deck
    c.in_ok-value.ensures.value)
    c.conformable_to.ensures.queries)
