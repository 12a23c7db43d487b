use Rattle.std.proofs.Common.{[], ap, subst, unwrap_or, ◌∙◌}
use Rattle.deck.specs.Decks.{DeckContents}
use Rattle.deck.specs.Tables.{table_of_deck}
use Rattle.def_lines.specs.Lines.{line_content}
use Rattle.session.specs.Lines.{session_lines_of_texts}
use Rattle.survey.specs.ConversionReplies.{SurveyedReply}
use Rattle.units_run.specs.Options.{run_options}
use Rattle.units_run.specs.ProgramPlans.{IsPlan}
use Rattle.units_run.specs.Work.{plan_of_reply}
use Rattle.units_run.specs.declared.plan.Plan.TheVariants.{Whole}
use Rattle.units_run.proofs.DeckPlans.{reply-planned, run_reply_for_equal_texts}
use Rattle.units_run.proofs.work.reply_plan.Goals as goal

pub returns-clause-if_known : goal.returns-clause-if_known
returns-clause-if_known g c = λ m.
    let deck = c.args.table.now.deck in
    subst
    (λ (a : SurveyedReply). IsPlan (plan_of_reply deck a) m
    (Whole (record { out = c.into_bytes.result; err = c.in_ok-notices.notices }) c.reply_status-status.result)
    c.args.steps.now c.ask.new.steps)
    (run_reply_for_equal_texts (table_of_deck deck) c.options_of-options.result (run_options c.args.line.now)
    c.line_content.result.now
    (line_content c.args.from.now) c.to_text.result.now (line_content (unwrap_or c.args.line.now.to []))
    c.options_of-options.ensures.is c.line_content.ensures c.to_text.ensures)
    (reply-planned c.leaves_law.ensures deck c.args.table.now c.ask.new.table c.args.steps.now c.ask.new.steps
    c.requires.fresh m _ c.in_ok-reply.reply (record { out = c.into_bytes.result; err = c.in_ok-notices.notices })
    c.reply_status-status.result c.in_ok-reply.ensures c.into_bytes.ensures
    (c.in_ok-notices.ensures ∙ ap (λ (d : DeckContents). session_lines_of_texts d.notices) c.deck.ensures.deck)
    c.reply_status-status.ensures.is)
