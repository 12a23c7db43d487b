use Rattle.std.proofs.Common.{◌∙◌, ℕ, List, Option, ap, map, subst}
use Rattle.deck.specs.Tables.{table_of_deck}
use Rattle.reply.specs.declared.reply.Reply.{Reply}
use Rattle.survey.specs.ConversionReplies.{asked_conversion}
use Rattle.session.specs.Parts.{IsSessionAnswerGiven}
use Rattle.session.specs.Sessions.{session_and_files, session_in}
use Rattle.session.specs.Steps.{session_expression_answer}
use Rattle.session.proofs.QueryReplies.{pending_conversion_is_answered, session_queries_give_reply}
use Rattle.session.proofs.workspace.Workspace.answer_expression.Goals as goal
use Rattle.watch.specs.WatchViews.{subject_of_watch}

pub returns-in_default-clause-answer : goal.returns-in_default-clause-answer
returns-in_default-clause-answer g c = λ m.
    subst (λ (p : Option (List ℕ)). IsSessionAnswerGiven
    (session_expression_answer p c.args.text.now (session_and_files (session_in c.args.self.now) m))
    c.take_from.result (session_in c.take_from.new.self) c.args.steps.now c.take_from.new.steps)
    (c.in_default.ensures {u = tt}).value (c.take_from.ensures.answer m)

pub returns-clause-answer : goal.returns-clause-answer
returns-clause-answer g c = λ m.
    let old = c.args.self.now in
    let asked =
    asked_conversion (table_of_deck old.table.deck) old.options c.as_bytes-from.result.now c.args.text.now in
    pending_conversion_is_answered old.options old.table c.convert_reply.new.table old.history old.pending
    c.take.new.self
    (map subject_of_watch old.watches) m c.in-Some.from c.as_bytes-from.result.now c.args.text.now c.output_reply.result
    c.args.steps.now c.convert_reply.new.steps c.in-Some.ensures.value c.in-Some.ensures.after c.as_bytes-from.ensures
    (session_queries_give_reply asked.queries asked.reply.text c.output_reply.result.out old.table
    c.convert_reply.new.table
    c.args.steps.now c.convert_reply.new.steps
    (c.output_reply.ensures.out ∙ ap (λ (r : Reply). r.text) c.in_ok-reply.ensures.reply)
    c.in_ok-reply.ensures.queries c.convert_reply.ensures.deck)
    c.output_reply.ensures.err c.convert_reply.ensures.deck
