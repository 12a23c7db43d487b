use Rattle.std.proofs.Common.{◌∙◌, sym, ap}
use Rattle.reply.specs.Replies.{reply_from_value}
use Rattle.reply.specs.declared.options.Options.{Options}
use Rattle.edited_table.specs.Answers.{c_exact_options, c_value_of}
use Rattle.edited_table.specs.TableValue.{c_query_table}
use Rattle.edited_table.proofs.Replied.{c_fault_text_answers_value}
use Rattle.edited_table.proofs.value_answer.answer_value.Goals as goal

pub returns-in-Bad-clause-answer : goal.returns-in-Bad-clause-answer
returns-in-Bad-clause-answer c =
    let value_or_fault = c_value_of (c_query_table c.args.content.now) c.args.expression.now in
    c.fault_answer.ensures
    ∙ c_fault_text_answers_value c.statuses_law.ensures c_exact_options value_or_fault c.in-Bad.text
    (ap (λ (o : Options). reply_from_value o value_or_fault) (sym c.exact_options-options.ensures.is)
    ∙ sym c.in_ok-x.ensures.value
    ∙ c.in-Bad.is)
