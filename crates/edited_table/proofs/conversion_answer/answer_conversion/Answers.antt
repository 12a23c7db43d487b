use Rattle.std.proofs.Common.{◌∙◌, ap}
use Rattle.edited_table.specs.Answers.{c_reply_answer}
use Rattle.edited_table.specs.TableValue.{c_query_table}
use Rattle.edited_table.proofs.Replied.{c_reply_answers_conversion}
use Rattle.edited_table.proofs.conversion_answer.answer_conversion.Goals as goal

pub returns-clause-answer : goal.returns-clause-answer
returns-clause-answer c =
    c.reply_answer.ensures ∙ ap c_reply_answer c.in_ok-reply.ensures.reply
    ∙ c_reply_answers_conversion c.statuses_law.ensures (c_query_table c.args.content.now) c.args.options.now
    c.args.from.now c.args.to.now
