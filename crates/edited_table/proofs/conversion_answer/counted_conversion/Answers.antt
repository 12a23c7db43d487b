use Rattle.std.proofs.Common.{◌≡◌, IfOk, subst}
use Rattle.edited_table.specs.TableValue.{EditedTableView, c_query_table}
use Rattle.edited_table.proofs.conversion_answer.counted_conversion.Goals as goal
use Rattle.reply.specs.Replies.{conversion_reply}
use Rattle.reply.specs.declared.reply.Reply.{Reply}

pub returns-clause-reply : goal.returns-clause-reply
returns-clause-reply g c =
    subst (λ (e : EditedTableView). IfOk c.convert_reply.result (λ (reply : Reply). reply ≡ conversion_reply
    (c_query_table e) c.args.question.now.options.now c.args.question.now.from.now c.args.question.now.to.now))
    c.content.view_is c.convert_reply.ensures.reply
