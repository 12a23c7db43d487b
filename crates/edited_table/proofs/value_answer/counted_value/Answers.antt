use Rattle.std.proofs.Common.{◌≡◌, IfOk, subst}
use Rattle.edited_table.specs.TableValue.{EditedTableView, c_query_table}
use Rattle.edited_table.proofs.value_answer.counted_value.Goals as goal
use Rattle.reply.specs.Replies as replies
use Rattle.reply.specs.declared.reply.FromValue.{FromValue}

pub returns-clause-value : goal.returns-clause-value
returns-clause-value g c =
    subst (λ (e : EditedTableView). IfOk c.from_value.result (λ (value : FromValue). value ≡ replies.from_value
    (c_query_table e) c.args.options.now c.args.expression.now))
    c.content.view_is c.from_value.ensures.value
