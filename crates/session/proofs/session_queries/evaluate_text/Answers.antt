use Rattle.deck.specs.Tables.{table_of_deck}
use Rattle.reply.specs.Replies.{from_value, inquiry_value_queries}
use Rattle.session.proofs.QueryReplies.{session_queries_reply_or_fail}
use Rattle.session.proofs.session_queries.evaluate_text.Goals as goal

pub returns-clause-reply : goal.returns-clause-reply
returns-clause-reply g c =
    let t = table_of_deck c.args.table.now.deck in
    session_queries_reply_or_fail (inquiry_value_queries t c.args.text.now)
    (from_value t c.args.options.now c.args.text.now) c.from_value.result
    c.args.table.now c.from_value.new.table c.args.steps.now c.from_value.new.steps c.from_value.ensures.value
    c.from_value.ensures.queries c.from_value.ensures.deck
