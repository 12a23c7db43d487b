use Rattle.std.proofs.Common.{ap}
use Rattle.deck.specs.Tables.{table_of_deck}
use Rattle.reply.specs.declared.reply.Reply.{Reply}
use Rattle.survey.specs.ConversionReplies.{asked_conformable}
use Rattle.session.proofs.QueryReplies.{session_queries_give_reply}
use Rattle.session.proofs.session_queries.conformable.Goals as goal

pub returns-clause-reply : goal.returns-clause-reply
returns-clause-reply g c =
    let asked = asked_conformable (table_of_deck c.args.table.now.deck) c.args.options.now c.args.from.now in
    session_queries_give_reply asked.queries asked.reply.text c.in_ok-reply.reply.text c.args.table.now
    c.conformable_reply.new.table
    c.args.steps.now c.conformable_reply.new.steps (ap (λ (r : Reply). r.text) c.in_ok-reply.ensures.reply)
    c.in_ok-reply.ensures.queries c.conformable_reply.ensures.deck
