use Rattle.deck.specs.Tables.{table_of_deck}
use Rattle.expr_tree.specs.Trees.{syntax}
use Rattle.expr_tree.specs.Words.{words_in}
use Rattle.live_table.specs.Answers.{live_table_answer}
use Rattle.live_table.specs.States.{AsksWords}
use Rattle.reply.proofs.InquirySequence.{query_inquired}
use Rattle.reply.proofs.text_evaluation.evaluate_tree.Goals as goal

pub returns-clause-inquired : goal.returns-clause-inquired
returns-clause-inquired g c =
    query_inquired (AsksWords (words_in (syntax c.args.tree.now)))
    (live_table_answer (table_of_deck c.args.table.now.deck) (syntax c.args.tree.now))
    c.args.table.now c.value.new.self c.args.steps.now c.value.new.steps c.value.result c.value.ensures.answer
    c.value.ensures.after
