use Rattle.deck.specs.Tables.{table_of_deck}
use Rattle.live_table.specs.TableContents.{node_lists}
use Rattle.live_table.proofs.QuerySteps.{IsStepping}
use Rattle.live_table.proofs.query_words.query_steps.Given as goal

abbrev pub invariant-loop-u : goal.invariant-loop-u
invariant-loop-u l =
    IsStepping (table_of_deck l.deck) (node_lists l.fn.nodes) (node_lists l.nodes) l.explored l.fn.worklist l.worklist
    l.words
    l.steps
    l.u-index
