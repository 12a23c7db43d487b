use Rattle.deck.specs.Tables.{table_of_deck}
use Rattle.live_table.specs.TableContents.{node_lists}
use Rattle.live_table.proofs.WrittenSteps.{IsPutting}
use Rattle.live_table.proofs.word_steps.put_words.Given as goal

abbrev pub invariant-loop-u : goal.invariant-loop-u
invariant-loop-u l =
    IsPutting (table_of_deck l.deck) (node_lists l.fn.nodes) (node_lists l.nodes) l.explored l.fn.worklist l.worklist
    l.fn.dead_ends.items l.dead_ends.items l.nodes.gathered l.words l.steps l.u-index
