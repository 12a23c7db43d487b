use Rattle.deck.specs.Tables.{table_of_deck}
use Rattle.live_table.specs.TableContents.{node_lists}
use Rattle.live_table.proofs.TriedNumbers.{AreFirstGathered}
use Rattle.live_table.proofs.tried_numbers.gather_others.Given as goal

abbrev pub invariant-loop-place : goal.invariant-loop-place
invariant-loop-place l =
    AreFirstGathered (table_of_deck l.deck) (node_lists l.fn.nodes) (node_lists l.nodes) l.tried l.fn.nodes.gathered
    l.nodes.gathered
    l.place
