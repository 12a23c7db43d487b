use Rattle.deck.specs.Tables.{table_of_deck}
use Rattle.live_table.specs.TableEdges.{HasLateSettledEdges}
use Rattle.live_table.specs.Exploration.{StayExplored}
use Rattle.live_table.specs.KnownFaults.{AreMoreNamesSettled}
use Rattle.live_table.specs.TableContents.{node_lists}
use Rattle.live_table.proofs.SettleAll.{IsStanding}
use Rattle.live_table.proofs.settlement.settle.Given as goal

abbrev pub invariant-loop-n : goal.invariant-loop-n
invariant-loop-n g l =
    (IsStanding l.deck (node_lists l.fn.nodes) (node_lists l.nodes) l.fn.reductions l.reductions l.order
    l.n-index l.fn.steps l.steps
    × HasLateSettledEdges l.deck (node_lists l.nodes) l.edges.waiting.items l.edges.made
    × StayExplored (table_of_deck l.deck) (node_lists l.fn.nodes) (node_lists l.nodes)
    × AreMoreNamesSettled (node_lists l.fn.nodes) (node_lists l.nodes))
