use Rattle.std.proofs.Common.{◌^◌, ◌-◌}
use Rattle.deck.specs.Tables.{table_of_deck}
use Rattle.live_table.specs.TableContents.{node_lists}
use Rattle.live_table.proofs.DefinitionSearch.{IsFinding}
use Rattle.live_table.proofs.ReachedNames.{IsExploring}
use Rattle.live_table.proofs.exploration.explore.Given as goal

abbrev pub invariant-loop-n : goal.invariant-loop-n
invariant-loop-n l = (IsExploring (table_of_deck l.deck) (node_lists l.fn.nodes) (node_lists l.nodes) l.explored
    l.fn.worklist
    l.worklist
    l.fn.dead_ends.items l.dead_ends.items l.place
    × IsFinding (table_of_deck l.deck) l.nodes.keys l.worklist l.found.items l.place)

abbrev pub decreases-loop-n : goal.decreases-loop-n
decreases-loop-n l = 2 ^ 64 - l.place
