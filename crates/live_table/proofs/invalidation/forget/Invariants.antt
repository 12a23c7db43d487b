use Rattle.std.proofs.Common.{take}
use Rattle.deck.specs.Tables.{table_of_deck}
use Rattle.live_table.specs.Forgotten.{AreForgotten}
use Rattle.live_table.specs.TableContents.{node_lists}
use Rattle.live_table.proofs.invalidation.forget.Given as goal

abbrev pub invariant-loop-key : goal.invariant-loop-key
invariant-loop-key l =
    AreForgotten (table_of_deck l.deck) (take l.key-index l.keys) (node_lists l.fn.nodes) (node_lists l.nodes)
    l.fn.edges
    l.edges
