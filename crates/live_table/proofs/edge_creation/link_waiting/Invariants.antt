use Rattle.std.specs.Prelude.{length}
use Rattle.live_table.specs.TableEdges.{HasLateSettledEdges}
use Rattle.live_table.specs.TableContents.{node_lists}
use Rattle.live_table.proofs.edge_creation.link_waiting.Given as goal

abbrev pub invariant-loop-n : goal.invariant-loop-n
invariant-loop-n l = HasLateSettledEdges l.deck (node_lists l.nodes) l.edges.waiting.items l.edges.made

abbrev pub decreases-loop-n : goal.decreases-loop-n
decreases-loop-n l = length l.edges.waiting.items
