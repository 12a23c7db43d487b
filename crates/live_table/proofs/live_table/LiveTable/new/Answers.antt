use Rattle.deck.specs.Tables.{table_of_deck}
use Rattle.live_table.specs.TableContents.{node_lists}
use Rattle.live_table.proofs.KnownFaults.{explored_faults_without_findings}
use Rattle.live_table.proofs.WaitingNames.{live_table_starts_without_edges}
use Rattle.live_table.proofs.EmptyTable.{start_sound}
use Rattle.live_table.proofs.StillExplored.{none_explored}
use Rattle.live_table.proofs.live_table.LiveTable.new.Goals as goal

pub invariant_of-result : goal.invariant_of-result
invariant_of-result c = (
  record {
    is_sound = start_sound c.args.deck (node_lists c.new.result) c.new.ensures;
    edges = live_table_starts_without_edges c.args.deck (node_lists c.new.result) c.new-2.result.waiting.items
        c.new-2.result.made
        c.new.ensures
        c.new-2.ensures.waiting c.new-2.ensures.made;
  },
  (
    none_explored (table_of_deck c.args.deck) (node_lists c.new.result) c.new-3.result.names
        c.new-3.result.dead_ends.items
        c.new-3.ensures.names,
    explored_faults_without_findings c.findings_law.ensures (node_lists c.new.result) c.new-3.result.names
        c.new-3.result.findings
        c.new-3.ensures.findings,
  ),
)
