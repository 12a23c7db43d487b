use Rattle.std.proofs.Common.{List, subst}
use Rattle.def_entry.specs.declared.key.Key.{Key}
use Rattle.deck.specs.Tables.{table_of_deck}
use Rattle.live_table.specs.Forgotten.{AreForgotten}
use Rattle.live_table.specs.TableContents.{node_lists}
use Rattle.live_table.proofs.AfterForgetting.{is_edit, live_after}
use Rattle.live_table.proofs.KnownFaults.{explored_faults_without_findings}
use Rattle.live_table.proofs.StillExplored.{none_explored}
use Rattle.live_table.proofs.WaitingNames.{live_table_is_linked, settled_edges_are_not_late}
use Rattle.live_table.proofs.invalidation.forget_changed.Goals as goal
use Rattle.live_table.proofs.invalidation.forget_changed.Goals.{After-forget}

-- the names that a change of the given keys affects are forgotten
forgotten : (c : After-forget)
    → AreForgotten (table_of_deck c.args.deck.now) c.args.keys.now (node_lists c.args.nodes.now)
    (node_lists c.forget.new.nodes)
    c.args.edges.now.made c.forget.new.edges
forgotten c =
    subst (λ (keys : List Key). AreForgotten (table_of_deck c.args.deck.now) keys (node_lists c.args.nodes.now)
    (node_lists c.forget.new.nodes)
    c.args.edges.now.made c.forget.new.edges) c.as_slice.ensures c.forget.ensures.forgotten

pub returns-clause-live : goal.returns-clause-live
returns-clause-live c before r live change =
    let after = live_after before c.args.deck.now (node_lists c.args.nodes.now) (node_lists c.forget.new.nodes)
    c.args.edges.now.made c.forget.new.edges r c.args.keys.now
    (live_table_is_linked before (node_lists c.args.nodes.now) c.args.edges.now r c.requires.all live) change
    (forgotten (goal.at.returns-clause-live c).After-forget) c.changes_are_computed.ensures in
    record { is_sound = after.is_sound; edges = settled_edges_are_not_late _ _ _ _ c.requires.all after.edges }

pub returns-clause-edit : goal.returns-clause-edit
returns-clause-edit c before r live change =
    is_edit before c.args.deck.now (node_lists c.args.nodes.now) (node_lists c.forget.new.nodes) c.args.edges.now.made
    c.forget.new.edges r c.args.keys.now
    (live_table_is_linked before (node_lists c.args.nodes.now) c.args.edges.now r c.requires.all live) change
    (forgotten (goal.at.returns-clause-edit c).After-forget) c.changes_are_computed.ensures

pub returns-clause-explored : goal.returns-clause-explored
returns-clause-explored c =
    none_explored (table_of_deck c.args.deck.now) (node_lists c.forget.new.nodes) c.forget.new.explored.names
    c.forget.new.explored.dead_ends.items c.forget.ensures.names

pub returns-clause-faults : goal.returns-clause-faults
returns-clause-faults c =
    explored_faults_without_findings c.findings_law.ensures (node_lists c.forget.new.nodes) c.forget.new.explored.names
    c.forget.new.explored.findings c.forget.ensures.findings
