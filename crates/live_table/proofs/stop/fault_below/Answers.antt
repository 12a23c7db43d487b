use Rattle.std.proofs.Common.{◌≡◌, List, subst}
use Rattle.std.specs.Prelude.{IfOk}
use Rattle.def_entry.specs.Tables.{EntryTable}
use Rattle.deck.specs.Tables.{table_of_deck}
use Rattle.name_walk.specs.Walks.{walk_fault_view}
use Rattle.table_names.specs.NumberedNames.{fault_by_name}
use Rattle.live_table.specs.declared.dead_end.DeadEnd.{DeadEnd}
use Rattle.live_table.specs.ExploredNames.{explored_fault_at}
use Rattle.live_table.specs.TableContents.{node_key_at, node_lists}
use Rattle.live_table.proofs.StopAnswers.{live_stop_by_number}
use Rattle.live_table.proofs.stop.fault_below.Goals as goal

pub returns : goal.returns
returns c =
    live_stop_by_number (table_of_deck c.args.deck.now) (node_lists c.args.nodes.now)
    c.args.explored.now.dead_ends.items c.args.step
    (walk_fault_view c.in_ok-fault.fault)
    (c.in_ok-fault.ensures (node_lists c.args.nodes.now).graph (node_lists c.args.nodes.now).settled_flags
    c.requires.nodes.net
    c.requires.faults.is_right) c.named_fault.result
    (subst (λ (ends : List DeadEnd). IfOk c.named_fault.result (λ f. (t : EntryTable)
    → f ≡ fault_by_name t (node_key_at c.args.nodes.now.keys) (explored_fault_at ends)
    (walk_fault_view c.in_ok-fault.fault)))
    c.as_slice-dead_ends.ensures.value c.named_fault.ensures)
