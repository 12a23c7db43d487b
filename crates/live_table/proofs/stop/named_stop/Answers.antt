use Rattle.deck.specs.Tables.{table_of_deck}
use Rattle.live_table.specs.TableContents.{node_lists}
use Rattle.live_table.proofs.StopAnswers.{at_named, below_known, below_named}
use Rattle.live_table.proofs.stop.named_stop.Goals as goal

pub returns-in-At : goal.returns-in-At
returns-in-At c =
    at_named (table_of_deck c.args.deck.now) (node_lists c.args.nodes.now) c.args.explored.now.dead_ends.items
    c.args.explored.now.findings.faults c.in-At.end c.args.stop.now c.in-At.is c.fault.result c.fault.ensures

pub fault_below-requires-clause-known : goal.fault_below-requires-clause-known
fault_below-requires-clause-known c =
    below_known (table_of_deck c.args.deck.now) (node_lists c.args.nodes.now) c.args.explored.now.dead_ends.items
    c.args.explored.now.findings.faults c.in-Below.step c.args.stop.now c.in-Below.is c.requires.named.0
    c.requires.named.1

pub returns-in-Below : goal.returns-in-Below
returns-in-Below c =
    below_named (table_of_deck c.args.deck.now) (node_lists c.args.nodes.now) c.args.explored.now.dead_ends.items
    c.args.explored.now.findings.faults c.in-Below.step c.args.stop.now c.in-Below.is c.fault_below.result
    c.fault_below.ensures
