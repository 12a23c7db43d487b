use Rattle.std.proofs.Common.{inr, subst}
use Rattle.deck.specs.Tables.{table_of_deck}
use Rattle.name_walk.specs.Findings.{IsFirstFaultyWalkStep}
use Rattle.live_table.specs.TableContents.{node_lists}
use Rattle.live_table.proofs.StopAnswers.{live_stop_at_cut, live_stop_below_cut}
use Rattle.live_table.proofs.name_queries.cut_stop.Goals as goal

pub returns-in-Ok-Some-clause-stop : goal.returns-in-Ok-Some-clause-stop
returns-in-Ok-Some-clause-stop c =
    let found = subst (IsFirstFaultyWalkStep (node_lists c.args.nodes.now).graph c.args.query.now
    c.find_faulty.new.explored.findings.faults) c.in-Ok-Some.field-0-is c.in-Ok-Some.ensures.found in
    inr (live_stop_below_cut (table_of_deck c.args.deck.now) (node_lists c.args.nodes.now)
    c.args.explored.now.dead_ends.items
    c.find_faulty.new.explored.findings.faults c.args.query.now c.args.end c.in-Ok-Some.step found.0 found.1)

pub returns-in-Ok-None-clause-stop : goal.returns-in-Ok-None-clause-stop
returns-in-Ok-None-clause-stop c =
    inr (live_stop_at_cut (table_of_deck c.args.deck.now) (node_lists c.args.nodes.now)
    c.args.explored.now.dead_ends.items
    c.find_faulty.new.explored.findings.faults c.args.query.now c.args.end
    (subst (IsFirstFaultyWalkStep (node_lists c.args.nodes.now).graph c.args.query.now
    c.find_faulty.new.explored.findings.faults) c.in-Ok-None.field-0-is c.in-Ok-None.ensures.found))
