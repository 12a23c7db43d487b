use Rattle.std.proofs.Common.{List, Bool, not, sym, ap, subst, ◌∙◌}
use Rattle.deck.specs.Tables.{table_of_deck}
use Rattle.name_walk.specs.Findings.{IsFirstFaultyWalkStep}
use Rattle.name_walk.specs.Steps.{Graph, StayInGraph}
use Rattle.name_walk.specs.Walks.{IsWalked}
use Rattle.live_table.specs.TableContents.{node_lists}
use Rattle.live_table.proofs.AllExplored.{explored_all}
use Rattle.live_table.proofs.KnownFaults.{equal_walk_closes_unsettled, faultless_walk_closes_unsettled}
use Rattle.live_table.proofs.fault_search.first_faulty.Goals as goal

-- ---- there were no findings
pub walk-requires-clause-query : goal.walk-requires-clause-query
walk-requires-clause-query c =
    subst (λ (h : Graph). StayInGraph h c.args.query.now) (sym c.deref.ensures.value)
    (λ m i. (explored_all (table_of_deck c.args.deck.now) (node_lists c.args.nodes.now) c.args.explored.now.names
    c.args.worklist.now c.args.explored.now.dead_ends.items c.requires.nodes c.requires.all).numbers_are.known_in_range
    m
    (c.requires.known m i))

pub returns-then-is_none-clause-found : goal.returns-then-is_none-clause-found
returns-then-is_none-clause-found c =
    faultless_walk_closes_unsettled (node_lists c.args.nodes.now) c.args.query.now c.walk.new.self _
    (c.is_none.ensures ∙ ap not c.if-is_none.true)
    (subst (λ (p : Graph × List Bool). IsWalked p.0 p.1 c.args.query.now c.walk.new.self c.in_ok-walk.field-0)
    (λ i. (c.deref.ensures.value i, c.deref-2.ensures.value i)) c.in_ok-walk.ensures.walked)

-- ---- there were findings
pub walk-requires-2-clause-query : goal.walk-requires-2-clause-query
walk-requires-2-clause-query c =
    subst (λ (h : Graph). StayInGraph h c.args.query.now) (sym c.deref.ensures.value)
    (λ m i. (explored_all (table_of_deck c.args.deck.now) (node_lists c.args.nodes.now) c.args.explored.now.names
    c.args.worklist.now c.args.explored.now.dead_ends.items c.requires.nodes c.requires.all).numbers_are.known_in_range
    m
    (c.requires.known m i))

pub returns-clause-found : goal.returns-clause-found
returns-clause-found c =
    equal_walk_closes_unsettled (node_lists c.args.nodes.now) c.args.query.now c.walk-2.new.self _
    (subst (IsFirstFaultyWalkStep (node_lists c.args.nodes.now).graph c.args.query.now
    c.find_faulty.new.explored.findings.faults)
    c.in_default.is c.in_ok-step.ensures.found) _ _ c.deref.ensures.value c.deref-2.ensures.value
    c.in_ok-walk-2.ensures.walked
