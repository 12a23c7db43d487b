use Rattle.std.proofs.Common.{◌<◌, Bool, IfOk, List, length, subst, sym, arith}
use Rattle.deck.specs.Tables.{table_of_deck}
use Rattle.name_walk.specs.Findings.{AreRightWalkFindings, AreWalkedFromQuery, IsFirstFaultyWalkStep, WalkFindings}
use Rattle.name_walk.specs.Steps.{Graph, StayInGraph}
use Rattle.live_table.specs.declared.dead_end.DeadEnd.{DeadEnd}
use Rattle.live_table.specs.Exploration.{WereExplored}
use Rattle.live_table.specs.TableContents.{node_lists}
use Rattle.live_table.proofs.AllExplored.{explored_all}
use Rattle.live_table.proofs.KnownFaults.{explored_faults_without_findings, found_among}
use Rattle.live_table.proofs.StillExplored.{none_explored, put_explored}
use Rattle.live_table.proofs.fault_search.find_faulty.Goals as goal

pub put_all-requires : goal.put_all-requires
put_all-requires c m i =
    let h : m < length c.args.nodes.now.keys = c.requires.all.list_right.listed_in_table m i in
    let e = c.len.ensures in
    omega (arith, h, e)

-- ---- memory runs out
pub returns-in_err-put_all-clause-explored : goal.returns-in_err-put_all-clause-explored
returns-in_err-put_all-clause-explored c =
    none_explored (table_of_deck c.args.deck.now) (node_lists c.args.nodes.now) c.put_all.new.self.names
    c.put_all.new.self.dead_ends.items c.in_err-put_all.ensures.err

pub returns-in_err-put_all-clause-faults : goal.returns-in_err-put_all-clause-faults
returns-in_err-put_all-clause-faults c =
    explored_faults_without_findings c.findings_law.ensures (node_lists c.args.nodes.now) c.put_all.new.self.names
    c.put_all.new.self.findings c.in_err-put_all.ensures.none

-- ---- the search
pub find-requires-clause-query : goal.find-requires-clause-query
find-requires-clause-query c =
    subst (λ (h : Graph). StayInGraph h c.args.query.now) (sym c.deref.ensures.value)
    (λ m i. (explored_all (table_of_deck c.args.deck.now) (node_lists c.args.nodes.now) c.args.explored.now.names
    c.args.worklist.now c.args.explored.now.dead_ends.items c.requires.nodes c.requires.all).numbers_are.known_in_range
    m
    (c.requires.known m i))

pub find-requires-clause-right : goal.find-requires-clause-right
find-requires-clause-right c =
    subst (λ (p : (Graph × List Bool) × WalkFindings). AreRightWalkFindings p.0.0 p.0.1 p.1)
    (λ i. ((sym c.deref.ensures.value i, sym c.deref-2.ensures.value i), sym c.in_ok-put_all.ensures.kept i))
    c.requires.faults.is_right

pub returns-clause-explored : goal.returns-clause-explored
returns-clause-explored c =
    subst (λ (ends : List DeadEnd). WereExplored (table_of_deck c.args.deck.now) (node_lists c.args.nodes.now)
    c.put_all.new.self.names ends) (sym c.put_all.ensures.dead_ends)
    (put_explored (table_of_deck c.args.deck.now) (node_lists c.args.nodes.now) c.args.explored.now.names
    c.args.worklist.now
    c.put_all.new.self.names c.args.explored.now.dead_ends.items c.requires.all c.in_ok-put_all.ensures.ok)

pub returns-clause-faults : goal.returns-clause-faults
returns-clause-faults c = record {
  is_right = subst (λ (p : Graph × List Bool). AreRightWalkFindings p.0 p.1 c.find.new.self)
      (λ i. (c.deref.ensures.value i, c.deref-2.ensures.value i)) c.find.ensures.right;
  names_explored = found_among (table_of_deck c.args.deck.now) (node_lists c.args.nodes.now) c.args.explored.now.names
      c.args.worklist.now
      c.args.explored.now.dead_ends.items c.requires.nodes c.requires.all c.args.query.now
      c.args.explored.now.findings.names c.find.new.self.names c.put_all.new.self.names c.requires.known
      c.requires.faults.names_explored
      (subst (λ (p : (Graph × List Bool) × WalkFindings). AreWalkedFromQuery p.0.0 p.0.1 c.args.query.now p.1.names
      c.find.new.self.names)
      (λ i. ((c.deref.ensures.value i, c.deref-2.ensures.value i), c.in_ok-put_all.ensures.kept i))
      c.find.ensures.names) c.in_ok-put_all.ensures.ok;
}

pub returns-clause-found : goal.returns-clause-found
returns-clause-found c =
    subst (λ (h : Graph). IfOk c.find.result (IsFirstFaultyWalkStep h c.args.query.now c.find.new.self.faults))
    c.deref.ensures.value c.find.ensures.found
