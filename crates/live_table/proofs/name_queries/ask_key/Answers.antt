use Rattle.std.proofs.Common.{◌∷◌, [], Ok, Err, Result, refl, ◌∙◌, ap}
use Rattle.std.proofs.lemmas.Result.{err_from_is_err_and}
use Rattle.def_entry.specs.Keys.{key as key_named}
use Rattle.deck.specs.Tables.{table_of_deck}
use Rattle.name_walk.specs.declared.step.Step.TheVariants.{To}
use Rattle.table_names.specs.Faults.{key_fault}
use Rattle.table_names.specs.Reach.{key_reach}
use Rattle.live_table.specs.declared.fault.QueryFault.{QueryFault}
use Rattle.live_table.specs.declared.fault.QueryFault.TheVariants as fault
use Rattle.live_table.specs.QueryEffects.{IsLiveQueryAnswered, IsSettledKey}
use Rattle.live_table.specs.TableEdges.{IsLive}
use Rattle.live_table.specs.Exploration.{AreNodesGrown, WereExplored}
use Rattle.live_table.specs.KnownFaults.{AreExploredFaultsKnown}
use Rattle.live_table.specs.States.{AsksKey}
use Rattle.live_table.specs.TableContents.{live_view_of_nodes, node_lists}
use Rattle.live_table.proofs.AskedKeys.{IsNumber, key_explored_fault, key_explored_settled, one_known}
use Rattle.live_table.proofs.AddedNames.{empty_list_is_agenda}
use Rattle.live_table.proofs.GrownLive.{grown_live, live_query_cut_before_walk, live_query_of_key}
use Rattle.live_table.proofs.KnownFaults.{added_nodes_keep_steps, explored_faults_after_growth}
use Rattle.live_table.proofs.Stages.{AreAllStages, AreStages, Stages, cut_there, live_there, stages_of}
use Rattle.live_table.proofs.StillExplored.{added_explored}
use Rattle.live_table.proofs.StopAnswers.{answers_ok, no_memory, passed_on}
use Rattle.live_table.proofs.name_queries.ask_key.Goals as goal
use Rattle.live_table.proofs.name_queries.ask_key.Goals.{After-explore, After-put_key, After-settle_query, In_ok-found}

pub put_key-requires-clause-listed : goal.put_key-requires-clause-listed
put_key-requires-clause-listed g c =
    empty_list_is_agenda (table_of_deck c.args.deck.now) (node_lists c.args.nodes.now) c.args.explored.now.names
    c.clear.new.self
    c.requires.explored.explored_in_table c.clear.ensures

-- ---- the key has a number
-- names are added
grown : (g : _) (c : After-put_key g)
    → AreNodesGrown (table_of_deck c.args.deck.now) (node_lists c.args.nodes.now) (node_lists c.put_key.new.nodes)
    c.args.explored.now.names c.clear.new.self c.put_key.new.worklist c.args.explored.now.dead_ends.items
    c.args.explored.now.dead_ends.items
grown g c = (c.put_key.ensures.added c.args.explored.now.dead_ends.items).growth

-- explored names stay explored
still : (g : _) (c : After-put_key g)
    → WereExplored (table_of_deck c.args.deck.now) (node_lists c.put_key.new.nodes) c.args.explored.now.names
    c.args.explored.now.dead_ends.items
still g c =
    added_explored (table_of_deck c.args.deck.now) (node_lists c.args.nodes.now) (node_lists c.put_key.new.nodes)
    c.args.explored.now.names c.clear.new.self c.put_key.new.worklist c.args.explored.now.dead_ends.items
    c.args.explored.now.dead_ends.items c.requires.live.is_sound.numbers
    (c.put_key.ensures.added c.args.explored.now.dead_ends.items) c.requires.explored

-- the facts known about faults stay right
known_led : (g : _) (c : After-put_key g)
    → AreExploredFaultsKnown (node_lists c.put_key.new.nodes) c.args.explored.now.names c.args.explored.now.findings
known_led g c =
    explored_faults_after_growth c.findings_law.ensures (table_of_deck c.args.deck.now) (node_lists c.args.nodes.now)
    (node_lists c.put_key.new.nodes) c.args.explored.now.names c.clear.new.self c.put_key.new.worklist
    c.args.explored.now.dead_ends.items c.args.explored.now.dead_ends.items c.args.explored.now.findings
    c.requires.live.is_sound.numbers (grown g c)
    (added_nodes_keep_steps (table_of_deck c.args.deck.now) (node_lists c.args.nodes.now)
    (node_lists c.put_key.new.nodes)
    c.args.explored.now.names c.clear.new.self c.put_key.new.worklist c.args.explored.now.dead_ends.items
    c.args.explored.now.dead_ends.items (c.put_key.ensures.added c.args.explored.now.dead_ends.items)
    c.requires.explored) c.requires.faults

pub returns-in_err-n-clause-faults : goal.returns-in_err-n-clause-faults
returns-in_err-n-clause-faults g c = known_led g (goal.at.returns-in_err-n-clause-faults g c).After-put_key

pub returns-in_err-n-clause-live : goal.returns-in_err-n-clause-live
returns-in_err-n-clause-live g c =
    grown_live c.args.deck.now (node_lists c.args.nodes.now) (node_lists c.put_key.new.nodes) c.args.explored.now.names
    c.clear.new.self c.put_key.new.worklist c.args.explored.now.dead_ends.items c.args.explored.now.dead_ends.items
    c.args.reductions.now (grown g (goal.at.returns-in_err-n-clause-live g c).After-put_key) c.args.edges.now
    c.requires.live

pub returns-in_err-n-clause-explored : goal.returns-in_err-n-clause-explored
returns-in_err-n-clause-explored g c = still g (goal.at.returns-in_err-n-clause-explored g c).After-put_key

pub returns-in_err-n-clause-asked : goal.returns-in_err-n-clause-asked
returns-in_err-n-clause-asked g c =
    let t = table_of_deck c.args.deck.now in
    let k = key_named c.args.kind c.args.name.now in
    let p = err_from_is_err_and c.from_residual.result c.from_residual.ensures.1 in
    no_memory t (node_lists c.put_key.new.nodes) c.args.explored.now.dead_ends.items
    c.args.explored.now.findings.faults _ c.from_residual.result (p.1 ∙ ap Err p.2)
    (live_query_cut_before_walk (IsSettledKey (node_lists c.put_key.new.nodes) k) (AsksKey k) (key_fault t k)
    (k ∷ key_reach t k)
    c.args.deck.now (node_lists c.args.nodes.now) (node_lists c.put_key.new.nodes) c.args.explored.now.names
    c.clear.new.self c.put_key.new.worklist c.args.explored.now.dead_ends.items c.args.explored.now.dead_ends.items
    c.args.reductions.now c.args.steps.now
    (grown g (goal.at.returns-in_err-n-clause-asked g c).After-put_key) c.requires.live.is_sound (live_query_of_key t k)
    (Err fault.OutOfMemory) refl)

pub explore-requires-clause-nodes : goal.explore-requires-clause-nodes
explore-requires-clause-nodes g c = (grown g (goal.at.explore-requires-clause-nodes g c).After-put_key).nodes

pub explore-requires-clause-listed : goal.explore-requires-clause-listed
explore-requires-clause-listed g c = (grown g (goal.at.explore-requires-clause-listed g c).After-put_key).list_right

pub explore-requires-clause-before : goal.explore-requires-clause-before
explore-requires-clause-before g c = still g (goal.at.explore-requires-clause-before g c).After-put_key

-- ---- the names below the key were explored
abbrev stages : (g : _) → After-explore g → Stages
stages g c =
    stages_of c.args.deck.now c.args.reductions.now c.args.explored.now c.args.nodes.now c.put_key.new.nodes
    c.explore.new.nodes c.clear.new.self c.put_key.new.worklist c.explore.new.worklist c.explore.new.dead_ends.items

-- each stage adds to the one before it
are_stages : (g : _) (c : After-explore g) → AreStages (stages g c)
are_stages g c = record {
  sound = c.requires.live.is_sound;
  first = (c.put_key.ensures.added c.args.explored.now.dead_ends.items).growth;
  second = c.explore.ensures.grown;
}

-- the edges are still there
live : (g : _) (c : After-explore g)
    → IsLive c.args.deck.now (node_lists c.explore.new.nodes) c.args.edges.now c.args.reductions.now
live g c = live_there (stages g c) (are_stages g c) c.args.edges.now c.requires.live

-- the facts known about faults are still right
known_there : (g : _) (c : After-explore g)
    → AreExploredFaultsKnown (node_lists c.put_key.new.nodes) c.args.explored.now.names c.args.explored.now.findings
    → AreExploredFaultsKnown (node_lists c.explore.new.nodes) c.args.explored.now.names c.args.explored.now.findings
known_there g c led =
    explored_faults_after_growth c.findings_law.ensures (table_of_deck c.args.deck.now) (node_lists c.put_key.new.nodes)
    (node_lists c.explore.new.nodes) c.args.explored.now.names c.put_key.new.worklist c.explore.new.worklist
    c.args.explored.now.dead_ends.items c.explore.new.dead_ends.items c.args.explored.now.findings
    (c.put_key.ensures.added c.args.explored.now.dead_ends.items).growth.nodes c.explore.ensures.grown
    c.explore.ensures.stay led

pub returns-in_err-found-clause-faults : goal.returns-in_err-found-clause-faults
returns-in_err-found-clause-faults g c =
    let at = goal.at.returns-in_err-found-clause-faults g c in
    known_there g at.After-explore (known_led g at.After-put_key)

pub returns-in_err-found-clause-live : goal.returns-in_err-found-clause-live
returns-in_err-found-clause-live g c = live g (goal.at.returns-in_err-found-clause-live g c).After-explore

pub returns-in_err-found-clause-asked : goal.returns-in_err-found-clause-asked
returns-in_err-found-clause-asked g c =
    let t = table_of_deck c.args.deck.now in
    let k = key_named c.args.kind c.args.name.now in
    let now = (goal.at.returns-in_err-found-clause-asked g c).After-explore in
    let p = err_from_is_err_and c.from_residual-in_err-found.result c.from_residual-in_err-found.ensures.1 in
    no_memory t (node_lists c.explore.new.nodes) c.explore.new.dead_ends.items c.args.explored.now.findings.faults _
    c.from_residual-in_err-found.result (p.1 ∙ ap Err p.2)
    (cut_there (stages g now) (are_stages g now) (IsSettledKey (node_lists c.explore.new.nodes) k) (AsksKey k)
    (key_fault t k) (k ∷ key_reach t k) c.args.steps.now (live_query_of_key t k) (Err fault.OutOfMemory) refl)

-- all names below the key were explored
abbrev all_stages : (g : _) → In_ok-found g → Stages
all_stages g c =
    stages_of c.args.deck.now c.args.reductions.now c.args.explored.now c.args.nodes.now c.put_key.new.nodes
    c.explore.new.nodes c.clear.new.self c.put_key.new.worklist c.explore.new.worklist c.explore.new.dead_ends.items

are_all : (g : _) (c : In_ok-found g) → AreAllStages (all_stages g c)
are_all g c = record {
  stages = record {
    sound = c.requires.live.is_sound;
    first = (c.put_key.ensures.added c.args.explored.now.dead_ends.items).growth;
    second = c.explore.ensures.grown;
  };
  all = c.in_ok-found.ensures.all;
  faults = c.numbered_fault_law.ensures;
  settles = c.settling_law.ensures;
}

-- the number is that of the key
number : (g : _) (c : In_ok-found g)
    → IsNumber (all_stages g c) (key_named c.args.kind c.args.name.now) c.in_ok-n.n
number g c = record { is = c.in_ok-n.ensures.target.0; known = c.in_ok-n.ensures.target.1 }

pub settle_query-requires-clause-live : goal.settle_query-requires-clause-live
settle_query-requires-clause-live g c = live g (goal.at.settle_query-requires-clause-live g c).After-explore

pub settle_query-requires-clause-known : goal.settle_query-requires-clause-known
settle_query-requires-clause-known g c =
    let at = goal.at.settle_query-requires-clause-known g c in
    one_known (all_stages g at.In_ok-found) (are_all g at.In_ok-found).stages
    (key_named c.args.kind c.args.name.now)
    c.in_ok-n.n (number g at.In_ok-found)

pub settle_query-requires-clause-faults : goal.settle_query-requires-clause-faults
settle_query-requires-clause-faults g c =
    let at = goal.at.settle_query-requires-clause-faults g c in
    known_there g at.After-explore (known_led g at.After-put_key)

-- the result of the query of the number
abbrev of_number : (g : _) (c : After-settle_query g) → Result (Unit {0}) QueryFault → Type 0
of_number g c answer =
    IsLiveQueryAnswered (table_of_deck c.args.deck.now) (node_lists c.explore.new.nodes) c.explore.new.dead_ends.items
    (To c.in_ok-n.n ∷ []) answer
    (live_view_of_nodes c.args.deck.now (node_lists c.explore.new.nodes) c.args.reductions.now)
    (live_view_of_nodes c.args.deck.now (node_lists c.settle_query.new.nodes) c.settle_query.new.reductions)
    c.args.steps.now
    c.settle_query.new.steps

pub returns-in_err-settle_query-clause-asked : goal.returns-in_err-settle_query-clause-asked
returns-in_err-settle_query-clause-asked g c =
    let k = key_named c.args.kind c.args.name.now in
    let at = goal.at.returns-in_err-settle_query-clause-asked g c in
    let p = err_from_is_err_and c.from_residual-in_err-settle_query.result
    c.from_residual-in_err-settle_query.ensures.1 in
    passed_on (table_of_deck c.args.deck.now) (node_lists c.settle_query.new.nodes)
    c.settle_query.new.explored.dead_ends.items c.settle_query.new.explored.findings.faults _
    (of_number g at.After-settle_query) c.in_err-settle_query.field-0.0 c.in_err-settle_query.ensures.answered
    (λ q answered. key_explored_fault (all_stages g at.In_ok-found) (are_all g at.In_ok-found) k c.in_ok-n.n
    (number g at.In_ok-found) (IsSettledKey (node_lists c.settle_query.new.nodes) k)
    (live_view_of_nodes c.args.deck.now (node_lists c.settle_query.new.nodes) c.settle_query.new.reductions)
    c.args.steps.now
    c.settle_query.new.steps c.settle_query.ensures.live.is_sound.is_right q answered (Err q) refl)
    c.from_residual-in_err-settle_query.result (p.1 ∙ ap Err p.2)

pub returns-clause-asked : goal.returns-clause-asked
returns-clause-asked g c =
    let at = goal.at.returns-clause-asked g c in
    let a = answers_ok (table_of_deck c.args.deck.now) (node_lists c.settle_query.new.nodes)
    c.settle_query.new.explored.dead_ends.items c.settle_query.new.explored.findings.faults
    (of_number g at.After-settle_query) tt c.in_ok-settle_query.ensures.answered in
    record {
      named_answer = Ok c.in_ok-n.n;
      result_named = refl;
      answer_holds = key_explored_settled (all_stages g at.In_ok-found) (are_all g at.In_ok-found)
          (key_named c.args.kind c.args.name.now) c.in_ok-n.n (number g at.In_ok-found)
          (node_lists c.settle_query.new.nodes) c.settle_query.new.reductions c.args.steps.now c.settle_query.new.steps
          (record {
            sound = c.settle_query.ensures.live.is_sound;
            keys = c.in_ok-settle_query.ensures.keys;
            order = a.0;
            closing = a.1;
            all = a.2;
          });
    }
