use Rattle.std.proofs.Common.{◌≡◌, [], List, Some, Ok, Err, Result, refl, sym, ◌∙◌, ap, subst}
use Rattle.std.proofs.lemmas.Result.{err_from_is_err_and}
use Rattle.expr_tree.specs.declared.word_list.WordUse.{WordUse}
use Rattle.name_walk.specs.declared.step.Step.{Step}
use Rattle.deck.specs.Tables.{table_of_deck}
use Rattle.table_names.specs.Faults.{name_fault}
use Rattle.table_names.specs.Reach.{reach}
use Rattle.table_names.specs.NumberedNames.{LeadToKnownNumbers}
use Rattle.live_table.specs.declared.fault.QueryFault.{QueryFault}
use Rattle.live_table.specs.declared.fault.QueryFault.TheVariants as fault
use Rattle.live_table.specs.QueryEffects.{AreUnsettledNamesClosed, IsLiveQueryAnswered, live_query_fault}
use Rattle.live_table.specs.TableEdges.{IsLive}
use Rattle.live_table.specs.Exploration.{AreExplorationSteps, AreNodesGrown, WereExplored, is_known_to_exploration}
use Rattle.live_table.specs.KnownFaults.{AreExploredFaultsKnown}
use Rattle.live_table.specs.QueryWords.{AreExplorationStepsCutAt, AreExploredQuerySteps, explored_fault_before}
use Rattle.live_table.specs.States.{AsksWords}
use Rattle.live_table.specs.TableContents.{live_view_of_nodes, node_lists}
use Rattle.live_table.specs.EvalInvariants.{AreSettledWords}
use Rattle.live_table.proofs.AskedFor.{all_known, explored_cut, explored_fault, explored_settled}
use Rattle.live_table.proofs.AddedNames.{empty_list_is_agenda}
use Rattle.live_table.proofs.GrownLive.{grown_live, live_query_cut_before_walk, live_query_of_words}
use Rattle.live_table.proofs.KnownFaults.{added_nodes_keep_steps, explored_faults_after_growth}
use Rattle.live_table.proofs.Stages.{AreAllStages, AreStages, Stages, cut_there, live_there, stages_of}
use Rattle.live_table.proofs.StillExplored.{added_explored}
use Rattle.live_table.proofs.StopAnswers.{answers_ok, cut_or_no_memory, no_memory, passed_on}
use Rattle.live_table.proofs.name_queries.ask_words.Goals as goal
use Rattle.live_table.proofs.name_queries.ask_words.Goals.{After-explore, After-query_steps, In-Some, In_default}
use Rattle.live_table.proofs.name_queries.ask_words.Goals.{In_ok-found}

pub query_steps-requires-clause-listed : goal.query_steps-requires-clause-listed
query_steps-requires-clause-listed g c =
    empty_list_is_agenda (table_of_deck c.args.deck.now) (node_lists c.args.nodes.now) c.args.explored.now.names
    c.clear.new.self
    c.requires.explored.explored_in_table c.clear.ensures

-- ---- the targets of the words have numbers
-- names are added
grown : (g : _) (c : After-query_steps g)
    → AreNodesGrown (table_of_deck c.args.deck.now) (node_lists c.args.nodes.now) (node_lists c.query_steps.new.nodes)
    c.args.explored.now.names c.clear.new.self c.query_steps.new.worklist c.args.explored.now.dead_ends.items
    c.args.explored.now.dead_ends.items
grown g c = (c.query_steps.ensures.added c.args.explored.now.dead_ends.items).growth

-- explored names stay explored
still : (g : _) (c : After-query_steps g)
    → WereExplored (table_of_deck c.args.deck.now) (node_lists c.query_steps.new.nodes) c.args.explored.now.names
    c.args.explored.now.dead_ends.items
still g c =
    added_explored (table_of_deck c.args.deck.now) (node_lists c.args.nodes.now) (node_lists c.query_steps.new.nodes)
    c.args.explored.now.names c.clear.new.self c.query_steps.new.worklist c.args.explored.now.dead_ends.items
    c.args.explored.now.dead_ends.items c.requires.live.is_sound.numbers
    (c.query_steps.ensures.added c.args.explored.now.dead_ends.items) c.requires.explored

-- the facts known about faults stay right
known_led : (g : _) (c : After-query_steps g)
    → AreExploredFaultsKnown (node_lists c.query_steps.new.nodes) c.args.explored.now.names c.args.explored.now.findings
known_led g c =
    explored_faults_after_growth c.findings_law.ensures (table_of_deck c.args.deck.now) (node_lists c.args.nodes.now)
    (node_lists c.query_steps.new.nodes) c.args.explored.now.names c.clear.new.self c.query_steps.new.worklist
    c.args.explored.now.dead_ends.items c.args.explored.now.dead_ends.items c.args.explored.now.findings
    c.requires.live.is_sound.numbers (grown g c)
    (added_nodes_keep_steps (table_of_deck c.args.deck.now) (node_lists c.args.nodes.now)
    (node_lists c.query_steps.new.nodes)
    c.args.explored.now.names c.clear.new.self c.query_steps.new.worklist c.args.explored.now.dead_ends.items
    c.args.explored.now.dead_ends.items (c.query_steps.ensures.added c.args.explored.now.dead_ends.items)
    c.requires.explored) c.requires.faults

pub returns-in_err-query-clause-faults : goal.returns-in_err-query-clause-faults
returns-in_err-query-clause-faults g c =
    known_led g (goal.at.returns-in_err-query-clause-faults g c).After-query_steps

pub returns-in_err-query-clause-live : goal.returns-in_err-query-clause-live
returns-in_err-query-clause-live g c =
    grown_live c.args.deck.now (node_lists c.args.nodes.now) (node_lists c.query_steps.new.nodes)
    c.args.explored.now.names
    c.clear.new.self c.query_steps.new.worklist c.args.explored.now.dead_ends.items
    c.args.explored.now.dead_ends.items c.args.reductions.now
    (grown g (goal.at.returns-in_err-query-clause-live g c).After-query_steps) c.args.edges.now c.requires.live

pub returns-in_err-query-clause-explored : goal.returns-in_err-query-clause-explored
returns-in_err-query-clause-explored g c =
    still g (goal.at.returns-in_err-query-clause-explored g c).After-query_steps

pub returns-in_err-query-clause-asked : goal.returns-in_err-query-clause-asked
returns-in_err-query-clause-asked g c =
    let t = table_of_deck c.args.deck.now in
    let p = err_from_is_err_and c.from_residual.result c.from_residual.ensures.1 in
    no_memory t (node_lists c.query_steps.new.nodes) c.args.explored.now.dead_ends.items
    c.args.explored.now.findings.faults _ c.from_residual.result (p.1 ∙ ap Err p.2)
    (live_query_cut_before_walk
    (λ (query : List Step). AreSettledWords t (node_lists c.query_steps.new.nodes) c.args.words.now
    query) (AsksWords c.args.words.now) (name_fault t c.args.words.now) (reach t c.args.words.now)
    c.args.deck.now (node_lists c.args.nodes.now) (node_lists c.query_steps.new.nodes) c.args.explored.now.names
    c.clear.new.self c.query_steps.new.worklist c.args.explored.now.dead_ends.items
    c.args.explored.now.dead_ends.items c.args.reductions.now c.args.steps.now
    (grown g (goal.at.returns-in_err-query-clause-asked g c).After-query_steps) c.requires.live.is_sound
    (live_query_of_words t c.args.words.now) (Err fault.OutOfMemory) refl)

pub explore-requires-clause-nodes : goal.explore-requires-clause-nodes
explore-requires-clause-nodes g c = (grown g (goal.at.explore-requires-clause-nodes g c).After-query_steps).nodes

pub explore-requires-clause-listed : goal.explore-requires-clause-listed
explore-requires-clause-listed g c = (grown g (goal.at.explore-requires-clause-listed g c).After-query_steps).list_right

pub explore-requires-clause-before : goal.explore-requires-clause-before
explore-requires-clause-before g c = still g (goal.at.explore-requires-clause-before g c).After-query_steps

-- ---- the names below the targets were explored
abbrev stages : (g : _) → After-explore g → Stages
stages g c =
    stages_of c.args.deck.now c.args.reductions.now c.args.explored.now c.args.nodes.now c.query_steps.new.nodes
    c.explore.new.nodes c.clear.new.self c.query_steps.new.worklist c.explore.new.worklist c.explore.new.dead_ends.items

-- each stage adds to the one before it
are_stages : (g : _) (c : After-explore g) → AreStages (stages g c)
are_stages g c = record {
  sound = c.requires.live.is_sound;
  first = (c.query_steps.ensures.added c.args.explored.now.dead_ends.items).growth;
  second = c.explore.ensures.grown;
}

-- the edges are still there
live : (g : _) (c : After-explore g)
    → IsLive c.args.deck.now (node_lists c.explore.new.nodes) c.args.edges.now c.args.reductions.now
live g c = live_there (stages g c) (are_stages g c) c.args.edges.now c.requires.live

-- the facts known about faults are still right
known_there : (g : _) (c : After-explore g)
    → AreExploredFaultsKnown (node_lists c.query_steps.new.nodes) c.args.explored.now.names c.args.explored.now.findings
    → AreExploredFaultsKnown (node_lists c.explore.new.nodes) c.args.explored.now.names c.args.explored.now.findings
known_there g c led =
    explored_faults_after_growth c.findings_law.ensures (table_of_deck c.args.deck.now)
    (node_lists c.query_steps.new.nodes)
    (node_lists c.explore.new.nodes) c.args.explored.now.names c.query_steps.new.worklist c.explore.new.worklist
    c.args.explored.now.dead_ends.items c.explore.new.dead_ends.items c.args.explored.now.findings
    (c.query_steps.ensures.added c.args.explored.now.dead_ends.items).growth.nodes c.explore.ensures.grown
    c.explore.ensures.stay led

pub returns-in_err-found-clause-faults : goal.returns-in_err-found-clause-faults
returns-in_err-found-clause-faults g c =
    let at = goal.at.returns-in_err-found-clause-faults g c in
    known_there g at.After-explore (known_led g at.After-query_steps)

pub returns-in_err-found-clause-live : goal.returns-in_err-found-clause-live
returns-in_err-found-clause-live g c = live g (goal.at.returns-in_err-found-clause-live g c).After-explore

pub returns-in_err-found-clause-asked : goal.returns-in_err-found-clause-asked
returns-in_err-found-clause-asked g c =
    let t = table_of_deck c.args.deck.now in
    let now = (goal.at.returns-in_err-found-clause-asked g c).After-explore in
    let p = err_from_is_err_and c.from_residual-in_err-found.result c.from_residual-in_err-found.ensures.1 in
    no_memory t (node_lists c.explore.new.nodes) c.explore.new.dead_ends.items c.args.explored.now.findings.faults _
    c.from_residual-in_err-found.result (p.1 ∙ ap Err p.2)
    (cut_there (stages g now) (are_stages g now)
    (λ (query : List Step). AreSettledWords t (node_lists c.explore.new.nodes) c.args.words.now query)
    (AsksWords c.args.words.now) (name_fault t c.args.words.now) (reach t c.args.words.now) c.args.steps.now
    (live_query_of_words t c.args.words.now) (Err fault.OutOfMemory) refl)

-- all names below the targets were explored
abbrev all_stages : (g : _) → In_ok-found g → Stages
all_stages g c =
    stages_of c.args.deck.now c.args.reductions.now c.args.explored.now c.args.nodes.now c.query_steps.new.nodes
    c.explore.new.nodes c.clear.new.self c.query_steps.new.worklist c.explore.new.worklist c.explore.new.dead_ends.items

are_all : (g : _) (c : In_ok-found g) → AreAllStages (all_stages g c)
are_all g c = record {
  stages = record {
    sound = c.requires.live.is_sound;
    first = (c.query_steps.ensures.added c.args.explored.now.dead_ends.items).growth;
    second = c.explore.ensures.grown;
  };
  all = c.in_ok-found.ensures.all;
  faults = c.numbered_fault_law.ensures;
  settles = c.settling_law.ensures;
}

-- words that were written lead to known names
known : (g : _) (c : After-explore g) (us : List WordUse) (xs targets : List Step) → targets ≡ xs
    → AreExplorationSteps (table_of_deck c.args.deck.now) (node_lists c.query_steps.new.nodes) c.args.explored.now.names
    c.query_steps.new.worklist [] us xs
    → LeadToKnownNumbers (is_known_to_exploration c.explore.new.nodes.settled.items c.args.explored.now.names
    c.explore.new.worklist) targets
known g c us xs targets same written =
    subst (LeadToKnownNumbers
    (is_known_to_exploration c.explore.new.nodes.settled.items c.args.explored.now.names c.explore.new.worklist))
    (sym same) (all_known (stages g c) (are_stages g c) us xs written)

-- ---- a word leads nowhere
cut : (g : _) (c : In-Some g)
    → AreExplorationStepsCutAt (table_of_deck c.args.deck.now) (node_lists c.query_steps.new.nodes)
    c.args.explored.now.names
    c.query_steps.new.worklist c.args.words.now c.in_ok-query.query.steps c.in-Some.end
cut g c =
    subst (AreExploredQuerySteps (table_of_deck c.args.deck.now) (node_lists c.query_steps.new.nodes)
    c.args.explored.now.names
    c.query_steps.new.worklist c.args.words.now c.in_ok-query.query.steps) c.in-Some.is
    c.in_ok-query.ensures.steps

pub cut_stop-requires-clause-known : goal.cut_stop-requires-clause-known
cut_stop-requires-clause-known g c =
    let at = goal.at.cut_stop-requires-clause-known g c in
    known g at.After-explore (cut g at.In-Some).words_before c.in_ok-query.query.steps
    c.as_slice-targets.result.now
    c.as_slice-targets.ensures (cut g at.In-Some).front_steps

pub cut_stop-requires-clause-faults : goal.cut_stop-requires-clause-faults
cut_stop-requires-clause-faults g c =
    let at = goal.at.cut_stop-requires-clause-faults g c in
    known_there g at.After-explore (known_led g at.After-query_steps)

pub returns-in-Some-clause-live : goal.returns-in-Some-clause-live
returns-in-Some-clause-live g c = live g (goal.at.returns-in-Some-clause-live g c).After-explore

pub returns-in-Some-clause-asked : goal.returns-in-Some-clause-asked
returns-in-Some-clause-asked g c =
    let t = table_of_deck c.args.deck.now in
    let at = goal.at.returns-in-Some-clause-asked g c in
    let now = at.After-explore in
    cut_or_no_memory t (node_lists c.explore.new.nodes) c.cut_stop.new.explored.dead_ends.items
    c.cut_stop.new.explored.findings.faults _ c.explore.new.dead_ends.items c.cut_stop.ensures.dead_ends
    c.as_slice-targets.result.now c.in-Some.end c.cut_stop.result c.cut_stop.ensures.stop
    (cut_there (stages g now) (are_stages g now)
    (λ (query : List Step). AreSettledWords t (node_lists c.explore.new.nodes) c.args.words.now query)
    (AsksWords c.args.words.now) (name_fault t c.args.words.now) (reach t c.args.words.now) c.args.steps.now
    (live_query_of_words t c.args.words.now) (Err fault.OutOfMemory) refl)
    (λ name first. explored_cut (λ (query : List Step). AreSettledWords t (node_lists c.explore.new.nodes)
    c.args.words.now
    query) (all_stages g at.In_ok-found) (are_all g at.In_ok-found) c.args.words.now
    c.in_ok-query.query.steps c.in-Some.end c.args.steps.now (cut g at.In-Some) name
    (subst (λ (ys : List Step). explored_fault_before (live_query_fault t (node_lists c.explore.new.nodes)
    c.explore.new.dead_ends.items ys) c.in-Some.end ≡ Some name)
    c.as_slice-targets.ensures first))

-- ---- all words lead somewhere
written : (g : _) (c : In_default g)
    → AreExplorationSteps (table_of_deck c.args.deck.now) (node_lists c.query_steps.new.nodes) c.args.explored.now.names
    c.query_steps.new.worklist [] c.args.words.now c.in_ok-query.query.steps
written g c =
    subst (AreExploredQuerySteps (table_of_deck c.args.deck.now) (node_lists c.query_steps.new.nodes)
    c.args.explored.now.names
    c.query_steps.new.worklist c.args.words.now c.in_ok-query.query.steps) c.in_default.is
    c.in_ok-query.ensures.steps

pub settle_query-requires-clause-live : goal.settle_query-requires-clause-live
settle_query-requires-clause-live g c = live g (goal.at.settle_query-requires-clause-live g c).After-explore

pub settle_query-requires-clause-known : goal.settle_query-requires-clause-known
settle_query-requires-clause-known g c =
    let at = goal.at.settle_query-requires-clause-known g c in
    known g at.After-explore c.args.words.now c.in_ok-query.query.steps c.as_slice-targets.result.now
    c.as_slice-targets.ensures (written g at.In_default)

pub settle_query-requires-clause-faults : goal.settle_query-requires-clause-faults
settle_query-requires-clause-faults g c =
    let at = goal.at.settle_query-requires-clause-faults g c in
    known_there g at.After-explore (known_led g at.After-query_steps)

pub returns-in_err-settle_query-clause-asked : goal.returns-in_err-settle_query-clause-asked
returns-in_err-settle_query-clause-asked g c =
    let t = table_of_deck c.args.deck.now in
    let at = goal.at.returns-in_err-settle_query-clause-asked g c in
    let now = live_view_of_nodes c.args.deck.now (node_lists c.settle_query.new.nodes) c.settle_query.new.reductions in
    let p = err_from_is_err_and c.from_residual-in_err-settle_query.result c.from_residual-in_err-settle_query.ensures.1
    in
    passed_on t (node_lists c.settle_query.new.nodes) c.settle_query.new.explored.dead_ends.items
    c.settle_query.new.explored.findings.faults _
    (λ (r : Result (Unit {0}) QueryFault). IsLiveQueryAnswered t (node_lists c.explore.new.nodes)
    c.explore.new.dead_ends.items
    c.as_slice-targets.result.now r
    (live_view_of_nodes c.args.deck.now (node_lists c.explore.new.nodes) c.args.reductions.now)
    now c.args.steps.now c.settle_query.new.steps) c.in_err-settle_query.field-0.0
    c.in_err-settle_query.ensures.answered
    (λ q answered. explored_fault (all_stages g at.In_ok-found) (are_all g at.In_ok-found) c.args.words.now
    c.in_ok-query.query.steps (written g at.In_default)
    (λ (query : List Step). AreSettledWords t (node_lists c.settle_query.new.nodes) c.args.words.now query)
    now c.args.steps.now c.settle_query.new.steps c.settle_query.ensures.live.is_sound.is_right q
    (subst (λ (ys : List Step). IsLiveQueryAnswered t (node_lists c.explore.new.nodes) c.explore.new.dead_ends.items ys
    (Err q) (live_view_of_nodes c.args.deck.now (node_lists c.explore.new.nodes) c.args.reductions.now)
    now c.args.steps.now c.settle_query.new.steps) c.as_slice-targets.ensures answered) (Err q) refl)
    c.from_residual-in_err-settle_query.result (p.1 ∙ ap Err p.2)

pub returns-clause-asked : goal.returns-clause-asked
returns-clause-asked g c =
    let t = table_of_deck c.args.deck.now in
    let at = goal.at.returns-clause-asked g c in
    let a = answers_ok t (node_lists c.settle_query.new.nodes) c.settle_query.new.explored.dead_ends.items
    c.settle_query.new.explored.findings.faults
    (λ (r : Result (Unit {0}) QueryFault). IsLiveQueryAnswered t (node_lists c.explore.new.nodes)
    c.explore.new.dead_ends.items
    c.as_slice-targets.result.now r
    (live_view_of_nodes c.args.deck.now (node_lists c.explore.new.nodes) c.args.reductions.now)
    (live_view_of_nodes c.args.deck.now (node_lists c.settle_query.new.nodes) c.settle_query.new.reductions)
    c.args.steps.now
    c.settle_query.new.steps) tt c.in_ok-settle_query.ensures.answered in
    record {
      named_answer = Ok c.in_ok-query.query.steps;
      result_named = refl;
      answer_holds = explored_settled (all_stages g at.In_ok-found) (are_all g at.In_ok-found) c.args.words.now
          c.in_ok-query.query.steps (written g at.In_default) (node_lists c.settle_query.new.nodes)
          c.settle_query.new.reductions c.args.steps.now c.settle_query.new.steps
          (record {
            sound = c.settle_query.ensures.live.is_sound;
            keys = c.in_ok-settle_query.ensures.keys;
            order = a.0;
            closing = subst (λ (ys : List Step). AreUnsettledNamesClosed (node_lists c.explore.new.nodes) ys a.0)
                c.as_slice-targets.ensures a.1;
            all = a.2;
          }) c.in_ok-query.query.steps refl;
    }
