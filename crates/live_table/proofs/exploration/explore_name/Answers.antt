use Rattle.std.proofs.Common.{◌≡◌, ◌≤◌, ◌<◌, length, List, ℕ, nat_eq, arith, subst, sym}
use Rattle.std.specs.List.{IsDistinct}
use Rattle.expr_tree.specs.declared.word_list.WordUse.{WordUse}
use Rattle.def_entry.specs.Views.{entry_definition_view}
use Rattle.deck.specs.Tables.{table_of_deck}
use Rattle.table_names.specs.Words.{table_words_of_key}
use Rattle.live_table.specs.Callees.{AreNodeKeyWords}
use Rattle.live_table.specs.Exploration.{AreExplorationSteps, AreNodesGrown, AreOtherNodesSame}
use Rattle.live_table.specs.Exploration.{HasOwnExplorationSteps}
use Rattle.live_table.specs.Looks.{AllNodeStepsLead, AreNodeLooks}
use Rattle.live_table.specs.TableContents.{NodeLists, node_key_at, node_lists}
use Rattle.live_table.proofs.DefinitionSearch.{live_entry_words_are_key_words}
use Rattle.live_table.proofs.AddedNames.{exploration_growth_is_no_shorter}
use Rattle.live_table.proofs.ReachedNames.{stepped_grown, stepped_same, stepped_written}
use Rattle.live_table.proofs.exploration.explore_name.Goals as goal
use Rattle.live_table.proofs.exploration.explore_name.Goals.{After-put_words, In_ok-steps}

-- the name still has its number
within : (c : After-put_words) → c.args.n < length c.put_words.new.nodes.keys
within c =
    let longer : length c.args.nodes.now.keys ≤ length c.put_words.new.nodes.keys =
    exploration_growth_is_no_shorter c.args.nodes.now.keys c.put_words.new.nodes.keys
    c.put_words.ensures.added.growth.keys_more in
    let before = c.requires.listed.listed_in_table c.args.n c.requires.name in
    omega arith

pub store_steps-requires-clause-callee_there : goal.store_steps-requires-clause-callee_there
store_steps-requires-clause-callee_there c =
    let count = c.put_words.ensures.added.growth.nodes.callee_count in
    let inside = within (goal.at.store_steps-requires-clause-callee_there c).After-put_words in
    omega arith

pub store_steps-requires-clause-steps_there : goal.store_steps-requires-clause-steps_there
store_steps-requires-clause-steps_there c =
    let count = c.put_words.ensures.added.growth.nodes.step_count in
    let inside = within (goal.at.store_steps-requires-clause-steps_there c).After-put_words in
    omega arith

pub store_steps-requires-clause-looks_there : goal.store_steps-requires-clause-looks_there
store_steps-requires-clause-looks_there c =
    let count = c.put_words.ensures.added.growth.nodes.look_count in
    let inside = within (goal.at.store_steps-requires-clause-looks_there c).After-put_words in
    omega arith

-- the words are those of the key of the name
words : (c : In_ok-steps)
    → AreNodeKeyWords (table_of_deck c.args.deck.now) (node_key_at c.args.nodes.now.keys c.args.n)
    c.write_entry_words.new.words c.in_ok-starts.starts
words c =
    live_entry_words_are_key_words (table_of_deck c.args.deck.now) (node_key_at c.args.nodes.now.keys c.args.n)
    (entry_definition_view c.args.what.now)
    c.write_entry_words.new.words c.in_ok-starts.starts c.requires.what c.in_ok-starts.ensures

-- the steps are those of the words
written : (c : In_ok-steps)
    → AreExplorationSteps (table_of_deck c.args.deck.now) (node_lists c.put_words.new.nodes) c.args.explored.now
    c.put_words.new.worklist
    c.put_words.new.dead_ends.items
    (table_words_of_key (table_of_deck c.args.deck.now) (node_key_at c.args.nodes.now.keys c.args.n))
    c.in_ok-steps.steps
written c =
    subst (λ (us : List WordUse). AreExplorationSteps (table_of_deck c.args.deck.now) (node_lists c.put_words.new.nodes)
    c.args.explored.now c.put_words.new.worklist c.put_words.new.dead_ends.items us c.in_ok-steps.steps)
    (words c).words c.in_ok-steps.ensures.written

pub returns-clause-grown : goal.returns-clause-grown
returns-clause-grown c =
    subst (λ (m : NodeLists). AreNodesGrown (table_of_deck c.args.deck.now) (node_lists c.args.nodes.now) m
    c.args.explored.now c.args.worklist.now c.put_words.new.worklist c.args.dead_ends.now.items
    c.put_words.new.dead_ends.items) (sym c.store_steps.ensures.1)
    (stepped_grown (table_of_deck c.args.deck.now) (node_lists c.args.nodes.now) (node_lists c.put_words.new.nodes)
    c.args.explored.now
    c.args.worklist.now c.put_words.new.worklist c.args.dead_ends.now.items c.put_words.new.dead_ends.items
    c.args.n (record { rank = c.store_steps.ensures.0; starts = c.in_ok-starts.starts }) c.in_ok-steps.steps
    c.in_ok-looks.looks c.put_words.ensures.added c.requires.listed c.requires.name
    (written (goal.at.returns-clause-grown c).In_ok-steps))

pub returns-clause-same : goal.returns-clause-same
returns-clause-same c =
    subst (AreOtherNodesSame (λ m. m ≡ c.args.n → ⊥) (node_lists c.args.nodes.now)) (sym c.store_steps.ensures.1)
    (stepped_same (table_of_deck c.args.deck.now) (node_lists c.args.nodes.now) (node_lists c.put_words.new.nodes)
    c.args.explored.now
    c.args.worklist.now c.put_words.new.worklist c.args.dead_ends.now.items c.put_words.new.dead_ends.items
    c.args.n (record { rank = c.store_steps.ensures.0; starts = c.in_ok-starts.starts }) c.in_ok-steps.steps
    c.in_ok-looks.looks c.put_words.ensures.added c.requires.listed c.requires.name
    (written (goal.at.returns-clause-same c).In_ok-steps))

pub returns-clause-written : goal.returns-clause-written
returns-clause-written c =
    subst (λ (m : NodeLists). HasOwnExplorationSteps (table_of_deck c.args.deck.now) m c.args.explored.now
    c.put_words.new.worklist c.put_words.new.dead_ends.items c.args.n) (sym c.store_steps.ensures.1)
    (stepped_written (table_of_deck c.args.deck.now) (node_lists c.args.nodes.now) (node_lists c.put_words.new.nodes)
    c.args.explored.now
    c.args.worklist.now c.put_words.new.worklist c.args.dead_ends.now.items c.put_words.new.dead_ends.items
    c.args.n (record { rank = c.store_steps.ensures.0; starts = c.in_ok-starts.starts }) c.in_ok-steps.steps
    c.in_ok-looks.looks c.put_words.ensures.added c.requires.listed c.requires.name
    (written (goal.at.returns-clause-written c).In_ok-steps)
    (words (goal.at.returns-clause-written c).In_ok-steps).part_starts
    (subst (λ (p : List WordUse × List ℕ). AllNodeStepsLead c.in_ok-steps.steps
    → AreNodeLooks (table_of_deck c.args.deck.now) c.put_words.new.nodes.keys p.0 c.in_ok-steps.steps p.1)
    (λ i. ((words (goal.at.returns-clause-written c).In_ok-steps).words i, sym c.in_ok-looks.ensures.copy i))
    c.in_ok-steps.ensures.looks)
    (subst (IsDistinct nat_eq) (sym c.in_ok-looks.ensures.copy) c.in_ok-looks.ensures.once))
