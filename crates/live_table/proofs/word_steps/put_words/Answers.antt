use Rattle.std.proofs.Common.{Some, List, sym, ◌∙◌, ap, arith}
use Rattle.std.specs.List.{slice_get}
use Rattle.std.proofs.lemmas.Option.{slice_get-get_or}
use Rattle.expr_tree.specs.declared.word_list.WordUse.{WordUse}
use Rattle.deck.specs.Tables.{table_of_deck}
use Rattle.live_table.specs.TableContents.{node_lists}
use Rattle.live_table.proofs.AddedNames.{two_node_additions_are_one}
use Rattle.live_table.proofs.WrittenSteps.{next_exploration_steps_are_put}
use Rattle.live_table.proofs.word_steps.put_words.Goals as goal

pub put_word-requires-clause-nodes : goal.put_word-requires-clause-nodes
put_word-requires-clause-nodes c = c.loop-u.invariant.added.growth.nodes

pub put_word-requires-clause-listed : goal.put_word-requires-clause-listed
put_word-requires-clause-listed c = c.loop-u.invariant.added.growth.list_right

pub returns-in_err-put_word-clause-added : goal.returns-in_err-put_word-clause-added
returns-in_err-put_word-clause-added c =
    two_node_additions_are_one (table_of_deck c.args.deck.now) (node_lists c.args.nodes.now) (node_lists c.loop-u.nodes)
    (node_lists c.put_word.new.nodes)
    c.args.explored.now c.args.worklist.now c.loop-u.worklist c.put_word.new.worklist
    c.args.dead_ends.now.items c.loop-u.dead_ends.items c.put_word.new.dead_ends.items c.loop-u.invariant.added
    c.put_word.ensures.added

pub loop-u-preserved : goal.loop-u-preserved
loop-u-preserved c =
    next_exploration_steps_are_put (table_of_deck c.args.deck.now) (node_lists c.args.nodes.now)
    (node_lists c.loop-u.nodes)
    (node_lists c.put_word.new.nodes)
    c.args.explored.now c.args.worklist.now c.loop-u.worklist c.put_word.new.worklist
    c.args.dead_ends.now.items c.loop-u.dead_ends.items c.put_word.new.dead_ends.items c.loop-u.nodes.gathered
    c.put_word.new.nodes.gathered c.args.words.now c.loop-u.steps c.put_word.new.steps c.loop-u.u-index
    c.u-item.result
    (ap (λ (xs : List WordUse). slice_get xs c.loop-u.u-index) (sym c.as_slice-u-items.ensures)
    ∙ (slice_get-get_or c.as_slice-u-items.result.now c.loop-u.u-index c.u-item.result (omega arith)
    ∙ ap Some (sym c.u-item.is)))
    c.loop-u.invariant c.put_word.ensures.added c.in_ok-put_word.ensures.written
