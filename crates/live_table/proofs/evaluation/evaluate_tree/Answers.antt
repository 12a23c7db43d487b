use Rattle.live_table.specs.TableContents.{node_lists}
use Rattle.live_table.proofs.SettleOne.{right_nodes_ignore_settled_count}
use Rattle.live_table.proofs.evaluation.evaluate_tree.Goals as goal

pub invariant_of-surroundings : goal.invariant_of-surroundings
invariant_of-surroundings c = record {
  numbers = c.requires.sound.1.numbers;
  is_right = right_nodes_ignore_settled_count c.args.deck.now (node_lists c.args.nodes.now) c.requires.sound.0 0
      c.requires.sound.1.is_right;
  subject = c.requires.settled;
}

pub returns : goal.returns
returns c = c.query_result.ensures _ c.eval.ensures
