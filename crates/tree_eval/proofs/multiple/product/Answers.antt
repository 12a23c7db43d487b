use Rattle.tree_eval.proofs.multiple.product.Goals as goal

pub returns : goal.returns
returns c = c.amount_answer.ensures _ c.times.ensures
