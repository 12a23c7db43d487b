use Rattle.std.proofs.Common.{subst}
use Rattle.quantity.specs.Amount.{Amount}
use Rattle.tree_eval.specs.Answers.{IsEvalResult, amount_of_held_value}
use Rattle.tree_eval.specs.Steps.{operand_step_value}
use Rattle.tree_eval.proofs.step.Step.join_held.Goals as goal

pub returns : goal.returns
returns c =
    subst (λ x. IsEvalResult {A = Amount} c.amount_answer.result
    (operand_step_value c.args.self x (amount_of_held_value c.args.right)))
    c.in_ok-left.ensures (c.amount_answer.ensures _ c.join_all.ensures)
