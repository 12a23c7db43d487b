use Rattle.std.proofs.Common.{subst}
use Rattle.quantity.specs.Amount.{Amount}
use Rattle.tree_eval.specs.Answers.{IsEvalResult}
use Rattle.tree_eval.specs.Steps.{operand_step_value}
use Rattle.tree_eval.proofs.step.Step.join.Goals as goal

pub returns : goal.returns
returns c =
    subst (λ x. IsEvalResult {A = Amount} c.amount_answer.result (operand_step_value c.args.self x c.args.right.now))
    c.in_ok-left.ensures (c.amount_answer.ensures _ c.join_owned.ensures)
