use Rattle.std.proofs.Common.{subst}
use Rattle.quantity.specs.Amount.{Amount}
use Rattle.tree_eval.specs.declared.step.Step.TheVariants.{Divide, Multiply}
use Rattle.tree_eval.specs.Answers.{IsEvalResult}
use Rattle.tree_eval.specs.Steps.{operand_step_value, plain_number_value}
use Rattle.tree_eval.proofs.step.Step.join_number.Goals as goal

pub returns-in-Multiply : goal.returns-in-Multiply
returns-in-Multiply c =
    rw c.in-Multiply.is
    (subst (λ x. IsEvalResult {A = Amount} c.scaled_answer.result
    (operand_step_value Multiply x (plain_number_value c.args.right.now)))
    c.in_ok-left.ensures (c.scaled_answer.ensures _ c.times_number.ensures))

pub returns-in-Divide : goal.returns-in-Divide
returns-in-Divide c =
    rw c.in-Divide.is
    (subst (λ x. IsEvalResult {A = Amount} c.scaled_answer-in-Divide.result
    (operand_step_value Divide x (plain_number_value c.args.right.now)))
    c.in_ok-left.ensures (c.scaled_answer-in-Divide.ensures _ c.over_number.ensures))

pub returns-in_default : goal.returns-in_default
returns-in_default c =
    subst (λ x. IsEvalResult {A = Amount} c.amount_answer.result
    (operand_step_value c.args.self x (plain_number_value c.args.right.now)))
    c.in_ok-left.ensures
    (subst (λ y. IsEvalResult {A = Amount} c.amount_answer.result (operand_step_value c.args.self c.in_ok-left.left y))
    c.number-right.ensures (c.amount_answer.ensures _ c.join_owned.ensures))
