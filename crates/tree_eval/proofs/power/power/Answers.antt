use Rattle.std.proofs.Common.{subst}
use Rattle.quantity.specs.Amount.{Amount}
use Rattle.quantity.specs.Powers.{quantity_power}
use Rattle.tree_eval.specs.Answers.{IsEvalResult}
use Rattle.tree_eval.specs.Steps.{value_of_quantity_step}
use Rattle.tree_eval.proofs.power.power.Goals as goal

pub returns : goal.returns
returns c =
    subst (λ x. IsEvalResult {A = Amount} c.amount_answer.result
    (value_of_quantity_step (quantity_power x c.args.exponent.now)))
    c.in_ok-base.ensures (c.amount_answer.ensures _ c.into_power.ensures)
