-- The calls of an expression and a failed step, found by hand.
use Rattle.std.specs.Prelude.{◌≡◌, [], ◌∷◌, Some, codes, pos}
use Rattle.frac128.specs.Fraction.{whole_fraction}
use Rattle.expr_tree.specs.declared.operator.Scale.TheVariants as scale
use Rattle.expr_tree.specs.Syntax.{Call, Factor, NoFactor, Number, Product, Syntax, Word}
use Rattle.tree_eval.specs.declared.step.Step.TheVariants.{Divide}
use Rattle.tree_eval.specs.Steps.{plain_number_value}
use Rattle.tree_eval.specs.Value.{primitive_value}
use Rattle.value_sources.specs.declared.failure.FailedStep.TheVariants.{Joined}
use Rattle.value_sources.specs.Calls.{calls_in}
use Rattle.value_sources.specs.Examples.{source_table}
use Rattle.value_sources.specs.FailedSteps.{failed_step}

-- `g(m)` and `f(g(m))`
abbrev pub source_inner_call : Syntax
source_inner_call = Call (codes "g") (Word (codes "m"))

abbrev pub source_outer_call : Syntax
source_outer_call = Call (codes "f") source_inner_call

-- `m / 0`
abbrev pub failed_step_over_zero : Syntax
failed_step_over_zero = Product (Factor scale.Multiply (Word (codes "m"))
    (Factor scale.Divide (Number (record { coefficient = 0; scale = pos 0 })) NoFactor))

-- law: the calls of `f(g(m))` are itself and `g(m)`. The failed step of `m / 0` is the quotient of one m by 0
pub record FailedStepExamplesLaw : Type 0 where
  pub nested_calls : calls_in source_outer_call ≡ source_outer_call ∷ source_inner_call ∷ []
  pub division_by_zero : failed_step source_table failed_step_over_zero
      ≡ Some (Joined Divide (primitive_value (codes "m")) (plain_number_value (whole_fraction (pos 0))))
