use Rattle.std.proofs.Common.{rules, arith, ap, refl, ◌∙◌, None}
use Rattle.deck.specs.Tables.{table_of_deck}
use Rattle.expr_tree.specs.Trees.{factors_syntax, members_syntax, syntax, terms_syntax}
use Rattle.tree_eval.specs.declared.step.Step.TheVariants.{Multiply}
use Rattle.value_sources.specs.FailedSteps as spec
use Rattle.value_sources.proofs.LoopSteps.{along_factors, along_members, along_terms, factor_step, factor_operand}
use Rattle.value_sources.proofs.LoopSteps.{multiplied_member, next_value, search_end, term_step, term_operand}
use Rattle.value_sources.proofs.Weights.{failing_step_factor_lighter, failing_step_term_lighter}
use Rattle.value_sources.proofs.Weights.{failing_step_tree_lighter}
use Rattle.value_sources.proofs.failing.+fail.Goals as goal

pub member_step-reach-requires : goal.member_step-reach-requires
member_step-reach-requires g t c =
    let lighter = failing_step_tree_lighter c.as_slice-tree-items.result.now c.loop-tree.tree-index c.tree-item.result _
    (omega (arith, c.loop-tree-test.true)) c.tree-item.is c.as_slice-tree-items.ensures in
    search (rules, arith, lighter)

pub factor_step-reach-requires : goal.factor_step-reach-requires
factor_step-reach-requires g t c =
    let lighter = failing_step_factor_lighter c.as_slice-factor-items.result.now c.loop-factor.factor-index
    c.factor-item.result _
    (omega (arith, c.loop-factor-test.true)) c.factor-item.is c.as_slice-factor-items.ensures in
    search (rules, arith, lighter)

pub term_step-reach-requires : goal.term_step-reach-requires
term_step-reach-requires g t c =
    let lighter = failing_step_term_lighter c.as_slice-term-items.result.now c.loop-term.term-index c.term-item.result _
    (omega (arith, c.loop-term-test.true)) c.term-item.is c.as_slice-term-items.ensures in
    search (rules, arith, lighter)

pub member_step-returns-in-End-clause-step : goal.member_step-returns-in-End-clause-step
member_step-returns-in-End-clause-step g t c =
    let now = table_of_deck c.args.live.now.deck in
    search_end multiplied_member syntax now (along_members now) (λ running x xs. refl)
    (table_of_deck c.loop-tree.live.deck) c.as_slice-tree-items.result.now c.loop-tree.tree-index c.tree-item.result
    Multiply c.loop-tree.running c.in_ok-member.member c.in_ok-value.field-0 (ap table_of_deck c.loop-tree.invariant.0)
    (omega (arith, c.loop-tree-test.true)) c.tree-item.is refl c.in_ok-member.ensures.reached
    c.in_ok-value.ensures c.in-End.step c.in-End.is
    ∙ (c.loop-tree.invariant.1
    ∙ ap (λ es. spec.failed_members (spec.is_source_function_word now) (spec.source_value_of_tree now) None
    (members_syntax es))
    c.as_slice-tree-items.ensures)

pub member_step-loop-tree-preserved : goal.member_step-loop-tree-preserved
member_step-loop-tree-preserved g t c =
    let now = table_of_deck c.args.live.now.deck in (
      c.reach.ensures.deck ∙ c.loop-tree.invariant.0,
      next_value multiplied_member syntax now (along_members now) (λ running x xs. refl)
          (table_of_deck c.loop-tree.live.deck) c.as_slice-tree-items.result.now c.loop-tree.tree-index
          c.tree-item.result
          Multiply c.loop-tree.running c.in_ok-member.member c.in_ok-value.field-0
          (ap table_of_deck c.loop-tree.invariant.0)
          (omega (arith, c.loop-tree-test.true)) c.tree-item.is refl c.in_ok-member.ensures.reached
          c.in_ok-value.ensures c.in-Value.value c.in-Value.is
          ∙ c.loop-tree.invariant.1,
    )

pub factor_step-returns-in-End-clause-step : goal.factor_step-returns-in-End-clause-step
factor_step-returns-in-End-clause-step g t c =
    let now = table_of_deck c.args.live.now.deck in
    search_end factor_step factor_operand now (along_factors now) (λ running x xs. refl)
    (table_of_deck c.loop-factor.live.deck) c.as_slice-factor-items.result.now c.loop-factor.factor-index
    c.factor-item.result
    c.step_of_scale.result c.loop-factor.running c.in_ok-member.member c.in_ok-value.field-0
    (ap table_of_deck c.loop-factor.invariant.0)
    (omega (arith, c.loop-factor-test.true)) c.factor-item.is c.step_of_scale.ensures c.in_ok-member.ensures.reached
    c.in_ok-value.ensures c.in-End.step c.in-End.is
    ∙ (c.loop-factor.invariant.1
    ∙ ap (λ es. spec.failed_factors (spec.is_source_function_word now) (spec.source_value_of_tree now) None
    (factors_syntax es))
    c.as_slice-factor-items.ensures)

pub factor_step-loop-factor-preserved : goal.factor_step-loop-factor-preserved
factor_step-loop-factor-preserved g t c =
    let now = table_of_deck c.args.live.now.deck in (
      c.reach.ensures.deck ∙ c.loop-factor.invariant.0,
      next_value factor_step factor_operand now (along_factors now) (λ running x xs. refl)
          (table_of_deck c.loop-factor.live.deck) c.as_slice-factor-items.result.now c.loop-factor.factor-index
          c.factor-item.result
          c.step_of_scale.result c.loop-factor.running c.in_ok-member.member c.in_ok-value.field-0
          (ap table_of_deck c.loop-factor.invariant.0)
          (omega (arith, c.loop-factor-test.true)) c.factor-item.is c.step_of_scale.ensures
          c.in_ok-member.ensures.reached
          c.in_ok-value.ensures c.in-Value.value c.in-Value.is
          ∙ c.loop-factor.invariant.1,
    )

pub term_step-returns-in-End-clause-step : goal.term_step-returns-in-End-clause-step
term_step-returns-in-End-clause-step g t c =
    let now = table_of_deck c.args.live.now.deck in
    search_end term_step term_operand now (along_terms now) (λ running x xs. refl)
    (table_of_deck c.loop-term.live.deck) c.as_slice-term-items.result.now c.loop-term.term-index c.term-item.result
    c.step_of_sign.result c.loop-term.running c.in_ok-member.member c.in_ok-value.field-0
    (ap table_of_deck c.loop-term.invariant.0)
    (omega (arith, c.loop-term-test.true)) c.term-item.is c.step_of_sign.ensures c.in_ok-member.ensures.reached
    c.in_ok-value.ensures c.in-End.step c.in-End.is
    ∙ (c.loop-term.invariant.1
    ∙ ap (λ es. spec.failed_terms (spec.is_source_function_word now) (spec.source_value_of_tree now) None
    (terms_syntax es))
    c.as_slice-term-items.ensures)

pub term_step-loop-term-preserved : goal.term_step-loop-term-preserved
term_step-loop-term-preserved g t c =
    let now = table_of_deck c.args.live.now.deck in (
      c.reach.ensures.deck ∙ c.loop-term.invariant.0,
      next_value term_step term_operand now (along_terms now) (λ running x xs. refl)
          (table_of_deck c.loop-term.live.deck) c.as_slice-term-items.result.now c.loop-term.term-index
          c.term-item.result
          c.step_of_sign.result c.loop-term.running c.in_ok-member.member c.in_ok-value.field-0
          (ap table_of_deck c.loop-term.invariant.0)
          (omega (arith, c.loop-term-test.true)) c.term-item.is c.step_of_sign.ensures c.in_ok-member.ensures.reached
          c.in_ok-value.ensures c.in-Value.value c.in-Value.is
          ∙ c.loop-term.invariant.1,
    )
