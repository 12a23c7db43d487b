use Rattle.std.proofs.Common.{rules, arith}
use Rattle.value_sources.proofs.Weights.{failing_step_factor_lighter, failing_step_term_lighter}
use Rattle.value_sources.proofs.Weights.{failing_step_tree_lighter}
use Rattle.value_sources.proofs.call_list.+put.Goals as goal

pub put_member_calls-put_calls-requires : goal.put_member_calls-put_calls-requires
put_member_calls-put_calls-requires t c =
    let lighter = failing_step_tree_lighter c.as_slice-tree-items.result.now c.loop-tree.tree-index c.tree-item.result _
    (omega (arith, c.loop-tree-test.true)) c.tree-item.is c.as_slice-tree-items.ensures in
    search (rules, arith, lighter)

pub put_factor_calls-put_calls-requires : goal.put_factor_calls-put_calls-requires
put_factor_calls-put_calls-requires t c =
    let lighter = failing_step_factor_lighter c.as_slice-factor-items.result.now c.loop-factor.factor-index
    c.factor-item.result _
    (omega (arith, c.loop-factor-test.true)) c.factor-item.is c.as_slice-factor-items.ensures in
    search (rules, arith, lighter)

pub put_term_calls-put_calls-requires : goal.put_term_calls-put_calls-requires
put_term_calls-put_calls-requires t c =
    let lighter = failing_step_term_lighter c.as_slice-term-items.result.now c.loop-term.term-index c.term-item.result _
    (omega (arith, c.loop-term-test.true)) c.term-item.is c.as_slice-term-items.ensures in
    search (rules, arith, lighter)
