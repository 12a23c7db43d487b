use Rattle.std.proofs.Common.{arith, ap, sym, ◌∙◌}
use Rattle.std.specs.Option.{option_copied}
use Rattle.def_entry.specs.Views.{entry_definition_view}
use Rattle.expr_tree.specs.Syntax as tree
use Rattle.expr_tree.specs.Trees.{syntax}
use Rattle.tree_eval.specs.Answers.{amount_of_held_value}
use Rattle.tree_eval.specs.Expansion.{expand}
use Rattle.tree_eval.specs.Steps.{operand_step_value}
use Rattle.tree_eval.specs.declared.direction.Direction.TheVariants.{Forward, Inverse}
use Rattle.tree_eval.proofs.Alone.{alone_gives, alone_within, member_gives}
use Rattle.tree_eval.proofs.Arms.{base_lighter, base_stands, chain_ends, chain_gives, chain_lighter, chain_stands}
use Rattle.tree_eval.proofs.Arms.{exponent_lighter, exponent_stands, group_part, negate_part, power_ends, power_gives}
use Rattle.tree_eval.proofs.Arms.{power_pair, root_part}
use Rattle.tree_eval.proofs.Chains.{begins, end_place, value_at_end, first_fault, first_lighter, first_stand}
use Rattle.tree_eval.proofs.Chains.{run_goes_on}
use Rattle.tree_eval.proofs.Chains.{member_fault, member_lighter, member_stand}
use Rattle.tree_eval.proofs.MemberChains.{juxtaposed_is, product_is, sum_is}
use Rattle.tree_eval.proofs.Multiples.{multiple_gives, multiple_place, multiple_usable, multiple_within}
use Rattle.tree_eval.proofs.StepBinds.{after_evaluated, after_success, evaluated_value, failure_fault, success_value}
use Rattle.tree_eval.proofs.Targets.{alias_eval_word_is_callable}
use Rattle.tree_eval.proofs.Uses.{function_lighter, operand_lighter, operand_stands, use_at_run, use_gives}
use Rattle.tree_eval.proofs.Uses.{use_has_function}
use Rattle.tree_eval.proofs.Uses.{use_is_usable}
use Rattle.tree_eval.proofs.Words.{operand_fault, product_gives, taken_give, word_fault}
use Rattle.tree_eval.proofs.+eval.Goals as goal

pub scope::Scope::evaluate-word-requires : goal.scope::Scope::evaluate-word-requires
scope::Scope::evaluate-word-requires g t c =
    alone_within _ _ (ap syntax c.in-Word.is ∙ c.view_law.ensures.word c.in-Word.field-0) c.requires

pub scope::Scope::evaluate-returns-in-Word-clause-value_or_fault
    : goal.scope::Scope::evaluate-returns-in-Word-clause-value_or_fault
scope::Scope::evaluate-returns-in-Word-clause-value_or_fault g t c =
    alone_gives _ _ (ap syntax c.in-Word.is ∙ c.view_law.ensures.word c.in-Word.field-0) c.requires
    (g.E.Env.means c.args.self.now.env.now) _ _ _ c.word.ensures.value_or_fault

pub scope::Scope::evaluate-evaluate_use-requires : goal.scope::Scope::evaluate-evaluate_use-requires
scope::Scope::evaluate-evaluate_use-requires g t c κs within =
    let part = use_at_run Forward _ _ _ _
    (ap syntax c.in-Call.is
    ∙ (c.view_law.ensures.call c.in-Call.field-0 c.in-Call.operand
    ∙ ap (λ y. tree.Call c.in-Call.field-0.value (syntax y)) (sym c.deref-in-Call.ensures)))
    c.requires (g.E.Env.means c.args.self.now.env.now) in
    (omega (arith, part.lighter), (within, (part.within, part.stand)))

pub scope::Scope::evaluate-returns-in-Call-clause-value_or_fault
    : goal.scope::Scope::evaluate-returns-in-Call-clause-value_or_fault
scope::Scope::evaluate-returns-in-Call-clause-value_or_fault g t c =
    use_gives Forward _ _ _ _
    (ap syntax c.in-Call.is
    ∙ (c.view_law.ensures.call c.in-Call.field-0 c.in-Call.operand
    ∙ ap (λ y. tree.Call c.in-Call.field-0.value (syntax y)) (sym c.deref-in-Call.ensures)))
    c.requires (g.E.Env.means c.args.self.now.env.now) _ _ _ c.evaluate_use.ensures.value_or_fault

pub scope::Scope::evaluate-evaluate_use-requires-in-Inverse
    : goal.scope::Scope::evaluate-evaluate_use-requires-in-Inverse
scope::Scope::evaluate-evaluate_use-requires-in-Inverse g t c κs within =
    let part = use_at_run Inverse _ _ _ _
    (ap syntax c.in-Inverse.is
    ∙ (c.view_law.ensures.inverse c.in-Inverse.field-0 c.in-Inverse.operand
    ∙ ap (λ y. tree.Inverse c.in-Inverse.field-0.value (syntax y)) (sym c.deref-in-Inverse.ensures)))
    c.requires (g.E.Env.means c.args.self.now.env.now) in
    (omega (arith, part.lighter), (within, (part.within, part.stand)))

pub scope::Scope::evaluate-returns-in-Inverse-clause-value_or_fault
    : goal.scope::Scope::evaluate-returns-in-Inverse-clause-value_or_fault
scope::Scope::evaluate-returns-in-Inverse-clause-value_or_fault g t c =
    use_gives Inverse _ _ _ _
    (ap syntax c.in-Inverse.is
    ∙ (c.view_law.ensures.inverse c.in-Inverse.field-0 c.in-Inverse.operand
    ∙ ap (λ y. tree.Inverse c.in-Inverse.field-0.value (syntax y)) (sym c.deref-in-Inverse.ensures)))
    c.requires (g.E.Env.means c.args.self.now.env.now) _ _ _ c.evaluate_use-in-Inverse.ensures.value_or_fault

pub scope::Scope::evaluate-group-requires : goal.scope::Scope::evaluate-group-requires
scope::Scope::evaluate-group-requires g t c κs within =
    let part = group_part (g.E.Env.means c.args.self.now.env.now)
    (ap syntax c.in-Group.is
    ∙ (c.view_law.ensures.group c.in-Group.operand ∙ ap (λ y. tree.Group (syntax y)) (sym c.deref-in-Group.ensures)))
    c.requires in
    (omega (arith, part.lighter), (within, part.stand))

pub scope::Scope::evaluate-root-requires : goal.scope::Scope::evaluate-root-requires
scope::Scope::evaluate-root-requires g t c κs within =
    let part = root_part (g.E.Env.means c.args.self.now.env.now)
    (ap syntax c.in-Root.is
    ∙ (c.view_law.ensures.root c.in-Root.kind c.in-Root.operand
    ∙ ap (λ y. tree.Root c.in-Root.kind (syntax y)) (sym c.deref-in-Root.ensures))) c.requires in
    (omega (arith, part.lighter), (within, part.stand))

pub scope::Scope::evaluate-evaluate_negative-requires : goal.scope::Scope::evaluate-evaluate_negative-requires
scope::Scope::evaluate-evaluate_negative-requires g t c κs within =
    let part = negate_part (g.E.Env.means c.args.self.now.env.now)
    (ap syntax c.in-Negate.is
    ∙ (c.view_law.ensures.negate c.in-Negate.operand
    ∙ ap (λ y. tree.Negate (syntax y)) (sym c.deref-in-Negate.ensures))) c.requires in
    (omega (arith, part.lighter), (within, part.stand))

pub scope::Scope::evaluate-power-requires : goal.scope::Scope::evaluate-power-requires
scope::Scope::evaluate-power-requires g t c κs within =
    let pair = power_pair (g.E.Env.means c.args.self.now.env.now)
    (ap syntax c.in-Power.is
    ∙ (c.view_law.ensures.power c.in-Power.base c.in-Power.exponent
    ∙ λ i. tree.Power (syntax (sym c.deref-in-Power.ensures i)) (syntax (sym c.deref-in-Power-2.ensures i))))
    c.requires in
    (omega (arith, pair.lighter), (within, pair.stand))

pub scope::Scope::power-evaluate-requires : goal.scope::Scope::power-evaluate-requires
scope::Scope::power-evaluate-requires g t c κs within =
    let lighter = base_lighter (g.E.Env.means c.args.self.now.env.now) (syntax c.args.base.now)
    (syntax c.args.exponent.now) in
    let stand = base_stands _ _ (syntax c.args.base.now) (syntax c.args.exponent.now) c.requires in
    (omega (arith, lighter), (within, stand))

pub scope::Scope::power-evaluate-requires-2 : goal.scope::Scope::power-evaluate-requires-2
scope::Scope::power-evaluate-requires-2 g t c κs within =
    let lighter = exponent_lighter (g.E.Env.means c.args.self.now.env.now) (syntax c.args.base.now)
    (syntax c.args.exponent.now) in
    let stand = exponent_stands _ _ (syntax c.args.base.now) (syntax c.args.exponent.now) c.requires
    (after_success _ c.evaluate.ensures.place c.in_ok-evaluate.ensures) in
    (omega (arith, lighter), (within, stand))

pub scope::Scope::power-returns-in-Ok-clause-value_or_fault
    : goal.scope::Scope::power-returns-in-Ok-clause-value_or_fault
scope::Scope::power-returns-in-Ok-clause-value_or_fault g t c =
    power_gives (expand (g.E.Env.means c.args.self.now.env.now) (syntax c.args.base.now))
    (expand (g.E.Env.means c.args.self.now.env.now) (syntax c.args.exponent.now)) (option_copied c.args.self.now.arg)
    (success_value _ _ c.evaluate.ensures.value_or_fault c.in_ok-evaluate.ensures) _ _
    (evaluated_value _ _ _ _ c.evaluate-2.ensures.value_or_fault (sym c.into_result.ensures ∙ c.in-Ok.is) _ _
    c.take_power.ensures)

pub scope::Scope::power-returns-in-Ok-clause-place : goal.scope::Scope::power-returns-in-Ok-clause-place
scope::Scope::power-returns-in-Ok-clause-place g t c =
    after_evaluated _ _ _ (sym c.into_result.ensures ∙ c.in-Ok.is)
    (power_ends _ (syntax c.args.base.now) (syntax c.args.exponent.now) _ _ _
    (after_success _ c.evaluate.ensures.place c.in_ok-evaluate.ensures) c.evaluate-2.ensures.place)

pub scope::Scope::evaluate-evaluate_juxtaposition-requires : goal.scope::Scope::evaluate-evaluate_juxtaposition-requires
scope::Scope::evaluate-evaluate_juxtaposition-requires g t c κs within =
    let is = juxtaposed_is (g.E.Env.means c.args.self.now.env.now) {e = syntax c.args.tree.now} _
    (ap syntax c.in-Juxtaposed.is ∙ c.view_law.ensures.juxtaposition c.in-Juxtaposed.trees) in
    (omega (arith, chain_lighter is), (within, chain_stands is _ _ c.requires))

pub scope::Scope::evaluate-chain-requires-in-Juxtaposed-2 : goal.scope::Scope::evaluate-chain-requires-in-Juxtaposed-2
scope::Scope::evaluate-chain-requires-in-Juxtaposed-2 g t c κs within =
    let is = juxtaposed_is (g.E.Env.means c.args.self.now.env.now) {e = syntax c.args.tree.now} _
    (ap syntax c.in-Juxtaposed-2.is ∙ c.view_law.ensures.juxtaposition c.in-Juxtaposed-2.trees) in
    (omega (arith, chain_lighter is), (within, chain_stands is _ _ c.requires))

pub scope::Scope::evaluate-returns-in-Juxtaposed-clause-value_or_fault
    : goal.scope::Scope::evaluate-returns-in-Juxtaposed-clause-value_or_fault
scope::Scope::evaluate-returns-in-Juxtaposed-clause-value_or_fault g t c =
    let is = juxtaposed_is (g.E.Env.means c.args.self.now.env.now) {e = syntax c.args.tree.now} _
    (ap syntax c.in-Juxtaposed.is ∙ c.view_law.ensures.juxtaposition c.in-Juxtaposed.trees) in
    chain_gives is _ _ _ c.evaluate_juxtaposition.ensures.value_or_fault

pub scope::Scope::evaluate-returns-in-Juxtaposed-clause-place
    : goal.scope::Scope::evaluate-returns-in-Juxtaposed-clause-place
scope::Scope::evaluate-returns-in-Juxtaposed-clause-place g t c =
    let is = juxtaposed_is (g.E.Env.means c.args.self.now.env.now) {e = syntax c.args.tree.now} _
    (ap syntax c.in-Juxtaposed.is ∙ c.view_law.ensures.juxtaposition c.in-Juxtaposed.trees) in
    chain_ends is _ _ _ c.evaluate_juxtaposition.ensures.place

pub scope::Scope::evaluate-returns-in-Juxtaposed-2-clause-value_or_fault
    : goal.scope::Scope::evaluate-returns-in-Juxtaposed-2-clause-value_or_fault
scope::Scope::evaluate-returns-in-Juxtaposed-2-clause-value_or_fault g t c =
    let is = juxtaposed_is (g.E.Env.means c.args.self.now.env.now) {e = syntax c.args.tree.now} _
    (ap syntax c.in-Juxtaposed-2.is ∙ c.view_law.ensures.juxtaposition c.in-Juxtaposed-2.trees) in
    chain_gives is _ _ _ c.chain-in-Juxtaposed-2.ensures.value_or_fault

pub scope::Scope::evaluate-returns-in-Juxtaposed-2-clause-place
    : goal.scope::Scope::evaluate-returns-in-Juxtaposed-2-clause-place
scope::Scope::evaluate-returns-in-Juxtaposed-2-clause-place g t c =
    let is = juxtaposed_is (g.E.Env.means c.args.self.now.env.now) {e = syntax c.args.tree.now} _
    (ap syntax c.in-Juxtaposed-2.is ∙ c.view_law.ensures.juxtaposition c.in-Juxtaposed-2.trees) in
    chain_ends is _ _ _ c.chain-in-Juxtaposed-2.ensures.place

pub scope::Scope::evaluate-chain-requires : goal.scope::Scope::evaluate-chain-requires
scope::Scope::evaluate-chain-requires g t c κs within =
    let is = product_is (g.E.Env.means c.args.self.now.env.now) {e = syntax c.args.tree.now} _
    (ap syntax c.in-Product.is ∙ c.view_law.ensures.product c.in-Product.factors) in
    (omega (arith, chain_lighter is), (within, chain_stands is _ _ c.requires))

pub scope::Scope::evaluate-returns-in-Product-clause-value_or_fault
    : goal.scope::Scope::evaluate-returns-in-Product-clause-value_or_fault
scope::Scope::evaluate-returns-in-Product-clause-value_or_fault g t c =
    let is = product_is (g.E.Env.means c.args.self.now.env.now) {e = syntax c.args.tree.now} _
    (ap syntax c.in-Product.is ∙ c.view_law.ensures.product c.in-Product.factors) in
    chain_gives is _ _ _ c.chain.ensures.value_or_fault

pub scope::Scope::evaluate-returns-in-Product-clause-place : goal.scope::Scope::evaluate-returns-in-Product-clause-place
scope::Scope::evaluate-returns-in-Product-clause-place g t c =
    let is = product_is (g.E.Env.means c.args.self.now.env.now) {e = syntax c.args.tree.now} _
    (ap syntax c.in-Product.is ∙ c.view_law.ensures.product c.in-Product.factors) in
    chain_ends is _ _ _ c.chain.ensures.place

pub scope::Scope::evaluate-chain-requires-in-Sum : goal.scope::Scope::evaluate-chain-requires-in-Sum
scope::Scope::evaluate-chain-requires-in-Sum g t c κs within =
    let is = sum_is (g.E.Env.means c.args.self.now.env.now) {e = syntax c.args.tree.now} _
    (ap syntax c.in-Sum.is ∙ c.view_law.ensures.sum c.in-Sum.terms) in
    (omega (arith, chain_lighter is), (within, chain_stands is _ _ c.requires))

pub scope::Scope::evaluate-returns-in-Sum-clause-value_or_fault
    : goal.scope::Scope::evaluate-returns-in-Sum-clause-value_or_fault
scope::Scope::evaluate-returns-in-Sum-clause-value_or_fault g t c =
    let is = sum_is (g.E.Env.means c.args.self.now.env.now) {e = syntax c.args.tree.now} _
    (ap syntax c.in-Sum.is ∙ c.view_law.ensures.sum c.in-Sum.terms) in
    chain_gives is _ _ _ c.chain-in-Sum.ensures.value_or_fault

pub scope::Scope::evaluate-returns-in-Sum-clause-place : goal.scope::Scope::evaluate-returns-in-Sum-clause-place
scope::Scope::evaluate-returns-in-Sum-clause-place g t c =
    let is = sum_is (g.E.Env.means c.args.self.now.env.now) {e = syntax c.args.tree.now} _
    (ap syntax c.in-Sum.is ∙ c.view_law.ensures.sum c.in-Sum.terms) in
    chain_ends is _ _ _ c.chain-in-Sum.ensures.place

pub scope::Scope::evaluate_use-put_word-requires : goal.scope::Scope::evaluate_use-put_word-requires
scope::Scope::evaluate_use-put_word-requires g t c =
    use_is_usable _ _ c.requires.within _ _ _ _ c.in_ok-meaning.ensures.reports

pub scope::Scope::evaluate_use-evaluate-requires : goal.scope::Scope::evaluate_use-evaluate-requires
scope::Scope::evaluate_use-evaluate-requires g t c κs within =
    let lighter = operand_lighter _ _ c.requires.within _ _ _ _ c.in_ok-meaning.ensures.reports c.args.direction
    (expand (g.E.Env.means c.args.self.now.env.now) (syntax c.args.operand.now)) in
    (omega (arith, lighter), (within, operand_stands _ _ _ _ c.requires.stand c.in_ok-meaning.ensures.place))

pub scope::Scope::evaluate_use-join_member-requires : goal.scope::Scope::evaluate_use-join_member-requires
scope::Scope::evaluate_use-join_member-requires g t c κs within =
    let lighter = operand_lighter _ _ c.requires.within _ _ _ _ c.in_ok-meaning.ensures.reports c.args.direction
    (expand (g.E.Env.means c.args.self.now.env.now) (syntax c.args.operand.now)) in
    (omega (arith, lighter), (within, operand_stands _ _ _ _ c.requires.stand c.in_ok-meaning.ensures.place))

pub scope::Scope::evaluate_use-put_taken-requires : goal.scope::Scope::evaluate_use-put_taken-requires
scope::Scope::evaluate_use-put_taken-requires g t c κs within =
    let lighter = function_lighter _ _ c.requires.within _ _ _ _ c.in_ok-meaning.ensures.reports c.args.direction
    (expand (g.E.Env.means c.args.self.now.env.now) (syntax c.args.operand.now)) c.in-Function.is in
    let has = use_has_function _ _ c.requires.within _ _ _ _ c.in_ok-meaning.ensures.reports c.in-Function.is in
    (omega (arith, lighter), (within, has))

pub scope::Scope::evaluate_use-returns-in_err-put_word-clause-value_or_fault
    : goal.scope::Scope::evaluate_use-returns-in_err-put_word-clause-value_or_fault
scope::Scope::evaluate_use-returns-in_err-put_word-clause-value_or_fault g t c u at =
    rw c.from_residual-in_err-put_word.ensures
    (word_fault _ _ _ _ _ _ (c.in_ok-meaning.ensures.reports u at) c.in_default.not-Function _
    (failure_fault _ _ c.put_word.ensures c.in_err-put_word.ensures))

pub scope::Scope::evaluate_use-returns-clause-value_or_fault
    : goal.scope::Scope::evaluate_use-returns-clause-value_or_fault
scope::Scope::evaluate_use-returns-clause-value_or_fault g t c u at =
    product_gives _ _ _ _ _ _ (c.in_ok-meaning.ensures.reports u at) c.in_default.not-Function
    (success_value _ _ c.put_word.ensures c.in_ok-put_word.ensures) _ _
    c.join_member.ensures.value_or_fault

pub scope::Scope::evaluate_use-returns-in_err-evaluate-clause-value_or_fault
    : goal.scope::Scope::evaluate_use-returns-in_err-evaluate-clause-value_or_fault
scope::Scope::evaluate_use-returns-in_err-evaluate-clause-value_or_fault g t c u at =
    rw c.from_residual-in_err-evaluate.ensures
    (operand_fault _ _ _ _ _ _ (c.in_ok-meaning.ensures.reports u at) c.in-Function.is _
    (failure_fault _ _ c.evaluate.ensures.value_or_fault c.in_err-evaluate.ensures))

pub scope::Scope::evaluate_use-returns-in-Function-clause-value_or_fault
    : goal.scope::Scope::evaluate_use-returns-in-Function-clause-value_or_fault
scope::Scope::evaluate_use-returns-in-Function-clause-value_or_fault g t c u at =
    taken_give _ _ _ _ _ _ (c.in_ok-meaning.ensures.reports u at) c.in-Function.is
    (success_value _ _ c.evaluate.ensures.value_or_fault c.in_ok-evaluate.ensures) _ _
    c.put_taken.ensures

pub scope::Scope::evaluate_juxtaposition-next_meaning-requires
    : goal.scope::Scope::evaluate_juxtaposition-next_meaning-requires
scope::Scope::evaluate_juxtaposition-next_meaning-requires g t c =
    multiple_within _ c.in-Some.is c.factor_of_word.ensures _ _ c.requires

pub scope::Scope::evaluate_juxtaposition-put_multiple-requires
    : goal.scope::Scope::evaluate_juxtaposition-put_multiple-requires
scope::Scope::evaluate_juxtaposition-put_multiple-requires g t c =
    multiple_usable _ c.in-Some.is c.factor_of_word.ensures _ _ c.requires _ _ _ _
    c.in_ok-meaning-in-Some.ensures.reports

pub scope::Scope::evaluate_juxtaposition-returns-in_ok-meaning-in-Some-clause-value_or_fault
    : goal.scope::Scope::evaluate_juxtaposition-returns-in_ok-meaning-in-Some-clause-value_or_fault
scope::Scope::evaluate_juxtaposition-returns-in_ok-meaning-in-Some-clause-value_or_fault g t c =
    multiple_gives _ c.in-Some.is c.factor_of_word.ensures _ _ c.requires _ _ _ _
    c.in_ok-meaning-in-Some.ensures.reports _ _ _ c.put_multiple.ensures

pub scope::Scope::evaluate_juxtaposition-returns-in_ok-meaning-in-Some-clause-place
    : goal.scope::Scope::evaluate_juxtaposition-returns-in_ok-meaning-in-Some-clause-place
scope::Scope::evaluate_juxtaposition-returns-in_ok-meaning-in-Some-clause-place g t c =
    multiple_place _ c.in-Some.is c.factor_of_word.ensures c.put_multiple.result _
    c.in_ok-meaning-in-Some.ensures.place

pub scope::Scope::chain-evaluate-requires : goal.scope::Scope::chain-evaluate-requires
scope::Scope::chain-evaluate-requires g t c κs within =
    let lighter = first_lighter _ c.get.ensures (g.E.Env.means c.args.self.now.env.now) in
    (omega (arith, lighter), (within, first_stand _ c.get.ensures _ _ c.requires))

pub scope::Scope::chain-returns-in_err-evaluate-clause-value_or_fault
    : goal.scope::Scope::chain-returns-in_err-evaluate-clause-value_or_fault
scope::Scope::chain-returns-in_err-evaluate-clause-value_or_fault g t c =
    rw c.from_residual.ensures (first_fault _ c.get.ensures (g.E.Env.means c.args.self.now.env.now)
    (option_copied c.args.self.now.arg) _
    (failure_fault _ _ c.evaluate.ensures.value_or_fault c.in_err-evaluate.ensures))

pub scope::Scope::chain-loop-i-init : goal.scope::Scope::chain-loop-i-init
scope::Scope::chain-loop-i-init g t c =
    begins _ c.get.ensures _ _ c.requires
    (success_value _ _ c.evaluate.ensures.value_or_fault c.in_ok-evaluate.ensures)
    (after_success _ c.evaluate.ensures.place c.in_ok-evaluate.ensures)

pub scope::Scope::chain-with_member-requires : goal.scope::Scope::chain-with_member-requires
scope::Scope::chain-with_member-requires g t c κs within =
    let lighter = member_lighter c.loop-i.invariant c.get-in-loop-i.ensures in
    (omega (arith, lighter), (within, member_stand c.loop-i.invariant c.get-in-loop-i.ensures))

pub scope::Scope::chain-returns-in_err-with_member-clause-value_or_fault
    : goal.scope::Scope::chain-returns-in_err-with_member-clause-value_or_fault
scope::Scope::chain-returns-in_err-with_member-clause-value_or_fault g t c =
    rw c.from_residual-in_err-with_member.ensures (member_fault c.loop-i.invariant c.get-in-loop-i.ensures _
    (failure_fault _ _ c.with_member.ensures.value_or_fault c.in_err-with_member.ensures))

pub scope::Scope::chain-loop-i-preserved : goal.scope::Scope::chain-loop-i-preserved
scope::Scope::chain-loop-i-preserved g t c =
    run_goes_on c.loop-i.invariant c.get-in-loop-i.ensures
    (success_value _ _ c.with_member.ensures.value_or_fault c.in_ok-with_member.ensures)
    (after_success _ c.with_member.ensures.place c.in_ok-with_member.ensures)

pub scope::Scope::chain-returns-clause-value_or_fault : goal.scope::Scope::chain-returns-clause-value_or_fault
scope::Scope::chain-returns-clause-value_or_fault g t c =
    rw c.success-2.ensures (value_at_end c.loop-i.invariant (omega (arith, c.len-i-end.ensures)))

pub scope::Scope::chain-returns-clause-place : goal.scope::Scope::chain-returns-clause-place
scope::Scope::chain-returns-clause-place g t c =
    rw c.success-2.ensures (end_place c.loop-i.invariant (omega (arith, c.len-i-end.ensures)))

pub scope::Scope::with_member-with_word-requires : goal.scope::Scope::with_member-with_word-requires
scope::Scope::with_member-with_word-requires g t c =
    alone_within _ _ (ap syntax c.in-Word.is ∙ c.view_law.ensures.word c.in-Word.field-0) c.requires

pub scope::Scope::with_member-returns-in-Word-clause-value_or_fault
    : goal.scope::Scope::with_member-returns-in-Word-clause-value_or_fault
scope::Scope::with_member-returns-in-Word-clause-value_or_fault g t c =
    member_gives _ _ (ap syntax c.in-Word.is ∙ c.view_law.ensures.word c.in-Word.field-0) c.requires
    (g.E.Env.means c.args.self.now.env.now) _ _ _ _ _ c.with_word.ensures.value_or_fault

pub scope::Scope::join_member-returns-in-Ok-clause-value_or_fault
    : goal.scope::Scope::join_member-returns-in-Ok-clause-value_or_fault
scope::Scope::join_member-returns-in-Ok-clause-value_or_fault g t c =
    evaluated_value _ _ _
    (operand_step_value c.args.operand.step (amount_of_held_value c.args.held.now))
    c.evaluate.ensures.value_or_fault (sym c.into_result.ensures ∙ c.in-Ok.is) _ _ c.take_member.ensures

pub scope::Scope::join_member-returns-in-Ok-clause-place
    : goal.scope::Scope::join_member-returns-in-Ok-clause-place
scope::Scope::join_member-returns-in-Ok-clause-place g t c =
    after_evaluated _ _ _ (sym c.into_result.ensures ∙ c.in-Ok.is) c.evaluate.ensures.place

pub function::take-target_of-requires-clause-word : goal.function::take-target_of-requires-clause-word
function::take-target_of-requires-clause-word g t c =
    alias_eval_word_is_callable (g.E.Env.words c.args.env.now) (g.E.Env.means c.args.env.now) c.args.id
    (g.E.Env.callee c.args.env.now c.args.id)
    (entry_definition_view c.function.result.now) c.in-Alias.field-0 c.function.ensures
    (ap entry_definition_view c.in-Alias.is)
