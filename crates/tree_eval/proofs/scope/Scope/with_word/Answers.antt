use Rattle.std.proofs.Common.{sym, subst}
use Rattle.std.specs.Option.{option_copied}
use Rattle.tree_eval.specs.Answers.{GivesValueOrFault, amount_of_held_value}
use Rattle.tree_eval.specs.Operands.{value_with_operand}
use Rattle.tree_eval.specs.Steps.{ValueOrFault}
use Rattle.tree_eval.proofs.Alone.{eval_word_at_place}
use Rattle.tree_eval.proofs.Calls.{reported_eval_meaning_is_usable, reported_plain_word_value}
use Rattle.tree_eval.proofs.scope.Scope.with_word.Goals as goal

pub take_word-requires : goal.take_word-requires
take_word-requires g c =
    let s = eval_word_at_place _ _ c.requires in
    reported_eval_meaning_is_usable _ _ _ _ (c.in_ok-meaning.ensures.reports s.0 s.1)

pub returns-clause-value_or_fault : goal.returns-clause-value_or_fault
returns-clause-value_or_fault g c u at =
    subst (λ (w : ValueOrFault). GivesValueOrFault (λ _. amount_of_held_value c.take_word.new.held) c.take_word.result
    (value_with_operand c.args.step (amount_of_held_value c.args.held.now) w))
    (sym (reported_plain_word_value _ _ _ _ (option_copied c.args.self.now.arg) (c.in_ok-meaning.ensures.reports u at)))
    c.take_word.ensures
