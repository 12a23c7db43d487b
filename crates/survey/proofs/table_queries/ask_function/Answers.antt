use Rattle.std.proofs.Common.{◌≡◌, ◌∙◌, ◌∷◌, [], List, ℕ, None, ap, subst, sym}
use Rattle.deck.specs.Tables.{table_of_deck}
use Rattle.expr_tree.specs.declared.word_list.WordUse.{WordUse}
use Rattle.expr_tree.specs.Trees.{syntax}
use Rattle.expr_tree.specs.Words.{words_in}
use Rattle.table_names.specs.Faults.{name_fault}
use Rattle.table_names.specs.Meanings.{expansion}
use Rattle.tree_eval.specs.Expansion.{called_eval_word}
use Rattle.tree_eval.specs.Value.{value}
use Rattle.live_table.specs.States.{AsksWords}
use Rattle.reply.specs.Calls.{IsInquiryAnswered, inquiry_identity, inquiry_result}
use Rattle.survey.specs.Calls.{check_of_names_alone}
use Rattle.survey.specs.Checks.{names_finding}
use Rattle.survey.proofs.Questions.{names-asked, names-inquired}
use Rattle.survey.proofs.table_queries.ask_function.Goals as goal

pub returns-clause-inquired : goal.returns-clause-inquired
returns-clause-inquired g c =
    let called : words_in (syntax c.in_ok-call.call) ≡ called_eval_word c.args.key.now.name ∷ [] =
    c.in_ok-call.ensures {u = tt} ∙ ap (λ (name : List ℕ). called_eval_word name ∷ []) c.as_bytes.ensures in
    subst (λ r. IsInquiryAnswered inquiry_identity (names_finding (table_of_deck c.args.table.now.deck) c.args.key.now)
    (inquiry_result r)
    c.args.table.now c.value.new.self c.args.steps.now c.value.new.steps) (sym c.names_alone.ensures)
    (subst (λ (words : List WordUse). IsInquiryAnswered inquiry_identity
    (names-asked (AsksWords words) (name_fault (table_of_deck c.args.table.now.deck) words))
    (inquiry_result (check_of_names_alone c.value.result))
    c.args.table.now c.value.new.self c.args.steps.now c.value.new.steps) called
    (names-inquired (AsksWords (words_in (syntax c.in_ok-call.call)))
    (name_fault (table_of_deck c.args.table.now.deck) (words_in (syntax c.in_ok-call.call)))
    (value (expansion (table_of_deck c.args.table.now.deck) (syntax c.in_ok-call.call)) None)
    c.args.table.now c.value.new.self c.args.steps.now c.value.new.steps c.value.result c.value.ensures.answer
    c.value.ensures.after))
