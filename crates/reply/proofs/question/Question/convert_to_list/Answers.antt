use Rattle.std.proofs.Common.{Err, List, Ok, ap, subst, sym, ◌∙◌, ℕ}
use Rattle.std.proofs.lemmas.Result.{err_from_is_err_and}
use Rattle.std.specs.Prelude.{Vec}
use Rattle.std.specs.declared.alloc.Global.{Global}
use Rattle.deck.specs.Tables.{table_of_deck}
use Rattle.expr_tree.specs.declared.tree.Tree.{Tree}
use Rattle.quantity.specs.Amount.{Amount}
use Rattle.reply.specs.Calls.{IsInquiryAnswered, IsInquiryWithoutQueriesAnswered, inquiry_failure, inquiry_identity}
use Rattle.reply.specs.Calls.{inquiry_syntaxes}
use Rattle.reply.specs.Conversions.{conversion_to_list}
use Rattle.reply.specs.Targets.{conversion_target_parts}
use Rattle.reply.specs.Trees.{inquiry_trees}
use Rattle.reply.proofs.ConversionCalls.{split-counted, split-unparsed, split-unvalued}
use Rattle.reply.proofs.UnitCounts.{conversion-list-has-a-unit}
use Rattle.reply.proofs.question.Question.convert_to_list.Goals as goal

pub returns-in_err-trees-clause-inquired : goal.returns-in_err-trees-clause-inquired
returns-in_err-trees-clause-inquired g c =
    let p = err_from_is_err_and c.from_residual.result c.from_residual.ensures.1 in
    subst (λ r. IsInquiryAnswered inquiry_identity
    (conversion_to_list (table_of_deck c.args.table.now.deck) c.args.self.now.options.now c.args.list c.args.x) r
    c.args.table.now c.args.table.now c.args.steps.now c.args.steps.now) (sym (p.1 ∙ ap Err p.2))
    (split-unparsed (table_of_deck c.args.table.now.deck) c.args.self.now.options.now c.args.list c.args.x
    c.args.table.now
    c.args.steps.now c.outcomes_are_right.ensures (λ (trees : Vec Tree Global). inquiry_syntaxes trees.items)
    c.in_err-trees.field-0.0
    (subst (λ (l : List ℕ). IsInquiryWithoutQueriesAnswered (λ (trees : Vec Tree Global). inquiry_syntaxes trees.items)
    (inquiry_trees (conversion_target_parts l))
    (Err c.in_err-trees.field-0.0)) c.as_bytes.ensures c.in_err-trees.ensures))

pub count_units-requires : goal.count_units-requires
count_units-requires g c =
    conversion-list-has-a-unit (table_of_deck c.args.table.now.deck) c.args.list
    (inquiry_syntaxes c.as_slice.result.now) c.in_ok-units.units.items
    ((λ i. inquiry_trees (conversion_target_parts (sym c.as_bytes.ensures i))) ∙ c.in_ok-trees.ensures
    ∙ (λ i. Ok (inquiry_syntaxes (sym c.as_slice.ensures.value i)))) c.in_ok-units.ensures.inquired.0

pub returns-in_err-units-clause-inquired : goal.returns-in_err-units-clause-inquired
returns-in_err-units-clause-inquired g c =
    let p = err_from_is_err_and c.from_residual-in_err-units.result c.from_residual-in_err-units.ensures.1 in
    subst (λ r. IsInquiryAnswered inquiry_identity
    (conversion_to_list (table_of_deck c.args.table.now.deck) c.args.self.now.options.now c.args.list c.args.x) r
    c.args.table.now c.evaluate_texts.new.table c.args.steps.now c.evaluate_texts.new.steps) (sym (p.1 ∙ ap Err p.2))
    (split-unvalued (table_of_deck c.args.table.now.deck) c.args.self.now.options.now c.args.list c.args.x
    c.args.table.now
    c.args.steps.now c.outcomes_are_right.ensures (λ (units : Vec Amount Global). units.items)
    (inquiry_syntaxes c.as_slice.result.now)
    ((λ i. inquiry_trees (conversion_target_parts (sym c.as_bytes.ensures i))) ∙ c.in_ok-trees.ensures
    ∙ (λ i. Ok (inquiry_syntaxes (sym c.as_slice.ensures.value i))))
    c.evaluate_texts.new.table c.evaluate_texts.new.steps (inquiry_failure c.in_err-units.field-0.0)
    c.in_err-units.ensures.inquired)

pub returns-clause-inquired : goal.returns-clause-inquired
returns-clause-inquired g c =
    split-counted (table_of_deck c.args.table.now.deck) c.args.self.now.options.now c.args.list c.args.x
    c.args.table.now
    c.args.steps.now c.outcomes_are_right.ensures (λ (units : Vec Amount Global). units.items)
    (inquiry_syntaxes c.as_slice.result.now)
    ((λ i. inquiry_trees (conversion_target_parts (sym c.as_bytes.ensures i))) ∙ c.in_ok-trees.ensures
    ∙ (λ i. Ok (inquiry_syntaxes (sym c.as_slice.ensures.value i))))
    c.evaluate_texts.new.table c.evaluate_texts.new.steps c.in_ok-units.units c.count_units.result
    c.evaluate_texts.ensures.deck
    c.in_ok-units.ensures.inquired c.count_units.ensures
