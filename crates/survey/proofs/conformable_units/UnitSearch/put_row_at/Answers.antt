use Rattle.std.proofs.Common.{◌≡◌, ◌∙◌, ap, subst, sym}
use Rattle.std.specs.Prelude.{None, Result, Some, option_map}
use Rattle.std.specs.declared.alloc.AllocError.{AllocError}
use Rattle.std.proofs.lemmas.Result.{err_from_is_err_and}
use Rattle.deck.specs.Decks.{DeckContents}
use Rattle.deck.specs.Tables.{table_of_deck}
use Rattle.expr_tree.specs.Syntax.{Word}
use Rattle.expr_tree.specs.Trees.{syntax}
use Rattle.expr_tree.specs.Words.{words_in}
use Rattle.live_table.specs.Answers.{live_table_answer}
use Rattle.live_table.specs.Calls.{AreLiveQueries}
use Rattle.live_table.specs.States.{AsksWords}
use Rattle.live_table.proofs.NameQueries.{live_events_cut_at_start}
use Rattle.deck.specs.PlacedKeys.{deck_key_at_place}
use Rattle.tree_eval.specs.Value.{value}
use Rattle.table_names.specs.Faults.{name_fault}
use Rattle.table_names.specs.Meanings.{expansion}
use Rattle.survey.specs.Places.{conformable_unit_at_place, search_hits_of_key}
use Rattle.survey.specs.Rows.{search_hit_row_of_key}
use Rattle.survey.proofs.Places.{unit_queries_at}
use Rattle.survey.proofs.UnitRows.{conformable-word-by-unit-value, no-query, no-row, word-asked}
use Rattle.survey.proofs.ValuedUnits.{answer_of, conformable_value_has_memory, conformable_value_is_inquiry}
use Rattle.survey.proofs.ValuedUnits.{conformable_value_row}
use Rattle.survey.proofs.conformable_units.UnitSearch.put_row_at.Goals as goal

pub returns-in_err-word-clause-queries : goal.returns-in_err-word-clause-queries
returns-in_err-word-clause-queries g c =
    let all = unit_queries_at c.args.table.now.deck c.args.place in
    subst (λ (r : Result (Unit {0}) AllocError). AreLiveQueries all r
    c.args.table.now c.args.table.now c.args.steps.now c.args.steps.now)
    (sym (err_from_is_err_and c.from_residual.result c.from_residual.ensures.1).1)
    (live_events_cut_at_start all c.args.table.now c.args.steps.now c.requires)

-- ---- there is no unit
pub returns-in_default-clause-rows : goal.returns-in_default-clause-rows
returns-in_default-clause-rows g c =
    no-row c.args.table.now.deck c.args.place
    (subst (λ (d : DeckContents). None ≡ option_map (λ k. Word k.name) (conformable_unit_at_place d c.args.place))
    c.deck.ensures.deck
    (ap (option_map syntax) (sym c.in_default.is) ∙ c.in_ok-word.ensures))
    c.args.self.now.from.now c.args.rows.now.items

pub returns-in_default-clause-queries : goal.returns-in_default-clause-queries
returns-in_default-clause-queries g c =
    no-query c.args.table.now.deck c.args.place
    (subst (λ (d : DeckContents). None ≡ option_map (λ k. Word k.name) (conformable_unit_at_place d c.args.place))
    c.deck.ensures.deck
    (ap (option_map syntax) (sym c.in_default.is) ∙ c.in_ok-word.ensures))
    c.args.table.now c.args.steps.now c.requires

-- ---- there is a unit
pub returns-clause-rows : goal.returns-clause-rows
returns-clause-rows g c =
    let tree = syntax c.in-Some.word in
    let t = table_of_deck c.args.table.now.deck in
    let said = live_table_answer t tree in
    let found = answer_of said c.value_if_any-found.result in
    conformable-word-by-unit-value c.args.self.now.from.now c.args.table.now.deck c.args.place tree
    (subst (λ (d : DeckContents). Some tree ≡ option_map (λ k. Word k.name) (conformable_unit_at_place d c.args.place))
    c.deck.ensures.deck
    (ap (option_map syntax) (sym c.in-Some.is) ∙ c.in_ok-word.ensures))
    c.args.table.now c.value_if_any-found.new.self c.args.steps.now c.value_if_any-found.new.steps found
    (conformable_value_is_inquiry (AsksWords (words_in tree)) said c.value_if_any-found.result c.args.table.now
    c.value_if_any-found.new.self c.args.steps.now c.value_if_any-found.new.steps c.value_if_any-found.ensures.deck
    c.value_if_any-found.ensures.after)
    c.deck-2.result.now (c.deck-2.ensures.deck ∙ c.value_if_any-found.ensures.deck)
    c.args.rows.now.items c.put_if_conforming.new.rows.items c.put_if_conforming.result
    (conformable_value_row c.args.self.now.from.now said c.value_if_any-found.result c.put_if_conforming.result
    c.args.rows.now.items
    c.put_if_conforming.new.rows.items
    (search_hits_of_key (search_hit_row_of_key (table_of_deck c.deck-2.result.now))
    (deck_key_at_place c.deck-2.result.now.lines c.args.place))
    c.value_if_any-found.ensures.value c.put_if_conforming.ensures.row c.put_if_conforming.ensures.memory)
    (conformable_value_has_memory (name_fault t (words_in tree)) (value (expansion t tree) None)
    c.value_if_any-found.result
    c.put_if_conforming.result c.put_if_conforming.ensures.memory)

pub returns-clause-queries : goal.returns-clause-queries
returns-clause-queries g c =
    let tree = syntax c.in-Some.word in
    let t = table_of_deck c.args.table.now.deck in
    let said = live_table_answer t tree in
    word-asked c.args.table.now.deck c.args.place c.args.table.now c.value_if_any-found.new.self c.args.steps.now
    c.value_if_any-found.new.steps (answer_of said c.value_if_any-found.result) c.put_if_conforming.result
    (conformable_value_has_memory (name_fault t (words_in tree)) (value (expansion t tree) None)
    c.value_if_any-found.result
    c.put_if_conforming.result c.put_if_conforming.ensures.memory) tree
    (subst (λ (d : DeckContents). Some tree ≡ option_map (λ k. Word k.name) (conformable_unit_at_place d c.args.place))
    c.deck.ensures.deck
    (ap (option_map syntax) (sym c.in-Some.is) ∙ c.in_ok-word.ensures))
    (conformable_value_is_inquiry (AsksWords (words_in tree)) said c.value_if_any-found.result c.args.table.now
    c.value_if_any-found.new.self c.args.steps.now c.value_if_any-found.new.steps c.value_if_any-found.ensures.deck
    c.value_if_any-found.ensures.after)
    c.value_if_any-found.ensures.deck
