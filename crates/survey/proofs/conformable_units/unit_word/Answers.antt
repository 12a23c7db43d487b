use Rattle.std.proofs.Common.{◌∙◌, ap}
use Rattle.deck.specs.PlacedKeys.{borrowed_deck_key, deck_key_at_place}
use Rattle.expr_tree.specs.Syntax.{Word}
use Rattle.expr_tree.specs.Trees.{syntax}
use Rattle.expr_tree.specs.declared.tree.Tree.TheVariants as made
use Rattle.expr_tree.proofs.Views.{syntax_of_word}
use Rattle.survey.proofs.UnitRows.{conformable-unit-has-its-word, nonunit-has-no-conformable-word}
use Rattle.survey.proofs.conformable_units.unit_word.Goals as goal

pub returns-in_ok-from_bytes-in-Unit : goal.returns-in_ok-from_bytes-in-Unit
returns-in_ok-from_bytes-in-Unit c =
    conformable-unit-has-its-word (borrowed_deck_key c.in-Some.key)
    (deck_key_at_place c.args.deck.now.lines c.args.place)
    (syntax (made.Word c.in_ok-from_bytes-in-Unit.field-0)) c.in-Unit.is c.in-Some.ensures
    (syntax_of_word c.in_ok-from_bytes-in-Unit.field-0 ∙ ap Word c.in_ok-from_bytes-in-Unit.ensures)

pub returns-in_default-kind : goal.returns-in_default-kind
returns-in_default-kind c =
    nonunit-has-no-conformable-word (borrowed_deck_key c.in-Some.key)
    (deck_key_at_place c.args.deck.now.lines c.args.place) c.in_default-kind.not-Unit
    c.in-Some.ensures
