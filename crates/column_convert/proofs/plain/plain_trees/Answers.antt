use Rattle.std.proofs.Common.{◌∙◌, subst, sym}
use Rattle.std.specs.Prelude.{IfSome}
use Rattle.std.specs.declared.option.Option.{Option}
use Rattle.deck.specs.Tables.{table_of_deck}
use Rattle.expr_tree.specs.declared.tree.Tree.{Tree}
use Rattle.expr_tree.specs.Trees.{syntax}
use Rattle.column_convert.specs.CachedValues.{IsColumnTextParsedAs}
use Rattle.column_convert.proofs.PlainTrees.{column_texts_are_plain}
use Rattle.column_convert.proofs.plain.plain_trees.Goals as goal

pub returns : goal.returns
returns c =
    column_texts_are_plain (table_of_deck c.args.deck.now) c.args.from.now c.args.to.now c.trim-to.result.now
    (syntax c.in-Some.from_tree)
    (syntax c.in-Some-2.to_tree) c.trim-to.ensures
    (sym c.are_plain.ensures ∙ c.if-not-are_plain.false)
    (c.in_ok-has_products.ensures c.if-not-branch.false)
    (subst (λ (o : Option Tree). IfSome o (λ tree. IsColumnTextParsedAs c.args.from.now (syntax tree))) c.in-Some.is
    c.in_ok-from_tree.ensures)
    (subst (λ (o : Option Tree). IfSome o (λ tree. IsColumnTextParsedAs c.trim-to.result.now (syntax tree)))
    c.in-Some-2.is
    c.in_ok-to_tree.ensures)
