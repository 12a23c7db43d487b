use Rattle.std.proofs.Common.{rules, arith, ◌≡◌, ◌∙◌, Some, ap, length}
use Rattle.std.specs.Prelude.{slice_get}
use Rattle.expr_tree.specs.Syntax.{Word}
use Rattle.expr_tree.specs.Trees.{syntax, syntax_of_trees}
use Rattle.tree_eval.proofs.Multiples.{two_operands_are_multiple}
use Rattle.tree_eval.proofs.multiple.factor_of_word.Goals as goal

pub returns-in-Word : goal.returns-in-Word
returns-in-Word c =
    let says : syntax c.unwrap.result.now ≡ Word c.in-Word.field-0 =
    ap syntax c.in-Word.is ∙ c.view_law.ensures.word c.in-Word.field-0 in
    let two : length (syntax_of_trees c.args.trees.now) ≡ 2 = search (rules, arith) in
    let first : slice_get (syntax_of_trees c.args.trees.now) 0 ≡ Some (syntax c.unwrap-in-Word.result.now) =
    search (rules) in
    let last : slice_get (syntax_of_trees c.args.trees.now) 1 ≡ Some (Word c.in-Word.field-0) = search (rules) in
    two_operands_are_multiple (syntax_of_trees c.args.trees.now) (syntax c.unwrap-in-Word.result.now) c.in-Word.field-0
    two first last
    c.number_of.result c.number_of.ensures.wordless c.number_of.ensures.says
