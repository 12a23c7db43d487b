use Rattle.std.proofs.Common.{ap, refl}
use Rattle.std.proofs.lemmas.Result.{IfOk-weaker}
use Rattle.std.specs.Option.{option_copied}
use Rattle.expr_tree.specs.TokenViews.{token_view}
use Rattle.expr_tree.proofs.Usual.{tree_of_fraction_word_list, tree_of_numeral_list, tree_of_scaled_word_list}
use Rattle.expr_tree.proofs.Usual.{tree_of_word_list}
use Rattle.expr_tree.proofs.Views.{syntax_of_number}
use Rattle.expr_tree.proofs.descent.tree_of_tokens.Goals as goal

pub returns-in-Word : goal.returns-in-Word
returns-in-Word c = IfOk-weaker c.word_tree.result _ _
    (λ e says. tree_of_word_list (option_copied c.args.binder) c.args.tokens.now _ c.in-Word.word.now _
    c.in-len1.len_at_least c.in-len1.len_below c.only-item.is (ap token_view c.in-Word.is) says)
    c.word_tree.ensures

pub returns-in-Numeral : goal.returns-in-Numeral
returns-in-Numeral c =
    tree_of_numeral_list (option_copied c.args.binder) c.args.tokens.now _ c.in-Numeral.n _
    c.in-len1.len_at_least c.in-len1.len_below c.only-item.is (ap token_view c.in-Numeral.is)
    (syntax_of_number c.in-Numeral.n)

pub returns-in-Numeral-Word : goal.returns-in-Numeral-Word
returns-in-Numeral-Word c = IfOk-weaker c.scaled_tree.result _ _
    (λ e says. tree_of_scaled_word_list (option_copied c.args.binder) c.args.tokens.now _ _ c.in-Numeral-Word.n
    c.in-Numeral-Word.word.now _ _ c.in-len2.len_at_least c.in-len2.len_below c.scale-item.is c.last-item.is
    (ap token_view c.in-Numeral-Word.is-0) (ap token_view c.in-Numeral-Word.is-1)
    (syntax_of_number c.in-Numeral-Word.n) says)
    c.scaled_tree.ensures

pub returns-in-Numeral-Bar-Numeral-Word : goal.returns-in-Numeral-Bar-Numeral-Word
returns-in-Numeral-Bar-Numeral-Word c =
    let a = c.in-Numeral-Bar-Numeral-Word in IfOk-weaker c.fraction_word_tree.result _ _
    (λ e says. tree_of_fraction_word_list (option_copied c.args.binder) c.args.tokens.now _ _ _ _ a.n a.d a.word.now _ _
    c.in-len4.len_at_least c.in-len4.len_below c.top-item.is c.bar-item.is c.bottom-item.is
    c.last-item-then-tokens-lt5.is (ap token_view a.is-0) (ap token_view a.is-1) (ap token_view a.is-2)
    (ap token_view a.is-3) refl says)
    c.fraction_word_tree.ensures
