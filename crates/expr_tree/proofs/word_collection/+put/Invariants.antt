use Rattle.std.proofs.Common.{◌≡◌, ◌++◌, drop, map}
use Rattle.expr_tree.specs.Trees.{factor_syntax, factors_syntax, members_syntax, syntax, term_syntax, terms_syntax}
use Rattle.expr_tree.specs.Words.{words_in_factors, words_in_members, words_in_terms}
use Rattle.expr_tree.proofs.word_collection.+put.Given as goal

abbrev pub invariant-put_members-loop-tree : goal.invariant-put_members-loop-tree
invariant-put_members-loop-tree l =
    l.words ++ words_in_members (members_syntax (map syntax (drop l.tree-index l.tree-items)))
    ≡ l.initial.words ++ words_in_members (members_syntax (map syntax l.tree-items))

abbrev pub invariant-put_factors-loop-member : goal.invariant-put_factors-loop-member
invariant-put_factors-loop-member l =
    l.words ++ words_in_factors (factors_syntax (map factor_syntax (drop l.member-index l.member-items)))
    ≡ l.initial.words ++ words_in_factors (factors_syntax (map factor_syntax l.member-items))

abbrev pub invariant-put_terms-loop-member : goal.invariant-put_terms-loop-member
invariant-put_terms-loop-member l =
    l.words ++ words_in_terms (terms_syntax (map term_syntax (drop l.member-index l.member-items)))
    ≡ l.initial.words ++ words_in_terms (terms_syntax (map term_syntax l.member-items))
