-- The meanings and the words of lists of trees, member by member.
use Rattle.std.proofs.Common.{◌≡◌, ◌<◌, ◌+◌, ℕ, List, [], ◌∷◌, ◌++◌, map, take, drop, length, get_or, ap, append_assoc}
use Rattle.std.proofs.lemmas.List.{append-nil, drop_more, map-append, take_all, take_more}
use Rattle.expr_tree.specs.declared.operator.Scale.{Scale}
use Rattle.expr_tree.specs.declared.operator.Sign.{Sign}
use Rattle.expr_tree.specs.declared.tree.Tree.{Tree}
use Rattle.expr_tree.specs.Trees.{factor_syntax, factors_syntax, members_syntax, syntax, term_syntax, terms_syntax}
use Rattle.expr_tree.specs.Words.{words_in, words_in_factors, words_in_members, words_in_terms}
use Rattle.expr_tree.proofs.Views.{views}

pub ruleset says = (views, append-nil, append_assoc)

-- the words of the members from a place on are those of the one there and of those after it
pub tree_member_words_at : (ts : List Tree) (i : ℕ) (d : Tree) → i < length ts
    → words_in_members (members_syntax (map syntax (drop i ts))) ≡ words_in (syntax (get_or ts i d))
    ++ words_in_members (members_syntax (map syntax (drop (i + 1) ts)))
tree_member_words_at ts i d h = ap (λ xs. words_in_members (members_syntax (map syntax xs))) (drop_more ts i d h)

-- the words of the factors from a place on are those of the one there and of those after it
pub tree_factor_words_at : (fs : List (Scale × Tree)) (i : ℕ) (d : Scale × Tree) → i < length fs
    → words_in_factors (factors_syntax (map factor_syntax (drop i fs))) ≡ words_in (syntax (get_or fs i d).1)
    ++ words_in_factors (factors_syntax (map factor_syntax (drop (i + 1) fs)))
tree_factor_words_at fs i d h = ap (λ xs. words_in_factors (factors_syntax (map factor_syntax xs))) (drop_more fs i d h)

-- the words of the terms from a place on are those of the one there and of those after it
pub tree_term_words_at : (ts : List (Sign × Tree)) (i : ℕ) (d : Sign × Tree) → i < length ts
    → words_in_terms (terms_syntax (map term_syntax (drop i ts))) ≡ words_in (syntax (get_or ts i d).1)
    ++ words_in_terms (terms_syntax (map term_syntax (drop (i + 1) ts)))
tree_term_words_at ts i d h = ap (λ xs. words_in_terms (terms_syntax (map term_syntax xs))) (drop_more ts i d h)

pub ruleset member_words = (tree_member_words_at, append_assoc, append-nil)

pub ruleset factor_words = (tree_factor_words_at, append_assoc, append-nil)

pub ruleset term_words = (tree_term_words_at, append_assoc, append-nil)

-- the copies of the members before a place, extended by a copy of the member there
pub syntax-trees-push : (ts : List Tree) (i : ℕ) (d c : Tree) (cs : List Tree) → i < length ts
    → map syntax cs ≡ map syntax (take i ts) → syntax c ≡ syntax (get_or ts i d)
    → map syntax (cs ++ c ∷ []) ≡ map syntax (take (i + 1) ts)
syntax-trees-push ts i d c cs h e f =
    rw (map-append syntax cs (c ∷ []), e, f, take_more ts i d h, map-append syntax (take i ts) (get_or ts i d ∷ []))

-- the copies of the factors before a place, extended by a copy of the factor there
pub syntax-factors-push : (fs : List (Scale × Tree)) (i : ℕ) (d c : Scale × Tree) (cs : List (Scale × Tree))
    → i < length fs
    → map factor_syntax cs ≡ map factor_syntax (take i fs) → factor_syntax c ≡ factor_syntax (get_or fs i d)
    → map factor_syntax (cs ++ c ∷ []) ≡ map factor_syntax (take (i + 1) fs)
syntax-factors-push fs i d c cs h e f =
    rw (
      map-append factor_syntax cs (c ∷ []),
      e,
      f,
      take_more fs i d h,
      map-append factor_syntax (take i fs)
          (get_or fs i d ∷ []),
    )

-- the copies of the terms before a place, extended by a copy of the term there
pub syntax-terms-push : (ts : List (Sign × Tree)) (i : ℕ) (d c : Sign × Tree) (cs : List (Sign × Tree)) → i < length ts
    → map term_syntax cs ≡ map term_syntax (take i ts) → term_syntax c ≡ term_syntax (get_or ts i d)
    → map term_syntax (cs ++ c ∷ []) ≡ map term_syntax (take (i + 1) ts)
syntax-terms-push ts i d c cs h e f =
    rw (
      map-append term_syntax cs (c ∷ []),
      e,
      f,
      take_more ts i d h,
      map-append term_syntax (take i ts)
          (get_or ts i d ∷ []),
    )

pub ruleset copies = (syntax-trees-push, syntax-factors-push, syntax-terms-push, take_all)
