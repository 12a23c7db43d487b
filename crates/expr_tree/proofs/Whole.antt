-- A sum that ends at the last token has all tokens.
use Rattle.std.proofs.Common.{◌≡◌, ℕ, List, [], ◌∷◌, map, Option, Some, refl, ◌∙◌, ap, true}
use Rattle.expr_tree.specs.declared.token.Token.{Token as Made}
use Rattle.expr_tree.specs.Front.{SumTreeAt, tokens_from, tokens_stop, token_follows_sum}
use Rattle.expr_tree.specs.Grammar.{sum}
use Rattle.expr_tree.specs.TokenReading.{tree_of_token_list}
use Rattle.expr_tree.specs.Rules.{EndsOperand, tokens_fit}
use Rattle.expr_tree.specs.TokenViews.{token_view}
use Rattle.expr_tree.specs.Syntax.{Syntax}
use Rattle.expr_tree.specs.Tokens.{Token, Close}
use Rattle.expr_tree.proofs.DerivationSearch.{tree_of_token_list_law}

-- if no parenthesis is open after a sum, no token is left
no_tokens_left_after_sum : (y : List Token) → tokens_stop token_follows_sum y ≡ true → tokens_fit EndsOperand 0 y ≡ true
    → y ≡ []
no_tokens_left_after_sum [] s f = refl
no_tokens_left_after_sum (Close ∷ y) s f = cc
no_tokens_left_after_sum (t ∷ y) s f = cc

-- a sum up to the last token is the tree of the tokens
pub whole_sum_is_tree_of_tokens : (b : Option (List ℕ)) (ts : List Made) (e : Syntax) (end : ℕ)
    → SumTreeAt b 0 (tokens_from ts 0) e (tokens_from ts end) → tree_of_token_list b (map token_view ts) ≡ Some e
whole_sum_is_tree_of_tokens b ts e end p =
    let all : tokens_from ts end ≡ [] = no_tokens_left_after_sum _ p.stop p.fit in
    (tree_of_token_list_law b (map token_view ts) e).1
    (p.front_part, p.tokens_split ∙ ap (sum p.front_part) all, p.tree_of_part)
