-- The trees of usual expressions: a word, a numeral, or a numeral or a fraction before a word.
use Rattle.std.proofs.Common.{◌≡◌, ℕ, ◌<◌, ◌≤◌, List, [], ◌∷◌, length, map, get_or, Option, Some}
use Rattle.std.proofs.Common.{refl, sym, ◌∙◌, ap, arith}
use Rattle.frac128.specs.Decimals.{NumeralDecimal}
use Rattle.expr_tree.specs.Grammar.{word_syntax, juxtaposition_syntax}
use Rattle.expr_tree.specs.TokenReading.{tree_of_token_list}
use Rattle.expr_tree.specs.TokenViews.{token_view}
use Rattle.expr_tree.specs.Syntax.{Syntax}
use Rattle.expr_tree.specs.Syntax as tree
use Rattle.expr_tree.specs.Tokens.{Token, Numeral, Word, Bar}
use Rattle.expr_tree.specs.declared.token.Token.{Token as Made}

-- the tree of a word alone is the word
tree_of_word_token : (b : Option (List ℕ)) (w : List ℕ) → tree_of_token_list b (Word w ∷ []) ≡ Some (word_syntax b w)
unfolding tree_of_token_list
tree_of_word_token b w = refl

-- the tree of a numeral alone is the number
tree_of_numeral_token : (b : Option (List ℕ)) (n : NumeralDecimal) → tree_of_token_list b (Numeral n ∷ []) ≡ Some
    (tree.Number n)
unfolding tree_of_token_list
tree_of_numeral_token b n = refl

-- the tree of a numeral before a word is their juxtaposition
tree_of_scaled_word_tokens : (b : Option (List ℕ)) (n : NumeralDecimal) (w : List ℕ)
    → tree_of_token_list b (Numeral n ∷ Word w ∷ []) ≡ Some
    (juxtaposition_syntax (tree.Number n) (tree.Member (word_syntax b w) tree.NoMember))
unfolding tree_of_token_list
tree_of_scaled_word_tokens b n w = refl

-- the tree of a fraction before a word is their juxtaposition
tree_of_fraction_word_tokens : (b : Option (List ℕ)) (n d : NumeralDecimal) (w : List ℕ)
    → tree_of_token_list b (Numeral n ∷ Bar ∷ Numeral d ∷ Word w ∷ [])
    ≡ Some (juxtaposition_syntax (tree.Bar n d) (tree.Member (word_syntax b w) tree.NoMember))
unfolding tree_of_token_list
tree_of_fraction_word_tokens b n d w = refl

-- a list of one token consists of this token
list_of_one_token : (ts : List Made) (x : Made) (t : Token) → 1 ≤ length ts → length ts < 2 → x ≡ get_or ts 0 x
    → token_view x ≡ t → map token_view ts ≡ t ∷ []
list_of_one_token [] x t l m a e = absurd (omega (arith, l))
list_of_one_token (p ∷ []) x t l m a e = ap (λ z. z ∷ []) (ap token_view (sym a) ∙ e)
list_of_one_token (p ∷ q ∷ ts) x t l m a e = absurd (omega (arith, m))

-- a list of two tokens consists of these tokens
list_of_two_tokens : (ts : List Made) (x y : Made) (t u : Token) → 2 ≤ length ts → length ts < 3
    → x ≡ get_or ts 0 x → y ≡ get_or ts 1 y → token_view x ≡ t → token_view y ≡ u → map token_view ts ≡ t ∷ u ∷ []
list_of_two_tokens [] x y t u l m a b e f = absurd (omega (arith, l))
list_of_two_tokens (p ∷ []) x y t u l m a b e f = absurd (omega (arith, l))
list_of_two_tokens (p ∷ q ∷ []) x y t u l m a b e f =
    ap (λ z. z ∷ token_view q ∷ []) (ap token_view (sym a) ∙ e) ∙ ap (λ z. t ∷ z ∷ []) (ap token_view (sym b) ∙ f)
list_of_two_tokens (p ∷ q ∷ r ∷ ts) x y t u l m a b e f = absurd (omega (arith, m))

-- a list of four tokens consists of these tokens
list_of_four_tokens : (ts : List Made) (x y z o : Made) (t u v w : Token) → 4 ≤ length ts → length ts < 5
    → x ≡ get_or ts 0 x → y ≡ get_or ts 1 y → z ≡ get_or ts 2 z → o ≡ get_or ts 3 o
    → token_view x ≡ t → token_view y ≡ u → token_view z ≡ v → token_view o ≡ w → map token_view ts ≡ t ∷ u ∷ v ∷ w ∷ []
list_of_four_tokens [] x y z o t u v w l m a b c d e f g h = absurd (omega (arith, l))
list_of_four_tokens (p ∷ []) x y z o t u v w l m a b c d e f g h = absurd (omega (arith, l))
list_of_four_tokens (p ∷ q ∷ []) x y z o t u v w l m a b c d e f g h = absurd (omega (arith, l))
list_of_four_tokens (p ∷ q ∷ r ∷ []) x y z o t u v w l m a b c d e f g h = absurd (omega (arith, l))
list_of_four_tokens (p ∷ q ∷ r ∷ s ∷ []) x y z o t u v w l m a b c d e f g h =
    ap (λ i. i ∷ token_view q ∷ token_view r ∷ token_view s ∷ []) (ap token_view (sym a) ∙ e)
    ∙ (ap (λ i. t ∷ i ∷ token_view r ∷ token_view s ∷ []) (ap token_view (sym b) ∙ f)
    ∙ (ap (λ i. t ∷ u ∷ i ∷ token_view s ∷ []) (ap token_view (sym c) ∙ g)
    ∙ ap (λ i. t ∷ u ∷ v ∷ i ∷ []) (ap token_view (sym d) ∙ h)))
list_of_four_tokens (p ∷ q ∷ r ∷ s ∷ i ∷ ts) x y z o t u v w l m a b c d e f g h = absurd (omega (arith, m))

-- the tree of a word
pub tree_of_word_list : (b : Option (List ℕ)) (ts : List Made) (x : Made) (w : List ℕ) (e : Syntax)
    → 1 ≤ length ts → length ts < 2 → x ≡ get_or ts 0 x → token_view x ≡ Word w → e ≡ word_syntax b w
    → tree_of_token_list b (map token_view ts) ≡ Some e
tree_of_word_list b ts x w e l m a is says =
    ap (tree_of_token_list b) (list_of_one_token ts x (Word w) l m a is) ∙ (tree_of_word_token b w ∙ ap Some (sym says))

-- the tree of a numeral
pub tree_of_numeral_list : (b : Option (List ℕ)) (ts : List Made) (x : Made) (n : NumeralDecimal) (e : Syntax)
    → 1 ≤ length ts → length ts < 2 → x ≡ get_or ts 0 x → token_view x ≡ Numeral n → e ≡ tree.Number n
    → tree_of_token_list b (map token_view ts) ≡ Some e
tree_of_numeral_list b ts x n e l m a is says =
    ap (tree_of_token_list b) (list_of_one_token ts x (Numeral n) l m a is)
    ∙ (tree_of_numeral_token b n ∙ ap Some (sym says))

-- the tree of a numeral before a word
pub tree_of_scaled_word_list : (b : Option (List ℕ)) (ts : List Made) (x y : Made) (n : NumeralDecimal) (w : List ℕ)
    (s e : Syntax)
    → 2 ≤ length ts → length ts < 3 → x ≡ get_or ts 0 x → y ≡ get_or ts 1 y → token_view x ≡ Numeral n
    → token_view y ≡ Word w
    → s ≡ tree.Number n → e ≡ juxtaposition_syntax s (tree.Member (word_syntax b w) tree.NoMember)
    → tree_of_token_list b (map token_view ts) ≡ Some e
tree_of_scaled_word_list b ts x y n w s e l m a c is last scale says =
    ap (tree_of_token_list b) (list_of_two_tokens ts x y (Numeral n) (Word w) l m a c is last)
    ∙ (tree_of_scaled_word_tokens b n w
    ∙ ap Some (sym (says ∙ ap (λ i. juxtaposition_syntax i (tree.Member (word_syntax b w) tree.NoMember)) scale)))

-- the tree of a fraction before a word
pub tree_of_fraction_word_list : (b : Option (List ℕ)) (ts : List Made) (x y z o : Made) (n k : NumeralDecimal)
    (w : List ℕ)
    (s e : Syntax)
    → 4 ≤ length ts → length ts < 5
    → x ≡ get_or ts 0 x → y ≡ get_or ts 1 y → z ≡ get_or ts 2 z → o ≡ get_or ts 3 o
    → token_view x ≡ Numeral n → token_view y ≡ Bar → token_view z ≡ Numeral k → token_view o ≡ Word w
    → s ≡ tree.Bar n k → e ≡ juxtaposition_syntax s (tree.Member (word_syntax b w) tree.NoMember)
    → tree_of_token_list b (map token_view ts) ≡ Some e
tree_of_fraction_word_list b ts x y z o n k w s e l m a c d f first second third last scale says =
    ap (tree_of_token_list b)
    (list_of_four_tokens ts x y z o (Numeral n) Bar (Numeral k) (Word w) l m a c d f first second third last)
    ∙ (tree_of_fraction_word_tokens b n k w
    ∙ ap Some (sym (says ∙ ap (λ i. juxtaposition_syntax i (tree.Member (word_syntax b w) tree.NoMember)) scale)))
