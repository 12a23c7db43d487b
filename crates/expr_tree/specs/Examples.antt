-- Trees of a few token lists, worked out by hand.
use Rattle.std.specs.Prelude.{◌≡◌, ℕ, pos, List, [], ◌∷◌, Some, None}
use Rattle.frac128.specs.Decimals.{NumeralDecimal}
use Rattle.expr_tree.specs.declared.operator.RootKind.TheVariants.{Square}
use Rattle.expr_tree.specs.declared.operator.Scale.TheVariants.{Multiply, Divide}
use Rattle.expr_tree.specs.declared.operator.Sign.TheVariants as signs
use Rattle.expr_tree.specs.TokenReading.{tree_of_token_list}
use Rattle.expr_tree.specs.Syntax.{Syntax, NoMember, Member, NoFactor, Factor, NoTerm, Term, Negate, Power, Juxtaposed}
use Rattle.expr_tree.specs.Syntax.{Product, Sum, Group, Argument, Inverse}
use Rattle.expr_tree.specs.Syntax as tree
use Rattle.expr_tree.specs.Tokens.{Token, Numeral, Word, WordWithPower, Head, Root}
use Rattle.expr_tree.specs.Tokens.{Minus, Star, Slash, Bar, Caret, Tilde, Open, Close}

abbrev pub token_decimal : ℕ → NumeralDecimal
token_decimal n = record { coefficient = n; scale = pos 0 }

abbrev pub numeral_token : ℕ → Token
numeral_token n = Numeral (token_decimal n)

abbrev pub numeral_tree : ℕ → Syntax
numeral_tree n = tree.Number (token_decimal n)

-- the words `m`, `s` and `x`
abbrev pub token_word_m : List ℕ
token_word_m = 109 ∷ []

abbrev pub token_word_s : List ℕ
token_word_s = 115 ∷ []

abbrev pub token_word_x : List ℕ
token_word_x = 120 ∷ []

abbrev pub juxtaposed_trees : Syntax → Syntax → Syntax
juxtaposed_trees e f = Juxtaposed (Member e (Member f NoMember))

-- law: the trees of `2^3^2`, `-2^2`, `1/2 m`, `m/s s*m`, `2 - -m`, `m2^3`, `1|2 m`, `sqrt(m)`, and
-- of `x2`, `x(m)` and `~x(m)` with the binder `x`
abbrev pub TreeExamplesLaw : Type 0
TreeExamplesLaw =
    (tree_of_token_list None (numeral_token 2 ∷ Caret ∷ numeral_token 3 ∷ Caret ∷ numeral_token 2 ∷ [])
    ≡ Some (Power (numeral_tree 2) (Power (numeral_tree 3) (numeral_tree 2))))
    × (tree_of_token_list None (Minus ∷ numeral_token 2 ∷ Caret ∷ numeral_token 2 ∷ []) ≡ Some
    (Negate (Power (numeral_tree 2) (numeral_tree 2))))
    × (tree_of_token_list None (numeral_token 1 ∷ Slash ∷ numeral_token 2 ∷ Word token_word_m ∷ [])
    ≡ Some (Product (Factor Multiply (numeral_tree 1)
    (Factor Divide (juxtaposed_trees (numeral_tree 2) (tree.Word token_word_m)) NoFactor))))
    × (tree_of_token_list None
    (Word token_word_m ∷ Slash ∷ Word token_word_s ∷ Word token_word_s ∷ Star ∷ Word token_word_m ∷ [])
    ≡ Some (Product
    (Factor Multiply (tree.Word token_word_m)
    (Factor Divide (juxtaposed_trees (tree.Word token_word_s) (tree.Word token_word_s))
    (Factor Multiply (tree.Word token_word_m) NoFactor)))))
    × (tree_of_token_list None (numeral_token 2 ∷ Minus ∷ Minus ∷ Word token_word_m ∷ [])
    ≡ Some (Sum (Term signs.Plus (numeral_tree 2) (Term signs.Minus (Negate (tree.Word token_word_m)) NoTerm))))
    × (tree_of_token_list None (WordWithPower token_word_m (token_decimal 2) ∷ Caret ∷ numeral_token 3 ∷ [])
    ≡ Some (Power (Power (tree.Word token_word_m) (numeral_tree 2)) (numeral_tree 3)))
    × (tree_of_token_list None (numeral_token 1 ∷ Bar ∷ numeral_token 2 ∷ Word token_word_m ∷ [])
    ≡ Some (juxtaposed_trees (tree.Bar (token_decimal 1) (token_decimal 2)) (tree.Word token_word_m)))
    × (tree_of_token_list None (Root Square ∷ Open ∷ Word token_word_m ∷ Close ∷ []) ≡ Some
    (tree.Root Square (tree.Word token_word_m)))
    × (tree_of_token_list (Some token_word_x) (WordWithPower token_word_x (token_decimal 2) ∷ []) ≡ Some
    (Power Argument (numeral_tree 2)))
    × (tree_of_token_list (Some token_word_x) (Head token_word_x ∷ Word token_word_m ∷ Close ∷ []) ≡ Some
    (Group (juxtaposed_trees Argument (tree.Word token_word_m))))
    × (tree_of_token_list (Some token_word_x) (Tilde ∷ Head token_word_x ∷ Word token_word_m ∷ Close ∷ []) ≡ Some
    (Inverse token_word_x (tree.Word token_word_m)))
