-- The front of a list of tokens: single tokens, and derivations followed by the other tokens.
use Rattle.std.specs.Prelude.{◌≡◌, ◌<◌, ◌≤◌, ℕ, Bool, true, false, List, [], ◌∷◌, drop, length, map, Option, Some, None}
use Rattle.std.specs.Prelude.{Result, IfOk}
use Rattle.std.specs.declared.alloc.AllocError.{AllocError}
use Rattle.frac128.specs.Decimals.{NumeralDecimal}
use Rattle.expr_tree.specs.declared.operator.Scale.{Scale}
use Rattle.expr_tree.specs.declared.operator.Scale.TheVariants.{Multiply, Divide}
use Rattle.expr_tree.specs.declared.operator.Sign.{Sign}
use Rattle.expr_tree.specs.declared.operator.Sign.TheVariants as signs
use Rattle.expr_tree.specs.declared.token.Token.{Token as Made}
use Rattle.expr_tree.specs.declared.tree.Tree.{Tree}
use Rattle.expr_tree.specs.Grammar.{Sum, sum, sum_tree, product, product_tree, juxtaposition, juxtaposition_tree, power}
use Rattle.expr_tree.specs.Grammar.{power_tree, exponent_tokens, exponent_tree, atom, atom_tree}
use Rattle.expr_tree.specs.Rules.{EndsOperand, begins_operand, tokens_fit}
use Rattle.expr_tree.specs.TokenViews.{token_view}
use Rattle.expr_tree.specs.Syntax.{Syntax}
use Rattle.expr_tree.specs.Tokens.{Token, Numeral, Plus, Minus, Star, Slash, Bar, Caret, Close}
use Rattle.expr_tree.specs.Trees.{syntax}

-- the tokens from a place on
abbrev pub tokens_from : List Made → ℕ → List Token
tokens_from ts i = map token_view (drop i ts)

-- the sign that is the first token
abbrev pub first_token_sign : List Token → Option Sign
first_token_sign (Plus ∷ ts) = Some signs.Plus
first_token_sign (Minus ∷ ts) = Some signs.Minus
first_token_sign _ = None

-- the `*` or `/` that is the first token
abbrev pub first_token_scale : List Token → Option Scale
first_token_scale (Star ∷ ts) = Some Multiply
first_token_scale (Slash ∷ ts) = Some Divide
first_token_scale _ = None

-- the first token is a `^`
abbrev pub first_token_is_caret : List Token → Bool
first_token_is_caret (Caret ∷ ts) = true
first_token_is_caret _ = false

-- the first token can begin an operand
abbrev pub tokens_begin_operand : List Token → Bool
tokens_begin_operand [] = false
tokens_begin_operand (t ∷ ts) = begins_operand t

-- the numeral after a `|` that is the first token
abbrev pub first_token_denominator : List Token → Option NumeralDecimal
first_token_denominator (Bar ∷ Numeral n ∷ ts) = Some n
first_token_denominator _ = None

-- there is no token, or the first one satisfies `follow`
abbrev pub tokens_stop : (Token → Bool) → List Token → Bool
tokens_stop follow [] = true
tokens_stop follow (t ∷ ts) = follow t

-- which tokens may follow each rule of the grammar

abbrev pub token_follows_sum : Token → Bool
token_follows_sum Close = true
token_follows_sum _ = false

abbrev pub token_follows_product : Token → Bool
token_follows_product Close = true
token_follows_product Plus = true
token_follows_product Minus = true
token_follows_product _ = false

abbrev pub token_follows_juxtaposition : Token → Bool
token_follows_juxtaposition Close = true
token_follows_juxtaposition Plus = true
token_follows_juxtaposition Minus = true
token_follows_juxtaposition Star = true
token_follows_juxtaposition Slash = true
token_follows_juxtaposition _ = false

abbrev pub token_follows_power : Token → Bool
token_follows_power Caret = false
token_follows_power Bar = false
token_follows_power _ = true

abbrev pub token_follows_atom : Token → Bool
token_follows_atom Bar = false
token_follows_atom _ = true

-- the tokens are a derivation of the tree followed by the others, which may follow an operand inside `opened`
-- parentheses
pub record IsTreeAtFront {X : Type 0} (spell : X → List Token → List Token) (tree : X → Syntax) (follow : Token → Bool)
    (opened : ℕ) (ts : List Token) (e : Syntax) (others : List Token) : Type 0 where
  pub front_part : X
  pub tokens_split : ts ≡ spell front_part others
  pub tree_of_part : e ≡ tree front_part
  pub stop : tokens_stop follow others ≡ true
  pub fit : tokens_fit EndsOperand opened others ≡ true

-- `IsTreeAtFront` for each rule of the grammar

abbrev pub SumTreeAt : Option (List ℕ) → ℕ → List Token → Syntax → List Token → Type 0
SumTreeAt binder = IsTreeAtFront sum (sum_tree binder) token_follows_sum

abbrev pub ProductTreeAt : Option (List ℕ) → ℕ → List Token → Syntax → List Token → Type 0
ProductTreeAt binder = IsTreeAtFront product (product_tree binder) token_follows_product

abbrev pub JuxtapositionTreeAt : Option (List ℕ) → ℕ → List Token → Syntax → List Token → Type 0
JuxtapositionTreeAt binder = IsTreeAtFront juxtaposition (juxtaposition_tree binder) token_follows_juxtaposition

abbrev pub PowerTreeAt : Option (List ℕ) → ℕ → List Token → Syntax → List Token → Type 0
PowerTreeAt binder = IsTreeAtFront power (power_tree binder) token_follows_power

abbrev pub ExponentTreeAt : Option (List ℕ) → ℕ → List Token → Syntax → List Token → Type 0
ExponentTreeAt binder = IsTreeAtFront exponent_tokens (exponent_tree binder) token_follows_power

abbrev pub AtomTreeAt : Option (List ℕ) → ℕ → List Token → Syntax → List Token → Type 0
AtomTreeAt binder = IsTreeAtFront atom (atom_tree binder) token_follows_atom

-- the tokens are a sum and its `)` followed by the others
pub record IsSumInParens (binder : Option (List ℕ)) (opened : ℕ) (ts : List Token) (e : Syntax)
    (others : List Token) : Type 0 where
  pub inner_sum : Sum
  pub tokens_split : ts ≡ sum inner_sum (Close ∷ others)
  pub tree_of_sum : e ≡ sum_tree binder inner_sum
  pub fit : tokens_fit EndsOperand opened others ≡ true

-- what a rule reads at a place: its tree begins there, and ends at a later place
abbrev pub IsTreeReadAt : (List Token → Syntax → List Token → Type 0) → List Made → ℕ → Result (Tree × ℕ) AllocError
    → Type 0
IsTreeReadAt Stands tokens at result =
    IfOk result (λ read. Stands (tokens_from tokens at) (syntax read.0) (tokens_from tokens read.1)
    × (at < read.1) × (read.1 ≤ length tokens))
