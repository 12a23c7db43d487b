-- Which token is allowed at which place, when the tokens may end, and how deep a token is nested.
use Rattle.std.specs.Prelude.{◌≡◌, ℕ, suc, ◌-◌, Bool, true, false, ◌||◌, ◌&&◌, IsTrue, nat_eq, nat_lt}
use Rattle.std.specs.Prelude.{List, [], ◌∷◌, take, Some, slice_get}
use Rattle.expr_tree.specs.Tokens.{Token, Numeral, Word, WordWithPower, Head, Root}
use Rattle.expr_tree.specs.Tokens.{Plus, Minus, Star, Slash, Bar, Caret, Tilde, Open, Close}
pub use Rattle.expr_tree.specs.declared.rules.After.{After}
pub use Rattle.expr_tree.specs.declared.rules.After.TheVariants.{WantsOperand, WantsHead, WantsOpen, WantsNumeral}
pub use Rattle.expr_tree.specs.declared.rules.After.TheVariants.{EndsNumeral, EndsOperand}

abbrev pub begins_operand : Token → Bool
begins_operand (Numeral n) = true
begins_operand (Word w) = true
begins_operand (WordWithPower w d) = true
begins_operand (Head w) = true
begins_operand (Root n) = true
begins_operand Tilde = true
begins_operand Open = true
begins_operand _ = false

abbrev pub is_sign_token : Token → Bool
is_sign_token Plus = true
is_sign_token Minus = true
is_sign_token _ = false

abbrev pub is_operator_token : Token → Bool
is_operator_token Plus = true
is_operator_token Minus = true
is_operator_token Star = true
is_operator_token Slash = true
is_operator_token Caret = true
is_operator_token _ = false

-- the state after a token, by the state before it
abbrev pub state_after_token : Token → After → After
state_after_token (Numeral n) WantsNumeral = EndsOperand
state_after_token (Numeral n) _ = EndsNumeral
state_after_token (Word w) _ = EndsOperand
state_after_token (WordWithPower w d) _ = EndsOperand
state_after_token Close _ = EndsOperand
state_after_token Tilde _ = WantsHead
state_after_token (Root n) _ = WantsOpen
state_after_token Bar _ = WantsNumeral
state_after_token _ _ = WantsOperand

-- an operand has ended
abbrev pub operand_tokens_have_ended : After → Bool
operand_tokens_have_ended EndsNumeral = true
operand_tokens_have_ended EndsOperand = true
operand_tokens_have_ended _ = false

-- whether the token may follow, by the state after the tokens before it and the number of open parentheses
abbrev pub may : After → ℕ → Token → Bool
may WantsOperand open_parens t = begins_operand t || is_sign_token t
may WantsHead open_parens (Head w) = true
may WantsOpen open_parens Open = true
may WantsNumeral open_parens (Numeral n) = true
may EndsNumeral open_parens Bar = true
may EndsNumeral open_parens Close = nat_lt 0 open_parens
may EndsNumeral open_parens t = begins_operand t || is_operator_token t
may EndsOperand open_parens Close = nat_lt 0 open_parens
may EndsOperand open_parens t = begins_operand t || is_operator_token t
may _ open_parens t = false

-- whether the tokens may end
abbrev pub may_end_tokens : After → ℕ → Bool
may_end_tokens last open_parens = operand_tokens_have_ended last && nat_eq open_parens 0

-- a `(` or a head
abbrev pub opens : Token → Bool
opens (Head w) = true
opens Open = true
opens _ = false

-- the tokens after it are nested deeper: it is a `(`, a head, a `^` or a sign, which is a `+` or `-` that does not
-- follow the end of an operand
abbrev pub deepens : Token → After → Bool
deepens Caret last = true
deepens Plus EndsNumeral = false
deepens Plus EndsOperand = false
deepens Plus _ = true
deepens Minus EndsNumeral = false
deepens Minus EndsOperand = false
deepens Minus _ = true
deepens t last = opens t

abbrev pub closes_paren : Token → Bool
closes_paren Close = true
closes_paren _ = false

-- one more, one less, or the same
abbrev pub token_count_after : Bool → Bool → ℕ → ℕ
token_count_after true less n = suc n
token_count_after false true n = n - 1
token_count_after false false n = n

-- how many parentheses are open after a token, by how many are open before it
abbrev pub open_parens_after : Token → ℕ → ℕ
open_parens_after t open_parens = token_count_after (opens t) (closes_paren t) open_parens

-- the depth of the token after a token, by the depth of that token
abbrev pub depth_after_token : Token → After → ℕ → ℕ
depth_after_token t last token_depth = token_count_after (deepens t last) (closes_paren t) token_depth

-- each of the tokens is allowed at its place and they may end, by the state before them
abbrev pub tokens_fit : After → ℕ → List Token → Bool
tokens_fit last open_parens [] = may_end_tokens last open_parens
tokens_fit last open_parens (t ∷ ts) = may last open_parens t && tokens_fit (state_after_token t last)
    (open_parens_after t open_parens)
    ts

-- the plain rules, which look at all tokens before a place

-- the state after a list of tokens
abbrev pub state_after_tokens : After → List Token → After
state_after_tokens last [] = last
state_after_tokens last (t ∷ ts) = state_after_tokens (state_after_token t last) ts

-- how many tokens of a list open a parenthesis, deepen, and close
abbrev pub count_opening_tokens : List Token → ℕ
count_opening_tokens [] = 0
count_opening_tokens (t ∷ ts) = token_count_after (opens t) false (count_opening_tokens ts)

abbrev pub count_deepening_tokens : After → List Token → ℕ
count_deepening_tokens last [] = 0
count_deepening_tokens last (t ∷ ts) = token_count_after (deepens t last) false
    (count_deepening_tokens (state_after_token t last) ts)

abbrev pub count_closing_tokens : List Token → ℕ
count_closing_tokens [] = 0
count_closing_tokens (t ∷ ts) = token_count_after (closes_paren t) false (count_closing_tokens ts)

abbrev pub open_parens : List Token → ℕ
open_parens ts = count_opening_tokens ts - count_closing_tokens ts

-- token i may follow the tokens before it
abbrev pub TokenMayFollow : List Token → ℕ → Type 0
TokenMayFollow ts i = (t : Token) → slice_get ts i ≡ Some t
    → IsTrue (may (state_after_tokens WantsOperand (take i ts)) (open_parens (take i ts)) t)

-- the tokens may end
abbrev pub TokensMayEnd : List Token → Type 0
TokensMayEnd ts = IsTrue (may_end_tokens (state_after_tokens WantsOperand ts) (open_parens ts))

-- the depth of token i
abbrev pub token_depth : List Token → ℕ → ℕ
token_depth ts i = count_deepening_tokens WantsOperand (take i ts) - count_closing_tokens (take i ts)
