-- The first fault of a text.
use Rattle.std.specs.Prelude.{ℕ, ◌-◌, pos, Bool, nat_lt, if◌then◌else◌, List, [], ◌∷◌, ◌++◌, length, Option, Some, None}
use Rattle.expr_tree.specs.declared.fault.ParseFault.{ParseFault}
use Rattle.expr_tree.specs.declared.fault.ParseFault.TheVariants.{Syntax, NumeralTooLong, NestedTooDeep}
use Rattle.expr_tree.specs.Lexemes.{Lexeme, Blank, Whole, TooLong, Malformed, PlacedLexeme, lexemes, token_in}
use Rattle.expr_tree.specs.Rules.{After, WantsOperand, count_closing_tokens, count_deepening_tokens, may}
use Rattle.expr_tree.specs.Rules.{may_end_tokens, state_after_tokens, open_parens}
use Rattle.expr_tree.specs.Tokens.{Token, Numeral}

-- the maximum depth of a token
abbrev pub max_token_depth : ℕ
max_token_depth = 64

-- the depth of the token that follows these
abbrev pub depth_after_tokens : List Token → ℕ
depth_after_tokens before = count_deepening_tokens WantsOperand before - count_closing_tokens before

-- whether a numeral of any value may follow
abbrev pub takes_numeral_token : After → Bool
takes_numeral_token last = may last 0 (Numeral (record { coefficient = 0; scale = pos 0 }))

-- the fault of a lexeme, by the state after the tokens before it, the number of open parentheses, its depth and its
-- place; a numeral that is too long is allowed at the same places as any numeral
abbrev pub lexeme_fault : After → ℕ → ℕ → ℕ → Lexeme → Option ParseFault
lexeme_fault last open_parens depth place Blank = None
lexeme_fault last open_parens depth place Malformed = Some (Syntax place)
lexeme_fault last open_parens depth place TooLong =
    if takes_numeral_token last then Some NumeralTooLong else Some (Syntax place)
lexeme_fault last open_parens depth place (Whole t) =
    if may last open_parens t
    then (if nat_lt max_token_depth depth then Some NestedTooDeep else None)
    else Some (Syntax place)

-- the first fault if there is one, or else the second
abbrev pub or_later_parse_fault : Option ParseFault → Option ParseFault → Option ParseFault
or_later_parse_fault (Some fault) later = Some fault
or_later_parse_fault None later = later

-- the first fault of the lexemes that follow the tokens, in a text of the given length
unfoldable pub fault_from_lexemes : List Token → ℕ → List PlacedLexeme → Option ParseFault
fault_from_lexemes before len [] =
    if may_end_tokens (state_after_tokens WantsOperand before) (open_parens before) then None else Some (Syntax len)
fault_from_lexemes before len (x ∷ xs) =
    or_later_parse_fault
    (lexeme_fault (state_after_tokens WantsOperand before) (open_parens before) (depth_after_tokens before) x.place
    x.lexeme)
    (fault_from_lexemes (before ++ token_in x.lexeme) len xs)

-- the first fault of a text, if it has one
abbrev pub first_parse_fault : List ℕ → Option ParseFault
first_parse_fault text = fault_from_lexemes [] (length text) (lexemes text)
