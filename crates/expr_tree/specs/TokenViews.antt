-- The tokens and lexemes of the program, as those of the grammar.
use Rattle.std.specs.Prelude.{ℕ, pos}
use Rattle.frac128.specs.Decimals.{NumeralDecimal}
use Rattle.expr_tree.specs.declared.lexeme.Lexeme.{Lexeme as MadeLexeme}
use Rattle.expr_tree.specs.declared.lexeme.Lexeme.TheVariants as lexeme
use Rattle.expr_tree.specs.declared.lexeme.Piece.{Piece as MadePiece}
use Rattle.expr_tree.specs.declared.power_digit.PowerDigit.{PowerDigit}
use Rattle.expr_tree.specs.declared.power_digit.PowerDigit.TheVariants.{Two, Three, Four, Five, Six, Seven, Eight, Nine}
use Rattle.expr_tree.specs.declared.token.Token.{Token as Made}
use Rattle.expr_tree.specs.declared.token.Token.TheVariants as made
use Rattle.expr_tree.specs.Lexemes.{Lexeme, Blank, Whole, TooLong, Malformed, Piece}
use Rattle.expr_tree.specs.Tokens.{Token, Numeral, Word, WordWithPower, Head, Root}
use Rattle.expr_tree.specs.Tokens.{Plus, Minus, Star, Slash, Bar, Caret, Tilde, Open, Close}

-- the digit of a word with a power
abbrev pub seen_token_digit : PowerDigit → ℕ
seen_token_digit Two = 2
seen_token_digit Three = 3
seen_token_digit Four = 4
seen_token_digit Five = 5
seen_token_digit Six = 6
seen_token_digit Seven = 7
seen_token_digit Eight = 8
seen_token_digit Nine = 9

-- the digit as a numeral
abbrev pub power_token_numeral : PowerDigit → NumeralDecimal
power_token_numeral digit = record { coefficient = seen_token_digit digit; scale = pos 0 }

-- the token, whose word is its bytes, wherever they are in memory
abbrev pub token_view : Made → Token
token_view (made.Numeral n) = Numeral n
token_view (made.Word w) = Word w.now
token_view (made.WordWithPower w digit) = WordWithPower w.now (power_token_numeral digit)
token_view (made.Head w) = Head w.now
token_view (made.Root kind) = Root kind
token_view made.Plus = Plus
token_view made.Minus = Minus
token_view made.Star = Star
token_view made.Slash = Slash
token_view made.Bar = Bar
token_view made.Caret = Caret
token_view made.Tilde = Tilde
token_view made.Open = Open
token_view made.Close = Close

-- the lexeme
abbrev pub seen_lexeme : MadeLexeme → Lexeme
seen_lexeme lexeme.Blank = Blank
seen_lexeme (lexeme.Whole t) = Whole (token_view t)
seen_lexeme lexeme.TooLong = TooLong
seen_lexeme lexeme.Malformed = Malformed

-- the lexeme at the front of a text
abbrev pub seen_lexeme_piece : MadePiece → Piece
seen_lexeme_piece p = record { lexeme = seen_lexeme p.lexeme; len = p.len }
