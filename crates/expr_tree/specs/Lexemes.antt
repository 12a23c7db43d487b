-- How a text is cut into lexemes.
use Rattle.std.specs.Prelude.{ℕ, zero, suc, ◌+◌, ◌-◌, pos, Bool, true, false, ◌&&◌, ◌||◌, ◌==◌, if◌then◌else◌, codes}
use Rattle.std.specs.Prelude.{List, [], ◌∷◌, ◌++◌, length, take, drop, slice_index, Result, Ok, Err}
use Rattle.std.specs.List.{prefix_len}
use Rattle.std.specs.Str.{bytes_eq}
use Rattle.frac128.specs.Decimals.{NumeralDecimal, numeral_reading}
use Rattle.frac128.specs.Numerals.{is_numeral_digit, longest_numeral_len}
use Rattle.frac128.specs.declared.numeral.NumeralFault.{NumeralFault}
use Rattle.frac128.specs.declared.numeral.NumeralFault.TheVariants as fault
use Rattle.units_io.specs.Blanks.{is_blank_text_byte}
use Rattle.expr_tree.specs.declared.operator.RootKind.TheVariants.{Square, Cube}
use Rattle.expr_tree.specs.Names.{front_token_word, has_power, is_name, is_refused, is_word_byte, last_byte}
use Rattle.expr_tree.specs.Names.{word_token_base}
use Rattle.expr_tree.specs.Tokens.{Token, Numeral, Word, WordWithPower, Head, Root}
use Rattle.expr_tree.specs.Tokens.{Plus, Minus, Star, Slash, Bar, Caret, Tilde, Open, Close}

pub data Lexeme : Type 0 where
  Blank : Lexeme
  Whole : Token → Lexeme
  -- a numeral that exceeds its limits
  TooLong : Lexeme
  -- bytes that are not a token
  Malformed : Lexeme

-- a lexeme at the front of a text, and its length in bytes
pub record Piece : Type 0 where
  pub lexeme : Lexeme
  pub len : ℕ

-- a lexeme, and the offset of its first byte
pub record PlacedLexeme : Type 0 where
  pub place : ℕ
  pub lexeme : Lexeme

abbrev pub lexeme_piece : Lexeme → ℕ → Piece
lexeme_piece x n = record { lexeme = x; len = n }

-- the lexeme of the bytes of a numeral
abbrev pub numeral_lexeme : Result NumeralDecimal NumeralFault → Lexeme
numeral_lexeme (Ok x) = Whole (Numeral x)
numeral_lexeme (Err fault.TooLong) = TooLong
numeral_lexeme (Err fault.NotNumeral) = Malformed

-- the longest numeral at the front; a point without a digit is not a numeral
abbrev pub numeral_piece : List ℕ → Piece
numeral_piece text =
    if longest_numeral_len text == 0
    then lexeme_piece Malformed 1
    else lexeme_piece (numeral_lexeme (numeral_reading (take (longest_numeral_len text) text)))
    (longest_numeral_len text)

-- the last digit of a word, as a numeral
abbrev pub word_token_power : List ℕ → NumeralDecimal
word_token_power word = record { coefficient = last_byte word - 48; scale = pos 0 }

-- a name followed by one digit from 2 to 9
abbrev pub word_with_power : List ℕ → Lexeme
word_with_power word = if has_power word then Whole (WordWithPower (word_token_base word) (word_token_power word)) else
    Malformed

-- the lexeme of a word that is neither a name nor refused
abbrev pub other_word : List ℕ → Lexeme
other_word word =
    if bytes_eq word (codes "per") then Whole Slash
    else (if bytes_eq word (codes "sqrt") then Whole (Root Square)
    else (if bytes_eq word (codes "cuberoot") then Whole (Root Cube)
    else word_with_power word))

-- the lexeme of a word, by whether a `(` follows it
abbrev pub word_piece : List ℕ → Bool → Piece
word_piece word opened =
    if is_name word || is_refused word
    then (if opened then lexeme_piece (Whole (Head word)) (length word + 1) else lexeme_piece (Whole (Word word))
    (length word))
    else lexeme_piece (other_word word) (length word)

-- the first byte is `(`
abbrev pub has_paren : List ℕ → Bool
has_paren text = slice_index text 0 == 40

-- the word at the front of a text
abbrev pub front_word_lexeme : List ℕ → Piece
front_word_lexeme text = word_piece (front_token_word text) (has_paren (drop (prefix_len is_word_byte text) text))

-- the token that a byte is by itself
abbrev pub byte_lexeme : ℕ → Lexeme
byte_lexeme b =
    if b == 43 then Whole Plus
    else (if b == 45 then Whole Minus
    else (if b == 42 then Whole Star
    else (if b == 47 then Whole Slash
    else (if b == 124 then Whole Bar
    else (if b == 94 then Whole Caret
    else (if b == 126 then Whole Tilde
    else (if b == 40 then Whole Open
    else (if b == 41 then Whole Close
    else Malformed))))))))

-- the lexeme of two stars, which are a caret, or of a single byte
abbrev pub mark_piece : List ℕ → Piece
mark_piece text =
    if slice_index text 0 == 42 && slice_index text 1 == 42
    then lexeme_piece (Whole Caret) 2
    else lexeme_piece (byte_lexeme (slice_index text 0)) 1

-- the first byte is `.`
abbrev pub lexeme_begins_with_point : List ℕ → Bool
lexeme_begins_with_point text = slice_index text 0 == 46

-- the lexeme at the front of a non-empty text; a point directly after a numeral is malformed
abbrev pub first_lexeme_piece : Bool → List ℕ → Piece
first_lexeme_piece after_numeral text =
    if is_blank_text_byte (slice_index text 0) then lexeme_piece Blank 1
    else (if after_numeral && lexeme_begins_with_point text then lexeme_piece Malformed 1
    else (if is_numeral_digit (slice_index text 0) || lexeme_begins_with_point text then numeral_piece text
    else (if is_word_byte (slice_index text 0) then front_word_lexeme text
    else mark_piece text)))

abbrev pub is_numeral_token : Token → Bool
is_numeral_token (Numeral x) = true
is_numeral_token _ = false

abbrev pub is_numeral_lexeme : Lexeme → Bool
is_numeral_lexeme (Whole t) = is_numeral_token t
is_numeral_lexeme TooLong = true
is_numeral_lexeme _ = false

-- the lexemes of a text whose first `covered` bytes belong to the lexeme before it
unfoldable pub lexemes_from : ℕ → Bool → ℕ → List ℕ → List PlacedLexeme
lexemes_from covered after_numeral place [] = []
lexemes_from (suc covered) after_numeral place (b ∷ bs) = lexemes_from covered after_numeral (suc place) bs
lexemes_from zero after_numeral place (b ∷ bs) =
    let first : Piece = first_lexeme_piece after_numeral (b ∷ bs) in
    record { place = place; lexeme = first.lexeme }
    ∷ lexemes_from (first.len - 1) (is_numeral_lexeme first.lexeme) (suc place) bs

-- the lexemes of a text, each with its offset
abbrev pub lexemes : List ℕ → List PlacedLexeme
lexemes text = lexemes_from 0 false 0 text

-- the token of a lexeme, if it is a token
abbrev pub token_in : Lexeme → List Token
token_in (Whole t) = t ∷ []
token_in _ = []

unfoldable pub tokens_in : List PlacedLexeme → List Token
tokens_in [] = []
tokens_in (x ∷ xs) = token_in x.lexeme ++ tokens_in xs

-- the tokens of a text
abbrev pub tokens : List ℕ → List Token
tokens text = tokens_in (lexemes text)
