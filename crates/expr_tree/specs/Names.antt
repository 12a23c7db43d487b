-- Names, and the words of expressions.
use Rattle.std.specs.Prelude.{ℕ, ◌-◌, Bool, false, not, ◌&&◌, ◌||◌, ◌==◌, nat_lt, nat_le, codes, nat_eq}
use Rattle.std.specs.Prelude.{List, [], ◌∷◌, length, take, slice_index}
use Rattle.std.specs.List.{list_all, list_any, take_while}
use Rattle.std.specs.Str.{bytes_eq}
use Rattle.frac128.specs.Numerals.{is_numeral_digit}
use Rattle.units_io.specs.Blanks.{is_blank_text_byte}

-- below 32 but not a tab, or 127
abbrev pub is_expression_control_byte : ℕ → Bool
is_expression_control_byte b = (nat_lt b 32 && not (b == 9)) || b == 127

-- one of the bytes of a text
abbrev pub is_one_of : List ℕ → ℕ → Bool
is_one_of bytes b = list_any (nat_eq b) bytes

-- neither a blank, nor a control byte, nor a mark of punctuation
abbrev pub is_word_byte : ℕ → Bool
is_word_byte b = not (is_blank_text_byte b || is_expression_control_byte b || is_one_of (codes "+-*/|^;~#()[]") b)

-- the longest word at the front of the bytes
abbrev pub front_token_word : List ℕ → List ℕ
front_token_word bytes = take_while is_word_byte bytes

-- the last byte, or 0 if there is none
abbrev pub last_byte : List ℕ → ℕ
last_byte bytes = slice_index bytes (length bytes - 1)

-- a byte that a name may begin with
abbrev pub may_begin : ℕ → Bool
may_begin b = not (is_numeral_digit b || is_one_of (codes "_,.!") b)

-- a byte that a name may end with
abbrev pub may_end_name : ℕ → Bool
may_end_name b = not (is_one_of (codes "_,.") b)

-- a digit from 1 to 9
abbrev pub is_count : ℕ → Bool
is_count b = nat_le 49 b && nat_le b 57

-- a digit, a dot or a comma
abbrev pub is_index_byte : ℕ → Bool
is_index_byte b = is_numeral_digit b || is_one_of (codes ".,") b

-- some `_` is followed only by digits, dots and commas
abbrev pub has_index : List ℕ → Bool
has_index [] = false
has_index (b ∷ bs) = (b == 95 && list_all is_index_byte bs) || has_index bs

-- the keywords
abbrev pub expression_keywords : List (List ℕ)
expression_keywords = codes "per" ∷ codes "sqrt" ∷ codes "cuberoot" ∷ []

-- the names of the refused functions
abbrev pub refused_expression_names : List (List ℕ)
refused_expression_names =
    codes "sin" ∷ codes "cos" ∷ codes "tan" ∷ codes "asin" ∷ codes "acos" ∷ codes "atan"
    ∷ codes "sinh" ∷ codes "cosh" ∷ codes "tanh" ∷ codes "asinh" ∷ codes "acosh" ∷ codes "atanh"
    ∷ codes "ln" ∷ codes "log" ∷ codes "log2" ∷ codes "exp" ∷ []

-- the bytes are one of the words
abbrev pub is_expression_word_among : List (List ℕ) → List ℕ → Bool
is_expression_word_among words bytes = list_any (bytes_eq bytes) words

abbrev pub is_refused : List ℕ → Bool
is_refused bytes = is_expression_word_among refused_expression_names bytes

-- the maximum length of a name in bytes
abbrev pub longest_expression_name : ℕ
longest_expression_name = 255

-- the length, the bytes, the first byte and the last byte are those of a name
abbrev pub is_spelled : List ℕ → Bool
is_spelled bytes =
    nat_lt 0 (length bytes)
    && nat_le (length bytes) longest_expression_name
    && may_begin (slice_index bytes 0)
    && may_end_name (last_byte bytes)
    && list_all is_word_byte bytes

-- the last byte is a digit from 1 to 9 that is not part of an index
abbrev pub ends_in_count : List ℕ → Bool
ends_in_count bytes = nat_lt 0 (length bytes) && is_count (last_byte bytes) && not (has_index bytes)

abbrev pub is_name : List ℕ → Bool
is_name bytes =
    is_spelled bytes
    && not (ends_in_count bytes)
    && not (is_expression_word_among expression_keywords bytes)
    && not (is_refused bytes)

-- a word without its last byte
abbrev pub word_token_base : List ℕ → List ℕ
word_token_base word = take (length word - 1) word

-- a digit from 2 to 9
abbrev pub is_power_byte : ℕ → Bool
is_power_byte b = nat_le 50 b && nat_le b 57

-- a name followed by one digit from 2 to 9
abbrev pub has_power : List ℕ → Bool
has_power word = is_power_byte (last_byte word) && is_name (word_token_base word)
