-- The syntax of decimal numerals.
use Rattle.std.specs.Prelude.{ℕ, suc, zero, Bool, true, ◌&&◌, ◌||◌, ◌==◌, nat_le, if◌then◌else◌}
use Rattle.std.specs.Prelude.{List, [], ◌∷◌, take, drop, length}
use Rattle.std.specs.List.{list_all, list_any}

-- the members before the first one that passes the test, or all if none does
abbrev pub prefix_until : {X : Type 0} → (X → Bool) → List X → List X
prefix_until test [] = []
prefix_until test (x ∷ xs) = if test x then [] else x ∷ prefix_until test xs

-- the members from the first one that passes the test on, or no members if none does
abbrev pub suffix_from : {X : Type 0} → (X → Bool) → List X → List X
suffix_from test [] = []
suffix_from test (x ∷ xs) = if test x then x ∷ xs else suffix_from test xs

-- a decimal digit
abbrev pub is_numeral_digit : ℕ → Bool
is_numeral_digit b = nat_le 48 b && nat_le b 57

-- the byte `.`
abbrev pub is_numeral_point : ℕ → Bool
is_numeral_point b = b == 46

-- the byte `E` or `e`
abbrev pub is_numeral_exponent_mark : ℕ → Bool
is_numeral_exponent_mark b = b == 69 || b == 101

-- the byte `-`
abbrev pub is_numeral_minus : ℕ → Bool
is_numeral_minus b = b == 45

-- the byte `+` or `-`
abbrev pub is_numeral_sign : ℕ → Bool
is_numeral_sign b = b == 43 || is_numeral_minus b

-- one digit or more, and nothing else
abbrev pub are_numeral_digits : List ℕ → Bool
are_numeral_digits bytes = list_any is_numeral_digit bytes && list_all is_numeral_digit bytes

-- digits, with at most one point before, among or after them
abbrev pub is_pointed_numeral : List ℕ → Bool
is_pointed_numeral bytes =
    list_all is_numeral_digit (prefix_until is_numeral_point bytes)
    && list_all is_numeral_digit (drop 1 (suffix_from is_numeral_point bytes))

-- one digit or more, with at most one point before, among or after them
abbrev pub is_numeral_mantissa : List ℕ → Bool
is_numeral_mantissa bytes = list_any is_numeral_digit bytes && is_pointed_numeral bytes

-- the bytes after a sign at the front, or all bytes if there is no sign
abbrev pub after_numeral_sign : List ℕ → List ℕ
after_numeral_sign [] = []
after_numeral_sign (b ∷ bytes) = if is_numeral_sign b then bytes else b ∷ bytes

-- nothing, or a mark, an optional sign, and one digit or more
abbrev pub is_numeral_exponent_part : List ℕ → Bool
is_numeral_exponent_part [] = true
is_numeral_exponent_part (mark ∷ bytes) = are_numeral_digits (after_numeral_sign bytes)

-- the bytes are a numeral: a mantissa before the first mark, and an exponent from there on
abbrev pub is_numeral : List ℕ → Bool
is_numeral bytes = is_numeral_mantissa (prefix_until is_numeral_exponent_mark bytes) && is_numeral_exponent_part
    (suffix_from is_numeral_exponent_mark bytes)

-- the greatest number from 1 to n that passes the test, or 0 if none does
unfoldable pub greatest_whole_passing : (ℕ → Bool) → ℕ → ℕ
greatest_whole_passing test zero = 0
greatest_whole_passing test (suc n) = if test (suc n) then suc n else greatest_whole_passing test n

-- the length of the longest numeral that is a prefix, or 0 if there is none
abbrev pub longest_numeral_len : List ℕ → ℕ
longest_numeral_len bytes = greatest_whole_passing (λ n. is_numeral (take n bytes)) (length bytes)
