-- The lexemes of a number.
use Rattle.std.proofs.Common.{◌≡◌, ◌<◌, ◌-◌, ℕ, zero, suc, Bool, true, false, List, [], ◌∷◌, length, map, take, drop}
use Rattle.std.proofs.Common.{Ok, refl, ap, ◌∙◌, arith}
use Rattle.std.specs.Prelude.{◌==◌, ◌&&◌, ◌||◌, if◌then◌else◌}
use Rattle.std.specs.List.{list_all, list_any}
use Rattle.std.proofs.lemmas.Bool.Decides.{nat_tests}
use Rattle.std.proofs.lemmas.List.{take_all}
use Rattle.std.proofs.lemmas.Bool.{and_parts, eqb-true}
use Rattle.units_io.specs.Blanks.{is_blank_text_byte}
use Rattle.frac128.specs.Decimals.{NumeralDecimal, numeral_reading}
use Rattle.frac128.specs.Numerals.{is_numeral_digit, is_numeral_exponent_mark, is_numeral_exponent_part}
use Rattle.frac128.specs.Numerals.{is_numeral_mantissa, prefix_until, suffix_from, is_numeral as is_numeral_text}
use Rattle.frac128.specs.Numerals.{is_numeral_point, is_pointed_numeral as is_pointed_text, longest_numeral_len}
use Rattle.frac128.proofs.StageRuns.{longest_numeral_len-all}
use Rattle.expr_tree.specs.Lexemes.{Blank, Malformed, Piece, PlacedLexeme, Whole, first_lexeme_piece, is_numeral_lexeme}
use Rattle.expr_tree.specs.Lexemes.{lexemes_from, mark_piece, front_word_lexeme, lexeme_piece, numeral_lexeme}
use Rattle.expr_tree.specs.Lexemes.{numeral_piece}
use Rattle.expr_tree.specs.Names.{is_word_byte}
use Rattle.expr_tree.specs.Tokens.{Minus, Numeral}
use Rattle.column_convert.proofs.Cuts.{forms}

-- a numeral begins with a digit or a point
cell_mantissa_first_byte : (point digit : Bool) (x : ℕ) (xs before_xs from_xs : List ℕ)
    → (list_all is_numeral_digit (if point then [] else x ∷ before_xs) && list_all is_numeral_digit
    (drop 1 (if point then x ∷ xs else from_xs))) ≡ true
    → is_numeral_digit x ≡ digit → (digit || point) ≡ true
cell_mantissa_first_byte true true x xs before_xs from_xs h e = refl
cell_mantissa_first_byte true false x xs before_xs from_xs h e = refl
cell_mantissa_first_byte false true x xs before_xs from_xs h e = refl
cell_mantissa_first_byte false false x xs before_xs from_xs h e =
    let p = and_parts (list_all is_numeral_digit (x ∷ before_xs)) (list_all is_numeral_digit (drop 1 from_xs)) h in
    let d = and_parts (is_numeral_digit x) (list_all is_numeral_digit before_xs) p.0 in cc

cell_numeral_first_byte_by_parts : (marked : Bool) (x : ℕ) (xs before_xs from_xs : List ℕ)
    → (is_numeral_mantissa (if marked then [] else x ∷ before_xs) && is_numeral_exponent_part
    (if marked then x ∷ xs else from_xs))
    ≡ true
    → (is_numeral_digit x || is_numeral_point x) ≡ true
cell_numeral_first_byte_by_parts true x xs before_xs from_xs h = cc
cell_numeral_first_byte_by_parts false x xs before_xs from_xs h =
    let p = and_parts (is_numeral_mantissa (x ∷ before_xs)) (is_numeral_exponent_part from_xs) h in
    let m = and_parts (list_any is_numeral_digit (x ∷ before_xs)) (is_pointed_text (x ∷ before_xs)) p.0 in
    cell_mantissa_first_byte (is_numeral_point x) (is_numeral_digit x) x before_xs
    (prefix_until is_numeral_point before_xs)
    (suffix_from is_numeral_point before_xs)
    m.1 refl

cell_numeral_first_byte : (x : ℕ) (xs : List ℕ) → is_numeral_text (x ∷ xs) ≡ true
    → (is_numeral_digit x || is_numeral_point x) ≡ true
cell_numeral_first_byte x xs h = cell_numeral_first_byte_by_parts (is_numeral_exponent_mark x) x xs
    (prefix_until is_numeral_exponent_mark xs) (suffix_from is_numeral_exponent_mark xs) h

cell_numeral_byte_is_no_blank : (b : ℕ) → (is_numeral_digit b || is_numeral_point b) ≡ true
    → is_blank_text_byte b ≡ false
cell_numeral_byte_is_no_blank b h = grind (arith, nat_tests)

-- bytes that are covered give no lexemes
covered_cell_bytes_give_no_lexeme : (an : Bool) (p : ℕ) (xs : List ℕ) (n : ℕ) → n ≡ length xs
    → lexemes_from n an p xs ≡ []
unfolding lexemes_from
covered_cell_bytes_give_no_lexeme an p [] n h = ap (λ k. lexemes_from k an p []) h
covered_cell_bytes_give_no_lexeme an p (x ∷ xs) zero h = absurd (omega arith)
covered_cell_bytes_give_no_lexeme an p (x ∷ xs) (suc n) h = covered_cell_bytes_give_no_lexeme an (suc p) xs n
    (omega arith)

positive_cell_length_is_not_zero : (n : ℕ) → 0 < n → (n == 0) ≡ false
positive_cell_length_is_not_zero n h = grind (arith, nat_tests)

whole_cell_numeral_piece : (text : List ℕ) (x : NumeralDecimal) → 0 < length text → is_numeral_text text ≡ true
    → numeral_reading text ≡ Ok x
    → numeral_piece text ≡ lexeme_piece (Whole (Numeral x)) (length text)
whole_cell_numeral_piece text x some is value =
    let all : longest_numeral_len text ≡ length text = eqb-true _ _ (longest_numeral_len-all text some ∙ is) in
    ap (λ n. if n == 0 then lexeme_piece Malformed 1 else lexeme_piece (numeral_lexeme (numeral_reading (take n text)))
    n) all
    ∙ (ap (λ b. if b then lexeme_piece Malformed 1 else lexeme_piece
    (numeral_lexeme (numeral_reading (take (length text) text))) (length text))
    (positive_cell_length_is_not_zero (length text) some)
    ∙ ap (λ t. lexeme_piece (numeral_lexeme (numeral_reading t)) (length text))
    (take_all (length text) text (omega arith))
    ∙ ap (λ r. lexeme_piece (numeral_lexeme r) (length text)) value)

pub cell_numeral_is_first_piece : (x : NumeralDecimal) (b : ℕ) (bs : List ℕ) → is_numeral_text (b ∷ bs) ≡ true
    → numeral_reading (b ∷ bs) ≡ Ok x
    → first_lexeme_piece false (b ∷ bs) ≡ lexeme_piece (Whole (Numeral x)) (length (b ∷ bs))
cell_numeral_is_first_piece x b bs is value =
    let head = cell_numeral_first_byte b bs is in
    ap (λ c. if c then lexeme_piece Blank 1
    else (if is_numeral_digit b || is_numeral_point b then numeral_piece (b ∷ bs)
    else (if is_word_byte b then front_word_lexeme (b ∷ bs) else mark_piece (b ∷ bs))))
    (cell_numeral_byte_is_no_blank b head)
    ∙ (ap (λ c. if c then numeral_piece (b ∷ bs)
    else (if is_word_byte b then front_word_lexeme (b ∷ bs) else mark_piece (b ∷ bs))) head
    ∙ whole_cell_numeral_piece (b ∷ bs) x (omega arith) is value)

-- a numeral is one lexeme
pub cell_numeral_is_one_lexeme : (x : NumeralDecimal) (text : List ℕ) (p : ℕ) → is_numeral_text text ≡ true
    → numeral_reading text ≡ Ok x
    → forms 0 false p text ≡ Whole (Numeral x) ∷ []
unfolding lexemes_from
cell_numeral_is_one_lexeme x [] p is value = cc
cell_numeral_is_one_lexeme x (b ∷ bs) p is value =
    ap (λ (f : Piece). f.lexeme ∷ forms (f.len - 1) (is_numeral_lexeme f.lexeme) (suc p) bs)
    (cell_numeral_is_first_piece x b bs is value)
    ∙ ap (λ ls. Whole (Numeral x) ∷ map (λ (l : PlacedLexeme). l.lexeme) ls)
    (covered_cell_bytes_give_no_lexeme true (suc p) bs (length (b ∷ bs) - 1) (omega arith))

-- a minus sign before a numeral is one more lexeme
pub negative_cell_numeral_lexemes : (x : NumeralDecimal) (text : List ℕ) (p : ℕ) → is_numeral_text text ≡ true
    → numeral_reading text ≡ Ok x
    → forms 0 false p (45 ∷ text) ≡ Whole Minus ∷ Whole (Numeral x) ∷ []
unfolding lexemes_from
negative_cell_numeral_lexemes x text p is value = ap (λ ls. Whole Minus ∷ ls)
    (cell_numeral_is_one_lexeme x text (suc p) is value)
