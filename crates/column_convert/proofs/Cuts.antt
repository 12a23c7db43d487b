-- The lexemes of a text that is followed by `)`.
use Rattle.std.proofs.Common.{◌≡◌, ◌<◌, ◌≤◌, ◌+◌, ◌-◌, ℕ, zero, suc, Bool, true, false, List, [], ◌∷◌, ◌++◌, length}
use Rattle.std.proofs.Common.{map, take, drop, refl, sym, ap, ◌∙◌, arith, inl, inr}
use Rattle.std.specs.Prelude.{◌==◌, ◌&&◌, ◌||◌, if◌then◌else◌, slice_index}
use Rattle.std.specs.List.{prefix_len}
use Rattle.std.proofs.lemmas.List.{length-take-le}
use Rattle.std.proofs.lemmas.List.Sums.{prefix_len-le-length}
use Rattle.std.proofs.Math.ListN.{drop_of_length-le}
use Rattle.std.proofs.lemmas.Bool.{cases_lt}
use Rattle.std.proofs.Math.Bool.{and-false}
use Rattle.units_io.specs.Blanks.{is_blank_text_byte}
use Rattle.frac128.specs.Decimals.{numeral_reading}
use Rattle.frac128.specs.Numerals.{is_numeral_digit, longest_numeral_len}
use Rattle.frac128.proofs.LongestNumerals.{longest_numeral-within}
use Rattle.expr_tree.specs.Lexemes.{Blank, Lexeme, Malformed, Piece, PlacedLexeme, Whole, first_lexeme_piece, has_paren}
use Rattle.expr_tree.specs.Lexemes.{is_numeral_lexeme, lexemes_from, byte_lexeme, lexeme_piece, mark_piece}
use Rattle.expr_tree.specs.Lexemes.{numeral_lexeme, numeral_piece, other_word, front_word_lexeme, word_piece}
use Rattle.expr_tree.specs.Names.{front_token_word, is_name, is_refused, is_word_byte}
use Rattle.expr_tree.specs.Tokens.{Caret, Close, Head, Word}
use Rattle.column_convert.proofs.Longest.{cell_paren_before_close, cell_text_front_is_taken, cell_word_before_close}
use Rattle.column_convert.proofs.Longest.{longest_cell_numeral_before_close}

-- the lexeme at the front, chosen by tests of its first byte
cell_piece_choice : (blank after_point number word : Bool) → Piece → Piece → Piece → Piece
cell_piece_choice blank after_point number word p q s =
    if blank then lexeme_piece Blank 1
    else (if after_point then lexeme_piece Malformed 1
    else (if number then p else (if word then q else s)))

cell_numeral_piece : ℕ → List ℕ → Piece
cell_numeral_piece n bytes = if n == 0 then lexeme_piece Malformed 1 else lexeme_piece
    (numeral_lexeme (numeral_reading bytes))
    n

cell_numeral_piece_before_close : (xs r : List ℕ) → numeral_piece (xs ++ 41 ∷ r) ≡ numeral_piece xs
unfolding cell_numeral_piece
cell_numeral_piece_before_close xs r =
    ap (λ n. cell_numeral_piece n (take n (xs ++ 41 ∷ r))) (longest_cell_numeral_before_close xs r)
    ∙ ap (cell_numeral_piece (longest_numeral_len xs))
    (cell_text_front_is_taken (longest_numeral_len xs) xs (41 ∷ r) (longest_numeral-within xs))

cell_word_front_before_close : (xs r : List ℕ) → front_word_lexeme (xs ++ 41 ∷ r) ≡ front_word_lexeme xs
cell_word_front_before_close xs r = λ i. word_piece (cell_word_before_close xs r i) (cell_paren_before_close xs r i)

cell_mark_piece : Bool → ℕ → Piece
cell_mark_piece two b = if two then lexeme_piece (Whole Caret) 2 else lexeme_piece (byte_lexeme b) 1

cell_mark_piece_before_close : (b : ℕ) (bs r : List ℕ) → mark_piece ((b ∷ bs) ++ 41 ∷ r) ≡ mark_piece (b ∷ bs)
unfolding cell_mark_piece
cell_mark_piece_before_close b [] r = ap (λ t. cell_mark_piece t b) (and-false (b == 42) ∙ sym (and-false (b == 42)))
cell_mark_piece_before_close b (c ∷ cs) r = refl

pub first_cell_piece_before_close : (an : Bool) (b : ℕ) (bs r : List ℕ)
    → first_lexeme_piece an ((b ∷ bs) ++ 41 ∷ r) ≡ first_lexeme_piece an (b ∷ bs)
unfolding cell_piece_choice
first_cell_piece_before_close an b bs r = λ i. cell_piece_choice (is_blank_text_byte b) (an && (b == 46))
    (is_numeral_digit b || (b == 46)) (is_word_byte b)
    (cell_numeral_piece_before_close (b ∷ bs) r i) (cell_word_front_before_close (b ∷ bs) r i)
    (cell_mark_piece_before_close b bs r i)

-- ---- no lexeme is longer than the text
cell_piece_choice_within_text : (n : ℕ) (blank after_point number word : Bool) (p q s : Piece) → 1 ≤ n → p.len ≤ n
    → q.len ≤ n
    → s.len ≤ n → (cell_piece_choice blank after_point number word p q s).len ≤ n
unfolding cell_piece_choice
cell_piece_choice_within_text n true after_point number word p q s one a b c = one
cell_piece_choice_within_text n false true number word p q s one a b c = one
cell_piece_choice_within_text n false false true word p q s one a b c = a
cell_piece_choice_within_text n false false false true p q s one a b c = b
cell_piece_choice_within_text n false false false false p q s one a b c = c

cell_numeral_piece_within_text : (n k : ℕ) (b : Bool) (bytes : List ℕ) → 1 ≤ n → k ≤ n
    → (if b then lexeme_piece Malformed 1 else lexeme_piece (numeral_lexeme (numeral_reading bytes)) k).len ≤ n
cell_numeral_piece_within_text n k true bytes one h = one
cell_numeral_piece_within_text n k false bytes one h = h

cell_paren_within_text : (n : ℕ) (xs : List ℕ) → has_paren (drop n xs) ≡ true → n < length xs
cell_paren_within_text n xs h = elim (cases_lt n (length xs)) [
  | inl low ↦ low
  | inr high ↦ (let none : has_paren (drop n xs) ≡ false = ap has_paren (drop_of_length-le xs (omega arith)) in cc)
]

cell_word_within_text : (n : ℕ) (word : List ℕ) (named opened : Bool) → length word ≤ n
    → (opened ≡ true → length word < n)
    → (if named then (if opened then lexeme_piece (Whole (Head word)) (length word + 1) else lexeme_piece
    (Whole (Word word))
    (length word)) else lexeme_piece (other_word word) (length word)).len ≤ n
cell_word_within_text n word true true h more = let less : length word < n = more refl in omega arith
cell_word_within_text n word true false h more = h
cell_word_within_text n word false opened h more = h

cell_mark_within_text : (n : ℕ) (two : Bool) (b : ℕ) → 1 ≤ n → (two ≡ true → 2 ≤ n)
    → (if two then lexeme_piece (Whole Caret) 2 else lexeme_piece (byte_lexeme b) 1).len ≤ n
cell_mark_within_text n true b one h = h refl
cell_mark_within_text n false b one h = one

two_stars_in_cell_text : (b : ℕ) (bs : List ℕ) → ((b == 42) && (slice_index (b ∷ bs) 1 == 42)) ≡ true
    → 2 ≤ length (b ∷ bs)
two_stars_in_cell_text b [] h = let no : ((b == 42) && false) ≡ false = and-false (b == 42) in cc
two_stars_in_cell_text b (c ∷ cs) h = omega arith

pub first_cell_piece_within_text : (an : Bool) (b : ℕ) (bs : List ℕ) → (first_lexeme_piece an (b ∷ bs)).len ≤ length
    (b ∷ bs)
unfolding cell_piece_choice
first_cell_piece_within_text an b bs =
    let text = b ∷ bs in
    let n = prefix_len is_word_byte text in
    let short : length (take n text) ≡ n = length-take-le n text (prefix_len-le-length is_word_byte text) in
    let fits : n ≤ length text = prefix_len-le-length is_word_byte text in
    cell_piece_choice_within_text (length text) (is_blank_text_byte b) (an && (b == 46))
    (is_numeral_digit b || (b == 46)) (is_word_byte b)
    (numeral_piece text) (front_word_lexeme text) (mark_piece text) (omega arith)
    (cell_numeral_piece_within_text (length text) (longest_numeral_len text) (longest_numeral_len text == 0)
    (take (longest_numeral_len text) text)
    (omega arith) (longest_numeral-within text))
    (cell_word_within_text (length text) (front_token_word text)
    (is_name (front_token_word text) || is_refused (front_token_word text))
    (has_paren (drop n text))
    (omega arith) (λ o. let inside : n < length text = cell_paren_within_text n text o in omega arith))
    (cell_mark_within_text (length text) ((b == 42) && (slice_index text 1 == 42)) b (omega arith)
    (two_stars_in_cell_text b bs))

-- ---- lexemes without places
abbrev pub forms : ℕ → Bool → ℕ → List ℕ → List Lexeme
forms covered an place text = map (λ (x : PlacedLexeme). x.lexeme) (lexemes_from covered an place text)

pub cell_forms_ignore_place : (covered : ℕ) (an : Bool) (p q : ℕ) (text : List ℕ)
    → forms covered an p text ≡ forms covered an q text
unfolding lexemes_from
cell_forms_ignore_place covered an p q [] = refl
cell_forms_ignore_place (suc covered) an p q (b ∷ bs) = cell_forms_ignore_place covered an (suc p) (suc q) bs
cell_forms_ignore_place zero an p q (b ∷ bs) =
    ap (λ xs. (first_lexeme_piece an (b ∷ bs)).lexeme ∷ xs)
    (cell_forms_ignore_place ((first_lexeme_piece an (b ∷ bs)).len - 1)
    (is_numeral_lexeme (first_lexeme_piece an (b ∷ bs)).lexeme) (suc p)
    (suc q) bs)

-- the lexemes of a `)` and the text after it do not depend on the text before it
pub cell_forms_of_close : (an : Bool) (p q : ℕ) (r : List ℕ) → forms 0 an p (41 ∷ r) ≡ Whole Close ∷ forms 0 false q r
unfolding lexemes_from
cell_forms_of_close true p q r = ap (λ xs. Whole Close ∷ xs) (cell_forms_ignore_place 0 false (suc p) q r)
cell_forms_of_close false p q r = ap (λ xs. Whole Close ∷ xs) (cell_forms_ignore_place 0 false (suc p) q r)

pub cell_forms_before_close : (xs r : List ℕ) (covered : ℕ) (an : Bool) (p q : ℕ) → covered ≤ length xs
    → forms covered an p (xs ++ 41 ∷ r) ≡ forms covered an p xs ++ (Whole Close ∷ forms 0 false q r)
unfolding lexemes_from
cell_forms_before_close [] r zero an p q h = cell_forms_of_close an p q r
cell_forms_before_close [] r (suc covered) an p q h = absurd (omega arith)
cell_forms_before_close (b ∷ bs) r (suc covered) an p q h = cell_forms_before_close bs r covered an (suc p) q
    (omega arith)
cell_forms_before_close (b ∷ bs) r zero an p q h =
    ap (λ (f : Piece). f.lexeme ∷ forms (f.len - 1) (is_numeral_lexeme f.lexeme) (suc p) (bs ++ 41 ∷ r))
    (first_cell_piece_before_close an b bs r)
    ∙ ap (λ xs. (first_lexeme_piece an (b ∷ bs)).lexeme ∷ xs)
    (let short : (first_lexeme_piece an (b ∷ bs)).len ≤ length (b ∷ bs) = first_cell_piece_within_text an b bs in
    cell_forms_before_close bs r ((first_lexeme_piece an (b ∷ bs)).len - 1)
    (is_numeral_lexeme (first_lexeme_piece an (b ∷ bs)).lexeme) (suc p) q
    (omega arith))
