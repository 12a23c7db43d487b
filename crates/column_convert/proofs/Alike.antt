-- Texts of a number times an expression that differ only in their numerals: either all or none of them have a fault.
use Rattle.std.proofs.Common.{◌≡◌, ℕ, Bool, true, false, List, [], ◌∷◌, ◌++◌, map, Option, Some, None, refl, sym, ap}
use Rattle.std.proofs.Common.{subst, ◌∙◌}
use Rattle.std.specs.Prelude.{if◌then◌else◌}
use Rattle.frac128.specs.Decimals.{NumeralDecimal}
use Rattle.expr_tree.specs.declared.fault.ParseFault.{ParseFault}
use Rattle.expr_tree.specs.declared.fault.ParseFault.TheVariants.{NestedTooDeep, Syntax}
use Rattle.expr_tree.specs.Faults.{fault_from_lexemes, or_later_parse_fault}
use Rattle.expr_tree.specs.Lexemes.{Blank, Lexeme, Malformed, PlacedLexeme, TooLong, Whole, token_in}
use Rattle.expr_tree.specs.Tokens.{Close, Minus, Numeral, Open, Token}

abbrev pub lexemes_of : List PlacedLexeme → List Lexeme
lexemes_of xs = map (λ (x : PlacedLexeme). x.lexeme) xs

abbrev pub placed : List Lexeme → List PlacedLexeme
placed xs = map (λ (x : Lexeme). record { place = 0; lexeme = x }) xs

pub placed_cell_lexemes : (xs : List Lexeme) → lexemes_of (placed xs) ≡ xs
placed_cell_lexemes [] = refl
placed_cell_lexemes (x ∷ xs) = ap (λ ys. x ∷ ys) (placed_cell_lexemes xs)

-- ---- places and lengths make no difference
no_cell_fault_in_both_parts : (a b : Option ParseFault) → or_later_parse_fault a b ≡ None → (a ≡ None) × (b ≡ None)
no_cell_fault_in_both_parts (Some x) b h = cc
no_cell_fault_in_both_parts None b h = (refl, h)

no_cell_fault_from_both_parts : (a b : Option ParseFault) → a ≡ None → b ≡ None → or_later_parse_fault a b ≡ None
no_cell_fault_from_both_parts (Some x) b p q = cc
no_cell_fault_from_both_parts None b p q = q

cell_fault_in_either_branch : (b : Bool) (f g : ParseFault) → (if b then Some f else Some g) ≡ None → ⊥
cell_fault_in_either_branch true f g h = cc
cell_fault_in_either_branch false f g h = cc

cell_token_fault_ignores_place : (b c : Bool) (p q : ℕ)
    → (if b then (if c then Some NestedTooDeep else None) else Some (Syntax p)) ≡ None
    → (if b then (if c then Some NestedTooDeep else None) else Some (Syntax q)) ≡ None
cell_token_fault_ignores_place true c p q h = h
cell_token_fault_ignores_place false c p q h = cc

cell_end_fault_ignores_place : (b : Bool) (p q : ℕ) → (if b then None else Some (Syntax p)) ≡ None
    → (if b then None else Some (Syntax q)) ≡ None
cell_end_fault_ignores_place true p q h = refl
cell_end_fault_ignores_place false p q h = cc

first_cell_fault_ignores_place : (before : List Token) (n m p q : ℕ) (l : Lexeme) (xs ys : List PlacedLexeme)
    → (fault_from_lexemes (before ++ token_in l) n xs ≡ None → fault_from_lexemes (before ++ token_in l) m ys ≡ None)
    → fault_from_lexemes before n (record { place = p; lexeme = l } ∷ xs) ≡ None
    → fault_from_lexemes before m (record { place = q; lexeme = l } ∷ ys) ≡ None
unfolding fault_from_lexemes
first_cell_fault_ignores_place before n m p q Blank xs ys rest h = rest h
first_cell_fault_ignores_place before n m p q Malformed xs ys rest h = cc
first_cell_fault_ignores_place before n m p q TooLong xs ys rest h =
    absurd (cell_fault_in_either_branch _ _ _ (no_cell_fault_in_both_parts _ _ h).0)
first_cell_fault_ignores_place before n m p q (Whole t) xs ys rest h =
    let parts = no_cell_fault_in_both_parts _ _ h in
    no_cell_fault_from_both_parts _ _ (cell_token_fault_ignores_place _ _ p q parts.0) (rest parts.1)

equal_cell_lexeme_heads : (x y : Lexeme) (xs ys : List Lexeme) → x ∷ xs ≡ y ∷ ys → (x ≡ y) × (xs ≡ ys)
equal_cell_lexeme_heads x y xs ys e = (cc, cc)

cell_text_end_ignores_length : (before : List Token) (n m : ℕ) → fault_from_lexemes before n [] ≡ None
    → fault_from_lexemes before m [] ≡ None
unfolding fault_from_lexemes
cell_text_end_ignores_length before n m h = cell_end_fault_ignores_place _ n m h

pub cell_fault_ignores_places : (xs ys : List PlacedLexeme) (before : List Token) (n m : ℕ)
    → lexemes_of xs ≡ lexemes_of ys
    → fault_from_lexemes before n xs ≡ None → fault_from_lexemes before m ys ≡ None
cell_fault_ignores_places [] [] before n m e h = cell_text_end_ignores_length before n m h
cell_fault_ignores_places [] (y ∷ ys) before n m e h = cc
cell_fault_ignores_places (x ∷ xs) [] before n m e h = cc
cell_fault_ignores_places (x ∷ xs) (y ∷ ys) before n m e h =
    let same = equal_cell_lexeme_heads x.lexeme y.lexeme (lexemes_of xs) (lexemes_of ys) e in
    subst (λ (z : Lexeme). fault_from_lexemes before m (record { place = y.place; lexeme = z } ∷ ys) ≡ None) same.0
    (first_cell_fault_ignores_place before n m x.place y.place x.lexeme xs ys
    (cell_fault_ignores_places xs ys (before ++ token_in x.lexeme) n m same.1) h)

-- ---- the number makes no difference
cell_fault_ignores_number : (x y : NumeralDecimal) (s : List Token) (len : ℕ) (xs : List PlacedLexeme)
    → fault_from_lexemes (Open ∷ Numeral x ∷ Close ∷ Open ∷ s) len xs ≡ fault_from_lexemes
    (Open ∷ Numeral y ∷ Close ∷ Open ∷ s) len xs
unfolding fault_from_lexemes
cell_fault_ignores_number x y s len [] = refl
cell_fault_ignores_number x y s len (l ∷ ls) = ap (or_later_parse_fault _)
    (cell_fault_ignores_number x y (s ++ token_in l.lexeme) len ls)

cell_fault_ignores_negative_number : (x y : NumeralDecimal) (s : List Token) (len : ℕ) (xs : List PlacedLexeme)
    → fault_from_lexemes (Open ∷ Minus ∷ Numeral x ∷ Close ∷ Open ∷ s) len xs
    ≡ fault_from_lexemes (Open ∷ Minus ∷ Numeral y ∷ Close ∷ Open ∷ s) len xs
unfolding fault_from_lexemes
cell_fault_ignores_negative_number x y s len [] = refl
cell_fault_ignores_negative_number x y s len (l ∷ ls) = ap (or_later_parse_fault _)
    (cell_fault_ignores_negative_number x y (s ++ token_in l.lexeme) len ls)

-- the lexemes of a number in parentheses, and the `(` after them
abbrev pub front_forms : Bool → NumeralDecimal → List Lexeme → List Lexeme
front_forms false x rest = Whole Open ∷ Whole (Numeral x) ∷ Whole Close ∷ Blank ∷ Whole Open ∷ rest
front_forms true x rest = Whole Open ∷ Whole Minus ∷ Whole (Numeral x) ∷ Whole Close ∷ Blank ∷ Whole Open ∷ rest

cell_fault_past_number : (x : NumeralDecimal) (rest : List PlacedLexeme) (n : ℕ)
    → fault_from_lexemes [] n (placed (front_forms false x []) ++ rest)
    ≡ fault_from_lexemes (Open ∷ Numeral x ∷ Close ∷ Open ∷ []) n rest
unfolding fault_from_lexemes
cell_fault_past_number x rest n = refl

cell_fault_past_negative_number : (x : NumeralDecimal) (rest : List PlacedLexeme) (n : ℕ)
    → fault_from_lexemes [] n (placed (front_forms true x []) ++ rest)
    ≡ fault_from_lexemes (Open ∷ Minus ∷ Numeral x ∷ Close ∷ Open ∷ []) n rest
unfolding fault_from_lexemes
cell_fault_past_negative_number x rest n = refl

cell_products_have_equal_faults : (negative : Bool) (x y : NumeralDecimal) (rest : List Lexeme) (n : ℕ)
    → fault_from_lexemes [] n (placed (front_forms negative x rest)) ≡ fault_from_lexemes [] n
    (placed (front_forms negative y rest))
cell_products_have_equal_faults false x y rest n =
    cell_fault_past_number x (placed rest) n
    ∙ (cell_fault_ignores_number x y [] n (placed rest) ∙ sym (cell_fault_past_number y (placed rest) n))
cell_products_have_equal_faults true x y rest n =
    cell_fault_past_negative_number x (placed rest) n
    ∙ (cell_fault_ignores_negative_number x y [] n (placed rest)
    ∙ sym (cell_fault_past_negative_number y (placed rest) n))

-- if one such text has no fault, another has none
pub cell_products_fault_free_alike : (negative : Bool) (x y : NumeralDecimal) (rest : List Lexeme)
    (xs ys : List PlacedLexeme) (n m : ℕ)
    → lexemes_of xs ≡ front_forms negative x rest → lexemes_of ys ≡ front_forms negative y rest
    → fault_from_lexemes [] n xs ≡ None → fault_from_lexemes [] m ys ≡ None
cell_products_fault_free_alike negative x y rest xs ys n m p q h =
    cell_fault_ignores_places (placed (front_forms negative y rest)) ys [] m m
    (placed_cell_lexemes (front_forms negative y rest) ∙ sym q)
    (sym (cell_products_have_equal_faults negative x y rest m)
    ∙ cell_fault_ignores_places xs (placed (front_forms negative x rest)) [] n m
    (p ∙ sym (placed_cell_lexemes (front_forms negative x rest))) h)
