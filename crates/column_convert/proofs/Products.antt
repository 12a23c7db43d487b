-- The tree of a number times an expression.
use Rattle.std.proofs.Common.{◌≡◌, ℕ, suc, arith, Bool, true, false, List, [], ◌∷◌, ◌++◌, length, None, Ok, refl, sym}
use Rattle.std.proofs.Common.{ap, subst, ◌∙◌, append_assoc}
use Rattle.frac128.specs.Decimals.{NumeralDecimal, numeral_reading}
use Rattle.frac128.specs.Numerals.{is_numeral}
use Rattle.expr_tree.specs.declared.operator.Sign.TheVariants as signs
use Rattle.expr_tree.specs.Faults.{first_parse_fault}
use Rattle.expr_tree.specs.Grammar.{Sum, SumOf, NoTerm, ProductOf, NoFactor, Signed, JuxtapositionOf, NoPower}
use Rattle.expr_tree.specs.Grammar.{NextPower, Bare, NumeralAtom, GroupAtom, TokensGiveTree, sum, sum_tree}
use Rattle.expr_tree.specs.Lexemes.{Blank, Lexeme, PlacedLexeme, Whole, lexemes, lexemes_from, token_in, tokens}
use Rattle.expr_tree.specs.Lexemes.{tokens_in}
use Rattle.expr_tree.specs.ParseResult.{parse_of}
use Rattle.expr_tree.specs.Syntax.{Syntax}
use Rattle.expr_tree.specs.Tokens.{Close, Minus, Numeral, Open, Token}
use Rattle.expr_tree.proofs.ParsedTexts.{parsed_law}
use Rattle.column_convert.specs.Products.{cell_product_text, cell_product_tree, signed_cell_text}
use Rattle.column_convert.proofs.Alike.{cell_products_fault_free_alike, front_forms, lexemes_of}
use Rattle.column_convert.proofs.Cuts.{cell_forms_before_close, cell_forms_ignore_place, forms}
use Rattle.column_convert.proofs.Numbers.{cell_numeral_is_one_lexeme, negative_cell_numeral_lexemes}
use Rattle.column_convert.proofs.Spelt.{sum_before}

-- ---- lexemes
cell_product_open_forms : (p : ℕ) (text : List ℕ) → forms 0 false p (40 ∷ text) ≡ Whole Open ∷ forms 0 false
    (suc p) text
unfolding lexemes_from
cell_product_open_forms p text = refl

cell_product_middle_forms : (p : ℕ) (text : List ℕ) → forms 0 false p (32 ∷ 40 ∷ text) ≡ Blank ∷ Whole Open ∷ forms 0
    false
    (suc (suc p)) text
unfolding lexemes_from
cell_product_middle_forms p text = refl

empty_cell_text_has_no_forms : (an : Bool) (p : ℕ) → forms 0 an p [] ≡ []
unfolding lexemes_from
empty_cell_text_has_no_forms an p = refl

-- the lexemes of an expression and the `)` after it
closed_cell_text_forms : (p : ℕ) (from : List ℕ) → forms 0 false p (from ++ 41 ∷ []) ≡ forms 0 false 0 from
    ++ (Whole Close ∷ [])
closed_cell_text_forms p from =
    cell_forms_before_close from [] 0 false p 0 (omega arith)
    ∙ (ap (λ ls. forms 0 false p from ++ (Whole Close ∷ ls)) (empty_cell_text_has_no_forms false 0)
    ∙ ap (λ ls. ls ++ (Whole Close ∷ [])) (cell_forms_ignore_place 0 false p 0 from))

abbrev number_forms : Bool → NumeralDecimal → List Lexeme
number_forms false x = Whole (Numeral x) ∷ []
number_forms true x = Whole Minus ∷ Whole (Numeral x) ∷ []

signed_cell_text_forms : (negative : Bool) (x : NumeralDecimal) (text : List ℕ) (p : ℕ) → is_numeral text ≡ true
    → numeral_reading text ≡ Ok x
    → forms 0 false p (signed_cell_text negative text) ≡ number_forms negative x
signed_cell_text_forms false x text p is value = cell_numeral_is_one_lexeme x text p is value
signed_cell_text_forms true x text p is value = negative_cell_numeral_lexemes x text p is value

cell_product_front_forms : (negative : Bool) (x : NumeralDecimal) (rest : List Lexeme)
    → Whole Open ∷ (number_forms negative x ++ (Whole Close ∷ Blank ∷ Whole Open ∷ rest)) ≡ front_forms negative x rest
cell_product_front_forms false x rest = refl
cell_product_front_forms true x rest = refl

pub cell_product_forms : (negative : Bool) (x : NumeralDecimal) (text from : List ℕ) → is_numeral text ≡ true
    → numeral_reading text ≡ Ok x
    → lexemes_of (lexemes (cell_product_text (signed_cell_text negative text) from))
    ≡ front_forms negative x (forms 0 false 0 from ++ (Whole Close ∷ []))
cell_product_forms negative x text from is value =
    let number = signed_cell_text negative text in
    cell_product_open_forms 0 (number ++ 41 ∷ 32 ∷ 40 ∷ (from ++ 41 ∷ []))
    ∙ (ap (λ ls. Whole Open ∷ ls)
    (cell_forms_before_close number (32 ∷ 40 ∷ (from ++ 41 ∷ [])) 0 false 1 0 (omega arith))
    ∙ (ap (λ ls. Whole Open ∷ (ls ++ (Whole Close ∷ forms 0 false 0 (32 ∷ 40 ∷ (from ++ 41 ∷ [])))))
    (signed_cell_text_forms negative x text 1 is value)
    ∙ (ap (λ ls. Whole Open ∷ (number_forms negative x ++ (Whole Close ∷ ls)))
    (cell_product_middle_forms 0 (from ++ 41 ∷ []) ∙ ap (λ ls. Blank ∷ Whole Open ∷ ls) (closed_cell_text_forms 2 from))
    ∙ cell_product_front_forms negative x (forms 0 false 0 from ++ (Whole Close ∷ [])))))

-- ---- tokens
cell_lexeme_tokens : List Lexeme → List Token
cell_lexeme_tokens [] = []
cell_lexeme_tokens (x ∷ xs) = token_in x ++ cell_lexeme_tokens xs

cell_tokens_by_lexemes : (xs : List PlacedLexeme) → tokens_in xs ≡ cell_lexeme_tokens (lexemes_of xs)
unfolding tokens_in cell_lexeme_tokens
cell_tokens_by_lexemes [] = refl
cell_tokens_by_lexemes (x ∷ xs) = ap (λ ts. token_in x.lexeme ++ ts) (cell_tokens_by_lexemes xs)

cell_tokens_of_append : (xs ys : List Lexeme) → cell_lexeme_tokens (xs ++ ys) ≡ cell_lexeme_tokens xs
    ++ cell_lexeme_tokens ys
unfolding cell_lexeme_tokens
cell_tokens_of_append [] ys = refl
cell_tokens_of_append (x ∷ xs) ys =
    ap (λ ts. token_in x ++ ts) (cell_tokens_of_append xs ys)
    ∙ sym (append_assoc (token_in x) (cell_lexeme_tokens xs) (cell_lexeme_tokens ys))

cell_number_tokens : Bool → NumeralDecimal → List Token → List Token
cell_number_tokens false x rest = Open ∷ Numeral x ∷ Close ∷ Open ∷ rest
cell_number_tokens true x rest = Open ∷ Minus ∷ Numeral x ∷ Close ∷ Open ∷ rest

cell_product_front_tokens : (negative : Bool) (x : NumeralDecimal) (rest : List Lexeme)
    → cell_lexeme_tokens (front_forms negative x rest) ≡ cell_number_tokens negative x (cell_lexeme_tokens rest)
unfolding cell_lexeme_tokens cell_number_tokens
cell_product_front_tokens false x rest = refl
cell_product_front_tokens true x rest = refl

closed_cell_text_tokens : (xs : List Lexeme) → cell_lexeme_tokens (xs ++ (Whole Close ∷ [])) ≡ cell_lexeme_tokens xs
    ++ (Close ∷ [])
unfolding cell_lexeme_tokens
closed_cell_text_tokens xs = cell_tokens_of_append xs (Whole Close ∷ [])

cell_product_tokens : (negative : Bool) (x : NumeralDecimal) (text from : List ℕ) → is_numeral text ≡ true
    → numeral_reading text ≡ Ok x
    → tokens (cell_product_text (signed_cell_text negative text) from) ≡ cell_number_tokens negative x
    (tokens from ++ (Close ∷ []))
cell_product_tokens negative x text from is value =
    cell_tokens_by_lexemes (lexemes (cell_product_text (signed_cell_text negative text) from))
    ∙ (ap cell_lexeme_tokens (cell_product_forms negative x text from is value)
    ∙ (cell_product_front_tokens negative x (forms 0 false 0 from ++ (Whole Close ∷ []))
    ∙ ap (cell_number_tokens negative x)
    (closed_cell_text_tokens (forms 0 false 0 from)
    ∙ ap (λ ts. ts ++ (Close ∷ [])) (sym (cell_tokens_by_lexemes (lexemes from))))))

-- ---- the tree
cell_number_sum : Bool → NumeralDecimal → Sum
cell_number_sum false x = SumOf (ProductOf (JuxtapositionOf (Bare (NumeralAtom x)) NoPower) NoFactor) NoTerm
cell_number_sum true x =
    SumOf (ProductOf (Signed signs.Minus (JuxtapositionOf (Bare (NumeralAtom x)) NoPower)) NoFactor)
    NoTerm

cell_product_sum : Bool → NumeralDecimal → Sum → Sum
cell_product_sum negative x d =
    SumOf (ProductOf (JuxtapositionOf (Bare (GroupAtom (cell_number_sum negative x)))
    (NextPower (Bare (GroupAtom d)) NoPower)) NoFactor) NoTerm

cell_product_is_spelt : (negative : Bool) (x : NumeralDecimal) (d : Sum)
    → cell_number_tokens negative x (sum d (Close ∷ [])) ≡ sum (cell_product_sum negative x d) []
unfolding cell_number_tokens cell_number_sum cell_product_sum
cell_product_is_spelt false x d = refl
cell_product_is_spelt true x d = refl

cell_product_tree_of_sum : (negative : Bool) (x : NumeralDecimal) (d : Sum)
    → cell_product_tree negative x (sum_tree None d) ≡ sum_tree None (cell_product_sum negative x d)
unfolding cell_number_sum cell_product_sum
cell_product_tree_of_sum false x d = refl
cell_product_tree_of_sum true x d = refl

cell_product_gives_tree : (negative : Bool) (x : NumeralDecimal) (ts : List Token) (f : Syntax)
    → TokensGiveTree None ts f
    → TokensGiveTree None (cell_number_tokens negative x (ts ++ (Close ∷ []))) (cell_product_tree negative x f)
cell_product_gives_tree negative x ts f g = (
  cell_product_sum negative x g.0,
  ap (λ us. cell_number_tokens negative x (us ++ (Close ∷ []))) g.1
      ∙ (ap (cell_number_tokens negative x) (sym (sum_before g.0 [] (Close ∷ [])))
      ∙ cell_product_is_spelt negative x g.0),
  ap (cell_product_tree negative x) g.2 ∙ cell_product_tree_of_sum negative x g.0,
)

-- if one number times the expression has no fault, every other number of this sign times it is parsed as their product
pub cell_product_is_parsed : (negative : Bool) (x y : NumeralDecimal) (text other from : List ℕ) (f : Syntax)
    → is_numeral text ≡ true → numeral_reading text ≡ Ok x → is_numeral other ≡ true → numeral_reading other ≡ Ok y
    → parse_of None from ≡ Ok f → first_parse_fault (cell_product_text (signed_cell_text negative other) from) ≡ None
    → parse_of None (cell_product_text (signed_cell_text negative text) from) ≡ Ok (cell_product_tree negative x f)
cell_product_is_parsed negative x y text other from f is value other_is other_value tree free =
    let g = ((parsed_law None from).0 f).0 tree in
    ((parsed_law None (cell_product_text (signed_cell_text negative text) from)).0 (cell_product_tree negative x f)).1 (
      cell_products_fault_free_alike negative y x (forms 0 false 0 from ++ (Whole Close ∷ []))
          (lexemes (cell_product_text (signed_cell_text negative other) from))
          (lexemes (cell_product_text (signed_cell_text negative text) from))
          (length (cell_product_text (signed_cell_text negative other) from))
          (length (cell_product_text (signed_cell_text negative text) from))
          (cell_product_forms negative y other from other_is other_value)
          (cell_product_forms negative x text from is value) free,
      subst (λ ts. TokensGiveTree None ts (cell_product_tree negative x f))
          (sym (cell_product_tokens negative x text from is value))
          (cell_product_gives_tree negative x (tokens from) f g.1),
    )
