-- The tokens of a derivation fit.
use Rattle.std.proofs.Common.{◌≡◌, ℕ, suc, ◌-◌, true, List, [], ◌∷◌, Option, refl, sym, subst, arith, lt-ltb}
use Rattle.std.proofs.lemmas.Bool.{and_from}
use Rattle.expr_tree.specs.Grammar.{Sum, SumOf, SumRest, NoTerm, NextTerm, Product, ProductOf, ProductRest, NoFactor}
use Rattle.expr_tree.specs.Grammar.{NextFactor, Juxtaposition, Signed, JuxtapositionOf, JuxtapositionRest, NoPower}
use Rattle.expr_tree.specs.Grammar.{NextPower, Power, Bare, Raised, Exponent, SignedExponent, ExponentOf, Atom}
use Rattle.expr_tree.specs.Grammar.{NumeralAtom, BarAtom, WordAtom, PowerAtom, CallAtom, InverseAtom, RootAtom}
use Rattle.expr_tree.specs.Grammar.{GroupAtom, sign_token, scale_token, sum, sum_rest, product, product_rest}
use Rattle.expr_tree.specs.Grammar.{juxtaposition, juxtaposition_rest, power, exponent_tokens, atom, TokensGiveTree}
use Rattle.expr_tree.specs.Rules.{WantsOperand, EndsOperand, tokens_fit}
use Rattle.expr_tree.specs.Syntax.{Syntax}
use Rattle.expr_tree.specs.Tokens.{Token, Caret, Close}
use Rattle.expr_tree.specs.declared.operator.Scale.{Scale}
use Rattle.expr_tree.specs.declared.operator.Scale.TheVariants.{Multiply, Divide}
use Rattle.expr_tree.specs.declared.operator.Sign.{Sign}
use Rattle.expr_tree.specs.declared.operator.Sign.TheVariants as signs
use Rattle.expr_tree.proofs.Fits.{operand_tokens_fit_after_operand, tokens_fit_after_numeral}
use Rattle.expr_tree.proofs.Stops.{power_tokens_begin_operand}

-- a sign fits if an operand is wanted
sign_token_fits_if_wanted : (s : Sign) (k : ℕ) (ts : List Token) → tokens_fit WantsOperand k ts ≡ true
    → tokens_fit WantsOperand k (sign_token s ∷ ts) ≡ true
sign_token_fits_if_wanted signs.Plus k ts h = h
sign_token_fits_if_wanted signs.Minus k ts h = h

-- a sign fits after an operand
sign_token_fits_after_operand : (s : Sign) (k : ℕ) (ts : List Token) → tokens_fit WantsOperand k ts ≡ true
    → tokens_fit EndsOperand k (sign_token s ∷ ts) ≡ true
sign_token_fits_after_operand signs.Plus k ts h = h
sign_token_fits_after_operand signs.Minus k ts h = h

-- a `*` or `/` fits after an operand
scale_token_fits_after_operand : (s : Scale) (k : ℕ) (ts : List Token) → tokens_fit WantsOperand k ts ≡ true
    → tokens_fit EndsOperand k (scale_token s ∷ ts) ≡ true
scale_token_fits_after_operand Multiply k ts h = h
scale_token_fits_after_operand Divide k ts h = h

-- a `)` fits after an operand if a parenthesis is open
close_paren_fits_after_operand : (k : ℕ) (ts : List Token) → tokens_fit EndsOperand k ts ≡ true
    → tokens_fit EndsOperand (suc k) (Close ∷ ts) ≡ true
close_paren_fits_after_operand k ts h =
    let one_less : k ≡ suc k - 1 = omega arith in
    and_from _ _ (lt-ltb 0 (suc k) (omega arith)) (subst (λ i. tokens_fit EndsOperand i ts ≡ true) one_less h)

mutual
  sum_fits : (d : Sum) (k : ℕ) (r : List Token) → tokens_fit EndsOperand k r ≡ true
      → tokens_fit WantsOperand k (sum d r) ≡ true
  sum_fits (SumOf p ps) k r h = product_fits p k (sum_rest ps r) (sum_rest_fits ps k r h)

  sum_rest_fits : (ps : SumRest) (k : ℕ) (r : List Token) → tokens_fit EndsOperand k r ≡ true
      → tokens_fit EndsOperand k (sum_rest ps r) ≡ true
  sum_rest_fits NoTerm k r h = h
  sum_rest_fits (NextTerm s p ps) k r h = sign_token_fits_after_operand s k _
      (product_fits p k (sum_rest ps r) (sum_rest_fits ps k r h))

  product_fits : (d : Product) (k : ℕ) (r : List Token) → tokens_fit EndsOperand k r ≡ true
      → tokens_fit WantsOperand k (product d r) ≡ true
  product_fits (ProductOf j js) k r h = juxtaposition_fits j k (product_rest js r) (product_rest_fits js k r h)

  product_rest_fits : (js : ProductRest) (k : ℕ) (r : List Token) → tokens_fit EndsOperand k r ≡ true
      → tokens_fit EndsOperand k (product_rest js r) ≡ true
  product_rest_fits NoFactor k r h = h
  product_rest_fits (NextFactor s j js) k r h =
      scale_token_fits_after_operand s k _ (juxtaposition_fits j k (product_rest js r) (product_rest_fits js k r h))

  juxtaposition_fits : (d : Juxtaposition) (k : ℕ) (r : List Token) → tokens_fit EndsOperand k r ≡ true
      → tokens_fit WantsOperand k (juxtaposition d r) ≡ true
  juxtaposition_fits (Signed s j) k r h = sign_token_fits_if_wanted s k _ (juxtaposition_fits j k r h)
  juxtaposition_fits (JuxtapositionOf p ps) k r h =
      power_fits p k (juxtaposition_rest ps r) (juxtaposition_rest_fits ps k r h)

  juxtaposition_rest_fits : (ps : JuxtapositionRest) (k : ℕ) (r : List Token) → tokens_fit EndsOperand k r ≡ true
      → tokens_fit EndsOperand k (juxtaposition_rest ps r) ≡ true
  juxtaposition_rest_fits NoPower k r h = h
  juxtaposition_rest_fits (NextPower p ps) k r h =
      operand_tokens_fit_after_operand k _ (power_tokens_begin_operand p (juxtaposition_rest ps r))
      (power_fits p k (juxtaposition_rest ps r) (juxtaposition_rest_fits ps k r h))

  power_fits : (d : Power) (k : ℕ) (r : List Token) → tokens_fit EndsOperand k r ≡ true
      → tokens_fit WantsOperand k (power d r) ≡ true
  power_fits (Bare a) k r h = atom_fits a k r h
  power_fits (Raised a e) k r h = atom_fits a k (Caret ∷ exponent_tokens e r) (exponent_fits e k r h)

  exponent_fits : (d : Exponent) (k : ℕ) (r : List Token) → tokens_fit EndsOperand k r ≡ true
      → tokens_fit WantsOperand k (exponent_tokens d r) ≡ true
  exponent_fits (SignedExponent s e) k r h = sign_token_fits_if_wanted s k _ (exponent_fits e k r h)
  exponent_fits (ExponentOf p) k r h = power_fits p k r h

  atom_fits : (d : Atom) (k : ℕ) (r : List Token) → tokens_fit EndsOperand k r ≡ true
      → tokens_fit WantsOperand k (atom d r) ≡ true
  atom_fits (NumeralAtom n) k r h = tokens_fit_after_numeral k r h
  atom_fits (BarAtom n d) k r h = h
  atom_fits (WordAtom w) k r h = h
  atom_fits (PowerAtom w n) k r h = h
  atom_fits (CallAtom w d) k r h = sum_fits d (suc k) (Close ∷ r) (close_paren_fits_after_operand k r h)
  atom_fits (InverseAtom w d) k r h = sum_fits d (suc k) (Close ∷ r) (close_paren_fits_after_operand k r h)
  atom_fits (RootAtom degree d) k r h = sum_fits d (suc k) (Close ∷ r) (close_paren_fits_after_operand k r h)
  atom_fits (GroupAtom d) k r h = sum_fits d (suc k) (Close ∷ r) (close_paren_fits_after_operand k r h)

-- tokens that give a tree fit
pub tokens_giving_tree_fit : (binder : Option (List ℕ)) (ts : List Token) (e : Syntax) → TokensGiveTree binder ts e
    → tokens_fit WantsOperand 0 ts ≡ true
tokens_giving_tree_fit binder ts e g = subst (λ x. tokens_fit WantsOperand 0 x ≡ true) (sym g.1)
    (sum_fits g.0 0 [] refl)
