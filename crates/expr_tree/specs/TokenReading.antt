-- The tree that tokens give, as a function: each rule of the grammar reads its derivation from the front of the tokens
-- and returns the tokens after it.
use Rattle.std.specs.Prelude.{◌↔◌, ◌≡◌, ℕ, zero, suc, ◌+◌, ◌*◌, List, [], ◌∷◌, length, Option, Some, None, option_map}
use Rattle.std.specs.Prelude.{if◌then◌else◌}
use Rattle.expr_tree.specs.Grammar.{Sum, SumOf, SumRest, NoTerm, NextTerm, Product, ProductOf, ProductRest, NoFactor}
use Rattle.expr_tree.specs.Grammar.{NextFactor, Juxtaposition, Signed, JuxtapositionOf, JuxtapositionRest, NoPower}
use Rattle.expr_tree.specs.Grammar.{NextPower, Power, Bare, Raised, Exponent, SignedExponent, ExponentOf, Atom}
use Rattle.expr_tree.specs.Grammar.{NumeralAtom, BarAtom, WordAtom, PowerAtom, CallAtom, InverseAtom, RootAtom}
use Rattle.expr_tree.specs.Grammar.{GroupAtom, sum_tree, TokensGiveTree}
use Rattle.expr_tree.specs.Rules.{WantsOperand, begins_operand, tokens_fit}
use Rattle.expr_tree.specs.Syntax.{Syntax}
use Rattle.expr_tree.specs.Tokens.{Token, Numeral, Word, WordWithPower, Head, Root, Plus, Minus, Star, Slash, Bar}
use Rattle.expr_tree.specs.Tokens.{Caret, Tilde, Open, Close}
use Rattle.expr_tree.specs.declared.operator.Scale.TheVariants.{Multiply, Divide}
use Rattle.expr_tree.specs.declared.operator.Sign.TheVariants as signs

infixl 10 ◌>>=◌
abbrev pub ◌>>=◌ : {A B : Type 0} → Option A → (A → Option B) → Option B
None >>= f = None
(Some x) >>= f = f x

-- what `make` makes of a sum, if a `)` follows it
abbrev pub sum_closed_by_paren : {A : Type 0} → (Sum → A) → Sum × List Token → Option (A × List Token)
sum_closed_by_paren make (d, Close ∷ ts) = Some (make d, ts)
sum_closed_by_paren make _ = None

-- `n` limits how deep the rules may nest; eight for each token is enough if the tokens fit
abbrev mutual
  pub read_sum : ℕ → List Token → Option (Sum × List Token)
  read_sum zero ts = None
  read_sum (suc n) ts = do
    p ← read_product n ts
    q ← read_sum_rest n p.1
    Some (SumOf p.0 q.0, q.1)

  pub read_sum_rest : ℕ → List Token → Option (SumRest × List Token)
  read_sum_rest zero ts = None
  read_sum_rest (suc n) (Plus ∷ ts) = do
    p ← read_product n ts
    q ← read_sum_rest n p.1
    Some (NextTerm signs.Plus p.0 q.0, q.1)
  read_sum_rest (suc n) (Minus ∷ ts) = do
    p ← read_product n ts
    q ← read_sum_rest n p.1
    Some (NextTerm signs.Minus p.0 q.0, q.1)
  read_sum_rest (suc n) ts = Some (NoTerm, ts)

  pub read_product : ℕ → List Token → Option (Product × List Token)
  read_product zero ts = None
  read_product (suc n) ts = do
    p ← read_juxtaposition n ts
    q ← read_product_rest n p.1
    Some (ProductOf p.0 q.0, q.1)

  pub read_product_rest : ℕ → List Token → Option (ProductRest × List Token)
  read_product_rest zero ts = None
  read_product_rest (suc n) (Star ∷ ts) = do
    p ← read_juxtaposition n ts
    q ← read_product_rest n p.1
    Some (NextFactor Multiply p.0 q.0, q.1)
  read_product_rest (suc n) (Slash ∷ ts) = do
    p ← read_juxtaposition n ts
    q ← read_product_rest n p.1
    Some (NextFactor Divide p.0 q.0, q.1)
  read_product_rest (suc n) ts = Some (NoFactor, ts)

  pub read_juxtaposition : ℕ → List Token → Option (Juxtaposition × List Token)
  read_juxtaposition zero ts = None
  read_juxtaposition (suc n) (Plus ∷ ts) = do
    p ← read_juxtaposition n ts
    Some (Signed signs.Plus p.0, p.1)
  read_juxtaposition (suc n) (Minus ∷ ts) = do
    p ← read_juxtaposition n ts
    Some (Signed signs.Minus p.0, p.1)
  read_juxtaposition (suc n) ts = do
    p ← read_power n ts
    q ← read_juxtaposition_rest n p.1
    Some (JuxtapositionOf p.0 q.0, q.1)

  pub read_juxtaposition_rest : ℕ → List Token → Option (JuxtapositionRest × List Token)
  read_juxtaposition_rest zero ts = None
  read_juxtaposition_rest (suc n) [] = Some (NoPower, [])
  read_juxtaposition_rest (suc n) (t ∷ ts) =
      if begins_operand t then (do
        p ← read_power n (t ∷ ts)
        q ← read_juxtaposition_rest n p.1
        Some (NextPower p.0 q.0, q.1))
      else Some (NoPower, t ∷ ts)

  pub read_power : ℕ → List Token → Option (Power × List Token)
  read_power zero ts = None
  read_power (suc n) ts = do
    a ← read_atom n ts
    read_raised n a.0 a.1

  pub read_raised : ℕ → Atom → List Token → Option (Power × List Token)
  read_raised zero a ts = None
  read_raised (suc n) a (Caret ∷ ts) = do
    e ← read_exponent n ts
    Some (Raised a e.0, e.1)
  read_raised (suc n) a ts = Some (Bare a, ts)

  pub read_exponent : ℕ → List Token → Option (Exponent × List Token)
  read_exponent zero ts = None
  read_exponent (suc n) (Plus ∷ ts) = do
    e ← read_exponent n ts
    Some (SignedExponent signs.Plus e.0, e.1)
  read_exponent (suc n) (Minus ∷ ts) = do
    e ← read_exponent n ts
    Some (SignedExponent signs.Minus e.0, e.1)
  read_exponent (suc n) ts = do
    p ← read_power n ts
    Some (ExponentOf p.0, p.1)

  pub read_atom : ℕ → List Token → Option (Atom × List Token)
  read_atom zero ts = None
  read_atom (suc n) (Numeral x ∷ Bar ∷ Numeral y ∷ ts) = Some (BarAtom x y, ts)
  read_atom (suc n) (Numeral x ∷ ts) = Some (NumeralAtom x, ts)
  read_atom (suc n) (Word w ∷ ts) = Some (WordAtom w, ts)
  read_atom (suc n) (WordWithPower w x ∷ ts) = Some (PowerAtom w x, ts)
  read_atom (suc n) (Head w ∷ ts) = read_sum n ts >>= sum_closed_by_paren (CallAtom w)
  read_atom (suc n) (Tilde ∷ Head w ∷ ts) = read_sum n ts >>= sum_closed_by_paren (InverseAtom w)
  read_atom (suc n) (Root kind ∷ Open ∷ ts) = read_sum n ts >>= sum_closed_by_paren (RootAtom kind)
  read_atom (suc n) (Open ∷ ts) = read_sum n ts >>= sum_closed_by_paren GroupAtom
  read_atom (suc n) ts = None

-- the tree that the tokens give
unfoldable pub tree_of_token_list : Option (List ℕ) → List Token → Option Syntax
tree_of_token_list binder ts =
    if tokens_fit WantsOperand 0 ts
    then option_map (λ x. sum_tree binder x.0) (read_sum (8 * length ts + 8) ts)
    else None

-- law: the function gives a tree exactly if the tokens give it
abbrev pub TreeOfTokenListLaw : Type 0
TreeOfTokenListLaw = (binder : Option (List ℕ)) (ts : List Token) (e : Syntax)
    → (tree_of_token_list binder ts ≡ Some e) ↔ TokensGiveTree binder ts e
