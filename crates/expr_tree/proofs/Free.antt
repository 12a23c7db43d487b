-- Without a binder a tree contains no argument.
use Rattle.std.proofs.Common.{◌≡◌, ◌∙◌, refl, ap, false, None, List}
use Rattle.std.proofs.lemmas.Bool.{or_from}
use Rattle.expr_tree.specs.declared.operator.Sign.{Sign}
use Rattle.expr_tree.specs.declared.operator.Sign.TheVariants as signs
use Rattle.expr_tree.specs.Grammar.{Sum, SumOf, SumRest, NoTerm, NextTerm, Product, ProductOf, ProductRest, NoFactor}
use Rattle.expr_tree.specs.Grammar.{NextFactor, Juxtaposition, Signed, JuxtapositionOf, JuxtapositionRest, NoPower}
use Rattle.expr_tree.specs.Grammar.{NextPower, Power, Bare, Raised, Exponent, SignedExponent, ExponentOf, Atom}
use Rattle.expr_tree.specs.Grammar.{NumeralAtom, BarAtom, WordAtom, PowerAtom, CallAtom, InverseAtom, RootAtom}
use Rattle.expr_tree.specs.Grammar.{GroupAtom, sum_tree, terms, product_tree, juxtaposition_tree, members, power_tree}
use Rattle.expr_tree.specs.Grammar.{rest_factors, exponent_tree, atom_tree, signed_syntax, TokensGiveTree}
use Rattle.expr_tree.specs.Syntax.{Syntax}
use Rattle.expr_tree.specs.Tokens.{Token}
use Rattle.expr_tree.specs.Arguments.{holds_argument, members_hold, factors_hold, terms_hold}

-- a sign adds no argument
signed_syntax-adds-no-argument : (s : Sign) (e : Syntax) → holds_argument e ≡ false
    → holds_argument (signed_syntax s e) ≡ false
signed_syntax-adds-no-argument signs.Plus e h = h
signed_syntax-adds-no-argument signs.Minus e h = h

mutual
  free-sum : (d : Sum) → holds_argument (sum_tree None d) ≡ false
  free-sum (SumOf p NoTerm) = free-product p
  free-sum (SumOf p (NextTerm s q qs)) = or_from _ _ (free-product p) (or_from _ _ (free-product q) (free-terms qs))

  free-terms : (ps : SumRest) → terms_hold (terms None ps) ≡ false
  free-terms NoTerm = refl
  free-terms (NextTerm s p ps) = or_from _ _ (free-product p) (free-terms ps)

  free-product : (p : Product) → holds_argument (product_tree None p) ≡ false
  free-product (ProductOf j NoFactor) = free-juxtaposition j
  free-product (ProductOf j (NextFactor s k ks)) =
      or_from _ _ (free-juxtaposition j) (or_from _ _ (free-juxtaposition k) (free-factors ks))

  free-factors : (js : ProductRest) → factors_hold (rest_factors None js) ≡ false
  free-factors NoFactor = refl
  free-factors (NextFactor s j js) = or_from _ _ (free-juxtaposition j) (free-factors js)

  free-juxtaposition : (j : Juxtaposition) → holds_argument (juxtaposition_tree None j) ≡ false
  free-juxtaposition (Signed s j) = signed_syntax-adds-no-argument s _ (free-juxtaposition j)
  free-juxtaposition (JuxtapositionOf p NoPower) = free-power p
  free-juxtaposition (JuxtapositionOf p (NextPower q qs)) =
      or_from _ _ (free-power p) (or_from _ _ (free-power q) (free-members qs))

  free-members : (ps : JuxtapositionRest) → members_hold (members None ps) ≡ false
  free-members NoPower = refl
  free-members (NextPower p ps) = or_from _ _ (free-power p) (free-members ps)

  free-power : (p : Power) → holds_argument (power_tree None p) ≡ false
  free-power (Bare a) = free-atom a
  free-power (Raised a e) = or_from _ _ (free-atom a) (free-exponent e)

  free-exponent : (e : Exponent) → holds_argument (exponent_tree None e) ≡ false
  free-exponent (SignedExponent s e) = signed_syntax-adds-no-argument s _ (free-exponent e)
  free-exponent (ExponentOf p) = free-power p

  free-atom : (a : Atom) → holds_argument (atom_tree None a) ≡ false
  free-atom (NumeralAtom n) = refl
  free-atom (BarAtom n d) = refl
  free-atom (WordAtom w) = refl
  free-atom (PowerAtom w n) = refl
  free-atom (CallAtom w d) = free-sum d
  free-atom (InverseAtom w d) = free-sum d
  free-atom (RootAtom kind d) = free-sum d
  free-atom (GroupAtom d) = free-sum d

-- the tree that tokens give without a binder contains no argument
pub tokens-give-argument-free-tree : (ts : List Token) (e : Syntax) → TokensGiveTree None ts e
    → holds_argument e ≡ false
tokens-give-argument-free-tree ts e g = ap holds_argument g.2 ∙ free-sum g.0
