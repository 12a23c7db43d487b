-- The tokens of a derivation before others.
use Rattle.std.proofs.Common.{◌≡◌, List, ◌∷◌, ◌++◌, refl, ap, ◌∙◌}
use Rattle.expr_tree.specs.Grammar.{Sum, SumOf, SumRest, NoTerm, NextTerm, Product, ProductOf, ProductRest, NoFactor}
use Rattle.expr_tree.specs.Grammar.{NextFactor, Juxtaposition, Signed, JuxtapositionOf, JuxtapositionRest, NoPower}
use Rattle.expr_tree.specs.Grammar.{NextPower, Power, Bare, Raised, Exponent, SignedExponent, ExponentOf, Atom}
use Rattle.expr_tree.specs.Grammar.{NumeralAtom, BarAtom, WordAtom, PowerAtom, CallAtom, InverseAtom, RootAtom}
use Rattle.expr_tree.specs.Grammar.{GroupAtom, sign_token, scale_token, sum, sum_rest, product, product_rest}
use Rattle.expr_tree.specs.Grammar.{juxtaposition, juxtaposition_rest, power, exponent_tokens, atom}
use Rattle.expr_tree.specs.Tokens.{Token, Head, Root, Caret, Tilde, Open, Close}

mutual
  pub sum_before : (d : Sum) (a b : List Token) → sum d (a ++ b) ≡ sum d a ++ b
  sum_before (SumOf p ps) a b = ap (product p) (sum_rest_before ps a b) ∙ product_before p (sum_rest ps a) b

  sum_rest_before : (d : SumRest) (a b : List Token) → sum_rest d (a ++ b) ≡ sum_rest d a ++ b
  sum_rest_before NoTerm a b = refl
  sum_rest_before (NextTerm s p ps) a b =
      ap (λ ts. sign_token s ∷ ts) (ap (product p) (sum_rest_before ps a b) ∙ product_before p (sum_rest ps a) b)

  product_before : (d : Product) (a b : List Token) → product d (a ++ b) ≡ product d a ++ b
  product_before (ProductOf j js) a b =
      ap (juxtaposition j) (product_rest_before js a b) ∙ juxtaposition_before j (product_rest js a) b

  product_rest_before : (d : ProductRest) (a b : List Token) → product_rest d (a ++ b) ≡ product_rest d a ++ b
  product_rest_before NoFactor a b = refl
  product_rest_before (NextFactor s j js) a b =
      ap (λ ts. scale_token s ∷ ts) (ap (juxtaposition j) (product_rest_before js a b)
      ∙ juxtaposition_before j (product_rest js a) b)

  juxtaposition_before : (d : Juxtaposition) (a b : List Token) → juxtaposition d (a ++ b) ≡ juxtaposition d a ++ b
  juxtaposition_before (Signed s j) a b = ap (λ ts. sign_token s ∷ ts) (juxtaposition_before j a b)
  juxtaposition_before (JuxtapositionOf p ps) a b =
      ap (power p) (juxtaposition_rest_before ps a b) ∙ power_before p (juxtaposition_rest ps a) b

  juxtaposition_rest_before : (d : JuxtapositionRest) (a b : List Token)
      → juxtaposition_rest d (a ++ b) ≡ juxtaposition_rest d a ++ b
  juxtaposition_rest_before NoPower a b = refl
  juxtaposition_rest_before (NextPower p ps) a b =
      ap (power p) (juxtaposition_rest_before ps a b) ∙ power_before p (juxtaposition_rest ps a) b

  power_before : (d : Power) (a b : List Token) → power d (a ++ b) ≡ power d a ++ b
  power_before (Bare x) a b = atom_before x a b
  power_before (Raised x e) a b =
      ap (λ ts. atom x (Caret ∷ ts)) (exponent_before e a b) ∙ atom_before x (Caret ∷ exponent_tokens e a) b

  exponent_before : (d : Exponent) (a b : List Token) → exponent_tokens d (a ++ b) ≡ exponent_tokens d a ++ b
  exponent_before (SignedExponent s e) a b = ap (λ ts. sign_token s ∷ ts) (exponent_before e a b)
  exponent_before (ExponentOf p) a b = power_before p a b

  atom_before : (d : Atom) (a b : List Token) → atom d (a ++ b) ≡ atom d a ++ b
  atom_before (NumeralAtom n) a b = refl
  atom_before (BarAtom n d) a b = refl
  atom_before (WordAtom w) a b = refl
  atom_before (PowerAtom w n) a b = refl
  atom_before (CallAtom w d) a b = ap (λ ts. Head w ∷ ts) (sum_before d (Close ∷ a) b)
  atom_before (InverseAtom w d) a b = ap (λ ts. Tilde ∷ Head w ∷ ts) (sum_before d (Close ∷ a) b)
  atom_before (RootAtom kind d) a b = ap (λ ts. Root kind ∷ Open ∷ ts) (sum_before d (Close ∷ a) b)
  atom_before (GroupAtom d) a b = ap (λ ts. Open ∷ ts) (sum_before d (Close ∷ a) b)
