-- Tokens give well-formed trees.
use Rattle.std.proofs.Common.{◌≡◌, ◌∙◌, ap, refl, true, false, if◌then◌else◌, List, Option, ℕ}
use Rattle.std.proofs.lemmas.Bool.{and_from}
use Rattle.expr_tree.specs.declared.operator.Sign.{Sign}
use Rattle.expr_tree.specs.declared.operator.Sign.TheVariants as signs
use Rattle.expr_tree.specs.WellFormed.{are_formed, are_formed_factors, are_formed_terms, is_formed}
use Rattle.expr_tree.specs.Grammar.{Sum, SumOf, SumRest, NoTerm, NextTerm, Product, ProductOf, ProductRest, NoFactor}
use Rattle.expr_tree.specs.Grammar.{NextFactor, Juxtaposition, Signed, JuxtapositionOf, JuxtapositionRest, NoPower}
use Rattle.expr_tree.specs.Grammar.{NextPower, Power, Bare, Raised, Exponent, SignedExponent, ExponentOf, Atom}
use Rattle.expr_tree.specs.Grammar.{NumeralAtom, BarAtom, WordAtom, PowerAtom, CallAtom, InverseAtom, RootAtom}
use Rattle.expr_tree.specs.Grammar.{GroupAtom, argument_times_syntax, call_syntax, is_binder, signed_syntax}
use Rattle.expr_tree.specs.Grammar.{word_syntax, TokensGiveTree, sum_tree, terms, product_tree, juxtaposition_tree}
use Rattle.expr_tree.specs.Grammar.{members, power_tree, rest_factors, exponent_tree, atom_tree}
use Rattle.expr_tree.specs.Syntax.{Syntax}
use Rattle.expr_tree.specs.Syntax as tree
use Rattle.expr_tree.specs.Tokens.{Token}

-- a word is well formed
word-tree-is-formed : (binder : Option (List ℕ)) (w : List ℕ) → is_formed (word_syntax binder w) ≡ true
word-tree-is-formed binder w =
    elim (is_binder binder w) as (λ b. is_formed (if b then tree.Argument else tree.Word w) ≡ true)
    [ true ↦ refl | false ↦ refl ]

-- a call of a well-formed operand is well formed
call-tree-is-formed : (binder : Option (List ℕ)) (w : List ℕ) (e : Syntax) → is_formed e ≡ true
    → is_formed (call_syntax binder w e) ≡ true
call-tree-is-formed binder w e h =
    elim (is_binder binder w) as (λ b. is_formed (if b then argument_times_syntax e else tree.Call w e) ≡ true) [
      | true ↦ and_from _ _ h refl
      | false ↦ h
    ]

-- a well-formed tree with a sign is well formed
signed-tree-is-formed : (s : Sign) (e : Syntax) → is_formed e ≡ true → is_formed (signed_syntax s e) ≡ true
signed-tree-is-formed signs.Plus e h = h
signed-tree-is-formed signs.Minus e h = h

mutual
  formed-sum : (binder : Option (List ℕ)) (d : Sum) → is_formed (sum_tree binder d) ≡ true
  formed-sum binder (SumOf p NoTerm) = formed-product binder p
  formed-sum binder (SumOf p (NextTerm s q qs)) =
      and_from _ _ (formed-product binder p) (and_from _ _ (formed-product binder q) (formed-terms binder qs))

  formed-terms : (binder : Option (List ℕ)) (ps : SumRest) → are_formed_terms (terms binder ps) ≡ true
  formed-terms binder NoTerm = refl
  formed-terms binder (NextTerm s p ps) = and_from _ _ (formed-product binder p) (formed-terms binder ps)

  formed-product : (binder : Option (List ℕ)) (p : Product) → is_formed (product_tree binder p) ≡ true
  formed-product binder (ProductOf j NoFactor) = formed-juxtaposition binder j
  formed-product binder (ProductOf j (NextFactor s k ks)) =
      and_from _ _ (formed-juxtaposition binder j)
      (and_from _ _ (formed-juxtaposition binder k) (formed-factors binder ks))

  formed-factors : (binder : Option (List ℕ)) (js : ProductRest) → are_formed_factors (rest_factors binder js) ≡ true
  formed-factors binder NoFactor = refl
  formed-factors binder (NextFactor s j js) = and_from _ _ (formed-juxtaposition binder j) (formed-factors binder js)

  formed-juxtaposition : (binder : Option (List ℕ)) (j : Juxtaposition) → is_formed (juxtaposition_tree binder j) ≡ true
  formed-juxtaposition binder (Signed s j) = signed-tree-is-formed s _ (formed-juxtaposition binder j)
  formed-juxtaposition binder (JuxtapositionOf p NoPower) = formed-power binder p
  formed-juxtaposition binder (JuxtapositionOf p (NextPower q qs)) =
      and_from _ _ (formed-power binder p) (and_from _ _ (formed-power binder q) (formed-members binder qs))

  formed-members : (binder : Option (List ℕ)) (ps : JuxtapositionRest) → are_formed (members binder ps) ≡ true
  formed-members binder NoPower = refl
  formed-members binder (NextPower p ps) = and_from _ _ (formed-power binder p) (formed-members binder ps)

  formed-power : (binder : Option (List ℕ)) (p : Power) → is_formed (power_tree binder p) ≡ true
  formed-power binder (Bare a) = formed-atom binder a
  formed-power binder (Raised a e) = and_from _ _ (formed-atom binder a) (formed-exponent binder e)

  formed-exponent : (binder : Option (List ℕ)) (e : Exponent) → is_formed (exponent_tree binder e) ≡ true
  formed-exponent binder (SignedExponent s e) = signed-tree-is-formed s _ (formed-exponent binder e)
  formed-exponent binder (ExponentOf p) = formed-power binder p

  formed-atom : (binder : Option (List ℕ)) (a : Atom) → is_formed (atom_tree binder a) ≡ true
  formed-atom binder (NumeralAtom n) = refl
  formed-atom binder (BarAtom n d) = refl
  formed-atom binder (WordAtom w) = word-tree-is-formed binder w
  formed-atom binder (PowerAtom w n) = and_from _ _ (word-tree-is-formed binder w) refl
  formed-atom binder (CallAtom w d) = call-tree-is-formed binder w _ (formed-sum binder d)
  formed-atom binder (InverseAtom w d) = formed-sum binder d
  formed-atom binder (RootAtom kind d) = formed-sum binder d
  formed-atom binder (GroupAtom d) = formed-sum binder d

-- the tree that tokens give is well formed
pub given-tree-is-formed : (binder : Option (List ℕ)) (ts : List Token) (e : Syntax) → TokensGiveTree binder ts e
    → is_formed e ≡ true
given-tree-is-formed binder ts e g = ap is_formed g.2 ∙ formed-sum binder g.0
