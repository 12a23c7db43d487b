-- Which token may follow a derivation.
use Rattle.std.proofs.Common.{◌≡◌, true, List, [], ◌∷◌, refl}
use Rattle.expr_tree.specs.Grammar.{SumRest, NoTerm, NextTerm, ProductRest, NoFactor, NextFactor, JuxtapositionRest}
use Rattle.expr_tree.specs.Grammar.{NoPower, NextPower, Power, Bare, Raised, Atom, NumeralAtom, BarAtom, WordAtom}
use Rattle.expr_tree.specs.Grammar.{PowerAtom, CallAtom, InverseAtom, RootAtom, GroupAtom, sum_rest, product_rest}
use Rattle.expr_tree.specs.Grammar.{juxtaposition_rest, power, exponent_tokens, atom}
use Rattle.expr_tree.specs.Front.{tokens_stop, tokens_begin_operand, token_follows_sum, token_follows_product}
use Rattle.expr_tree.specs.Front.{token_follows_juxtaposition, token_follows_power, token_follows_atom}
use Rattle.expr_tree.specs.Tokens.{Token, Plus, Minus, Bar, Caret, Close}
use Rattle.expr_tree.specs.declared.operator.Scale.TheVariants.{Multiply, Divide}
use Rattle.expr_tree.specs.declared.operator.Sign.TheVariants as signs

-- what may follow a sum may follow a product
pub tokens_stop_sum_product : (r : List Token) → tokens_stop token_follows_sum r ≡ true
    → tokens_stop token_follows_product r ≡ true
tokens_stop_sum_product [] h = refl
tokens_stop_sum_product (Close ∷ r) h = refl
tokens_stop_sum_product (t ∷ r) h = cc

-- what may follow a product may follow a juxtaposition
pub tokens_stop_product_juxtaposition : (r : List Token) → tokens_stop token_follows_product r ≡ true
    → tokens_stop token_follows_juxtaposition r ≡ true
tokens_stop_product_juxtaposition [] h = refl
tokens_stop_product_juxtaposition (Close ∷ r) h = refl
tokens_stop_product_juxtaposition (Plus ∷ r) h = refl
tokens_stop_product_juxtaposition (Minus ∷ r) h = refl
tokens_stop_product_juxtaposition (t ∷ r) h = cc

-- what may follow a juxtaposition may follow a power
pub tokens_stop_juxtaposition_power : (r : List Token) → tokens_stop token_follows_juxtaposition r ≡ true
    → tokens_stop token_follows_power r ≡ true
tokens_stop_juxtaposition_power [] h = refl
tokens_stop_juxtaposition_power (Caret ∷ r) h = cc
tokens_stop_juxtaposition_power (Bar ∷ r) h = cc
tokens_stop_juxtaposition_power (t ∷ r) h = refl

-- what may follow a power may follow an atom
pub tokens_stop_power_atom : (r : List Token) → tokens_stop token_follows_power r ≡ true
    → tokens_stop token_follows_atom r ≡ true
tokens_stop_power_atom [] h = refl
tokens_stop_power_atom (Bar ∷ r) h = cc
tokens_stop_power_atom (t ∷ r) h = refl

-- what begins an operand may follow a power
pub tokens_stop_operand_power : (r : List Token) → tokens_begin_operand r ≡ true
    → tokens_stop token_follows_power r ≡ true
tokens_stop_operand_power [] h = cc
tokens_stop_operand_power (Caret ∷ r) h = cc
tokens_stop_operand_power (Bar ∷ r) h = cc
tokens_stop_operand_power (t ∷ r) h = refl

-- the terms of a sum may follow a product
pub sum_rest_tokens_stop : (ps : SumRest) (r : List Token) → tokens_stop token_follows_sum r ≡ true
    → tokens_stop token_follows_product (sum_rest ps r) ≡ true
sum_rest_tokens_stop NoTerm r h = tokens_stop_sum_product r h
sum_rest_tokens_stop (NextTerm signs.Plus p ps) r h = refl
sum_rest_tokens_stop (NextTerm signs.Minus p ps) r h = refl

-- the factors of a product may follow a juxtaposition
pub product_rest_tokens_stop : (js : ProductRest) (r : List Token) → tokens_stop token_follows_product r ≡ true
    → tokens_stop token_follows_juxtaposition (product_rest js r) ≡ true
product_rest_tokens_stop NoFactor r h = tokens_stop_product_juxtaposition r h
product_rest_tokens_stop (NextFactor Multiply j js) r h = refl
product_rest_tokens_stop (NextFactor Divide j js) r h = refl

-- an atom begins an operand
pub atom_tokens_begin_operand : (a : Atom) (r : List Token) → tokens_begin_operand (atom a r) ≡ true
atom_tokens_begin_operand (NumeralAtom n) r = refl
atom_tokens_begin_operand (BarAtom n d) r = refl
atom_tokens_begin_operand (WordAtom w) r = refl
atom_tokens_begin_operand (PowerAtom w d) r = refl
atom_tokens_begin_operand (CallAtom w d) r = refl
atom_tokens_begin_operand (InverseAtom w d) r = refl
atom_tokens_begin_operand (RootAtom n d) r = refl
atom_tokens_begin_operand (GroupAtom d) r = refl

-- a power begins an operand
pub power_tokens_begin_operand : (p : Power) (r : List Token) → tokens_begin_operand (power p r) ≡ true
power_tokens_begin_operand (Bare a) r = atom_tokens_begin_operand a r
power_tokens_begin_operand (Raised a e) r = atom_tokens_begin_operand a (Caret ∷ exponent_tokens e r)

-- the powers of a juxtaposition may follow a power
pub juxtaposition_rest_tokens_stop : (ps : JuxtapositionRest) (r : List Token)
    → tokens_stop token_follows_juxtaposition r ≡ true
    → tokens_stop token_follows_power (juxtaposition_rest ps r) ≡ true
juxtaposition_rest_tokens_stop NoPower r h = tokens_stop_juxtaposition_power r h
juxtaposition_rest_tokens_stop (NextPower p ps) r h =
    tokens_stop_operand_power (power p (juxtaposition_rest ps r))
    (power_tokens_begin_operand p (juxtaposition_rest ps r))
