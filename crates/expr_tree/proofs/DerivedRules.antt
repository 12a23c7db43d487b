-- The derivation of each rule, made from those of its parts.
use Rattle.std.proofs.Common.{◌≡◌, ℕ, suc, ◌<◌, ◌≤◌, Bool, true, List, [], ◌∷◌, length, refl, ◌∙◌, ap, arith}
use Rattle.frac128.specs.Decimals.{NumeralDecimal}
use Rattle.expr_tree.specs.Grammar.{SumOf, NextTerm, ProductOf, NextFactor, Signed, JuxtapositionOf, NextPower, Bare}
use Rattle.expr_tree.specs.Grammar.{Raised, SignedExponent, ExponentOf, NumeralAtom, BarAtom, CallAtom, InverseAtom}
use Rattle.expr_tree.specs.Grammar.{RootAtom, GroupAtom, sign_token, scale_token, sum, sum_rest, product, product_rest}
use Rattle.expr_tree.specs.Grammar.{juxtaposition, juxtaposition_rest, power, exponent_tokens, atom}
use Rattle.expr_tree.specs.Rules.{WantsOperand, EndsOperand, EndsNumeral, tokens_fit}
use Rattle.expr_tree.specs.Tokens.{Token, Numeral, Head, Root, Bar, Caret, Tilde, Open, Close}
use Rattle.expr_tree.specs.declared.operator.Scale.{Scale}
use Rattle.expr_tree.specs.declared.operator.Sign.{Sign}
use Rattle.expr_tree.specs.Front.{tokens_stop, token_follows_sum, token_follows_product, token_follows_juxtaposition}
use Rattle.expr_tree.specs.Front.{token_follows_power, token_follows_atom}
use Rattle.expr_tree.proofs.Fits.{close_paren_after_sum, no_bar_token_after_operand}
use Rattle.expr_tree.specs.declared.operator.RootKind.{RootKind}

-- a derivation at the front of the tokens, followed by tokens that may follow it and fit
pub record At {X : Type 0} (spell : X → List Token → List Token) (follow : Token → Bool) (k : ℕ)
    (ts : List Token) : Type 0 where
  pub made : X
  pub rest : List Token
  pub is : ts ≡ spell made rest
  pub stop : tokens_stop follow rest ≡ true
  pub fit : tokens_fit EndsOperand k rest ≡ true
  pub less : length rest ≤ length ts

-- such a derivation that has at least one token
pub record Front {X : Type 0} (spell : X → List Token → List Token) (follow : Token → Bool) (k : ℕ)
    (ts : List Token) : Type 0 where
  pub made : X
  pub rest : List Token
  pub is : ts ≡ spell made rest
  pub stop : tokens_stop follow rest ≡ true
  pub fit : tokens_fit EndsOperand k rest ≡ true
  pub less : length rest < length ts

-- ---- each rule of the grammar, made from the derivations of its parts

-- a sum, made from a product and the terms after it
pub sum_from_tokens : (k : ℕ) (ts : List Token) → Front product token_follows_product k ts
    → ((r : List Token) → length r < length ts → tokens_stop token_follows_product r ≡ true
    → tokens_fit EndsOperand k r ≡ true
    → At sum_rest token_follows_sum k r) → Front sum token_follows_sum k ts
sum_from_tokens k ts p f = go p (f p.rest p.less p.stop p.fit)
  where
    go : (p : Front product token_follows_product k ts) → At sum_rest token_follows_sum k p.rest
        → Front sum token_follows_sum k ts
    go p q = record {
      made = SumOf p.made q.made;
      rest = q.rest;
      is = p.is ∙ ap (product p.made) q.is;
      stop = q.stop;
      fit = q.fit;
      less = omega arith;
    }

-- one more term, made from its sign, a product and the terms after it
pub next_term_from_tokens : (s : Sign) (k : ℕ) (ts : List Token) → Front product token_follows_product k ts
    → ((r : List Token) → length r < length ts → tokens_stop token_follows_product r ≡ true
    → tokens_fit EndsOperand k r ≡ true
    → At sum_rest token_follows_sum k r) → At sum_rest token_follows_sum k (sign_token s ∷ ts)
next_term_from_tokens s k ts p f = go p (f p.rest p.less p.stop p.fit)
  where
    go : (p : Front product token_follows_product k ts) → At sum_rest token_follows_sum k p.rest
        → At sum_rest token_follows_sum k (sign_token s ∷ ts)
    go p q = record {
      made = NextTerm s p.made q.made;
      rest = q.rest;
      is =
          ap (λ x. sign_token s ∷ x) (p.is ∙ ap (product p.made) q.is);
      stop = q.stop;
      fit = q.fit;
      less = omega arith;
    }

-- a product, made from a juxtaposition and the factors after it
pub product_from_tokens : (k : ℕ) (ts : List Token) → Front juxtaposition token_follows_juxtaposition k ts
    → ((r : List Token) → length r < length ts → tokens_stop token_follows_juxtaposition r ≡ true
    → tokens_fit EndsOperand k r ≡ true
    → At product_rest token_follows_product k r) → Front product token_follows_product k ts
product_from_tokens k ts p f = go p (f p.rest p.less p.stop p.fit)
  where
    go : (p : Front juxtaposition token_follows_juxtaposition k ts) → At product_rest token_follows_product k p.rest
        → Front product token_follows_product k ts
    go p q = record {
      made = ProductOf p.made q.made;
      rest = q.rest;
      is = p.is ∙ ap (juxtaposition p.made) q.is;
      stop =
          q.stop;
      fit = q.fit;
      less = omega arith;
    }

-- one more factor, made from its operator, a juxtaposition and the factors after it
pub next_factor_from_tokens : (s : Scale) (k : ℕ) (ts : List Token) → Front juxtaposition token_follows_juxtaposition k
    ts
    → ((r : List Token) → length r < length ts → tokens_stop token_follows_juxtaposition r ≡ true
    → tokens_fit EndsOperand k r ≡ true
    → At product_rest token_follows_product k r) → At product_rest token_follows_product k (scale_token s ∷ ts)
next_factor_from_tokens s k ts p f = go p (f p.rest p.less p.stop p.fit)
  where
    go : (p : Front juxtaposition token_follows_juxtaposition k ts) → At product_rest token_follows_product k p.rest
        → At product_rest token_follows_product k (scale_token s ∷ ts)
    go p q = record {
      made = NextFactor s p.made q.made;
      rest = q.rest;
      is =
          ap (λ x. scale_token s ∷ x) (p.is ∙ ap (juxtaposition p.made) q.is);
      stop = q.stop;
      fit = q.fit;
      less = omega arith;
    }

-- a juxtaposition with a sign in front
pub signed_from_tokens : (s : Sign) (k : ℕ) (ts : List Token) → Front juxtaposition token_follows_juxtaposition k ts
    → Front juxtaposition token_follows_juxtaposition k (sign_token s ∷ ts)
signed_from_tokens s k ts p =
    record {
      made = Signed s p.made;
      rest = p.rest;
      is = ap (λ x. sign_token s ∷ x) p.is;
      stop = p.stop;
      fit = p.fit;
      less =
          omega arith;
    }

-- a juxtaposition, made from a power and the powers after it
pub juxtaposition_from_tokens : (k : ℕ) (ts : List Token) → Front power token_follows_power k ts
    → ((r : List Token) → length r < length ts → tokens_stop token_follows_power r ≡ true
    → tokens_fit EndsOperand k r ≡ true
    → At juxtaposition_rest token_follows_juxtaposition k r) → Front juxtaposition token_follows_juxtaposition k ts
juxtaposition_from_tokens k ts p f = go p (f p.rest p.less p.stop p.fit)
  where
    go : (p : Front power token_follows_power k ts) → At juxtaposition_rest token_follows_juxtaposition k p.rest
        → Front juxtaposition token_follows_juxtaposition k ts
    go p q = record {
      made = JuxtapositionOf p.made q.made;
      rest = q.rest;
      is = p.is ∙ ap (power p.made) q.is;
      stop =
          q.stop;
      fit = q.fit;
      less = omega arith;
    }

-- one more power, made from the power and the powers after it
pub next_power_from_tokens : (k : ℕ) (ts : List Token) → Front power token_follows_power k ts
    → ((r : List Token) → length r < length ts → tokens_stop token_follows_power r ≡ true
    → tokens_fit EndsOperand k r ≡ true
    → At juxtaposition_rest token_follows_juxtaposition k r) → At juxtaposition_rest token_follows_juxtaposition k ts
next_power_from_tokens k ts p f = go p (f p.rest p.less p.stop p.fit)
  where
    go : (p : Front power token_follows_power k ts) → At juxtaposition_rest token_follows_juxtaposition k p.rest
        → At juxtaposition_rest token_follows_juxtaposition k ts
    go p q = record {
      made = NextPower p.made q.made;
      rest = q.rest;
      is = p.is ∙ ap (power p.made) q.is;
      stop = q.stop;
      fit = q.fit;
      less = omega arith;
    }

-- an atom, with its exponent if a `^` follows
pub power_from_tokens : (k : ℕ) (ts : List Token) → Front atom token_follows_atom k ts
    → ((r : List Token) → suc (length r) < length ts → tokens_fit WantsOperand k r ≡ true
    → Front exponent_tokens token_follows_power k r)
    → Front power token_follows_power k ts
power_from_tokens k ts p f = go p.rest p.is p.fit p.less
  where
    go : (r : List Token) → ts ≡ atom p.made r → tokens_fit EndsOperand k r ≡ true → length r < length ts
        → Front power token_follows_power k ts
    go [] is fit less = record { made = Bare p.made; rest = []; is = is; stop = refl; fit = fit; less = less }
    go (Caret ∷ r) is fit less = raised is less (f r less fit)
      where
        raised : ts ≡ atom p.made (Caret ∷ r) → length (Caret ∷ r) < length ts
            → Front exponent_tokens token_follows_power k r
            → Front power token_follows_power k ts
        raised is less q =
            record {
              made = Raised p.made q.made;
              rest = q.rest;
              is = is ∙ ap (λ x. atom p.made (Caret ∷ x)) q.is;
              stop = q.stop;
              fit = q.fit;
              less = omega arith;
            }
    go (Bar ∷ r) is fit less = cc
    go (t ∷ r) is fit less = record { made = Bare p.made; rest = t ∷ r; is = is; stop = refl; fit = fit; less = less }

-- an exponent with a sign in front
pub signed_exponent_from_tokens : (s : Sign) (k : ℕ) (ts : List Token) → Front exponent_tokens token_follows_power k ts
    → Front exponent_tokens token_follows_power k (sign_token s ∷ ts)
signed_exponent_from_tokens s k ts p =
    record {
      made = SignedExponent s p.made;
      rest = p.rest;
      is = ap (λ x. sign_token s ∷ x) p.is;
      stop = p.stop;
      fit = p.fit;
      less = omega arith;
    }

-- an exponent that is a power
pub exponent_from_tokens : (k : ℕ) (ts : List Token) → Front power token_follows_power k ts
    → Front exponent_tokens token_follows_power k ts
exponent_from_tokens k ts p =
    record { made = ExponentOf p.made; rest = p.rest; is = p.is; stop = p.stop; fit = p.fit; less = p.less }

-- a call, made from a sum and its `)`
pub call_from_tokens : (w : List ℕ) (k : ℕ) (ts : List Token) → Front sum token_follows_sum (suc k) ts
    → Front atom token_follows_atom k (Head w ∷ ts)
call_from_tokens w k ts p = go (close_paren_after_sum k p.rest p.stop p.fit)
  where
    go : ((s : List Token) × (p.rest ≡ Close ∷ s) × (tokens_fit EndsOperand k s ≡ true))
        → Front atom token_follows_atom k (Head w ∷ ts)
    go c =
        let e : length p.rest ≡ suc (length c.0) = ap length c.1 in
        record {
          made = CallAtom w p.made;
          rest = c.0;
          is = ap (λ x. Head w ∷ x) (p.is ∙ ap (sum p.made) c.1);
          stop =
              no_bar_token_after_operand k c.0 c.2;
          fit = c.2;
          less = omega arith;
        }

-- an inverse, made from a sum and its `)`
pub inverse_from_tokens : (w : List ℕ) (k : ℕ) (ts : List Token) → Front sum token_follows_sum (suc k) ts
    → Front atom token_follows_atom k (Tilde ∷ Head w ∷ ts)
inverse_from_tokens w k ts p = go (close_paren_after_sum k p.rest p.stop p.fit)
  where
    go : ((s : List Token) × (p.rest ≡ Close ∷ s) × (tokens_fit EndsOperand k s ≡ true))
        → Front atom token_follows_atom k (Tilde ∷ Head w ∷ ts)
    go c =
        let e : length p.rest ≡ suc (length c.0) = ap length c.1 in
        record {
          made = InverseAtom w p.made;
          rest = c.0;
          is =
              ap (λ x. Tilde ∷ Head w ∷ x) (p.is ∙ ap (sum p.made) c.1);
          stop = no_bar_token_after_operand k c.0 c.2;
          fit = c.2;
          less =
              omega arith;
        }

-- a root, made from a sum and its `)`
pub root_from_tokens : (n : RootKind) (k : ℕ) (ts : List Token) → Front sum token_follows_sum (suc k) ts
    → Front atom token_follows_atom k (Root n ∷ Open ∷ ts)
root_from_tokens n k ts p = go (close_paren_after_sum k p.rest p.stop p.fit)
  where
    go : ((s : List Token) × (p.rest ≡ Close ∷ s) × (tokens_fit EndsOperand k s ≡ true))
        → Front atom token_follows_atom k (Root n ∷ Open ∷ ts)
    go c =
        let e : length p.rest ≡ suc (length c.0) = ap length c.1 in
        record {
          made = RootAtom n p.made;
          rest = c.0;
          is = ap (λ x. Root n ∷ Open ∷ x) (p.is ∙ ap (sum p.made) c.1);
          stop = no_bar_token_after_operand k c.0 c.2;
          fit = c.2;
          less = omega arith;
        }

-- a numeral, with its denominator if a `|` follows
pub numeral_from_tokens : (m : NumeralDecimal) (k : ℕ) (ts : List Token) → tokens_fit EndsNumeral k ts ≡ true
    → Front atom token_follows_atom k (Numeral m ∷ ts)
numeral_from_tokens m k [] h =
    record { made = NumeralAtom m; rest = []; is = refl; stop = refl; fit = h; less = omega arith }
numeral_from_tokens m k (Bar ∷ Numeral d ∷ ts) h =
    record {
      made = BarAtom m d;
      rest = ts;
      is = refl;
      stop = no_bar_token_after_operand k ts h;
      fit = h;
      less =
          omega arith;
    }
numeral_from_tokens m k (Bar ∷ []) h = cc
numeral_from_tokens m k (Bar ∷ t ∷ ts) h = cc
numeral_from_tokens m k (t ∷ ts) h =
    record { made = NumeralAtom m; rest = t ∷ ts; is = refl; stop = refl; fit = h; less = omega arith }

-- a group, made from a sum and its `)`
pub group_from_tokens : (k : ℕ) (ts : List Token) → Front sum token_follows_sum (suc k) ts
    → Front atom token_follows_atom k (Open ∷ ts)
group_from_tokens k ts p = go (close_paren_after_sum k p.rest p.stop p.fit)
  where
    go : ((s : List Token) × (p.rest ≡ Close ∷ s) × (tokens_fit EndsOperand k s ≡ true))
        → Front atom token_follows_atom k (Open ∷ ts)
    go c =
        let e : length p.rest ≡ suc (length c.0) = ap length c.1 in
        record {
          made = GroupAtom p.made;
          rest = c.0;
          is = ap (λ x. Open ∷ x) (p.is ∙ ap (sum p.made) c.1);
          stop =
              no_bar_token_after_operand k c.0 c.2;
          fit = c.2;
          less = omega arith;
        }

-- ---- all rules
