-- If each token is allowed at its place and the tokens may end, they have a derivation.
use Rattle.std.proofs.Common.{◌≡◌, ℕ, zero, suc, ◌+◌, ◌*◌, ◌≤◌, true, List, [], ◌∷◌, length, Option, refl, arith}
use Rattle.expr_tree.specs.Grammar.{NoTerm, NoFactor, NoPower, WordAtom, PowerAtom, sum, sum_rest, product}
use Rattle.expr_tree.specs.Grammar.{product_rest, juxtaposition, juxtaposition_rest, power, exponent_tokens, atom}
use Rattle.expr_tree.specs.Grammar.{sum_tree, TokensGiveTree}
use Rattle.expr_tree.specs.Rules.{WantsOperand, EndsOperand, tokens_fit}
use Rattle.expr_tree.specs.Syntax.{Syntax}
use Rattle.expr_tree.specs.Tokens.{Token, Numeral, Word, WordWithPower, Head, Root, Plus, Minus, Star, Slash, Bar}
use Rattle.expr_tree.specs.Tokens.{Caret, Tilde, Open, Close}
use Rattle.expr_tree.specs.declared.operator.Scale.TheVariants.{Multiply, Divide}
use Rattle.expr_tree.specs.declared.operator.Sign.TheVariants as signs
use Rattle.expr_tree.specs.Front.{tokens_stop, tokens_begin_operand, token_follows_sum, token_follows_product}
use Rattle.expr_tree.specs.Front.{token_follows_juxtaposition, token_follows_power, token_follows_atom}
use Rattle.expr_tree.proofs.Fits.{no_bar_token_after_operand, operand_tokens_fit_if_wanted}
use Rattle.expr_tree.proofs.DerivedRules.{At, Front, call_from_tokens, exponent_from_tokens, group_from_tokens}
use Rattle.expr_tree.proofs.DerivedRules.{inverse_from_tokens, juxtaposition_from_tokens, next_factor_from_tokens}
use Rattle.expr_tree.proofs.DerivedRules.{next_power_from_tokens, next_term_from_tokens, numeral_from_tokens}
use Rattle.expr_tree.proofs.DerivedRules.{power_from_tokens, product_from_tokens, root_from_tokens}
use Rattle.expr_tree.proofs.DerivedRules.{signed_exponent_from_tokens, signed_from_tokens, sum_from_tokens}

mutual
  sum_at : (n k : ℕ) (ts : List Token) → 6 * length ts + 5 ≤ n → tokens_fit WantsOperand k ts ≡ true
      → Front sum token_follows_sum k ts
  sum_at zero k ts l h = absurd (omega arith)
  sum_at (suc n) k ts l h =
      sum_from_tokens k ts (product_at n k ts (omega arith) h) (λ r less s f. sum_rest_at n k r (omega arith) s f)

  sum_rest_at : (n k : ℕ) (ts : List Token) → 6 * length ts + 5 ≤ n → tokens_stop token_follows_product ts ≡ true
      → tokens_fit EndsOperand k ts ≡ true → At sum_rest token_follows_sum k ts
  sum_rest_at zero k ts l s h = absurd (omega arith)
  sum_rest_at (suc n) k [] l s h =
      record { made = NoTerm; rest = []; is = refl; stop = refl; fit = h; less = omega arith }
  sum_rest_at (suc n) k (Close ∷ ts) l s h =
      record { made = NoTerm; rest = Close ∷ ts; is = refl; stop = refl; fit = h; less = omega arith }
  sum_rest_at (suc n) k (Plus ∷ ts) l s h =
      next_term_from_tokens signs.Plus k ts (product_at n k ts (omega arith) h)
      (λ r less s' f. sum_rest_at n k r (omega arith) s' f)
  sum_rest_at (suc n) k (Minus ∷ ts) l s h =
      next_term_from_tokens signs.Minus k ts (product_at n k ts (omega arith) h)
      (λ r less s' f. sum_rest_at n k r (omega arith) s' f)
  sum_rest_at (suc n) k (t ∷ ts) l s h = cc

  product_at : (n k : ℕ) (ts : List Token) → 6 * length ts + 4 ≤ n → tokens_fit WantsOperand k ts ≡ true
      → Front product token_follows_product k ts
  product_at zero k ts l h = absurd (omega arith)
  product_at (suc n) k ts l h =
      product_from_tokens k ts (juxtaposition_at n k ts (omega arith) h)
      (λ r less s f. product_rest_at n k r (omega arith) s f)

  product_rest_at : (n k : ℕ) (ts : List Token) → 6 * length ts + 4 ≤ n
      → tokens_stop token_follows_juxtaposition ts ≡ true
      → tokens_fit EndsOperand k ts ≡ true → At product_rest token_follows_product k ts
  product_rest_at zero k ts l s h = absurd (omega arith)
  product_rest_at (suc n) k [] l s h =
      record { made = NoFactor; rest = []; is = refl; stop = refl; fit = h; less = omega arith }
  product_rest_at (suc n) k (Star ∷ ts) l s h =
      next_factor_from_tokens Multiply k ts (juxtaposition_at n k ts (omega arith) h)
      (λ r less s' f. product_rest_at n k r (omega arith) s' f)
  product_rest_at (suc n) k (Slash ∷ ts) l s h =
      next_factor_from_tokens Divide k ts (juxtaposition_at n k ts (omega arith) h)
      (λ r less s' f. product_rest_at n k r (omega arith) s' f)
  product_rest_at (suc n) k (Close ∷ ts) l s h =
      record { made = NoFactor; rest = Close ∷ ts; is = refl; stop = refl; fit = h; less = omega arith }
  product_rest_at (suc n) k (Plus ∷ ts) l s h =
      record { made = NoFactor; rest = Plus ∷ ts; is = refl; stop = refl; fit = h; less = omega arith }
  product_rest_at (suc n) k (Minus ∷ ts) l s h =
      record { made = NoFactor; rest = Minus ∷ ts; is = refl; stop = refl; fit = h; less = omega arith }
  product_rest_at (suc n) k (t ∷ ts) l s h = cc

  juxtaposition_at : (n k : ℕ) (ts : List Token) → 6 * length ts + 3 ≤ n → tokens_fit WantsOperand k ts ≡ true
      → Front juxtaposition token_follows_juxtaposition k ts
  juxtaposition_at zero k ts l h = absurd (omega arith)
  juxtaposition_at (suc n) k [] l h = cc
  juxtaposition_at (suc n) k (Plus ∷ ts) l h = signed_from_tokens signs.Plus k ts
      (juxtaposition_at n k ts (omega arith) h)
  juxtaposition_at (suc n) k (Minus ∷ ts) l h = signed_from_tokens signs.Minus k ts
      (juxtaposition_at n k ts (omega arith) h)
  juxtaposition_at (suc n) k (Star ∷ ts) l h = cc
  juxtaposition_at (suc n) k (Slash ∷ ts) l h = cc
  juxtaposition_at (suc n) k (Caret ∷ ts) l h = cc
  juxtaposition_at (suc n) k (Close ∷ ts) l h = cc
  juxtaposition_at (suc n) k (Bar ∷ ts) l h = cc
  juxtaposition_at (suc n) k (t ∷ ts) l h =
      juxtaposition_from_tokens k (t ∷ ts) (power_at n k (t ∷ ts) (omega arith) h refl)
      (λ r less s f. juxtaposition_rest_at n k r (omega arith) s f)

  juxtaposition_rest_at : (n k : ℕ) (ts : List Token) → 6 * length ts + 3 ≤ n
      → tokens_stop token_follows_power ts ≡ true
      → tokens_fit EndsOperand k ts ≡ true → At juxtaposition_rest token_follows_juxtaposition k ts
  juxtaposition_rest_at zero k ts l s h = absurd (omega arith)
  juxtaposition_rest_at (suc n) k [] l s h =
      record { made = NoPower; rest = []; is = refl; stop = refl; fit = h; less = omega arith }
  juxtaposition_rest_at (suc n) k (Plus ∷ ts) l s h =
      record { made = NoPower; rest = Plus ∷ ts; is = refl; stop = refl; fit = h; less = omega arith }
  juxtaposition_rest_at (suc n) k (Minus ∷ ts) l s h =
      record { made = NoPower; rest = Minus ∷ ts; is = refl; stop = refl; fit = h; less = omega arith }
  juxtaposition_rest_at (suc n) k (Star ∷ ts) l s h =
      record { made = NoPower; rest = Star ∷ ts; is = refl; stop = refl; fit = h; less = omega arith }
  juxtaposition_rest_at (suc n) k (Slash ∷ ts) l s h =
      record { made = NoPower; rest = Slash ∷ ts; is = refl; stop = refl; fit = h; less = omega arith }
  juxtaposition_rest_at (suc n) k (Close ∷ ts) l s h =
      record { made = NoPower; rest = Close ∷ ts; is = refl; stop = refl; fit = h; less = omega arith }
  juxtaposition_rest_at (suc n) k (Caret ∷ ts) l s h = cc
  juxtaposition_rest_at (suc n) k (Bar ∷ ts) l s h = cc
  juxtaposition_rest_at (suc n) k (t ∷ ts) l s h =
      next_power_from_tokens k (t ∷ ts)
      (power_at n k (t ∷ ts) (omega arith) (operand_tokens_fit_if_wanted k (t ∷ ts) refl h) refl)
      (λ r less s' f. juxtaposition_rest_at n k r (omega arith) s' f)

  power_at : (n k : ℕ) (ts : List Token) → 6 * length ts + 2 ≤ n → tokens_fit WantsOperand k ts ≡ true
      → tokens_begin_operand ts ≡ true
      → Front power token_follows_power k ts
  power_at zero k ts l h b = absurd (omega arith)
  power_at (suc n) k ts l h b =
      power_from_tokens k ts (atom_at n k ts (omega arith) h b) (λ r less f. exponent_at n k r (omega arith) f)

  exponent_at : (n k : ℕ) (ts : List Token) → 6 * length ts + 3 ≤ n → tokens_fit WantsOperand k ts ≡ true
      → Front exponent_tokens token_follows_power k ts
  exponent_at zero k ts l h = absurd (omega arith)
  exponent_at (suc n) k [] l h = cc
  exponent_at (suc n) k (Plus ∷ ts) l h = signed_exponent_from_tokens signs.Plus k ts
      (exponent_at n k ts (omega arith) h)
  exponent_at (suc n) k (Minus ∷ ts) l h = signed_exponent_from_tokens signs.Minus k ts
      (exponent_at n k ts (omega arith) h)
  exponent_at (suc n) k (Star ∷ ts) l h = cc
  exponent_at (suc n) k (Slash ∷ ts) l h = cc
  exponent_at (suc n) k (Caret ∷ ts) l h = cc
  exponent_at (suc n) k (Close ∷ ts) l h = cc
  exponent_at (suc n) k (Bar ∷ ts) l h = cc
  exponent_at (suc n) k (t ∷ ts) l h = exponent_from_tokens k (t ∷ ts) (power_at n k (t ∷ ts) (omega arith) h refl)

  atom_at : (n k : ℕ) (ts : List Token) → 6 * length ts + 1 ≤ n → tokens_fit WantsOperand k ts ≡ true
      → tokens_begin_operand ts ≡ true
      → Front atom token_follows_atom k ts
  atom_at zero k ts l h b = absurd (omega arith)
  atom_at (suc n) k [] l h b = cc
  atom_at (suc n) k (Numeral m ∷ ts) l h b = numeral_from_tokens m k ts h
  atom_at (suc n) k (Word w ∷ ts) l h b =
      record {
        made = WordAtom w;
        rest = ts;
        is = refl;
        stop = no_bar_token_after_operand k ts h;
        fit = h;
        less =
            omega arith;
      }
  atom_at (suc n) k (WordWithPower w d ∷ ts) l h b =
      record {
        made = PowerAtom w d;
        rest = ts;
        is = refl;
        stop = no_bar_token_after_operand k ts h;
        fit = h;
        less =
            omega arith;
      }
  atom_at (suc n) k (Head w ∷ ts) l h b = call_from_tokens w k ts (sum_at n (suc k) ts (omega arith) h)
  atom_at (suc n) k (Tilde ∷ Head w ∷ ts) l h b = inverse_from_tokens w k ts (sum_at n (suc k) ts (omega arith) h)
  atom_at (suc n) k (Tilde ∷ []) l h b = cc
  atom_at (suc n) k (Tilde ∷ t ∷ ts) l h b = cc
  atom_at (suc n) k (Root d ∷ Open ∷ ts) l h b = root_from_tokens d k ts (sum_at n (suc k) ts (omega arith) h)
  atom_at (suc n) k (Root d ∷ []) l h b = cc
  atom_at (suc n) k (Root d ∷ t ∷ ts) l h b = cc
  atom_at (suc n) k (Open ∷ ts) l h b = group_from_tokens k ts (sum_at n (suc k) ts (omega arith) h)
  atom_at (suc n) k (t ∷ ts) l h b = cc

-- tokens that fit give a tree
pub fitting_tokens_give_tree : (binder : Option (List ℕ)) (ts : List Token) → tokens_fit WantsOperand 0 ts ≡ true
    → (e : Syntax) × TokensGiveTree binder ts e
fitting_tokens_give_tree binder ts h = go (sum_at (6 * length ts + 5) 0 ts (omega arith) h)
  where
    go : Front sum token_follows_sum 0 ts → (e : Syntax) × TokensGiveTree binder ts e
    go p = ended p.rest p.is p.stop p.fit
      where
        ended : (r : List Token) → ts ≡ sum p.made r → tokens_stop token_follows_sum r ≡ true
            → tokens_fit EndsOperand 0 r ≡ true
            → (e : Syntax) × TokensGiveTree binder ts e
        ended [] is s f = (sum_tree binder p.made, (p.made, is, refl))
        ended (Close ∷ r) is s f = cc
        ended (t ∷ r) is s f = cc
