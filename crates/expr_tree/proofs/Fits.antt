-- The tokens after a derivation, if all tokens fit.
use Rattle.std.proofs.Common.{◌≡◌, ℕ, suc, ◌-◌, true, List, [], ◌∷◌, None, refl, subst, arith, eqb-true}
use Rattle.std.proofs.lemmas.Bool.{and_parts}
use Rattle.expr_tree.specs.Rules.{WantsOperand, EndsOperand, EndsNumeral, tokens_fit}
use Rattle.expr_tree.specs.Tokens.{Token, Numeral, Word, WordWithPower, Head, Root, Bar, Tilde, Open, Close}
use Rattle.expr_tree.specs.Front.{first_token_sign, tokens_stop, tokens_begin_operand, token_follows_sum}
use Rattle.expr_tree.specs.Front.{token_follows_atom}

-- tokens that begin an operand and fit after an operand also fit where an operand is wanted
pub operand_tokens_fit_if_wanted : (k : ℕ) (ts : List Token) → tokens_begin_operand ts ≡ true
    → tokens_fit EndsOperand k ts ≡ true
    → tokens_fit WantsOperand k ts ≡ true
operand_tokens_fit_if_wanted k [] b h = cc
operand_tokens_fit_if_wanted k (Numeral n ∷ ts) b h = h
operand_tokens_fit_if_wanted k (Word w ∷ ts) b h = h
operand_tokens_fit_if_wanted k (WordWithPower w d ∷ ts) b h = h
operand_tokens_fit_if_wanted k (Head w ∷ ts) b h = h
operand_tokens_fit_if_wanted k (Root n ∷ ts) b h = h
operand_tokens_fit_if_wanted k (Tilde ∷ ts) b h = h
operand_tokens_fit_if_wanted k (Open ∷ ts) b h = h
operand_tokens_fit_if_wanted k (t ∷ ts) b h = cc

-- tokens that begin an operand and fit where one is wanted also fit after an operand
pub operand_tokens_fit_after_operand : (k : ℕ) (ts : List Token) → tokens_begin_operand ts ≡ true
    → tokens_fit WantsOperand k ts ≡ true
    → tokens_fit EndsOperand k ts ≡ true
operand_tokens_fit_after_operand k [] b h = cc
operand_tokens_fit_after_operand k (Numeral n ∷ ts) b h = h
operand_tokens_fit_after_operand k (Word w ∷ ts) b h = h
operand_tokens_fit_after_operand k (WordWithPower w d ∷ ts) b h = h
operand_tokens_fit_after_operand k (Head w ∷ ts) b h = h
operand_tokens_fit_after_operand k (Root n ∷ ts) b h = h
operand_tokens_fit_after_operand k (Tilde ∷ ts) b h = h
operand_tokens_fit_after_operand k (Open ∷ ts) b h = h
operand_tokens_fit_after_operand k (t ∷ ts) b h = cc

-- tokens that fit where an operand is wanted begin one, or begin with a sign
pub unsigned_tokens_begin_operand : (k : ℕ) (ts : List Token) → tokens_fit WantsOperand k ts ≡ true
    → first_token_sign ts ≡ None
    → tokens_begin_operand ts ≡ true
unsigned_tokens_begin_operand k [] h e = cc
unsigned_tokens_begin_operand k (Numeral n ∷ ts) h e = refl
unsigned_tokens_begin_operand k (Word w ∷ ts) h e = refl
unsigned_tokens_begin_operand k (WordWithPower w d ∷ ts) h e = refl
unsigned_tokens_begin_operand k (Head w ∷ ts) h e = refl
unsigned_tokens_begin_operand k (Root n ∷ ts) h e = refl
unsigned_tokens_begin_operand k (Tilde ∷ ts) h e = refl
unsigned_tokens_begin_operand k (Open ∷ ts) h e = refl
unsigned_tokens_begin_operand k (t ∷ ts) h e = cc

-- tokens that fit after any operand fit after a numeral
pub tokens_fit_after_numeral : (k : ℕ) (ts : List Token) → tokens_fit EndsOperand k ts ≡ true
    → tokens_fit EndsNumeral k ts ≡ true
tokens_fit_after_numeral k [] h = h
tokens_fit_after_numeral k (Bar ∷ ts) h = cc
tokens_fit_after_numeral k (t ∷ ts) h = h

-- after an operand that is not a numeral no `|` follows
pub no_bar_token_after_operand : (k : ℕ) (ts : List Token) → tokens_fit EndsOperand k ts ≡ true
    → tokens_stop token_follows_atom ts ≡ true
no_bar_token_after_operand k [] h = refl
no_bar_token_after_operand k (Bar ∷ ts) h = cc
no_bar_token_after_operand k (t ∷ ts) h = refl

-- a sum inside parentheses is followed by its `)`
pub close_paren_after_sum : (k : ℕ) (r : List Token) → tokens_stop token_follows_sum r ≡ true
    → tokens_fit EndsOperand (suc k) r ≡ true
    → (s : List Token) × (r ≡ Close ∷ s) × (tokens_fit EndsOperand k s ≡ true)
close_paren_after_sum k [] h f = let none_open : suc k ≡ 0 = eqb-true (suc k) 0 f in absurd (omega arith)
close_paren_after_sum k (Close ∷ s) h f = let one_less : suc k - 1 ≡ k =
    omega arith in (s, refl, subst (λ i. tokens_fit EndsOperand i s ≡ true) one_less (and_parts _ _ f).1)
close_paren_after_sum k (t ∷ s) h f = cc
