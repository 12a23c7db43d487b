-- Each rule of the grammar, given the tokens at the front.
use Rattle.std.proofs.Common.{◌≡◌, ℕ, suc, true, false, List, [], ◌∷◌, Option, None, Result, Ok, Err, refl, ◌∙◌}
use Rattle.std.proofs.Common.{ap, subst}
use Rattle.std.specs.declared.alloc.AllocError.{AllocError}
use Rattle.frac128.specs.Decimals.{NumeralDecimal}
use Rattle.expr_tree.specs.declared.operator.Sign.{Sign}
use Rattle.expr_tree.specs.declared.operator.Sign.TheVariants as signs
use Rattle.expr_tree.specs.declared.token.Token.{Token as Made}
use Rattle.expr_tree.specs.declared.tree.Tree.{Tree}
use Rattle.expr_tree.specs.Front.{IsTreeAtFront, JuxtapositionTreeAt, PowerTreeAt, ExponentTreeAt, AtomTreeAt}
use Rattle.expr_tree.specs.Front.{IsSumInParens, IsTreeReadAt, first_token_is_caret, first_token_denominator, tokens_stop}
use Rattle.expr_tree.specs.Front.{token_follows_sum, token_follows_power, token_follows_atom}
use Rattle.expr_tree.specs.Grammar.{Signed, Bare, Raised, SignedExponent, ExponentOf, NumeralAtom, BarAtom, WordAtom}
use Rattle.expr_tree.specs.Grammar.{PowerAtom, CallAtom, InverseAtom, RootAtom, GroupAtom}
use Rattle.expr_tree.specs.Grammar.{sign_token, sum, sum_tree, atom, word_syntax, call_syntax, signed_syntax}
use Rattle.expr_tree.specs.Rules.{WantsOperand, EndsOperand, EndsNumeral, tokens_fit}
use Rattle.expr_tree.specs.Syntax.{Syntax}
use Rattle.expr_tree.specs.Syntax as tree
use Rattle.expr_tree.specs.Tokens.{Token, Numeral, Word, WordWithPower, Head, Root, Bar}
use Rattle.expr_tree.specs.Tokens.{Caret, Tilde, Open, Close}
use Rattle.expr_tree.proofs.Fits.{no_bar_token_after_operand}
use Rattle.expr_tree.specs.declared.operator.RootKind.{RootKind}

-- tokens that are equal to tokens that fit, fit
equal_tokens_fit : (k : ℕ) (x y : List Token) → x ≡ y → tokens_fit WantsOperand k x ≡ true
    → tokens_fit WantsOperand k y ≡ true
equal_tokens_fit k x y e h = subst (λ z. tokens_fit WantsOperand k z ≡ true) e h

-- a word at the front is an atom
pub word_token_is_atom : (b : Option (List ℕ)) (k : ℕ) (w : List ℕ) (x y : List Token) (e : Syntax) → x ≡ Word w ∷ y
    → tokens_fit WantsOperand k x ≡ true → e ≡ word_syntax b w → AtomTreeAt b k x e y
word_token_is_atom b k w x y e is h says =
    let f : tokens_fit EndsOperand k y ≡ true = equal_tokens_fit k x _ is h in
    record {
      front_part = WordAtom w;
      tokens_split = is;
      tree_of_part = says;
      stop =
          no_bar_token_after_operand k y f;
      fit = f;
    }

-- a word with a power at the front is an atom
pub word_power_token_is_atom : (b : Option (List ℕ)) (k : ℕ) (w : List ℕ) (n : NumeralDecimal) (x y : List Token)
    (c e : Syntax)
    → x ≡ WordWithPower w n ∷ y → tokens_fit WantsOperand k x ≡ true → c ≡ word_syntax b w
    → e ≡ tree.Power c (tree.Number n)
    → AtomTreeAt b k x e y
word_power_token_is_atom b k w n x y c e is h base says =
    let f : tokens_fit EndsOperand k y ≡ true = equal_tokens_fit k x _ is h in
    record {
      front_part = PowerAtom w n;
      tokens_split = is;
      tree_of_part = says ∙ ap (λ z. tree.Power z (tree.Number n)) base;
      stop =
          no_bar_token_after_operand k y f;
      fit = f;
    }

-- two numerals with a bar at the front are an atom
pub bar_tokens_are_atom : (b : Option (List ℕ)) (k : ℕ) (n d : NumeralDecimal) (x y : List Token) (e : Syntax)
    → x ≡ Numeral n ∷ Bar ∷ Numeral d ∷ y → tokens_fit WantsOperand k x ≡ true → e ≡ tree.Bar n d → AtomTreeAt b k x e y
bar_tokens_are_atom b k n d x y e is h says =
    let f : tokens_fit EndsOperand k y ≡ true = equal_tokens_fit k x _ is h in
    record {
      front_part = BarAtom n d;
      tokens_split = is;
      tree_of_part = says;
      stop =
          no_bar_token_after_operand k y f;
      fit = f;
    }

-- if no numeral follows after a `|`, no `|` follows
no_bar_token_without_denominator : (k : ℕ) (y : List Token) → first_token_denominator y ≡ None
    → tokens_fit EndsNumeral k y ≡ true
    → (tokens_stop token_follows_atom y ≡ true) × (tokens_fit EndsOperand k y ≡ true)
no_bar_token_without_denominator k [] n h = (refl, h)
no_bar_token_without_denominator k (Bar ∷ Numeral d ∷ y) n h = cc
no_bar_token_without_denominator k (Bar ∷ []) n h = cc
no_bar_token_without_denominator k (Bar ∷ t ∷ y) n h = cc
no_bar_token_without_denominator k (t ∷ y) n h = (refl, h)

-- a numeral alone at the front is an atom
pub numeral_token_is_atom : (b : Option (List ℕ)) (k : ℕ) (n : NumeralDecimal) (x y : List Token) (e : Syntax)
    → x ≡ Numeral n ∷ y
    → first_token_denominator y ≡ None → tokens_fit WantsOperand k x ≡ true → e ≡ tree.Number n → AtomTreeAt b k x e y
numeral_token_is_atom b k n x y e is alone h says =
    let f : (tokens_stop token_follows_atom y ≡ true) × (tokens_fit EndsOperand k y ≡ true) =
    no_bar_token_without_denominator k y alone (equal_tokens_fit k x _ is h) in
    record { front_part = NumeralAtom n; tokens_split = is; tree_of_part = says; stop = f.0; fit = f.1 }

-- a call at the front, up to its `)`, is an atom
pub call_tokens_are_atom : (b : Option (List ℕ)) (k : ℕ) (w : List ℕ) (x y z : List Token) (a e : Syntax)
    → x ≡ Head w ∷ y
    → IsSumInParens b k y a z → e ≡ call_syntax b w a → AtomTreeAt b k x e z
call_tokens_are_atom b k w x y z a e is c says =
    record {
      front_part = CallAtom w c.inner_sum;
      tokens_split = is ∙ ap (λ v. Head w ∷ v) c.tokens_split;
      tree_of_part = says ∙ ap (call_syntax b w) c.tree_of_sum;
      stop =
          no_bar_token_after_operand k z c.fit;
      fit = c.fit;
    }

-- an inverse at the front, up to its `)`, is an atom
pub inverse_tokens_are_atom : (b : Option (List ℕ)) (k : ℕ) (w : List ℕ) (x y z : List Token) (a e : Syntax)
    → x ≡ Tilde ∷ Head w ∷ y → IsSumInParens b k y a z → e ≡ tree.Inverse w a → AtomTreeAt b k x e z
inverse_tokens_are_atom b k w x y z a e is c says =
    record {
      front_part = InverseAtom w c.inner_sum;
      tokens_split = is ∙ ap (λ v. Tilde ∷ Head w ∷ v) c.tokens_split;
      tree_of_part =
          says ∙ ap (tree.Inverse w) c.tree_of_sum;
      stop = no_bar_token_after_operand k z c.fit;
      fit = c.fit;
    }

-- a root at the front, up to its `)`, is an atom
pub root_tokens_are_atom : (b : Option (List ℕ)) (k : ℕ) (n : RootKind) (x y z : List Token) (a e : Syntax)
    → x ≡ Root n ∷ Open ∷ y → IsSumInParens b k y a z → e ≡ tree.Root n a → AtomTreeAt b k x e z
root_tokens_are_atom b k n x y z a e is c says =
    record {
      front_part = RootAtom n c.inner_sum;
      tokens_split = is ∙ ap (λ v. Root n ∷ Open ∷ v) c.tokens_split;
      tree_of_part =
          says ∙ ap (tree.Root n) c.tree_of_sum;
      stop = no_bar_token_after_operand k z c.fit;
      fit = c.fit;
    }

-- a group at the front, up to its `)`, is an atom
pub group_tokens_are_atom : (b : Option (List ℕ)) (k : ℕ) (x y z : List Token) (a e : Syntax) → x ≡ Open ∷ y
    → IsSumInParens b k y a z
    → e ≡ tree.Group a → AtomTreeAt b k x e z
group_tokens_are_atom b k x y z a e is c says =
    record {
      front_part = GroupAtom c.inner_sum;
      tokens_split = is ∙ ap (λ v. Open ∷ v) c.tokens_split;
      tree_of_part = says ∙ ap tree.Group c.tree_of_sum;
      stop =
          no_bar_token_after_operand k z c.fit;
      fit = c.fit;
    }

-- after an atom without a `^`, the next token may follow a power
tokens_without_caret_follow_power : (y : List Token) → tokens_stop token_follows_atom y ≡ true
    → first_token_is_caret y ≡ false → tokens_stop token_follows_power y ≡ true
tokens_without_caret_follow_power [] s c = refl
tokens_without_caret_follow_power (Caret ∷ y) s c = cc
tokens_without_caret_follow_power (Bar ∷ y) s c = cc
tokens_without_caret_follow_power (t ∷ y) s c = refl

-- an atom that no `^` follows is a power
pub bare_atom_tokens_are_power : (b : Option (List ℕ)) (k : ℕ) (x y : List Token) (e : Syntax) → AtomTreeAt b k x e y
    → first_token_is_caret y ≡ false → PowerTreeAt b k x e y
bare_atom_tokens_are_power b k x y e a c =
    record {
      front_part = Bare a.front_part;
      tokens_split = a.tokens_split;
      tree_of_part = a.tree_of_part;
      stop =
          tokens_without_caret_follow_power y a.stop c;
      fit = a.fit;
    }

-- an atom with its exponent is a power
pub raised_atom_tokens_are_power : (b : Option (List ℕ)) (k : ℕ) (x y y' z : List Token) (a c e : Syntax)
    → AtomTreeAt b k x a y
    → y ≡ Caret ∷ y' → ExponentTreeAt b k y' c z → e ≡ tree.Power a c → PowerTreeAt b k x e z
raised_atom_tokens_are_power b k x y y' z a c e p is q says =
    record {
      front_part = Raised p.front_part q.front_part;
      tokens_split = p.tokens_split ∙ ap (atom p.front_part) (is ∙ ap (λ v. Caret ∷ v) q.tokens_split);
      tree_of_part = says ∙ (λ i. tree.Power (p.tree_of_part i) (q.tree_of_part i));
      stop = q.stop;
      fit = q.fit;
    }

-- a power is an exponent
pub power_tokens_are_exponent : (b : Option (List ℕ)) (k : ℕ) (x y : List Token) (e : Syntax) → PowerTreeAt b k x e y
    → ExponentTreeAt b k x e y
power_tokens_are_exponent b k x y e p =
    record {
      front_part = ExponentOf p.front_part;
      tokens_split = p.tokens_split;
      tree_of_part = p.tree_of_part;
      stop =
          p.stop;
      fit = p.fit;
    }

-- what a power reads at a place is an exponent
pub power_read_is_exponent : (b : Option (List ℕ)) (k : ℕ) (ts : List Made) (at : ℕ) (r : Result (Tree × ℕ) AllocError)
    → IsTreeReadAt (PowerTreeAt b k) ts at r
    → IsTreeReadAt (ExponentTreeAt b k) ts at r
power_read_is_exponent b k ts at (Ok x) p = (power_tokens_are_exponent b k _ _ _ p.0, p.1, p.2)
power_read_is_exponent b k ts at (Err e) p = p

-- an exponent with a sign in front is an exponent
pub signed_tokens_are_exponent : (b : Option (List ℕ)) (k : ℕ) (s : Sign) (x y z : List Token) (a e : Syntax)
    → x ≡ sign_token s ∷ y → ExponentTreeAt b k y a z → e ≡ signed_syntax s a → ExponentTreeAt b k x e z
signed_tokens_are_exponent b k s x y z a e is q says =
    record {
      front_part = SignedExponent s q.front_part;
      tokens_split = is ∙ ap (λ v. sign_token s ∷ v) q.tokens_split;
      tree_of_part = says ∙ ap (signed_syntax s) q.tree_of_part;
      stop = q.stop;
      fit = q.fit;
    }

-- a juxtaposition with a sign in front is a juxtaposition
pub signed_tokens_are_juxtaposition : (b : Option (List ℕ)) (k : ℕ) (s : Sign) (x y z : List Token) (a e : Syntax)
    → x ≡ sign_token s ∷ y
    → JuxtapositionTreeAt b k y a z → e ≡ signed_syntax s a → JuxtapositionTreeAt b k x e z
signed_tokens_are_juxtaposition b k s x y z a e is q says =
    record {
      front_part = Signed s q.front_part;
      tokens_split = is ∙ ap (λ v. sign_token s ∷ v) q.tokens_split;
      tree_of_part = says ∙ ap (signed_syntax s) q.tree_of_part;
      stop =
          q.stop;
      fit = q.fit;
    }

-- the state after each first token

-- after a sign an operand is wanted
pub sign_token_wants_operand : (k : ℕ) (s : Sign) (x y : List Token) → x ≡ sign_token s ∷ y
    → tokens_fit WantsOperand k x ≡ true
    → tokens_fit WantsOperand k y ≡ true
sign_token_wants_operand k s x y is h = go s (equal_tokens_fit k x _ is h)
  where
    go : (s : Sign) → tokens_fit WantsOperand k (sign_token s ∷ y) ≡ true → tokens_fit WantsOperand k y ≡ true
    go signs.Plus f = f
    go signs.Minus f = f

-- after a `^` an operand is wanted
pub caret_token_wants_operand : (k : ℕ) (x y : List Token) → x ≡ Caret ∷ y → tokens_fit EndsOperand k x ≡ true
    → tokens_fit WantsOperand k y ≡ true
caret_token_wants_operand k x y is h = subst (λ z. tokens_fit EndsOperand k z ≡ true) is h

-- a sum followed by its `)` is closed
pub sum_before_close_is_in_parens : (b : Option (List ℕ)) (k : ℕ) (x y z : List Token) (e : Syntax)
    → IsTreeAtFront sum (sum_tree b) token_follows_sum (suc k) x e y → y ≡ Close ∷ z → tokens_fit EndsOperand k z ≡ true
    → IsSumInParens b k x e z
sum_before_close_is_in_parens b k x y z e p is f =
    record {
      inner_sum = p.front_part;
      tokens_split = p.tokens_split ∙ ap (sum p.front_part) is;
      tree_of_sum =
          p.tree_of_part;
      fit = f;
    }
