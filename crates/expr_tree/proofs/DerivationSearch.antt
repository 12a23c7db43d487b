-- The function that reads tokens finds their derivation.
use Rattle.std.proofs.Common.{◌≡◌, ℕ, zero, suc, ◌+◌, ◌*◌, ◌<◌, ◌≤◌, Bool, true, false, cond, List, [], ◌∷◌, length}
use Rattle.std.proofs.Common.{Option, Some, None, refl, sym, ◌∙◌, ap, subst, arith}
use Rattle.frac128.specs.Decimals.{NumeralDecimal}
use Rattle.expr_tree.specs.Grammar.{Sum, SumOf, SumRest, NoTerm, NextTerm, Product, ProductOf, ProductRest, NoFactor}
use Rattle.expr_tree.specs.Grammar.{NextFactor, Juxtaposition, Signed, JuxtapositionOf, JuxtapositionRest, NoPower}
use Rattle.expr_tree.specs.Grammar.{NextPower, Power, Bare, Raised, Exponent, SignedExponent, ExponentOf, Atom}
use Rattle.expr_tree.specs.Grammar.{NumeralAtom, BarAtom, WordAtom, PowerAtom, CallAtom, InverseAtom, RootAtom}
use Rattle.expr_tree.specs.Grammar.{GroupAtom, sum, sum_rest, product, product_rest, juxtaposition, juxtaposition_rest}
use Rattle.expr_tree.specs.Grammar.{power, exponent_tokens, atom, TokensGiveTree}
use Rattle.expr_tree.specs.TokenReading.{◌>>=◌, read_sum, read_sum_rest, read_product, read_product_rest}
use Rattle.expr_tree.specs.TokenReading.{read_juxtaposition, read_juxtaposition_rest, read_power, read_raised}
use Rattle.expr_tree.specs.TokenReading.{read_exponent, read_atom, tree_of_token_list, TreeOfTokenListLaw}
use Rattle.expr_tree.specs.Rules.{WantsOperand, tokens_fit}
use Rattle.expr_tree.specs.Syntax.{Syntax}
use Rattle.expr_tree.specs.Tokens.{Token, Numeral, Word, WordWithPower, Head, Root, Plus, Minus, Star, Slash, Bar}
use Rattle.expr_tree.specs.Tokens.{Caret, Tilde, Open, Close}
use Rattle.expr_tree.specs.declared.operator.Scale.TheVariants.{Multiply, Divide}
use Rattle.expr_tree.specs.declared.operator.Sign.TheVariants as signs
use Rattle.expr_tree.proofs.Derivations.{fitting_tokens_give_tree}
use Rattle.expr_tree.proofs.SpelledTokens.{tokens_giving_tree_fit}
use Rattle.expr_tree.specs.Front.{tokens_stop, tokens_begin_operand, token_follows_sum, token_follows_product}
use Rattle.expr_tree.specs.Front.{token_follows_juxtaposition, token_follows_power, token_follows_atom}
use Rattle.expr_tree.proofs.Stops.{tokens_stop_power_atom, sum_rest_tokens_stop, product_rest_tokens_stop}
use Rattle.expr_tree.proofs.Stops.{juxtaposition_rest_tokens_stop, power_tokens_begin_operand}

-- the tokens of each derivation are longer than those that follow it
mutual
  sum_long : (d : Sum) (r : List Token) → length r < length (sum d r)
  sum_long (SumOf p ts) r = omega (arith, product_long p (sum_rest ts r), sum_rest_long ts r)

  sum_rest_long : (ts : SumRest) (r : List Token) → length r ≤ length (sum_rest ts r)
  sum_rest_long NoTerm r = omega arith
  sum_rest_long (NextTerm s p ts) r = omega (arith, product_long p (sum_rest ts r), sum_rest_long ts r)

  product_long : (d : Product) (r : List Token) → length r < length (product d r)
  product_long (ProductOf p ts) r = omega (arith, juxtaposition_long p (product_rest ts r), product_rest_long ts r)

  product_rest_long : (ts : ProductRest) (r : List Token) → length r ≤ length (product_rest ts r)
  product_rest_long NoFactor r = omega arith
  product_rest_long (NextFactor s p ts) r =
      omega (arith, juxtaposition_long p (product_rest ts r), product_rest_long ts r)

  juxtaposition_long : (d : Juxtaposition) (r : List Token) → length r < length (juxtaposition d r)
  juxtaposition_long (Signed s j) r = omega (arith, juxtaposition_long j r)
  juxtaposition_long (JuxtapositionOf p ps) r =
      omega (arith, power_long p (juxtaposition_rest ps r), juxtaposition_rest_long ps r)

  juxtaposition_rest_long : (ts : JuxtapositionRest) (r : List Token) → length r ≤ length (juxtaposition_rest ts r)
  juxtaposition_rest_long NoPower r = omega arith
  juxtaposition_rest_long (NextPower p ps) r =
      omega (arith, power_long p (juxtaposition_rest ps r), juxtaposition_rest_long ps r)

  power_long : (d : Power) (r : List Token) → length r < length (power d r)
  power_long (Bare a) r = atom_long a r
  power_long (Raised a e) r = omega (arith, atom_long a (Caret ∷ exponent_tokens e r), exponent_long e r)

  exponent_long : (d : Exponent) (r : List Token) → length r < length (exponent_tokens d r)
  exponent_long (SignedExponent s e) r = omega (arith, exponent_long e r)
  exponent_long (ExponentOf p) r = power_long p r

  atom_long : (d : Atom) (r : List Token) → length r < length (atom d r)
  atom_long (NumeralAtom n) r = omega arith
  atom_long (BarAtom n d) r = omega arith
  atom_long (WordAtom w) r = omega arith
  atom_long (PowerAtom w n) r = omega arith
  atom_long (CallAtom w d) r = omega (arith, sum_long d (Close ∷ r))
  atom_long (InverseAtom w d) r = omega (arith, sum_long d (Close ∷ r))
  atom_long (RootAtom n d) r = omega (arith, sum_long d (Close ∷ r))
  atom_long (GroupAtom d) r = omega (arith, sum_long d (Close ∷ r))

-- after the end of a sum no term is read
no_term_token_after_sum : (n : ℕ) (r : List Token) → tokens_stop token_follows_sum r ≡ true
    → read_sum_rest (suc n) r ≡ Some (NoTerm, r)
no_term_token_after_sum n [] h = refl
no_term_token_after_sum n (Close ∷ r) h = refl
no_term_token_after_sum n (t ∷ r) h = cc

-- after the end of a product no factor is read
no_factor_token_after_product : (n : ℕ) (r : List Token) → tokens_stop token_follows_product r ≡ true
    → read_product_rest (suc n) r ≡ Some (NoFactor, r)
no_factor_token_after_product n [] h = refl
no_factor_token_after_product n (Close ∷ r) h = refl
no_factor_token_after_product n (Plus ∷ r) h = refl
no_factor_token_after_product n (Minus ∷ r) h = refl
no_factor_token_after_product n (t ∷ r) h = cc

-- after the end of a juxtaposition no power is read
no_power_token_after_juxtaposition : (n : ℕ) (r : List Token) → tokens_stop token_follows_juxtaposition r ≡ true
    → read_juxtaposition_rest (suc n) r ≡ Some (NoPower, r)
no_power_token_after_juxtaposition n [] h = refl
no_power_token_after_juxtaposition n (Close ∷ r) h = refl
no_power_token_after_juxtaposition n (Plus ∷ r) h = refl
no_power_token_after_juxtaposition n (Minus ∷ r) h = refl
no_power_token_after_juxtaposition n (Star ∷ r) h = refl
no_power_token_after_juxtaposition n (Slash ∷ r) h = refl
no_power_token_after_juxtaposition n (t ∷ r) h = cc

-- after the end of a power no exponent is read
no_exponent_token_after_power : (n : ℕ) (a : Atom) (r : List Token) → tokens_stop token_follows_power r ≡ true
    → read_raised (suc n) a r ≡ Some (Bare a, r)
no_exponent_token_after_power n a [] h = refl
no_exponent_token_after_power n a (Caret ∷ r) h = cc
no_exponent_token_after_power n a (t ∷ r) h = refl

-- if an operand begins, a power is read, and then the powers after it
next_power_parsed_at_operand : (n : ℕ) (ts : List Token) → tokens_begin_operand ts ≡ true
    → read_juxtaposition_rest (suc n) ts
    ≡ (read_power n ts >>= (λ p. read_juxtaposition_rest n p.1 >>= (λ q. Some (NextPower p.0 q.0, q.1))))
next_power_parsed_at_operand n [] b = cc
next_power_parsed_at_operand n (Numeral m ∷ ts) b = refl
next_power_parsed_at_operand n (Word w ∷ ts) b = refl
next_power_parsed_at_operand n (WordWithPower w m ∷ ts) b = refl
next_power_parsed_at_operand n (Root m ∷ ts) b = refl
next_power_parsed_at_operand n (Tilde ∷ ts) b = refl
next_power_parsed_at_operand n (Head m ∷ ts) b = refl
next_power_parsed_at_operand n (Open ∷ ts) b = refl
next_power_parsed_at_operand n (t ∷ ts) b = cc

-- a juxtaposition that begins with an operand has no sign in front
juxtaposition_parsed_without_sign : (n : ℕ) (ts : List Token) → tokens_begin_operand ts ≡ true
    → read_juxtaposition (suc n) ts
    ≡ (read_power n ts >>= (λ p. read_juxtaposition_rest n p.1 >>= (λ q. Some (JuxtapositionOf p.0 q.0, q.1))))
juxtaposition_parsed_without_sign n [] b = cc
juxtaposition_parsed_without_sign n (Plus ∷ ts) b = cc
juxtaposition_parsed_without_sign n (Minus ∷ ts) b = cc
juxtaposition_parsed_without_sign n (t ∷ ts) b = refl

-- an exponent that begins with an operand has no sign in front
exponent_parsed_without_sign : (n : ℕ) (ts : List Token) → tokens_begin_operand ts ≡ true
    → read_exponent (suc n) ts ≡ (read_power n ts >>= (λ p. Some (ExponentOf p.0, p.1)))
exponent_parsed_without_sign n [] b = cc
exponent_parsed_without_sign n (Plus ∷ ts) b = cc
exponent_parsed_without_sign n (Minus ∷ ts) b = cc
exponent_parsed_without_sign n (t ∷ ts) b = refl

-- a numeral is read alone if no `|` follows
numeral_parsed_without_bar : (m : NumeralDecimal) (n : ℕ) (r : List Token) → tokens_stop token_follows_atom r ≡ true
    → read_atom (suc n) (Numeral m ∷ r) ≡ Some (NumeralAtom m, r)
numeral_parsed_without_bar m n [] h = refl
numeral_parsed_without_bar m n (Bar ∷ r) h = cc
numeral_parsed_without_bar m n (t ∷ r) h = refl

mutual
  sum_read : (d : Sum) (n : ℕ) (r : List Token) → 8 * length (sum d r) + 7 ≤ n → tokens_stop token_follows_sum r ≡ true
      → read_sum n (sum d r) ≡ Some (d, r)
  sum_read (SumOf p ts) zero r l h = absurd (omega arith)
  sum_read (SumOf p ts) (suc n) r l h =
      let long : length (sum_rest ts r) < length (product p (sum_rest ts r)) = product_long p (sum_rest ts r) in
      rw (
        product_read p n (sum_rest ts r) (omega arith) (sum_rest_tokens_stop ts r h),
        sum_rest_read ts n r
            (omega arith) h,
      )

  sum_rest_read : (d : SumRest) (n : ℕ) (r : List Token) → 8 * length (sum_rest d r) + 7 ≤ n
      → tokens_stop token_follows_sum r ≡ true
      → read_sum_rest n (sum_rest d r) ≡ Some (d, r)
  sum_rest_read d zero r l h = absurd (omega arith)
  sum_rest_read NoTerm (suc n) r l h = no_term_token_after_sum n r h
  sum_rest_read (NextTerm signs.Plus p ts) (suc n) r l h =
      let long : length (sum_rest ts r) < length (product p (sum_rest ts r)) = product_long p (sum_rest ts r) in
      rw (
        product_read p n (sum_rest ts r) (omega arith) (sum_rest_tokens_stop ts r h),
        sum_rest_read ts n r
            (omega arith) h,
      )
  sum_rest_read (NextTerm signs.Minus p ts) (suc n) r l h =
      let long : length (sum_rest ts r) < length (product p (sum_rest ts r)) = product_long p (sum_rest ts r) in
      rw (
        product_read p n (sum_rest ts r) (omega arith) (sum_rest_tokens_stop ts r h),
        sum_rest_read ts n r
            (omega arith) h,
      )

  product_read : (d : Product) (n : ℕ) (r : List Token) → 8 * length (product d r) + 6 ≤ n
      → tokens_stop token_follows_product r ≡ true → read_product n (product d r) ≡ Some (d, r)
  product_read (ProductOf p ts) zero r l h = absurd (omega arith)
  product_read (ProductOf p ts) (suc n) r l h =
      let long : length (product_rest ts r) < length (juxtaposition p (product_rest ts r)) =
      juxtaposition_long p (product_rest ts r) in
      rw (
        juxtaposition_read p n (product_rest ts r) (omega arith) (product_rest_tokens_stop ts r h),
        product_rest_read ts n r (omega arith) h,
      )

  product_rest_read : (d : ProductRest) (n : ℕ) (r : List Token) → 8 * length (product_rest d r) + 6 ≤ n
      → tokens_stop token_follows_product r ≡ true → read_product_rest n (product_rest d r) ≡ Some (d, r)
  product_rest_read d zero r l h = absurd (omega arith)
  product_rest_read NoFactor (suc n) r l h = no_factor_token_after_product n r h
  product_rest_read (NextFactor Multiply p ts) (suc n) r l h =
      let long : length (product_rest ts r) < length (juxtaposition p (product_rest ts r)) =
      juxtaposition_long p (product_rest ts r) in
      rw (
        juxtaposition_read p n (product_rest ts r) (omega arith) (product_rest_tokens_stop ts r h),
        product_rest_read ts n r (omega arith) h,
      )
  product_rest_read (NextFactor Divide p ts) (suc n) r l h =
      let long : length (product_rest ts r) < length (juxtaposition p (product_rest ts r)) =
      juxtaposition_long p (product_rest ts r) in
      rw (
        juxtaposition_read p n (product_rest ts r) (omega arith) (product_rest_tokens_stop ts r h),
        product_rest_read ts n r (omega arith) h,
      )

  juxtaposition_read : (d : Juxtaposition) (n : ℕ) (r : List Token) → 8 * length (juxtaposition d r) + 5 ≤ n
      → tokens_stop token_follows_juxtaposition r ≡ true → read_juxtaposition n (juxtaposition d r) ≡ Some (d, r)
  juxtaposition_read d zero r l h = absurd (omega arith)
  juxtaposition_read (Signed signs.Plus j) (suc n) r l h = rw (juxtaposition_read j n r (omega arith) h)
  juxtaposition_read (Signed signs.Minus j) (suc n) r l h = rw (juxtaposition_read j n r (omega arith) h)
  juxtaposition_read (JuxtapositionOf p ps) (suc n) r l h =
      let long : length (juxtaposition_rest ps r) < length (power p (juxtaposition_rest ps r)) =
      power_long p (juxtaposition_rest ps r) in
      juxtaposition_parsed_without_sign n (power p (juxtaposition_rest ps r))
      (power_tokens_begin_operand p (juxtaposition_rest ps r))
      ∙ rw (
        power_read p n (juxtaposition_rest ps r) (omega arith) (juxtaposition_rest_tokens_stop ps r h),
        juxtaposition_rest_read ps n r (omega arith) h,
      )

  juxtaposition_rest_read : (d : JuxtapositionRest) (n : ℕ) (r : List Token)
      → 8 * length (juxtaposition_rest d r) + 5 ≤ n → tokens_stop token_follows_juxtaposition r ≡ true
      → read_juxtaposition_rest n (juxtaposition_rest d r) ≡ Some (d, r)
  juxtaposition_rest_read d zero r l h = absurd (omega arith)
  juxtaposition_rest_read NoPower (suc n) r l h = no_power_token_after_juxtaposition n r h
  juxtaposition_rest_read (NextPower p ps) (suc n) r l h =
      let long : length (juxtaposition_rest ps r) < length (power p (juxtaposition_rest ps r)) =
      power_long p (juxtaposition_rest ps r) in
      next_power_parsed_at_operand n (power p (juxtaposition_rest ps r))
      (power_tokens_begin_operand p (juxtaposition_rest ps r))
      ∙ rw (
        power_read p n (juxtaposition_rest ps r) (omega arith) (juxtaposition_rest_tokens_stop ps r h),
        juxtaposition_rest_read ps n r (omega arith) h,
      )

  power_read : (d : Power) (n : ℕ) (r : List Token) → 8 * length (power d r) + 4 ≤ n
      → tokens_stop token_follows_power r ≡ true
      → read_power n (power d r) ≡ Some (d, r)
  power_read (Bare a) zero r l h = absurd (omega arith)
  power_read (Bare a) (suc zero) r l h = absurd (omega arith)
  power_read (Bare a) (suc (suc n)) r l h =
      rw (atom_read a (suc n) r (omega arith) (tokens_stop_power_atom r h)) (no_exponent_token_after_power n a r h)
  power_read (Raised a e) zero r l h = absurd (omega arith)
  power_read (Raised a e) (suc zero) r l h = absurd (omega arith)
  power_read (Raised a e) (suc (suc n)) r l h =
      let long : suc (length (exponent_tokens e r)) < length (atom a (Caret ∷ exponent_tokens e r)) =
      atom_long a (Caret ∷ exponent_tokens e r) in
      rw (atom_read a (suc n) (Caret ∷ exponent_tokens e r) (omega arith) refl, exponent_read e n r (omega arith) h)

  exponent_read : (d : Exponent) (n : ℕ) (r : List Token) → 8 * length (exponent_tokens d r) + 5 ≤ n
      → tokens_stop token_follows_power r ≡ true → read_exponent n (exponent_tokens d r) ≡ Some (d, r)
  exponent_read d zero r l h = absurd (omega arith)
  exponent_read (SignedExponent signs.Plus e) (suc n) r l h = rw (exponent_read e n r (omega arith) h)
  exponent_read (SignedExponent signs.Minus e) (suc n) r l h = rw (exponent_read e n r (omega arith) h)
  exponent_read (ExponentOf p) (suc n) r l h = exponent_parsed_without_sign n (power p r)
      (power_tokens_begin_operand p r)
      ∙ rw (power_read p n r (omega arith) h)

  atom_read : (d : Atom) (n : ℕ) (r : List Token) → 8 * length (atom d r) + 2 ≤ n
      → tokens_stop token_follows_atom r ≡ true
      → read_atom n (atom d r) ≡ Some (d, r)
  atom_read d zero r l h = absurd (omega arith)
  atom_read (NumeralAtom m) (suc n) r l h = numeral_parsed_without_bar m n r h
  atom_read (BarAtom m d) (suc n) r l h = refl
  atom_read (WordAtom w) (suc n) r l h = refl
  atom_read (PowerAtom w m) (suc n) r l h = refl
  atom_read (CallAtom w d) (suc n) r l h = rw (sum_read d n (Close ∷ r) (omega arith) refl)
  atom_read (InverseAtom w d) (suc n) r l h = rw (sum_read d n (Close ∷ r) (omega arith) refl)
  atom_read (RootAtom m d) (suc n) r l h = rw (sum_read d n (Close ∷ r) (omega arith) refl)
  atom_read (GroupAtom d) (suc n) r l h = rw (sum_read d n (Close ∷ r) (omega arith) refl)

-- a conditional whose alternative is `None` has a value only if its test is true
cond_with_value_is_true : {A : Type 0} (b : Bool) (x : A) (o : Option A) → cond b o None ≡ Some x → b ≡ true
cond_with_value_is_true true x o e = refl
cond_with_value_is_true false x o e = cc

-- the function reads the tree that the tokens give
given_tree_is_read : (binder : Option (List ℕ)) (ts : List Token) (e : Syntax) → TokensGiveTree binder ts e
    → tree_of_token_list binder ts ≡ Some e
unfolding tree_of_token_list
given_tree_is_read binder ts e g =
    let f : tokens_fit WantsOperand 0 ts ≡ true = tokens_giving_tree_fit binder ts e g in
    let r : read_sum (8 * length ts + 8) ts ≡ Some (g.0, []) =
    (let l : 8 * length (sum g.0 []) + 7 ≤ 8 * length ts + 8 =
    (let z : length ts ≡ length (sum g.0 []) = ap length g.1 in omega arith) in
    ap (read_sum (8 * length ts + 8)) g.1 ∙ sum_read g.0 (8 * length ts + 8) [] l refl) in
    rw (f, r, g.2)

-- tokens from which a tree is read fit
tokens_of_tree_fit : (binder : Option (List ℕ)) (ts : List Token) (e : Syntax) → tree_of_token_list binder ts ≡ Some e
    → tokens_fit WantsOperand 0 ts ≡ true
unfolding tree_of_token_list
tokens_of_tree_fit binder ts e p = cond_with_value_is_true _ e _ p

-- the function and the relation agree
pub tree_of_token_list_law : TreeOfTokenListLaw
tree_of_token_list_law binder ts e = (
  λ p.
      let x : (e' : Syntax) × TokensGiveTree binder ts e' = fitting_tokens_give_tree binder ts
      (tokens_of_tree_fit binder ts e p) in
      let s : Some x.0 ≡ Some e = sym (given_tree_is_read binder ts x.0 x.1) ∙ p in
      let q : x.0 ≡ e = cc in subst (TokensGiveTree binder ts) q x.1,
  given_tree_is_read binder ts e,
)
