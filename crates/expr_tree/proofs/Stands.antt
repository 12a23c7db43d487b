-- The tokens from a place on, and the token there.
use Rattle.std.proofs.Common.{◌≡◌, ℕ, suc, ◌+◌, ◌<◌, ◌≤◌, Bool, true, false, List, [], ◌∷◌, length, map, get_or, Some}
use Rattle.std.proofs.Common.{refl, sym, ◌∙◌, ap, subst, arith, add-one, ltb-true, ltb-false, nat_lt}
use Rattle.std.proofs.Math.ListN.{drop_of_length-le}
use Rattle.std.proofs.lemmas.List.{drop_more}
use Rattle.expr_tree.specs.declared.operator.RootKind.{RootKind}
use Rattle.expr_tree.specs.declared.operator.Scale.{Scale}
use Rattle.expr_tree.specs.declared.operator.Scale.TheVariants.{Multiply, Divide}
use Rattle.expr_tree.specs.declared.operator.Sign.{Sign}
use Rattle.expr_tree.specs.declared.operator.Sign.TheVariants as signs
use Rattle.expr_tree.specs.declared.token.Token.{Token as Made}
use Rattle.expr_tree.specs.declared.token.Token.TheVariants as made
use Rattle.expr_tree.specs.Front.{tokens_from, first_token_sign, first_token_scale, first_token_denominator}
use Rattle.expr_tree.specs.Front.{first_token_is_caret, tokens_stop, tokens_begin_operand, token_follows_sum}
use Rattle.expr_tree.specs.Grammar.{sign_token, scale_token}
use Rattle.expr_tree.specs.Rules.{WantsHead, WantsOpen, WantsOperand, EndsOperand, tokens_fit}
use Rattle.frac128.specs.Decimals.{NumeralDecimal}
use Rattle.expr_tree.specs.TokenViews.{token_view}
use Rattle.expr_tree.specs.Tokens.{Token, Numeral, Head, Root, Plus, Minus, Star, Slash, Bar, Caret, Open, Close}
use Rattle.expr_tree.proofs.Fits.{close_paren_after_sum}

-- the tokens from a place on begin with the one there
pub first_token_from_place : (ts : List Made) (at : ℕ) (d : Made) → at < length ts
    → tokens_from ts at ≡ token_view (get_or ts at d) ∷ tokens_from ts (at + 1)
first_token_from_place ts at d l = ap (map token_view) (drop_more ts at d l)

-- past the last token there are none
pub no_tokens_past_end : (ts : List Made) (at : ℕ) → length ts ≤ at → tokens_from ts at ≡ []
no_tokens_past_end ts at h = ap (map token_view) (drop_of_length-le ts h)

-- there is no token at the place, or there is one
data Ahead (ts : List Made) (at : ℕ) : Type 0 where
  nothing : tokens_from ts at ≡ [] → Ahead ts at
  something : at < length ts → (t : Token) → tokens_from ts at ≡ t ∷ tokens_from ts (at + 1) → Ahead ts at

-- one of the two cases holds at each place
token_or_end_at_place : (ts : List Made) (at : ℕ) → Ahead ts at
token_or_end_at_place ts at = go (nat_lt at (length ts)) refl
  where
    go : (b : Bool) → nat_lt at (length ts) ≡ b → Ahead ts at
    go true e = let l : at < length ts =
        ltb-true at (length ts) e in
        something l (token_view (get_or ts at made.Plus)) (first_token_from_place ts at made.Plus l)
    go false e = nothing (no_tokens_past_end ts at (ltb-false at (length ts) e))

-- this token is at the place
pub record Standing (ts : List Made) (at : ℕ) (t : Token) : Type 0 where
  pub within : at < length ts
  pub is : tokens_from ts at ≡ t ∷ tokens_from ts (at + 1)

-- a sign that is the first token is at the place
pub sign_token_at_place : (ts : List Made) (at : ℕ) (s : Sign) → first_token_sign (tokens_from ts at) ≡ Some s
    → Standing ts at (sign_token s)
sign_token_at_place ts at s h = go (token_or_end_at_place ts at)
  where
    one : (t : Token) (others : List Token) → first_token_sign (t ∷ others) ≡ Some s → t ≡ sign_token s
    one Plus others e = let f : signs.Plus ≡ s = cc in ap sign_token f
    one Minus others e = let f : signs.Minus ≡ s = cc in ap sign_token f
    one t others e = cc

    go : Ahead ts at → Standing ts at (sign_token s)
    go (nothing e) = let f : first_token_sign [] ≡ Some s = sym (ap first_token_sign e) ∙ h in cc
    go (something l t e) =
        record {
          within = l;
          is =
              e ∙ ap (λ (x : Token). x ∷ tokens_from ts (at + 1)) (one t _ (sym (ap first_token_sign e) ∙ h));
        }

-- a `*` or `/` that is the first token is at the place
pub scale_token_at_place : (ts : List Made) (at : ℕ) (s : Scale) → first_token_scale (tokens_from ts at) ≡ Some s
    → Standing ts at (scale_token s)
scale_token_at_place ts at s h = go (token_or_end_at_place ts at)
  where
    one : (t : Token) (others : List Token) → first_token_scale (t ∷ others) ≡ Some s → t ≡ scale_token s
    one Star others e = let f : Multiply ≡ s = cc in ap scale_token f
    one Slash others e = let f : Divide ≡ s = cc in ap scale_token f
    one t others e = cc

    go : Ahead ts at → Standing ts at (scale_token s)
    go (nothing e) = let f : first_token_scale [] ≡ Some s = sym (ap first_token_scale e) ∙ h in cc
    go (something l t e) =
        record {
          within = l;
          is =
              e ∙ ap (λ (x : Token). x ∷ tokens_from ts (at + 1)) (one t _ (sym (ap first_token_scale e) ∙ h));
        }

-- a `^` that is the first token is at the place
pub caret_token_at_place : (ts : List Made) (at : ℕ) → first_token_is_caret (tokens_from ts at) ≡ true
    → Standing ts at Caret
caret_token_at_place ts at h = go (token_or_end_at_place ts at)
  where
    one : (t : Token) (others : List Token) → first_token_is_caret (t ∷ others) ≡ true → t ≡ Caret
    one Caret others e = refl
    one t others e = cc

    go : Ahead ts at → Standing ts at Caret
    go (nothing e) = let f : first_token_is_caret [] ≡ true = sym (ap first_token_is_caret e) ∙ h in cc
    go (something l t e) =
        record {
          within = l;
          is =
              e ∙ ap (λ (x : Token). x ∷ tokens_from ts (at + 1)) (one t _ (sym (ap first_token_is_caret e) ∙ h));
        }

-- after a sum inside parentheses, its `)` is at the place
pub close_paren_at_place : (ts : List Made) (at k : ℕ) → tokens_stop token_follows_sum (tokens_from ts at) ≡ true
    → tokens_fit EndsOperand (suc k) (tokens_from ts at) ≡ true
    → Standing ts at Close × (tokens_fit EndsOperand k (tokens_from ts (at + 1)) ≡ true)
close_paren_at_place ts at k s f = go (token_or_end_at_place ts at) (close_paren_after_sum k (tokens_from ts at) s f)
  where
    go : Ahead ts at → (r : List Token) × (tokens_from ts at ≡ Close ∷ r) × (tokens_fit EndsOperand k r ≡ true)
        → Standing ts at Close × (tokens_fit EndsOperand k (tokens_from ts (at + 1)) ≡ true)
    go (nothing e) c = let f : [] ≡ Close ∷ c.0 = sym e ∙ c.1 in cc
    go (something l t e) c =
        let both : t ∷ tokens_from ts (at + 1) ≡ Close ∷ c.0 = sym e ∙ c.1 in
        let first : t ≡ Close = cc in
        let others : c.0 ≡ tokens_from ts (at + 1) = cc in (
          record { within = l; is = e ∙ ap (λ (x : Token). x ∷ tokens_from ts (at + 1)) first },
          subst (λ y. tokens_fit EndsOperand k y ≡ true) others c.2,
        )

-- the token that the program reads is at the place
pub read_token_at_place : (ts : List Made) (at : ℕ) (d m : Made) → at < length ts → get_or ts at d ≡ m
    → tokens_from ts at ≡ token_view m ∷ tokens_from ts (at + 1)
read_token_at_place ts at d m l is = first_token_from_place ts at d l
    ∙ ap (λ (t : Made). token_view t ∷ tokens_from ts (at + 1)) is

-- if an operand begins, there is a token
pub operand_has_token : (ts : List Made) (at : ℕ) → tokens_begin_operand (tokens_from ts at) ≡ true → at < length ts
operand_has_token ts at h = go (token_or_end_at_place ts at)
  where
    go : Ahead ts at → at < length ts
    go (nothing e) = let f : tokens_begin_operand [] ≡ true = sym (ap tokens_begin_operand e) ∙ h in cc
    go (something l t e) = l

-- if a head is wanted, there is a token
pub wanted_head_has_token : (ts : List Made) (at k : ℕ) → tokens_fit WantsHead k (tokens_from ts at) ≡ true
    → at < length ts
wanted_head_has_token ts at k h = go (token_or_end_at_place ts at)
  where
    go : Ahead ts at → at < length ts
    go (nothing e) = let f : tokens_fit WantsHead k [] ≡ true = subst (λ y. tokens_fit WantsHead k y ≡ true) e h in cc
    go (something l t e) = l

-- if a `(` is wanted, it is at the place
pub open_paren_at_place : (ts : List Made) (at k : ℕ) → tokens_fit WantsOpen k (tokens_from ts at) ≡ true
    → Standing ts at Open × (tokens_fit WantsOperand (suc k) (tokens_from ts (at + 1)) ≡ true)
open_paren_at_place ts at k h = go (token_or_end_at_place ts at)
  where
    one : (t : Token) → tokens_from ts at ≡ t ∷ tokens_from ts (at + 1) → at < length ts
        → tokens_fit WantsOpen k (t ∷ tokens_from ts (at + 1)) ≡ true
        → Standing ts at Open × (tokens_fit WantsOperand (suc k) (tokens_from ts (at + 1)) ≡ true)
    one Open e l f = (record { within = l; is = e }, f)
    one t e l f = cc

    go : Ahead ts at → Standing ts at Open × (tokens_fit WantsOperand (suc k) (tokens_from ts (at + 1)) ≡ true)
    go (nothing e) = let f : tokens_fit WantsOpen k [] ≡ true = subst (λ y. tokens_fit WantsOpen k y ≡ true) e h in cc
    go (something l t e) = one t e l (subst (λ y. tokens_fit WantsOpen k y ≡ true) e h)

-- if a numeral follows after a `|`, both are at their places
pub denominator_token_at_place : (ts : List Made) (at : ℕ) (n : NumeralDecimal)
    → first_token_denominator (tokens_from ts at) ≡ Some n
    → (at + 2 ≤ length ts) × (tokens_from ts at ≡ Bar ∷ Numeral n ∷ tokens_from ts (at + 2))
denominator_token_at_place ts at n h = first (token_or_end_at_place ts at)
  where
    numeral : (t : Token) (others : List Token) → first_token_denominator (Bar ∷ t ∷ others) ≡ Some n → t ≡ Numeral n
    numeral (Numeral m) others e = let f : m ≡ n = cc in ap Numeral f
    numeral t others e = cc

    bar : (t : Token) (others : List Token) → first_token_denominator (t ∷ others) ≡ Some n → t ≡ Bar
    bar Bar others e = refl
    bar t others e = cc

    second : tokens_from ts at ≡ Bar ∷ tokens_from ts (at + 1) → Ahead ts (at + 1)
        → (at + 2 ≤ length ts) × (tokens_from ts at ≡ Bar ∷ Numeral n ∷ tokens_from ts (at + 2))
    second e (nothing e') = let f : first_token_denominator (Bar ∷ []) ≡ Some n =
        sym (ap first_token_denominator (e ∙ ap (λ y. Bar ∷ y) e')) ∙ h in cc
    second e (something l t e') =
        let all : tokens_from ts at ≡ Bar ∷ t ∷ tokens_from ts (at + 1 + 1) = e ∙ ap (λ y. Bar ∷ y) e' in
        let next : at + 1 + 1 ≡ at + 2 = omega arith in (
          omega arith,
          all
              ∙ (ap (λ (x : Token). Bar ∷ x ∷ tokens_from ts (at + 1 + 1))
              (numeral t _ (sym (ap first_token_denominator all) ∙ h))
              ∙ ap (λ i. Bar ∷ Numeral n ∷ tokens_from ts i) next),
        )

    first : Ahead ts at → (at + 2 ≤ length ts) × (tokens_from ts at ≡ Bar ∷ Numeral n ∷ tokens_from ts (at + 2))
    first (nothing e) = let f : first_token_denominator [] ≡ Some n = sym (ap first_token_denominator e) ∙ h in cc
    first (something l t e) =
        second (e ∙ ap (λ (x : Token). x ∷ tokens_from ts (at + 1)) (bar t _ (sym (ap first_token_denominator e) ∙ h)))
        (token_or_end_at_place ts (at + 1))

-- a root and its `(` are at the place, and an operand is wanted after them
pub record Rooted (ts : List Made) (at k : ℕ) (n : RootKind) : Type 0 where
  pub within : at + 2 ≤ length ts
  pub is : tokens_from ts at ≡ Root n ∷ Open ∷ tokens_from ts (at + 2)
  pub fit : tokens_fit WantsOperand (k + 1) (tokens_from ts (at + 2)) ≡ true

-- the keyword of a root is followed by its `(`
pub root_tokens_at_place : (ts : List Made) (at k : ℕ) (n : RootKind) (d : Made) → at < length ts
    → get_or ts at d ≡ made.Root n
    → tokens_fit WantsOperand k (tokens_from ts at) ≡ true → Rooted ts at k n
root_tokens_at_place ts at k n d l is h =
    go (open_paren_at_place ts (at + 1) k (subst (λ y. tokens_fit WantsOperand k y ≡ true) root h))
  where
    root : tokens_from ts at ≡ Root n ∷ tokens_from ts (at + 1)
    root = read_token_at_place ts at d (made.Root n) l is

    go : Standing ts (at + 1) Open × (tokens_fit WantsOperand (suc k) (tokens_from ts (at + 1 + 1)) ≡ true)
        → Rooted ts at k n
    go o =
        let next : at + 1 + 1 ≡ at + 2 = omega arith in
        let more : suc k ≡ k + 1 = omega arith in
        record {
          within = omega (arith, o.0.within);
          is = root ∙ ap (λ y. Root n ∷ y) (o.0.is ∙ ap (λ i. Open ∷ tokens_from ts i) next);
          fit = subst (λ i. tokens_fit WantsOperand i (tokens_from ts (at + 2)) ≡ true) more
              (subst (λ i. tokens_fit WantsOperand (suc k) (tokens_from ts i) ≡ true) next o.1);
        }

-- two numerals with a `|` between them are at the place
pub record Barred (ts : List Made) (at : ℕ) (n d : NumeralDecimal) : Type 0 where
  pub within : at + 3 ≤ length ts
  pub is : tokens_from ts at ≡ Numeral n ∷ Bar ∷ Numeral d ∷ tokens_from ts (at + 3)

-- a numeral, the `|` after it and its denominator are at their places
pub bar_tokens_at_place : (ts : List Made) (at : ℕ) (n d : NumeralDecimal) → at < length ts
    → tokens_from ts at ≡ Numeral n ∷ tokens_from ts (at + 1) → Some d ≡ first_token_denominator
    (tokens_from ts (at + 1))
    → Barred ts at n d
bar_tokens_at_place ts at n d l is h =
    let p : (at + 1 + 2 ≤ length ts) × (tokens_from ts (at + 1) ≡ Bar ∷ Numeral d ∷ tokens_from ts (at + 1 + 2)) =
    denominator_token_at_place ts (at + 1) d (sym h) in
    let next : at + 1 + 2 ≡ at + 3 = omega arith in
    record {
      within = omega (arith, p.0);
      is =
          is ∙ ap (λ y. Numeral n ∷ y) (p.1 ∙ ap (λ i. Bar ∷ Numeral d ∷ tokens_from ts i) next);
    }

-- after a head, an operand is wanted, one parenthesis deeper
pub head_token_wants_operand : (ts : List Made) (at k : ℕ) (w : List ℕ) (d m : Made) → token_view m ≡ Head w
    → at < length ts
    → get_or ts at d ≡ m → tokens_fit WantsOperand k (tokens_from ts at) ≡ true
    → tokens_fit WantsOperand (k + 1) (tokens_from ts (at + 1)) ≡ true
head_token_wants_operand ts at k w d m head l is h =
    rw (add-one k)
    (subst (λ y. tokens_fit WantsOperand k y ≡ true)
    (read_token_at_place ts at d m l is ∙ ap (λ (t : Token). t ∷ tokens_from ts (at + 1)) head) h)

-- after a `(`, an operand is wanted, one parenthesis deeper
pub open_token_wants_operand : (ts : List Made) (at k : ℕ) (d : Made) → at < length ts → get_or ts at d ≡ made.Open
    → tokens_fit WantsOperand k (tokens_from ts at) ≡ true
    → tokens_fit WantsOperand (k + 1) (tokens_from ts (at + 1)) ≡ true
open_token_wants_operand ts at k d l is h =
    rw (add-one k)
    (subst (λ y. tokens_fit WantsOperand k y ≡ true) (read_token_at_place ts at d made.Open l is) h)

-- after a head that is wanted, an operand is wanted, one parenthesis deeper
pub wanted_head_token_wants_operand : (ts : List Made) (at k : ℕ) (w : List ℕ) (d m : Made) → token_view m ≡ Head w
    → at < length ts
    → get_or ts at d ≡ m → tokens_fit WantsHead k (tokens_from ts at) ≡ true
    → tokens_fit WantsOperand (k + 1) (tokens_from ts (at + 1)) ≡ true
wanted_head_token_wants_operand ts at k w d m head l is h =
    rw (add-one k)
    (subst (λ y. tokens_fit WantsHead k y ≡ true)
    (read_token_at_place ts at d m l is ∙ ap (λ (t : Token). t ∷ tokens_from ts (at + 1)) head) h)
