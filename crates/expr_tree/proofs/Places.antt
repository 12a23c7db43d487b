-- Tokens fit exactly if each of them is allowed at its place and they may end.
use Rattle.std.proofs.Common.{◌≡◌, ◌↔◌, ℕ, zero, suc, ◌+◌, ◌-◌, ◌<◌, true, List, [], ◌∷◌, take, Some, refl, sym, subst}
use Rattle.std.proofs.Common.{arith, ltb-true}
use Rattle.std.specs.Prelude.{slice_get}
use Rattle.std.proofs.lemmas.Bool.{and_from, and_parts}
use Rattle.expr_tree.specs.Rules.{After, WantsOperand, WantsHead, WantsOpen, WantsNumeral, EndsNumeral, EndsOperand}
use Rattle.expr_tree.specs.Rules.{may, may_end_tokens, tokens_fit, open_parens_after, state_after_token}
use Rattle.expr_tree.specs.Rules.{state_after_tokens, count_opening_tokens, count_closing_tokens, open_parens}
use Rattle.expr_tree.specs.Rules.{TokenMayFollow, TokensMayEnd}
use Rattle.expr_tree.specs.Tokens.{Token, Close}

-- the number of open parentheses after tokens, if `k` were open before them
abbrev still_open : ℕ → List Token → ℕ
still_open k ts = k + count_opening_tokens ts - count_closing_tokens ts

-- a `)` is allowed only if a parenthesis is open
close_token_needs_open_paren : (last : After) (k : ℕ) → may last k Close ≡ true → 0 < k
close_token_needs_open_paren WantsOperand k h = cc
close_token_needs_open_paren WantsHead k h = cc
close_token_needs_open_paren WantsOpen k h = cc
close_token_needs_open_paren WantsNumeral k h = cc
close_token_needs_open_paren EndsNumeral k h = ltb-true 0 k h
close_token_needs_open_paren EndsOperand k h = ltb-true 0 k h

-- after an allowed token the count continues with the other tokens
open_parens_after_next_token : (last : After) (k : ℕ) (t : Token) (ts : List Token) → may last k t ≡ true
    → still_open (open_parens_after t k) ts ≡ still_open k (t ∷ ts)
open_parens_after_next_token last k Close ts h = let some : 0 < k = close_token_needs_open_paren last k h in omega arith
open_parens_after_next_token last k t ts h = omega arith

-- each token is allowed after those before it
abbrev Stands : After → ℕ → List Token → Type 0
Stands last k ts = (i : ℕ) (t : Token) → slice_get ts i ≡ Some t
    → may (state_after_tokens last (take i ts)) (still_open k (take i ts)) t ≡ true

-- the tokens may end
abbrev Ends : After → ℕ → List Token → Type 0
Ends last k ts = may_end_tokens (state_after_tokens last ts) (still_open k ts) ≡ true

-- an empty list of tokens does not change the count
open_parens_after_no_token : (k : ℕ) → still_open k [] ≡ k
open_parens_after_no_token k = omega arith

-- tokens that fit are allowed at their places and may end
fitting_tokens_are_allowed : (last : After) (k : ℕ) (ts : List Token) → tokens_fit last k ts ≡ true
    → Stands last k ts × Ends last k ts
fitting_tokens_are_allowed last k [] h =
    (λ i t g. cc, subst (λ n. may_end_tokens last n ≡ true) (sym (open_parens_after_no_token k)) h)
fitting_tokens_are_allowed last k (u ∷ ts) h =
    let e : (may last k u ≡ true) × (tokens_fit (state_after_token u last) (open_parens_after u k) ts ≡ true) =
    and_parts (may last k u) _ h in
    let r : Stands (state_after_token u last) (open_parens_after u k) ts × Ends (state_after_token u last)
    (open_parens_after u k)
    ts =
    fitting_tokens_are_allowed (state_after_token u last) (open_parens_after u k) ts e.1 in (
      at e.0 r.0,
      subst (λ n. may_end_tokens (state_after_tokens (state_after_token u last) ts) n ≡ true)
          (open_parens_after_next_token last k u ts e.0)
          r.1,
    )
  where
    at : may last k u ≡ true → Stands (state_after_token u last) (open_parens_after u k) ts → Stands last k (u ∷ ts)
    at m s zero t g =
        let same : u ≡ t = cc in
        subst (λ n. may last n t ≡ true) (sym (open_parens_after_no_token k))
        (subst (λ (x : Token). may last k x ≡ true) same m)
    at m s (suc i) t g =
        subst (λ n. may (state_after_tokens (state_after_token u last) (take i ts)) n t ≡ true)
        (open_parens_after_next_token last k u (take i ts) m)
        (s i t g)

-- tokens that are allowed at their places and may end, fit
allowed_tokens_fit : (last : After) (k : ℕ) (ts : List Token) → Stands last k ts → Ends last k ts
    → tokens_fit last k ts ≡ true
allowed_tokens_fit last k [] s e = subst (λ n. may_end_tokens last n ≡ true) (open_parens_after_no_token k) e
allowed_tokens_fit last k (u ∷ ts) s e =
    let m : may last k u ≡ true = subst (λ n. may last n u ≡ true) (open_parens_after_no_token k) (s 0 u refl) in
    and_from (may last k u) _ m
    (allowed_tokens_fit (state_after_token u last) (open_parens_after u k) ts
    (λ i t g. subst (λ n. may (state_after_tokens (state_after_token u last) (take i ts)) n t ≡ true)
    (sym (open_parens_after_next_token last k u (take i ts) m))
    (s (suc i) t g))
    (subst (λ n. may_end_tokens (state_after_tokens (state_after_token u last) ts) n ≡ true)
    (sym (open_parens_after_next_token last k u ts m)) e))

-- the number of open parentheses after tokens, if none was open before them
open_parens_from_none : (ts : List Token) → still_open 0 ts ≡ open_parens ts
open_parens_from_none ts = omega arith

-- tokens fit exactly if they satisfy the plain rules
pub tokens_fit_exactly : (ts : List Token) → (tokens_fit WantsOperand 0 ts ≡ true) ↔
    (((i : ℕ) → TokenMayFollow ts i) × TokensMayEnd ts)
tokens_fit_exactly ts = (
  λ h. let r : Stands WantsOperand 0 ts × Ends WantsOperand 0 ts = fitting_tokens_are_allowed WantsOperand 0 ts h in (
    λ i t g. subst (λ n. may (state_after_tokens WantsOperand (take i ts)) n t ≡ true)
        (open_parens_from_none (take i ts)) (r.0 i t g),
    subst (λ n. may_end_tokens (state_after_tokens WantsOperand ts) n ≡ true) (open_parens_from_none ts) r.1,
  ),
  λ m. allowed_tokens_fit WantsOperand 0 ts
      (λ i t g. subst (λ n. may (state_after_tokens WantsOperand (take i ts)) n t ≡ true)
      (sym (open_parens_from_none (take i ts)))
      (m.0 i t g))
      (subst (λ n. may_end_tokens (state_after_tokens WantsOperand ts) n ≡ true) (sym (open_parens_from_none ts)) m.1),
)
