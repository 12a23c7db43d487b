-- The state after a list of tokens, computed token by token.
use Rattle.std.proofs.Common.{◌≡◌, ◌<◌, ◌≤◌, ◌+◌, ℕ, zero, suc, Bool, true, false, ◌&&◌, List, [], ◌∷◌, ◌++◌, refl, ap}
use Rattle.std.proofs.Common.{sym, ◌∙◌, append_assoc, arith}
use Rattle.expr_tree.specs.Rules.{After, WantsOperand, EndsNumeral, EndsOperand, closes_paren, count_closing_tokens}
use Rattle.expr_tree.specs.Rules.{count_deepening_tokens, count_opening_tokens, deepens, token_count_after}
use Rattle.expr_tree.specs.Rules.{state_after_token, depth_after_token, may, open_parens_after, opens}
use Rattle.expr_tree.specs.Rules.{state_after_tokens, tokens_fit}
use Rattle.expr_tree.specs.Tokens.{Token, Numeral, Word, WordWithPower, Head, Root, Plus, Minus, Open, Close}

-- two counts may be made in either order
token_counts-swap : (a b : Bool) (n : ℕ) → token_count_after a false (token_count_after b false n) ≡ token_count_after b
    false
    (token_count_after a false n)
token_counts-swap true true n = refl
token_counts-swap true false n = refl
token_counts-swap false true n = refl
token_counts-swap false false n = refl

-- the state after a list of tokens with one more appended
pub state_after_tokens-push : (last : After) (ts : List Token) (t : Token)
    → state_after_tokens last (ts ++ t ∷ []) ≡ state_after_token t (state_after_tokens last ts)
state_after_tokens-push last [] t = refl
state_after_tokens-push last (u ∷ ts) t = state_after_tokens-push (state_after_token u last) ts t

-- the number of tokens that open a parenthesis, with one more token appended
pub count_opening_tokens-push : (ts : List Token) (t : Token)
    → count_opening_tokens (ts ++ t ∷ []) ≡ token_count_after (opens t) false (count_opening_tokens ts)
count_opening_tokens-push [] t = refl
count_opening_tokens-push (u ∷ ts) t = ap (token_count_after (opens u) false) (count_opening_tokens-push ts t)
    ∙ token_counts-swap (opens u) (opens t) (count_opening_tokens ts)

-- the number of tokens that close a parenthesis, with one more token appended
pub count_closing_tokens-push : (ts : List Token) (t : Token)
    → count_closing_tokens (ts ++ t ∷ []) ≡ token_count_after (closes_paren t) false (count_closing_tokens ts)
count_closing_tokens-push [] t = refl
count_closing_tokens-push (u ∷ ts) t = ap (token_count_after (closes_paren u) false) (count_closing_tokens-push ts t)
    ∙ token_counts-swap (closes_paren u) (closes_paren t) (count_closing_tokens ts)

-- the number of tokens that deepen, with one more token appended
pub count_deepening_tokens-push : (last : After) (ts : List Token) (t : Token)
    → count_deepening_tokens last (ts ++ t ∷ []) ≡ token_count_after (deepens t (state_after_tokens last ts)) false
    (count_deepening_tokens last ts)
count_deepening_tokens-push last [] t = refl
count_deepening_tokens-push last (u ∷ ts) t =
    ap (token_count_after (deepens u last) false) (count_deepening_tokens-push (state_after_token u last) ts t)
    ∙ token_counts-swap (deepens u last) (deepens t (state_after_tokens (state_after_token u last) ts))
    (count_deepening_tokens (state_after_token u last) ts)

-- a step up or down preserves that the total is the current count plus the closed ones
token_count-step : (up down : Bool) (total now closed : ℕ) → (up && down) ≡ false → (down ≡ true → 0 < now)
    → total ≡ now + closed
    → token_count_after up false total ≡ token_count_after up down now + token_count_after down false closed
token_count-step true true total now closed apart some is = cc
token_count-step true false total now closed apart some is = omega arith
token_count-step false true total now closed apart some is = let h : 0 < now = some refl in omega arith
token_count-step false false total now closed apart some is = is

-- no token both opens and closes a parenthesis
token-opens-or-closes : (t : Token) → (opens t && closes_paren t) ≡ false
token-opens-or-closes (Head w) = refl
token-opens-or-closes Open = refl
token-opens-or-closes t = refl

-- no token both deepens and closes
token-deepens-or-closes : (t : Token) (last : After) → (deepens t last && closes_paren t) ≡ false
token-deepens-or-closes (Numeral n) last = refl
token-deepens-or-closes (Word w) last = refl
token-deepens-or-closes (WordWithPower w n) last = refl
token-deepens-or-closes (Head w) last = refl
token-deepens-or-closes (Root n) last = refl
token-deepens-or-closes Plus EndsNumeral = refl
token-deepens-or-closes Plus EndsOperand = refl
token-deepens-or-closes Plus last = refl
token-deepens-or-closes Minus EndsNumeral = refl
token-deepens-or-closes Minus EndsOperand = refl
token-deepens-or-closes Minus last = refl
token-deepens-or-closes t last = refl

-- a token that opens a parenthesis deepens
opening-token-deepens : (t : Token) (last : After) → opens t ≡ true → deepens t last ≡ true
opening-token-deepens (Head w) last h = refl
opening-token-deepens Open last h = refl
opening-token-deepens t last h = cc

-- a `)` is allowed only if a parenthesis is open
close-paren-needs-open : (last : After) (opened : ℕ) (t : Token) → may last opened t ≡ true → closes_paren t ≡ true
    → 0 < opened
close-paren-needs-open EndsNumeral zero Close h k = cc
close-paren-needs-open EndsNumeral (suc n) Close h k = omega arith
close-paren-needs-open EndsOperand zero Close h k = cc
close-paren-needs-open EndsOperand (suc n) Close h k = omega arith
close-paren-needs-open last opened Close h k = cc
close-paren-needs-open last opened t h k = cc

-- if each step that opens also deepens, the depth is at least the number of open parentheses
open_parens-le-token_depth : (up deeper down : Bool) (m n : ℕ) → (up ≡ true → deeper ≡ true) → m ≤ n
    → token_count_after up down m ≤ token_count_after deeper down n
open_parens-le-token_depth true true down m n h le = omega arith
open_parens-le-token_depth true false down m n h le = let e : false ≡ true = h refl in cc
open_parens-le-token_depth false true true m n h le = omega arith
open_parens-le-token_depth false true false m n h le = omega arith
open_parens-le-token_depth false false true m n h le = omega arith
open_parens-le-token_depth false false false m n h le = le

-- after the tokens `before`, the state is `last`, `opened` parentheses are open, and the next token has this depth
pub record Leaves (before : List Token) (last : After) (opened depth : ℕ) : Type 0 where
  pub last_is : state_after_tokens WantsOperand before ≡ last
  pub opened_is : count_opening_tokens before ≡ opened + count_closing_tokens before
  pub depth_is : count_deepening_tokens WantsOperand before ≡ depth + count_closing_tokens before
  pub less : opened ≤ depth
  pub fit : (rest : List Token) → tokens_fit WantsOperand 0 (before ++ rest) ≡ tokens_fit last opened rest

-- before the first token an operand is wanted, and no parenthesis is open
pub no-tokens-leave : Leaves [] WantsOperand 0 0
no-tokens-leave = record { last_is = refl; opened_is = refl; depth_is = refl; less = omega arith; fit = λ rest. refl }

-- an allowed token fits in front of others if they fit in the state after it
tokens_fit-cons : (last : After) (opened : ℕ) (t : Token) (rest : List Token) → may last opened t ≡ true
    → tokens_fit last opened (t ∷ rest) ≡ tokens_fit (state_after_token t last) (open_parens_after t opened) rest
tokens_fit-cons last opened t rest h =
    ap (λ b. b && tokens_fit (state_after_token t last) (open_parens_after t opened) rest) h

-- the state after an allowed token is appended
pub token-leaves-push : (before : List Token) (last : After) (opened depth : ℕ) (t : Token)
    → Leaves before last opened depth
    → may last opened t ≡ true
    → Leaves (before ++ t ∷ []) (state_after_token t last) (open_parens_after t opened) (depth_after_token t last depth)
token-leaves-push before last opened depth t l h =
    let open_enough : closes_paren t ≡ true → 0 < opened = close-paren-needs-open last opened t h in
    let deep_enough : closes_paren t ≡ true
    → 0 < depth = (λ k. (let o : 0 < opened = open_enough k in omega (arith, l.less))) in
    record {
      last_is = state_after_tokens-push WantsOperand before t ∙ ap (state_after_token t) l.last_is;
      opened_is =
          count_opening_tokens-push before t
          ∙ token_count-step (opens t) (closes_paren t) (count_opening_tokens before) opened
          (count_closing_tokens before)
          (token-opens-or-closes t) open_enough l.opened_is
          ∙ ap (λ n. open_parens_after t opened + n) (sym (count_closing_tokens-push before t));
      depth_is =
          count_deepening_tokens-push WantsOperand before t
          ∙ ap (λ a. token_count_after (deepens t a) false (count_deepening_tokens WantsOperand before)) l.last_is
          ∙ token_count-step (deepens t last) (closes_paren t) (count_deepening_tokens WantsOperand before) depth
          (count_closing_tokens before)
          (token-deepens-or-closes t last) deep_enough l.depth_is
          ∙ ap (λ n. depth_after_token t last depth + n) (sym (count_closing_tokens-push before t));
      less = open_parens-le-token_depth (opens t) (deepens t last) (closes_paren t) opened depth
          (opening-token-deepens t last) l.less;
      fit = λ rest.
          ap (tokens_fit WantsOperand 0) (append_assoc before (t ∷ []) rest)
          ∙ l.fit (t ∷ rest)
          ∙ tokens_fit-cons last opened t rest h;
    }
