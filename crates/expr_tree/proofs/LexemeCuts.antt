-- The lexemes of a text, one by one, and its first fault.
use Rattle.std.specs.Prelude.{if◌then◌else◌, is_err, is_ok, map}
use Rattle.std.proofs.Common.{◌≡◌, ◌<◌, ◌≤◌, ◌+◌, ◌-◌, ℕ, zero, suc, Bool, true, false, List, [], ◌∷◌, ◌++◌, length}
use Rattle.std.proofs.Common.{drop, take, Option, Some, None, Result, Ok, Err, refl, ap, sym, subst, ◌∙◌, append_assoc}
use Rattle.std.proofs.Common.{add-zero, arith, nat_lt}
use Rattle.std.proofs.lemmas.List.{append-nil, drop-drop, length-drop, map-append, take_rest}
use Rattle.std.proofs.lemmas.Bool.{ltb-false}
use Rattle.std.proofs.Math.ListN.{drop_of_length-le}
use Rattle.expr_tree.specs.declared.fault.ParseFault.{ParseFault}
use Rattle.expr_tree.specs.declared.fault.ParseFault.TheVariants.{Syntax, NestedTooDeep}
use Rattle.expr_tree.specs.declared.lexeme.Lexeme.{Lexeme as MadeLexeme}
use Rattle.expr_tree.specs.declared.lexeme.Lexeme.TheVariants as made
use Rattle.expr_tree.specs.declared.lexeme.Piece.{Piece as MadePiece}
use Rattle.expr_tree.specs.declared.token_state.Standing.{Standing}
use Rattle.expr_tree.specs.declared.token.Token.{Token as Made}
use Rattle.expr_tree.specs.Faults.{depth_after_tokens, fault_from_lexemes, first_parse_fault, lexeme_fault}
use Rattle.expr_tree.specs.Faults.{max_token_depth, or_later_parse_fault}
use Rattle.expr_tree.specs.Lexemes.{Lexeme, Blank, Whole, TooLong, Malformed, Piece, PlacedLexeme, first_lexeme_piece}
use Rattle.expr_tree.specs.Lexemes.{is_numeral_lexeme, lexemes_from, token_in, tokens, tokens_in}
use Rattle.expr_tree.specs.Rules.{After, WantsOperand, closes_paren, count_closing_tokens, count_deepening_tokens}
use Rattle.expr_tree.specs.Rules.{token_count_after, state_after_token, count_opening_tokens, deepens}
use Rattle.expr_tree.specs.Rules.{depth_after_token, may, may_end_tokens, open_parens, open_parens_after}
use Rattle.expr_tree.specs.Rules.{state_after_tokens, tokens_fit}
use Rattle.expr_tree.specs.TokenViews.{seen_lexeme, seen_lexeme_piece, token_view}
use Rattle.expr_tree.specs.Tokens.{Token}
use Rattle.expr_tree.proofs.Before.{Leaves, token-leaves-push}

-- the bytes that a lexeme covers are skipped
pub lexemes_from-skips-covered : (covered : ℕ) (after_numeral : Bool) (place : ℕ) (text : List ℕ)
    → lexemes_from covered after_numeral place text
    ≡ lexemes_from zero after_numeral (place + covered) (drop covered text)
unfolding lexemes_from
lexemes_from-skips-covered zero after_numeral place text = ap (λ p. lexemes_from zero after_numeral p text)
    (sym (add-zero place))
lexemes_from-skips-covered (suc n) after_numeral place [] = refl
lexemes_from-skips-covered (suc n) after_numeral place (b ∷ bs) =
    let e : suc place + n ≡ place + suc n = omega arith in
    lexemes_from-skips-covered n after_numeral (suc place) bs ∙ ap (λ p. lexemes_from zero after_numeral p (drop n bs))
    e

-- the lexemes after a lexeme of this length
lexemes-after-lexeme : (len : ℕ) (after_numeral : Bool) (place b : ℕ) (bs : List ℕ) → 0 < len
    → lexemes_from (len - 1) after_numeral (suc place) bs
    ≡ lexemes_from zero after_numeral (place + len) (drop len (b ∷ bs))
lexemes-after-lexeme zero after_numeral place b bs h = absurd (omega arith)
lexemes-after-lexeme (suc n) after_numeral place b bs h =
    let one : suc n - 1 ≡ n = omega arith in
    let here : suc place + n ≡ place + suc n = omega arith in
    ap (λ k. lexemes_from k after_numeral (suc place) bs) one
    ∙ lexemes_from-skips-covered n after_numeral (suc place) bs
    ∙ ap (λ p. lexemes_from zero after_numeral p (drop n bs)) here

-- a piece at its place
abbrev at : ℕ → Piece → PlacedLexeme
at place p = record { place = place; lexeme = p.lexeme }

-- the lexemes of a text are the one at the front and those of the rest
first-lexeme-and-others : (after_numeral : Bool) (place : ℕ) (text : List ℕ) → 0 < length text
    → 0 < (first_lexeme_piece after_numeral text).len
    → lexemes_from zero after_numeral place text
    ≡ at place (first_lexeme_piece after_numeral text)
    ∷ lexemes_from zero (is_numeral_lexeme (first_lexeme_piece after_numeral text).lexeme)
    (place + (first_lexeme_piece after_numeral text).len)
    (drop (first_lexeme_piece after_numeral text).len text)
unfolding lexemes_from
first-lexeme-and-others after_numeral place [] some moves = absurd (omega arith)
first-lexeme-and-others after_numeral place (b ∷ bs) some moves =
    ap (λ rest. at place (first_lexeme_piece after_numeral (b ∷ bs)) ∷ rest)
    (lexemes-after-lexeme (first_lexeme_piece after_numeral (b ∷ bs)).len
    (is_numeral_lexeme (first_lexeme_piece after_numeral (b ∷ bs)).lexeme)
    place b bs
    moves)

-- the lexemes of a text from a place on
abbrev pub ahead : List ℕ → Bool → ℕ → List PlacedLexeme
ahead text after_numeral place = lexemes_from zero after_numeral place (drop place text)

-- the piece at the front is the first of these lexemes
pub next-lexeme-is-first-piece : (text : List ℕ) (after_numeral : Bool) (place : ℕ) (p : Piece) → place < length text
    → p ≡ first_lexeme_piece after_numeral (drop place text) → 0 < p.len
    → ahead text after_numeral place ≡ at place p ∷ ahead text (is_numeral_lexeme p.lexeme) (place + p.len)
next-lexeme-is-first-piece text after_numeral place p inside is moves = subst (λ (q : Piece). 0 < q.len
    → ahead text after_numeral place ≡ at place q ∷ ahead text (is_numeral_lexeme q.lexeme) (place + q.len)) (sym is)
    (λ h.
    first-lexeme-and-others after_numeral place (drop place text) (omega (arith, length-drop place text)) h
    ∙ ap (λ bs. at place (first_lexeme_piece after_numeral (drop place text))
    ∷ lexemes_from zero (is_numeral_lexeme (first_lexeme_piece after_numeral (drop place text)).lexeme)
    (place + (first_lexeme_piece after_numeral (drop place text)).len) bs)
    (drop-drop (first_lexeme_piece after_numeral (drop place text)).len place text))
    moves

-- at the end of the text there are no lexemes
pub no-lexemes-at-text-end : (text : List ℕ) (after_numeral : Bool) (place : ℕ) → length text ≤ place
    → ahead text after_numeral place ≡ []
unfolding lexemes_from
no-lexemes-at-text-end text after_numeral place h = ap (lexemes_from zero after_numeral place)
    (drop_of_length-le text h)

-- the lexemes before a place in the text have been read: their tokens are `before`, and they have no fault
pub record IsRead (text : List ℕ) (before : List Token) (last : After) (open_parens depth : ℕ) (after_numeral : Bool)
    (place : ℕ) : Type 0 where
  pub leaves : Leaves before last open_parens depth
  pub within : place ≤ length text
  pub shallow : depth ≤ 65
  pub tokens_are : tokens text ≡ before ++ tokens_in (ahead text after_numeral place)
  pub fault_is : first_parse_fault text ≡ fault_from_lexemes before (length text) (ahead text after_numeral place)

-- the fault of a lexeme, given the tokens before it
pub lexeme_fault_after_tokens : List Token → ℕ → Lexeme → Option ParseFault
lexeme_fault_after_tokens before place x = lexeme_fault (state_after_tokens WantsOperand before) (open_parens before)
    (depth_after_tokens before) place
    x

-- the fault of a lexeme, given the state after the tokens before it
pub lexeme_fault-given-state : (before : List Token) (last : After) (open_parens depth place : ℕ) (x : Lexeme)
    → Leaves before last open_parens depth
    → lexeme_fault_after_tokens before place x ≡ lexeme_fault last open_parens depth place x
unfolding lexeme_fault_after_tokens
lexeme_fault-given-state before last open_parens depth place x l =
    let e : count_opening_tokens before - count_closing_tokens before ≡ open_parens = omega (arith, l.opened_is) in
    let f : count_deepening_tokens WantsOperand before - count_closing_tokens before ≡ depth =
    omega (arith, l.depth_is) in
    rw (l.last_is, e, f)

-- the fault of lexemes is that of the first one, or else that of the others
pub fault_from_lexemes-cons : (before : List Token) (len place : ℕ) (x : Lexeme) (xs : List PlacedLexeme)
    → fault_from_lexemes before len (record { place = place; lexeme = x } ∷ xs)
    ≡ or_later_parse_fault (lexeme_fault_after_tokens before place x) (fault_from_lexemes (before ++ token_in x) len xs)
unfolding fault_from_lexemes lexeme_fault_after_tokens
fault_from_lexemes-cons before len place x xs = refl

-- if the piece at the front has a fault, this is the first fault of the text
pub lexeme-fault-is-first : (text : List ℕ) (before : List Token) (last : After) (open_parens depth : ℕ)
    (after_numeral : Bool)
    (place : ℕ) (p : Piece) (fault : ParseFault)
    → IsRead text before last open_parens depth after_numeral place → place < length text
    → p ≡ first_lexeme_piece after_numeral (drop place text) → 0 < p.len
    → lexeme_fault last open_parens depth place p.lexeme ≡ Some fault → first_parse_fault text ≡ Some fault
lexeme-fault-is-first text before last open_parens depth after_numeral place p fault r inside is moves has = r.fault_is
    ∙ ap (fault_from_lexemes before (length text))
    (next-lexeme-is-first-piece text after_numeral place p inside is moves)
    ∙ fault_from_lexemes-cons before (length text) place p.lexeme _
    ∙ ap (λ f. or_later_parse_fault f
    (fault_from_lexemes (before ++ token_in p.lexeme) (length text)
    (ahead text (is_numeral_lexeme p.lexeme) (place + p.len))))
    (lexeme_fault-given-state before last open_parens depth place p.lexeme r.leaves ∙ has)

-- if the piece at the front has no fault, the first fault of the text is that of the lexemes after it
fault-after-faultless-lexeme : (text : List ℕ) (before : List Token) (last : After) (open_parens depth : ℕ)
    (after_numeral : Bool)
    (place : ℕ)
    (p : Piece)
    → IsRead text before last open_parens depth after_numeral place → place < length text
    → p ≡ first_lexeme_piece after_numeral (drop place text) → 0 < p.len
    → lexeme_fault last open_parens depth place p.lexeme ≡ None
    → first_parse_fault text
    ≡ fault_from_lexemes (before ++ token_in p.lexeme) (length text)
    (ahead text (is_numeral_lexeme p.lexeme) (place + p.len))
fault-after-faultless-lexeme text before last open_parens depth after_numeral place p r inside is moves has = r.fault_is
    ∙ ap (fault_from_lexemes before (length text))
    (next-lexeme-is-first-piece text after_numeral place p inside is moves)
    ∙ fault_from_lexemes-cons before (length text) place p.lexeme _
    ∙ ap (λ f. or_later_parse_fault f
    (fault_from_lexemes (before ++ token_in p.lexeme) (length text)
    (ahead text (is_numeral_lexeme p.lexeme) (place + p.len))))
    (lexeme_fault-given-state before last open_parens depth place p.lexeme r.leaves ∙ has)

-- the token of the piece at the front is appended to those that have been read
lexeme-token-is-appended : (text : List ℕ) (before : List Token) (last : After) (open_parens depth : ℕ)
    (after_numeral : Bool)
    (place : ℕ)
    (p : Piece)
    → IsRead text before last open_parens depth after_numeral place → place < length text
    → p ≡ first_lexeme_piece after_numeral (drop place text) → 0 < p.len
    → tokens text ≡ (before ++ token_in p.lexeme) ++ tokens_in (ahead text (is_numeral_lexeme p.lexeme) (place + p.len))
unfolding tokens_in
lexeme-token-is-appended text before last open_parens depth after_numeral place p r inside is moves = r.tokens_are
    ∙ ap (λ xs. before ++ tokens_in xs) (next-lexeme-is-first-piece text after_numeral place p inside is moves)
    ∙ sym (append_assoc before (token_in p.lexeme)
    (tokens_in (ahead text (is_numeral_lexeme p.lexeme) (place + p.len))))

-- a token without a fault is allowed, and its depth is at most 64
pub faultless-token-may-follow : (last : After) (open_parens depth place : ℕ) (t : Token)
    → lexeme_fault last open_parens depth place
    (Whole t) ≡ None
    → (may last open_parens t ≡ true) × (depth ≤ 64)
faultless-token-may-follow last open_parens depth place t h = go (may last open_parens t) (nat_lt max_token_depth depth)
    refl refl h
  where
    go : (a b : Bool) → may last open_parens t ≡ a → nat_lt max_token_depth depth ≡ b
        → (if a then (if b then Some NestedTooDeep else None) else Some (Syntax place)) ≡ None
        → (may last open_parens t ≡ true) × (depth ≤ 64)
    go true true e f h = cc
    go true false e f h = (e, ltb-false max_token_depth depth f)
    go false b e f h = cc

-- the depth of the next token is then at most 65
token-depth-step : (t : Token) (last : After) (depth : ℕ) → depth ≤ 64 → depth_after_token t last depth ≤ 65
token-depth-step t last depth h = go (deepens t last) (closes_paren t) where
  go : (a b : Bool) → token_count_after a b depth ≤ 65
  go true b = omega arith
  go false true = omega arith
  go false false = omega arith

-- reading one more token
pub next-token-is-read : (text : List ℕ) (before : List Token) (last : After) (open_parens depth : ℕ)
    (after_numeral : Bool)
    (place : ℕ) (p : Piece) (t : Token)
    → IsRead text before last open_parens depth after_numeral place → place < length text
    → p ≡ first_lexeme_piece after_numeral (drop place text)
    → p.lexeme ≡ Whole t → 0 < p.len → place + p.len ≤ length text
    → lexeme_fault last open_parens depth place p.lexeme ≡ None
    → IsRead text (before ++ t ∷ []) (state_after_token t last) (open_parens_after t open_parens)
    (depth_after_token t last depth)
    (is_numeral_lexeme p.lexeme) (place + p.len)
next-token-is-read text before last open_parens depth after_numeral place p t r inside is whole moves within has =
    let stands : (may last open_parens t ≡ true) × (depth ≤ 64) =
    faultless-token-may-follow last open_parens depth place t
    (ap (lexeme_fault last open_parens depth place) (sym whole) ∙ has) in
    let one : token_in p.lexeme ≡ t ∷ [] = ap token_in whole in
    record {
      leaves = token-leaves-push before last open_parens depth t r.leaves stands.0;
      within = within;
      shallow = token-depth-step t last depth stands.1;
      tokens_are = lexeme-token-is-appended text before last open_parens depth after_numeral place p r inside is moves
          ∙ ap (λ ts. (before ++ ts) ++ tokens_in (ahead text (is_numeral_lexeme p.lexeme) (place + p.len))) one;
      fault_is =
          fault-after-faultless-lexeme text before last open_parens depth after_numeral place p r inside is moves has
          ∙ ap (λ ts. fault_from_lexemes (before ++ ts) (length text)
          (ahead text (is_numeral_lexeme p.lexeme) (place + p.len)))
          one;
    }

-- a lexeme that is not a token and has no fault is a blank
blank-lexeme-has-no-token : (last : After) (open_parens depth place : ℕ) (x : Lexeme)
    → lexeme_fault last open_parens depth place x ≡ None
    → ((t : Token) → x ≡ Whole t → ⊥) → token_in x ≡ []
blank-lexeme-has-no-token last open_parens depth place Blank has other = refl
blank-lexeme-has-no-token last open_parens depth place (Whole t) has other = absurd (other t refl)
blank-lexeme-has-no-token last open_parens depth place TooLong has other = refl
blank-lexeme-has-no-token last open_parens depth place Malformed has other = refl

-- reading one more blank
pub blank-lexeme-is-read : (text : List ℕ) (before : List Token) (last : After) (open_parens depth : ℕ)
    (after_numeral : Bool)
    (place : ℕ) (p : Piece)
    → IsRead text before last open_parens depth after_numeral place → place < length text
    → p ≡ first_lexeme_piece after_numeral (drop place text)
    → ((t : Token) → p.lexeme ≡ Whole t → ⊥) → 0 < p.len → place + p.len ≤ length text
    → lexeme_fault last open_parens depth place p.lexeme ≡ None
    → IsRead text before last open_parens depth (is_numeral_lexeme p.lexeme) (place + p.len)
blank-lexeme-is-read text before last open_parens depth after_numeral place p r inside is other moves within has =
    let none : before ++ token_in p.lexeme ≡ before =
    ap (λ ts. before ++ ts) (blank-lexeme-has-no-token last open_parens depth place p.lexeme has other)
    ∙ append-nil before in
    record {
      leaves = r.leaves;
      within = within;
      shallow = r.shallow;
      tokens_are = lexeme-token-is-appended text before last open_parens depth after_numeral place p r inside is moves
          ∙ ap (λ ts. ts ++ tokens_in (ahead text (is_numeral_lexeme p.lexeme) (place + p.len))) none;
      fault_is =
          fault-after-faultless-lexeme text before last open_parens depth after_numeral place p r inside is moves has
          ∙ ap (λ ts. fault_from_lexemes ts (length text) (ahead text (is_numeral_lexeme p.lexeme) (place + p.len)))
          none;
    }

-- at the end, the fault is `Syntax` at the end if the tokens may not end
parse-fault-at-end-by-state : (text : List ℕ) (before : List Token) (last : After) (open_parens depth : ℕ)
    (after_numeral : Bool)
    (place : ℕ)
    → IsRead text before last open_parens depth after_numeral place → length text ≤ place
    → first_parse_fault text ≡ (if may_end_tokens last open_parens then None else Some (Syntax (length text)))
unfolding fault_from_lexemes
parse-fault-at-end-by-state text before last open_parens depth after_numeral place r over =
    let e : count_opening_tokens before - count_closing_tokens before ≡ open_parens =
    omega (arith, r.leaves.opened_is) in
    r.fault_is
    ∙ ap (fault_from_lexemes before (length text)) (no-lexemes-at-text-end text after_numeral place over)
    ∙ rw (r.leaves.last_is, e)

-- if the text ends where the tokens may not end, its first fault is at the end
pub parse-fault-at-end : (text : List ℕ) (before : List Token) (last : After) (open_parens depth : ℕ)
    (after_numeral : Bool)
    (place : ℕ)
    → IsRead text before last open_parens depth after_numeral place → length text ≤ place
    → may_end_tokens last open_parens ≡ false
    → first_parse_fault text ≡ Some (Syntax (length text))
parse-fault-at-end text before last open_parens depth after_numeral place r over ends =
    parse-fault-at-end-by-state text before last open_parens depth after_numeral place r over
    ∙ ap (λ b. if b then None else Some (Syntax (length text))) ends

-- the text has these tokens, which fit, and no fault
pub record IsWhole (text : List ℕ) (before : List Token) : Type 0 where
  pub tokens_are : before ≡ tokens text
  pub faultless : first_parse_fault text ≡ None
  pub fit : tokens_fit WantsOperand 0 before ≡ true

-- if the text ends where the tokens may end, all tokens have been read
pub all-tokens-are-read : (text : List ℕ) (before : List Token) (last : After) (open_parens depth : ℕ)
    (after_numeral : Bool)
    (place : ℕ)
    → IsRead text before last open_parens depth after_numeral place → length text ≤ place
    → may_end_tokens last open_parens ≡ true
    → IsWhole text before
unfolding tokens_in
all-tokens-are-read text before last open_parens depth after_numeral place r over ends = record {
  tokens_are = sym (r.tokens_are ∙ ap (λ xs. before ++ tokens_in xs)
      (no-lexemes-at-text-end text after_numeral place over)
      ∙ append-nil before);
  faultless = parse-fault-at-end-by-state text before last open_parens depth after_numeral place r over
      ∙ ap (λ b. if b then None else Some (Syntax (length text))) ends;
  fit = ap (tokens_fit WantsOperand 0) (sym (append-nil before)) ∙ r.leaves.fit [] ∙ ends;
}

-- the piece at the front of these bytes is that at the front of the rest
pub first-lexeme-of-rest : (text : List ℕ) (place : ℕ) (after_numeral : Bool) (p : Piece)
    → p ≡ first_lexeme_piece after_numeral (take (length text - place) (drop place text))
    → p ≡ first_lexeme_piece after_numeral (drop place text)
first-lexeme-of-rest text place after_numeral p is = is ∙ ap (first_lexeme_piece after_numeral) (take_rest text place)

-- a length that is within these bytes is within the rest
pub lexeme-length-within-rest : (text : List ℕ) (place n : ℕ)
    → n ≤ length (take (length text - place) (drop place text))
    → n ≤ length (drop place text)
lexeme-length-within-rest text place n h = subst (λ (bs : List ℕ). n ≤ length bs) (take_rest text place) h

-- the value after a push that does not fail
pub value_after_push : {X E A : Type 0} (r : Result X E) (now pushed before : A)
    → now ≡ (if is_ok r then pushed else before)
    → is_err r ≡ false → now ≡ pushed
value_after_push (Ok x) now pushed before is e = is
value_after_push (Err x) now pushed before is e = cc

-- the tokens after a push, of which the program appends a copy
pub tokens-after-push : (xs now : List Made) (t u : Made) → now ≡ xs ++ t ∷ [] → t ≡ u
    → map token_view now ≡ map token_view xs ++ token_view u ∷ []
tokens-after-push xs now t u is same =
    ap (map token_view) is ∙ map-append token_view xs (t ∷ []) ∙ ap (λ x. map token_view xs ++ token_view x ∷ []) same

-- the state after a token
abbrev pub stood : After → ℕ → ℕ → Token → Standing
stood last open_parens depth t =
    record {
      last = state_after_token t last;
      opened = open_parens_after t open_parens;
      depth = depth_after_token t last depth;
    }

-- equal tokens lead to the same state
pub equal-tokens-have-same-state : (s : Standing) (last : After) (open_parens depth : ℕ) (t u : Made)
    → s ≡ stood last open_parens depth
    (token_view t)
    → t ≡ u → s ≡ stood last open_parens depth (token_view u)
equal-tokens-have-same-state s last open_parens depth t u is same = is
    ∙ ap (λ x. stood last open_parens depth (token_view x)) same

-- reading one more token, in terms of the program's values
pub program-token-is-read : (text : List ℕ) (before : List Token) (last : After) (open_parens depth : ℕ)
    (after_numeral : Bool)
    (place : ℕ) (p : Piece) (t : Token)
    → (now : List Token) (s : Standing) (numeral : Bool)
    → IsRead text before last open_parens depth after_numeral place → place < length text
    → p ≡ first_lexeme_piece after_numeral (drop place text)
    → p.lexeme ≡ Whole t → 0 < p.len → p.len ≤ length (drop place text)
    → lexeme_fault last open_parens depth place p.lexeme ≡ None
    → now ≡ before ++ t ∷ [] → s ≡ stood last open_parens depth t → numeral ≡ is_numeral_lexeme p.lexeme
    → IsRead text now s.last s.opened s.depth numeral (place + p.len)
program-token-is-read text before last open_parens depth after_numeral place p t now s numeral r inside is whole moves
    within
    has e f
    g =
    rw (e, f, g) (next-token-is-read text before last open_parens depth after_numeral place p t r inside is whole moves
    (omega (arith, length-drop place text)) has)

-- a lexeme that is not a token is not one in the view either
seen-lexeme-is-no-token : (x : MadeLexeme) → ((t : Made) → x ≡ made.Whole t → ⊥) → (t : Token) → seen_lexeme x ≡ Whole t
    → ⊥
seen-lexeme-is-no-token made.Blank h t e = cc
seen-lexeme-is-no-token (made.Whole u) h t e = h u refl
seen-lexeme-is-no-token made.TooLong h t e = cc
seen-lexeme-is-no-token made.Malformed h t e = cc

-- reading one more blank, in terms of the program's values
pub program-blank-lexeme-is-read : (text : List ℕ) (before : List Token) (last : After) (open_parens depth : ℕ)
    (after_numeral : Bool)
    (place : ℕ) (p : MadePiece) (numeral : Bool)
    → IsRead text before last open_parens depth after_numeral place → place < length text
    → seen_lexeme_piece p ≡ first_lexeme_piece after_numeral (drop place text)
    → ((t : Made) → p.lexeme ≡ made.Whole t → ⊥) → 0 < p.len → p.len ≤ length (drop place text)
    → lexeme_fault last open_parens depth place (seen_lexeme p.lexeme) ≡ None
    → numeral ≡ is_numeral_lexeme (seen_lexeme p.lexeme)
    → IsRead text before last open_parens depth numeral (place + p.len)
program-blank-lexeme-is-read text before last open_parens depth after_numeral place p numeral r inside is other moves
    within has g =
    rw g (blank-lexeme-is-read text before last open_parens depth after_numeral place (seen_lexeme_piece p) r inside is
    (seen-lexeme-is-no-token p.lexeme other) moves (omega (arith, length-drop place text)) has)
