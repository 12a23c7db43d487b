-- The tokens of a text without a fault fit.
use Rattle.std.proofs.Common.{◌≡◌, ◌≤◌, ◌-◌, ℕ, Bool, true, false, List, [], ◌∷◌, ◌++◌, length, Option, Some, None}
use Rattle.std.proofs.Common.{refl, sym, subst, ◌∙◌, arith}
use Rattle.std.specs.Prelude.{if◌then◌else◌}
use Rattle.std.proofs.lemmas.List.{append-nil}
use Rattle.std.proofs.lemmas.Bool.{and_from}
use Rattle.expr_tree.specs.declared.fault.ParseFault.{ParseFault}
use Rattle.expr_tree.specs.declared.fault.ParseFault.TheVariants.{Syntax, NumeralTooLong}
use Rattle.expr_tree.specs.Faults.{fault_from_lexemes, first_parse_fault, lexeme_fault, or_later_parse_fault}
use Rattle.expr_tree.specs.Faults.{takes_numeral_token}
use Rattle.expr_tree.specs.Lexemes.{Lexeme, Blank, Whole, TooLong, Malformed, PlacedLexeme, lexemes, token_in, tokens}
use Rattle.expr_tree.specs.Lexemes.{tokens_in}
use Rattle.expr_tree.specs.Rules.{After, WantsOperand, count_closing_tokens, count_opening_tokens, depth_after_token}
use Rattle.expr_tree.specs.Rules.{state_after_tokens, state_after_token, tokens_fit, may, may_end_tokens, open_parens}
use Rattle.expr_tree.specs.Rules.{open_parens_after}
use Rattle.expr_tree.specs.Tokens.{Token}
use Rattle.expr_tree.proofs.Before.{Leaves, no-tokens-leave, token-leaves-push}
use Rattle.expr_tree.proofs.LexemeCuts.{lexeme_fault_after_tokens, fault_from_lexemes-cons, faultless-token-may-follow}
use Rattle.expr_tree.proofs.LexemeCuts.{lexeme_fault-given-state}

-- if `or_later_parse_fault` of two faults is `None`, both are `None`
neither_is_parse_fault : (a b : Option ParseFault) → or_later_parse_fault a b ≡ None → (a ≡ None) × (b ≡ None)
neither_is_parse_fault (Some x) b h = cc
neither_is_parse_fault None b h = (refl, h)

-- if the end has no fault, the tokens may end
faultless_tokens_may_end : (b : Bool) (len : ℕ) → (if b then None else Some (Syntax len)) ≡ None → b ≡ true
faultless_tokens_may_end true len h = refl
faultless_tokens_may_end false len h = cc

-- a numeral that is too long always has a fault
too_long_numeral_has_parse_fault : (b : Bool) (place : ℕ)
    → (if b then Some NumeralTooLong else Some (Syntax place)) ≡ None → ⊥
too_long_numeral_has_parse_fault true place h = cc
too_long_numeral_has_parse_fault false place h = cc

-- at an end without a fault the tokens fit
no_tokens_fit_at_faultless_end : (before : List Token) (last : After) (k depth len : ℕ) → Leaves before last k depth
    → fault_from_lexemes before len [] ≡ None → tokens_fit last k [] ≡ true
unfolding fault_from_lexemes
no_tokens_fit_at_faultless_end before last k depth len l h =
    let opened_is : count_opening_tokens before - count_closing_tokens before ≡ k = omega (arith, l.opened_is) in
    (λ i. may_end_tokens (sym l.last_is i) (sym opened_is i))
    ∙ faultless_tokens_may_end (may_end_tokens (state_after_tokens WantsOperand before) (open_parens before)) len h

-- if a lexeme and those after it have no fault, their tokens fit
next_faultless_lexeme_fits : (before : List Token) (last : After) (k depth place len : ℕ) (y : Lexeme)
    (xs : List PlacedLexeme)
    → Leaves before last k depth
    → lexeme_fault last k depth place y ≡ None → fault_from_lexemes (before ++ token_in y) len xs ≡ None
    → ((before' : List Token) (last' : After) (k' depth' : ℕ) → Leaves before' last' k' depth'
    → fault_from_lexemes before' len xs ≡ None → tokens_fit last' k' (tokens_in xs) ≡ true)
    → tokens_fit last k (token_in y ++ tokens_in xs) ≡ true
next_faultless_lexeme_fits before last k depth place len Blank xs l f r next =
    next before last k depth l (subst (λ ts. fault_from_lexemes ts len xs ≡ None) (append-nil before) r)
next_faultless_lexeme_fits before last k depth place len (Whole t) xs l f r next =
    let stands : (may last k t ≡ true) × (depth ≤ 64) = faultless-token-may-follow last k depth place t f in
    and_from _ _ stands.0
    (next (before ++ t ∷ []) (state_after_token t last) (open_parens_after t k) (depth_after_token t last depth)
    (token-leaves-push before last k depth t l stands.0) r)
next_faultless_lexeme_fits before last k depth place len TooLong xs l f r next =
    absurd (too_long_numeral_has_parse_fault (takes_numeral_token last) place f)
next_faultless_lexeme_fits before last k depth place len Malformed xs l f r next = cc

-- the tokens of lexemes without a fault fit
faultless_lexemes_fit : (before : List Token) (last : After) (k depth len : ℕ) (xs : List PlacedLexeme)
    → Leaves before last k depth
    → fault_from_lexemes before len xs ≡ None → tokens_fit last k (tokens_in xs) ≡ true
unfolding tokens_in
faultless_lexemes_fit before last k depth len [] l h = no_tokens_fit_at_faultless_end before last k depth len l h
faultless_lexemes_fit before last k depth len (x ∷ xs) l h =
    let split : (lexeme_fault_after_tokens before x.place x.lexeme ≡ None)
    × (fault_from_lexemes (before ++ token_in x.lexeme) len xs ≡ None) =
    neither_is_parse_fault _ _ (sym (fault_from_lexemes-cons before len x.place x.lexeme xs) ∙ h) in
    next_faultless_lexeme_fits before last k depth x.place len x.lexeme xs l
    (sym (lexeme_fault-given-state before last k depth x.place x.lexeme l) ∙ split.0) split.1
    (λ before' last' k' depth' l' h'. faultless_lexemes_fit before' last' k' depth' len xs l' h')

-- the tokens of a text without a fault fit
pub faultless_text_tokens_fit : (text : List ℕ) → first_parse_fault text ≡ None
    → tokens_fit WantsOperand 0 (tokens text) ≡ true
faultless_text_tokens_fit text h = faultless_lexemes_fit [] WantsOperand 0 0 (length text)
    (lexemes text) no-tokens-leave h
