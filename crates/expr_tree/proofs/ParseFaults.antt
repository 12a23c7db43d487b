-- The fault of a text is never a lack of memory.
use Rattle.std.proofs.Common.{◌≡◌, ◌++◌, ℕ, Bool, true, false, if◌then◌else◌, List, [], ◌∷◌, length, Option, Some, None}
use Rattle.std.proofs.Common.{refl, sym, ap, ◌∙◌, true≢false}
use Rattle.std.specs.Prelude.{nat_lt}
use Rattle.expr_tree.specs.declared.fault.ParseFault.{ParseFault}
use Rattle.expr_tree.specs.declared.fault.ParseFault.TheVariants.{Syntax, NumeralTooLong, NestedTooDeep, OutOfMemory}
use Rattle.expr_tree.specs.Faults.{depth_after_tokens, fault_from_lexemes, lexeme_fault, max_token_depth}
use Rattle.expr_tree.specs.Faults.{or_later_parse_fault, takes_numeral_token}
use Rattle.expr_tree.specs.Laws.{ParseMemoryLaw}
use Rattle.expr_tree.specs.Lexemes.{Lexeme, Blank, Whole, TooLong, Malformed, PlacedLexeme, lexemes, token_in}
use Rattle.expr_tree.specs.Rules.{After, WantsOperand, may, may_end_tokens, open_parens, state_after_tokens}
use Rattle.expr_tree.specs.Tokens.{Token}
use Rattle.expr_tree.proofs.ParsedTexts.{parsed_law}

-- there is no fault, or it is not a lack of memory
abbrev of_text : Option ParseFault → Bool
of_text (Some OutOfMemory) = false
of_text _ = true

-- if neither of two faults is a lack of memory, the chosen one is not
either_parse_fault_not_of_memory : (t : Bool) (x y : Option ParseFault) → of_text x ≡ true → of_text y ≡ true
    → of_text (if t then x else y) ≡ true
either_parse_fault_not_of_memory true x y e f = e
either_parse_fault_not_of_memory false x y e f = f

-- if neither of two faults is a lack of memory, the first one is not
later_parse_fault_not_of_memory : (x y : Option ParseFault) → of_text x ≡ true → of_text y ≡ true
    → of_text (or_later_parse_fault x y) ≡ true
later_parse_fault_not_of_memory (Some fault) y e f = e
later_parse_fault_not_of_memory None y e f = f

-- the fault of a lexeme is never a lack of memory
lexeme_fault_not_of_memory : (last : After) (opens depth place : ℕ) (x : Lexeme)
    → of_text (lexeme_fault last opens depth place x) ≡ true
lexeme_fault_not_of_memory last opens depth place Blank = refl
lexeme_fault_not_of_memory last opens depth place Malformed = refl
lexeme_fault_not_of_memory last opens depth place TooLong =
    either_parse_fault_not_of_memory (takes_numeral_token last) (Some NumeralTooLong) (Some (Syntax place)) refl refl
lexeme_fault_not_of_memory last opens depth place (Whole t) =
    either_parse_fault_not_of_memory (may last opens t)
    (if nat_lt max_token_depth depth then Some NestedTooDeep else None) (Some (Syntax place))
    (either_parse_fault_not_of_memory (nat_lt max_token_depth depth) (Some NestedTooDeep) None refl refl) refl

-- the fault of lexemes is never a lack of memory
lexemes_fault_not_of_memory : (before : List Token) (len : ℕ) (xs : List PlacedLexeme)
    → of_text (fault_from_lexemes before len xs) ≡ true
unfolding fault_from_lexemes
lexemes_fault_not_of_memory before len [] =
    either_parse_fault_not_of_memory (may_end_tokens (state_after_tokens WantsOperand before) (open_parens before)) None
    (Some (Syntax len)) refl refl
lexemes_fault_not_of_memory before len (x ∷ xs) =
    later_parse_fault_not_of_memory
    (lexeme_fault (state_after_tokens WantsOperand before) (open_parens before) (depth_after_tokens before) x.place
    x.lexeme)
    (fault_from_lexemes (before ++ token_in x.lexeme) len xs)
    (lexeme_fault_not_of_memory (state_after_tokens WantsOperand before) (open_parens before)
    (depth_after_tokens before) x.place x.lexeme)
    (lexemes_fault_not_of_memory (before ++ token_in x.lexeme) len xs)

-- the law that the specified fault of a text is never a lack of memory
pub parse_fault_not_of_memory : ParseMemoryLaw
parse_fault_not_of_memory binder text said =
    true≢false (sym (lexemes_fault_not_of_memory [] (length text) (lexemes text))
    ∙ ap of_text (((parsed_law binder text).1 OutOfMemory).0 said))
