use Rattle.std.proofs.Common.{ap, sym, ◌∙◌, map, inr}
use Rattle.expr_tree.specs.TokenViews.{seen_lexeme, seen_lexeme_piece, token_view}
use Rattle.expr_tree.proofs.LexemeCuts.{equal-tokens-have-same-state, lexeme-fault-is-first, parse-fault-at-end}
use Rattle.expr_tree.proofs.LexemeCuts.{program-blank-lexeme-is-read, tokens-after-push, value_after_push}
use Rattle.expr_tree.proofs.LexemeCuts.{first-lexeme-of-rest, all-tokens-are-read, lexeme-length-within-rest}
use Rattle.expr_tree.proofs.LexemeCuts.{program-token-is-read}
use Rattle.expr_tree.proofs.scan.scan.Goals as goal

pub returns-in-Some-clause-fault : goal.returns-in-Some-clause-fault
returns-in-Some-clause-fault c =
    inr (lexeme-fault-is-first c.args.text.now (map token_view c.loop-at.tokens.items) c.loop-at.standing.last
    c.loop-at.standing.opened
    c.loop-at.standing.depth
    c.loop-at.after_numeral c.loop-at.at (seen_lexeme_piece c.first-piece.result) c.in-Some.fault c.loop-at.invariant
    c.loop-at-test.true
    (first-lexeme-of-rest c.args.text.now c.loop-at.at c.loop-at.after_numeral _ c.first-piece.ensures.is)
    c.first-piece.ensures.some (sym c.fault.ensures ∙ c.in-Some.is))

pub loop-at-preserved-else-is_err : goal.loop-at-preserved-else-is_err
loop-at-preserved-else-is_err c =
    program-token-is-read c.args.text.now (map token_view c.loop-at.tokens.items) c.loop-at.standing.last
    c.loop-at.standing.opened
    c.loop-at.standing.depth
    c.loop-at.after_numeral c.loop-at.at (seen_lexeme_piece c.first-piece.result) (token_view c.in-Whole.token)
    (map token_view c.push.new.self.items) c.then-standing.result c.is_numeral-after_numeral.result
    c.loop-at.invariant c.loop-at-test.true
    (first-lexeme-of-rest c.args.text.now c.loop-at.at c.loop-at.after_numeral _ c.first-piece.ensures.is)
    (ap seen_lexeme c.in-Whole.is) c.first-piece.ensures.some
    (lexeme-length-within-rest c.args.text.now c.loop-at.at _ c.first-piece.ensures.within)
    (sym c.fault.ensures ∙ c.in_default.is)
    (tokens-after-push _ _ _ _
    (value_after_push _ _ _ _ c.push.ensures.items (sym c.is_err.ensures.value ∙ c.if-is_err.false))
    c.in-Whole.token-is)
    (equal-tokens-have-same-state _ c.loop-at.standing.last c.loop-at.standing.opened c.loop-at.standing.depth _ _
    c.then-standing.ensures
    c.in-Whole.token-is) c.is_numeral-after_numeral.ensures

pub loop-at-preserved : goal.loop-at-preserved
loop-at-preserved c =
    program-blank-lexeme-is-read c.args.text.now (map token_view c.loop-at.tokens.items) c.loop-at.standing.last
    c.loop-at.standing.opened
    c.loop-at.standing.depth
    c.loop-at.after_numeral c.loop-at.at c.first-piece.result c.is_numeral-after_numeral.result
    c.loop-at.invariant c.loop-at-test.true
    (first-lexeme-of-rest c.args.text.now c.loop-at.at c.loop-at.after_numeral _ c.first-piece.ensures.is)
    c.in_default-lexeme.not-Whole c.first-piece.ensures.some
    (lexeme-length-within-rest c.args.text.now c.loop-at.at _ c.first-piece.ensures.within)
    (sym c.fault.ensures ∙ c.in_default.is) c.is_numeral-after_numeral.ensures

pub returns-then-may_end-clause-tokens : goal.returns-then-may_end-clause-tokens
returns-then-may_end-clause-tokens c =
    (all-tokens-are-read c.args.text.now (map token_view c.loop-at.tokens.items) c.loop-at.standing.last
    c.loop-at.standing.opened
    c.loop-at.standing.depth
    c.loop-at.after_numeral c.loop-at.at c.loop-at.invariant c.loop-at-test.false
    (sym c.may_end.ensures ∙ c.if-may_end.true)).tokens_are

pub returns-then-may_end-clause-faultless : goal.returns-then-may_end-clause-faultless
returns-then-may_end-clause-faultless c =
    (all-tokens-are-read c.args.text.now (map token_view c.loop-at.tokens.items) c.loop-at.standing.last
    c.loop-at.standing.opened
    c.loop-at.standing.depth
    c.loop-at.after_numeral c.loop-at.at c.loop-at.invariant c.loop-at-test.false
    (sym c.may_end.ensures ∙ c.if-may_end.true)).faultless

pub returns-then-may_end-clause-fits : goal.returns-then-may_end-clause-fits
returns-then-may_end-clause-fits c =
    (all-tokens-are-read c.args.text.now (map token_view c.loop-at.tokens.items) c.loop-at.standing.last
    c.loop-at.standing.opened
    c.loop-at.standing.depth
    c.loop-at.after_numeral c.loop-at.at c.loop-at.invariant c.loop-at-test.false
    (sym c.may_end.ensures ∙ c.if-may_end.true)).fit

pub returns-clause-fault : goal.returns-clause-fault
returns-clause-fault c =
    inr (parse-fault-at-end c.args.text.now (map token_view c.loop-at.tokens.items) c.loop-at.standing.last
    c.loop-at.standing.opened c.loop-at.standing.depth
    c.loop-at.after_numeral c.loop-at.at c.loop-at.invariant c.loop-at-test.false
    (sym c.may_end.ensures ∙ c.if-may_end.false))
