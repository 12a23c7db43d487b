use Rattle.std.proofs.Common.{◌≡◌, subst, sym}
use Rattle.std.specs.Prelude.{IfOk, OnErr}
use Rattle.deck.specs.Decks.{DeckContents}
use Rattle.deck.specs.LineRemoval.{IsDeckLineRemoved}
use Rattle.deck.proofs.deck.Deck.undefine.Goals as goal

pub returns-clause-ok : goal.returns-clause-ok
returns-clause-ok c =
    subst (λ (d : DeckContents). IfOk c.take_out_line-result.result (λ done. IsDeckLineRemoved c.args.self.now d done))
    (sym c.renumber_if_sparse.ensures) c.take_out_line-result.ensures.ok

pub returns-clause-err : goal.returns-clause-err
returns-clause-err c =
    subst (λ (d : DeckContents). OnErr c.take_out_line-result.result (d ≡ c.args.self.now))
    (sym c.renumber_if_sparse.ensures) c.take_out_line-result.ensures.err
