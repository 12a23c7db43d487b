use Rattle.std.proofs.Common.{List, subst}
use Rattle.std.specs.Prelude.{◌↔◌, IfOk, IsTrue}
use Rattle.deck_lines.specs.Exchangeable.{CanExchangeStoredLines}
use Rattle.deck_lines.specs.declared.line.DeckLine.{DeckLine}
use Rattle.deck.specs.Decks.{DeckContents}
use Rattle.deck.specs.Splices.{CanSpliceDeck}
use Rattle.deck.proofs.deck.Deck.can_splice.Goals as goal

pub returns : goal.returns
returns c =
    subst (λ (d : DeckContents). IfOk c.can_exchange.result (λ can. IsTrue can ↔ CanSpliceDeck c.args.change.now d))
    c.self.view_is
    (subst (λ (ls : List DeckLine). IfOk c.can_exchange.result
    (λ can. IsTrue can ↔ CanExchangeStoredLines c.args.change.now.at c.args.change.now.cut ls
    c.self.inside.store.lines))
    c.as_slice-put.ensures
    c.can_exchange.ensures)
