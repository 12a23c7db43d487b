use Rattle.std.proofs.Common.{subst, sym}
use Rattle.deck.specs.Decks.{DeckContents}
use Rattle.deck.specs.Splices.{IsDeckSpliced}
use Rattle.deck.proofs.deck.Deck.splice.Goals as goal

pub returns : goal.returns
returns c =
    subst (λ (d : DeckContents). IsDeckSpliced c.args.change c.args.self.now d c.replace_lines-result.result)
    (sym c.renumber_if_sparse.ensures) c.replace_lines-result.ensures
