use Rattle.std.proofs.Common.{subst, sym}
use Rattle.deck.specs.Decks.{DeckContents}
use Rattle.deck.specs.Edits.{IsDeckEdit, deck_after_dropping}
use Rattle.deck.proofs.deck.Deck.drop_last.Goals as goal

pub returns : goal.returns
returns c =
    subst (λ (d : DeckContents). IsDeckEdit (deck_after_dropping c.args.key.now c.args.self.now) c.args.self.now d
    c.take_out_last-result.result) (sym c.renumber_if_sparse.ensures) c.take_out_last-result.ensures
