use Rattle.std.proofs.Common.{ap, ◌∙◌}
use Rattle.deck.specs.Decks.{DeckContents}
use Rattle.deck.specs.KeyLists.{deck_key_count}
use Rattle.deck.specs.Tables.{active_definitions, table_of_deck, table_of_deck_definitions}
use Rattle.deck.proofs.OneKeyList.{deck_key_tally_is_count}
use Rattle.deck.proofs.deck.Deck.key_count.Goals as goal

pub returns : goal.returns
returns c =
    let s = c.self.inside in
    c.count.ensures
    ∙ c.self.invariant.indexed.places.count c.args.kind
    ∙ deck_key_tally_is_count (table_of_deck_definitions (active_definitions s.settings s.store.lines)) c.args.kind
    ∙ ap (λ (d : DeckContents). deck_key_count (table_of_deck d) c.args.kind) c.self.view_is
