use Rattle.std.proofs.Common.{Ok, sym, ap, subst}
use Rattle.deck.specs.Changes.{IsDeckTableChange}
use Rattle.deck.specs.Decks.{DeckContents}
use Rattle.deck.specs.Edits.{deck_after_switching}
use Rattle.deck.specs.Tables.{active_definitions, table_of_deck, table_of_deck_definitions}
use Rattle.deck.specs.declared.settings.Settings.{Settings}
use Rattle.deck.proofs.PlacedDefinitions.{active_definitions_in_place}
use Rattle.deck.proofs.deck.Deck.switch.Goals as goal

pub returns : goal.returns
returns c =
    let lines = c.self.inside.store.lines in
    let was = active_definitions c.self.inside.settings lines in (
      ap (λ (d : DeckContents). Ok (deck_after_switching c.args.settings d)) (sym c.self.view_is),
      subst (λ (d : DeckContents). IsDeckTableChange (table_of_deck d)
          (table_of_deck_definitions (active_definitions c.args.settings lines)) c.in_ok-changes.changes.keys)
          c.self.view_is
          (subst (λ (s : Settings). IsDeckTableChange (table_of_deck_definitions was)
          (table_of_deck_definitions (active_definitions s lines)) c.in_ok-changes.changes.keys) c.of-in_force.ensures
          (c.in_ok-changes.ensures.keys was (active_definitions_in_place c.self.inside.settings lines)
          c.self.invariant.indexed.places)),
    )
