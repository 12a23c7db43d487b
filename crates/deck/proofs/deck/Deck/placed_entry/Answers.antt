use Rattle.std.proofs.Common.{ap, ◌∙◌, option_map}
use Rattle.def_entry.specs.Keys.{key}
use Rattle.deck_lines.specs.Stores.{store_definition_at}
use Rattle.deck.specs.Decks.{DeckContents}
use Rattle.deck.specs.Numbers.{deck_entry_at_place}
use Rattle.deck.specs.Tables.{active_definitions}
use Rattle.deck.proofs.ChangedKeys.{entry_at_definition_place}
use Rattle.deck.proofs.PlacedDefinitions.{active_definitions_in_place}
use Rattle.deck.proofs.deck.Deck.placed_entry.Goals as goal

pub returns-in_default-clause-entry : goal.returns-in_default-clause-entry
returns-in_default-clause-entry c =
    let d = c.args.self.now in
    ap (deck_entry_at_place d.lines) c.in_default.ensures
    ∙ entry_at_definition_place d.lines (active_definitions d.settings d.lines)
    (active_definitions_in_place d.settings d.lines)
    (key c.args.kind c.args.name.now)

pub returns-in-Some-entry-clause-entry : goal.returns-in-Some-entry-clause-entry
returns-in-Some-entry-clause-entry c =
    let d = c.args.self.now in
    c.in-Some-entry.ensures
    ∙ ap (λ (e : DeckContents). option_map (λ p. p.1) (store_definition_at e.lines c.in-Some.place)) c.self.view_is
    ∙ ap (deck_entry_at_place d.lines) c.in-Some.ensures
    ∙ entry_at_definition_place d.lines (active_definitions d.settings d.lines)
    (active_definitions_in_place d.settings d.lines)
    (key c.args.kind c.args.name.now)

pub returns-in-None-clause-entry : goal.returns-in-None-clause-entry
returns-in-None-clause-entry c =
    let d = c.args.self.now in
    c.in-None.ensures
    ∙ ap (λ (e : DeckContents). option_map (λ p. p.1) (store_definition_at e.lines c.in-Some.place)) c.self.view_is
    ∙ ap (deck_entry_at_place d.lines) c.in-Some.ensures
    ∙ entry_at_definition_place d.lines (active_definitions d.settings d.lines)
    (active_definitions_in_place d.settings d.lines)
    (key c.args.kind c.args.name.now)
