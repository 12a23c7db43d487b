use Rattle.std.proofs.Common.{ap, ◌∙◌, option_map}
use Rattle.def_entry.specs.Keys.{key}
use Rattle.deck_lines.specs.Stores.{store_definition_at}
use Rattle.deck.specs.Decks.{DeckContents}
use Rattle.deck.specs.Numbers.{deck_entry_at_place}
use Rattle.deck.specs.Tables.{active_definitions}
use Rattle.deck.proofs.ChangedKeys.{entry_at_definition_place}
use Rattle.deck.proofs.PlacedDefinitions.{active_definitions_in_place}
use Rattle.deck.proofs.deck.Deck.entry.Goals as goal

pub returns-in_default : goal.returns-in_default
returns-in_default c =
    let d = c.args.self.now in
    ap (deck_entry_at_place d.lines) c.in_default.ensures
    ∙ entry_at_definition_place d.lines (active_definitions d.settings d.lines)
    (active_definitions_in_place d.settings d.lines)
    (key c.args.kind c.args.name.now)

pub returns : goal.returns
returns c =
    let d = c.args.self.now in
    c.entry.ensures ∙ ap (λ (e : DeckContents). option_map (λ p. p.1) (store_definition_at e.lines c.in-Some.place))
    c.self.view_is
    ∙ ap (deck_entry_at_place d.lines) c.in-Some.ensures
    ∙ entry_at_definition_place d.lines (active_definitions d.settings d.lines)
    (active_definitions_in_place d.settings d.lines)
    (key c.args.kind c.args.name.now)
