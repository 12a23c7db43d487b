use Rattle.std.proofs.Common.{ap, sym, ◌∙◌, option_map}
use Rattle.def_entry.specs.Keys.{key}
use Rattle.deck_lines.specs.Stores.{store_definition_at}
use Rattle.deck.specs.Decks.{DeckContents}
use Rattle.deck.specs.Numbers.{deck_entry_at_place}
use Rattle.deck.specs.Tables.{active_definitions}
use Rattle.deck.proofs.ChangedKeys.{entry_at_definition_place}
use Rattle.deck.proofs.PlacedDefinitions.{active_definitions_in_place}
use Rattle.deck.proofs.deck.Deck.entry_with_hint.Goals as goal

pub returns-then-is_last_place : goal.returns-then-is_last_place
returns-then-is_last_place c =
    let d = c.args.self.now in
    c.entry.ensures ∙ ap (λ (e : DeckContents). option_map (λ p. p.1) (store_definition_at e.lines c.args.near))
    c.self.view_is
    ∙ ap (deck_entry_at_place d.lines) (sym c.if-is_last_place.ensures)
    ∙ entry_at_definition_place d.lines (active_definitions d.settings d.lines)
    (active_definitions_in_place d.settings d.lines)
    (key c.args.kind c.args.name.now)
