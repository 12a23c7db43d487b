use Rattle.std.proofs.Common.{sym, ap, ◌∙◌, option_map}
use Rattle.def_entry.specs.Keys.{key}
use Rattle.deck.specs.Decks.{DeckContents}
use Rattle.deck.specs.Tables.{active_definitions, definition_place_of, last_definition_place}
use Rattle.std.specs.Option.{option_and_then}
use Rattle.deck.proofs.ChangedKeys.{not_defined}
use Rattle.deck.proofs.PlacedDefinitions.{active_definitions_in_place}
use Rattle.deck.proofs.deck.Deck.place_of.Goals as goal

pub returns-in_default : goal.returns-in_default
returns-in_default c =
    let k = key c.args.kind c.args.name.now in
    let ds = active_definitions c.self.inside.settings c.self.inside.store.lines in
    sym (ap (option_map (λ p. p.0))
    (not_defined c.self.inside.store c.number_of.ensures.numbering ds
    (active_definitions_in_place c.self.inside.settings c.self.inside.store.lines) k c.in_default.ensures.number))
    ∙ ap (λ (d : DeckContents). last_definition_place d.settings d.lines k) c.self.view_is

pub returns : goal.returns
returns c =
    let k = key c.args.kind c.args.name.now in
    c.get.ensures ∙ c.self.invariant.indexed.places.place c.in-Some.number
    ∙ ap (option_and_then (definition_place_of (active_definitions c.self.inside.settings c.self.inside.store.lines)))
    c.in-Some.ensures.number
    ∙ ap (λ (d : DeckContents). last_definition_place d.settings d.lines k) c.self.view_is
