use Rattle.std.proofs.Common.{◌≡◌, List, map, ap, subst, ◌∙◌}
use Rattle.deck_lines.specs.StoreEdits.{StoreEdit}
use Rattle.deck_lines.specs.StoredDefinitions.{IsStoreDefined}
use Rattle.deck_lines.specs.Origins.{exchanged_store_lines}
use Rattle.deck_lines.specs.Readings.{entry_in_store_line}
use Rattle.deck_lines.specs.Stores.{LineStoreView}
use Rattle.deck_lines.specs.declared.line.DeckLine.{DeckLine}
use Rattle.deck.specs.Changes.{IsDeckTableChange}
use Rattle.deck.specs.LastPlaces.{AreLastDefinitionPlaces}
use Rattle.deck.specs.Numbers.{AreDefinitionsInPlace}
use Rattle.deck.specs.Splices.{spliced_deck_lines}
use Rattle.deck.specs.Tables.{DeckDefinitions, active_definitions, table_of_deck_definitions}
use Rattle.deck.proofs.PlacedDefinitions.{active_definitions_in_place}
use Rattle.deck.proofs.SpliceInverse.{as_edited, deck_indexed_with_more_numbers}
use Rattle.deck.proofs.deck.splice.find_changes.Goals as goal

pub returns-in_err-definitions-clause-indexed : goal.returns-in_err-definitions-clause-indexed
returns-in_err-definitions-clause-indexed c =
    deck_indexed_with_more_numbers c.args.store.now c.read.new.self c.args.settings.now c.args.last.now
    c.read.ensures.before
    c.read.ensures.after
    c.read.ensures.lines c.read.ensures.extended c.requires.indexed

pub returns-in_err-now-clause-indexed : goal.returns-in_err-now-clause-indexed
returns-in_err-now-clause-indexed c =
    deck_indexed_with_more_numbers c.args.store.now c.read.new.self c.args.settings.now c.args.last.now
    c.read.ensures.before
    c.read.ensures.after
    c.read.ensures.lines c.read.ensures.extended c.requires.indexed

pub returns-in_err-keys-clause-indexed : goal.returns-in_err-keys-clause-indexed
returns-in_err-keys-clause-indexed c =
    deck_indexed_with_more_numbers c.args.store.now c.read.new.self c.args.settings.now c.args.last.now
    c.read.ensures.before
    c.read.ensures.after
    c.read.ensures.lines c.read.ensures.extended c.requires.indexed

pub returns-clause-indexed : goal.returns-clause-indexed
returns-clause-indexed c =
    deck_indexed_with_more_numbers c.args.store.now c.read.new.self c.args.settings.now c.args.last.now
    c.read.ensures.before
    c.read.ensures.after
    c.read.ensures.lines c.read.ensures.extended c.requires.indexed

pub returns-clause-defined : goal.returns-clause-defined
returns-clause-defined c =
    subst (λ (ls : List DeckLine). IsStoreDefined c.read.new.self.names c.in_ok-definitions.definitions.of_lines.items
    (map entry_in_store_line ls)) c.as_slice-put.ensures
    c.in_ok-definitions.ensures.ok

pub returns-clause-last : goal.returns-clause-last
returns-clause-last c =
    let s = c.args.change.now in
    let store : LineStoreView = c.read.new.self in
    let edit : c.with_exchange-edited.result ≡ as_edited s c.args.store.now.lines store.names =
    c.with_exchange-edited.ensures
    ∙ ap (λ (ls : List DeckLine). record (as_edited s store.lines store.names)
    { new_lines = exchanged_store_lines s.at s.cut ls store.lines }) c.as_slice-put.ensures
    ∙ ap (λ (ls : List DeckLine). as_edited s ls store.names) c.read.ensures.lines in
    subst (λ (e : StoreEdit). AreLastDefinitionPlaces e.names (active_definitions s.settings e.new_lines)
    c.in_ok-now.now) edit
    c.in_ok-now.ensures

pub returns-clause-keys : goal.returns-clause-keys
returns-clause-keys c =
    let s = c.args.change.now in
    let old : LineStoreView = c.args.store.now in
    let store : LineStoreView = c.read.new.self in
    let edit : c.with_exchange-edited.result ≡ as_edited s old.lines store.names =
    c.with_exchange-edited.ensures
    ∙ ap (λ (ls : List DeckLine). record (as_edited s store.lines store.names)
    { new_lines = exchanged_store_lines s.at s.cut ls store.lines }) c.as_slice-put.ensures
    ∙ ap (λ (ls : List DeckLine). as_edited s ls store.names) c.read.ensures.lines in
    let indexed = deck_indexed_with_more_numbers old store c.args.settings.now c.args.last.now c.read.ensures.before
    c.read.ensures.after
    c.read.ensures.lines c.read.ensures.extended c.requires.indexed in
    subst (λ (e : StoreEdit). (ds es : DeckDefinitions) → AreDefinitionsInPlace e.old_lines ds
    → AreDefinitionsInPlace e.new_lines es
    → AreLastDefinitionPlaces e.names ds c.args.last.now → AreLastDefinitionPlaces e.names es c.in_ok-now.now
    → IsDeckTableChange (table_of_deck_definitions ds) (table_of_deck_definitions es) c.in_ok-keys.keys) edit
    c.in_ok-keys.ensures
    (active_definitions c.args.settings.now old.lines) (active_definitions s.settings (spliced_deck_lines s old.lines))
    (active_definitions_in_place c.args.settings.now old.lines)
    (active_definitions_in_place s.settings (spliced_deck_lines s old.lines))
    (subst (λ (ls : List DeckLine). AreLastDefinitionPlaces store.names (active_definitions c.args.settings.now ls)
    c.args.last.now)
    c.read.ensures.lines indexed.places)
    (subst (λ (e : StoreEdit). AreLastDefinitionPlaces e.names (active_definitions s.settings e.new_lines)
    c.in_ok-now.now) edit
    c.in_ok-now.ensures)
