use Rattle.std.proofs.Common.{subst}
use Rattle.std.specs.Prelude.{IfOk}
use Rattle.deck_lines.specs.StoreEdits.{StoreEdit}
use Rattle.deck.specs.Changes.{IsDeckTableChange}
use Rattle.deck.specs.LastPlaces.{AreLastDefinitionPlaces}
use Rattle.deck.specs.Numbers.{AreDefinitionsInPlace}
use Rattle.deck.specs.Tables.{DeckDefinitions, table_of_deck_definitions}
use Rattle.deck.proofs.places.changes.changed_keys.Goals as goal

pub returns : goal.returns
returns c =
    subst (λ (e : StoreEdit). IfOk c.keys_between.result
    (λ keys. (ds es : DeckDefinitions) → AreDefinitionsInPlace e.old_lines ds → AreDefinitionsInPlace e.new_lines es
    → AreLastDefinitionPlaces e.names ds c.args.before.now → AreLastDefinitionPlaces e.names es c.args.after.now
    → IsDeckTableChange (table_of_deck_definitions ds) (table_of_deck_definitions es) keys))
    c.without_change.ensures.is c.keys_between.ensures
