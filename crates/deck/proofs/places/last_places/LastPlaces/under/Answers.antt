use Rattle.std.proofs.Common.{subst}
use Rattle.std.specs.Prelude.{IfOk}
use Rattle.deck_lines.specs.StoreEdits.{StoreEdit}
use Rattle.deck.specs.LastPlaces.{AreLastDefinitionPlaces}
use Rattle.deck.specs.Tables.{active_definitions}
use Rattle.deck.proofs.places.last_places.LastPlaces.under.Goals as goal

pub returns-clause-last : goal.returns-clause-last
returns-clause-last c =
    subst (λ (e : StoreEdit). IfOk c.under_edited.result
    (λ last. AreLastDefinitionPlaces e.names (active_definitions c.args.settings.now e.new_lines) last))
    c.without_change.ensures.is
    c.under_edited.ensures
