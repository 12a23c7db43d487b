use Rattle.deck.specs.Tables.{active_definitions}
use Rattle.deck.proofs.PlacedDefinitions.{active_definitions_in_place}
use Rattle.deck.proofs.places.place_changes.find_place_changes.Goals as goal

pub returns-clause-keys : goal.returns-clause-keys
returns-clause-keys c = λ ds in_place before.
    c.in_ok-keys.ensures ds (active_definitions c.args.settings.now c.args.store.now.lines) in_place
    (active_definitions_in_place c.args.settings.now c.args.store.now.lines) before c.in_ok-now.ensures.last
