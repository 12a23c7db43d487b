use Rattle.std.proofs.Common.{List, ℕ, Option, subst}
use Rattle.deck.specs.KindPlaces.{HasSameDefinitionPlaces}
use Rattle.deck.specs.LastPlaces.{last_definition_places}
use Rattle.deck.proofs.LastPlaceSteps.{no_last_definition_places}
use Rattle.deck.proofs.places.pass.with_room.Goals as goal

pub returns-clause-none : goal.returns-clause-none
returns-clause-none c = no_last_definition_places c.args.edited.now.names _ (λ kind.
    subst (λ (ps : List (Option ℕ)). HasSameDefinitionPlaces ps (last_definition_places c.make_room.new.last kind))
    (c.new-last.ensures kind) (c.in_ok-make_room.ensures.same kind))
