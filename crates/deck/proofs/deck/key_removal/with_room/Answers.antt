use Rattle.std.proofs.Common.{List, ℕ, Option, subst}
use Rattle.deck_lines.specs.Renumberings.{key_number_names_after}
use Rattle.deck.specs.KindPlaces.{HasSameDefinitionPlaces}
use Rattle.deck.specs.LastPlaces.{last_definition_places}
use Rattle.deck.proofs.LastPlaceSteps.{no_last_definition_places}
use Rattle.deck.proofs.deck.key_removal.with_room.Goals as goal

pub returns-clause-none : goal.returns-clause-none
returns-clause-none c = no_last_definition_places (key_number_names_after c.args.numbers.now) _ (λ kind.
    subst (λ (ps : List (Option ℕ)). HasSameDefinitionPlaces ps (last_definition_places c.make_room.new.last kind))
    (c.new-last.ensures kind) (c.in_ok-make_room.ensures.same kind))
