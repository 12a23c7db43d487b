use Rattle.deck_lines.specs.Stores.{store_definition_at}
use Rattle.deck.proofs.LastPlaceSteps.{last_definition_place_stored}
use Rattle.deck.proofs.places.pass.note_line.Goals as goal

pub returns-in-Some-clause-last : goal.returns-in-Some-clause-last
returns-in-Some-clause-last c = λ ds before.
    last_definition_place_stored c.args.edited.now.names c.in-Some.ensures.numbering.unique ds c.in-Some.n c.args.place
    c.args.active
    (store_definition_at c.args.edited.now.new_lines c.args.place)
    c.args.last.now c.put.new.self c.if-not-active.false c.requires before c.in-Some.ensures.number c.put.ensures
