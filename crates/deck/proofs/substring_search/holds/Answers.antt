use Rattle.std.proofs.Common.{◌∙◌}
use Rattle.deck.proofs.TextPlaces.{substring_is_held_if_found}
use Rattle.deck.proofs.substring_search.holds.Goals as goal

pub returns : goal.returns
returns c = c.is_some.ensures ∙ substring_is_held_if_found c.args.bytes.now c.args.finder.now c.find.result
    c.find.ensures
