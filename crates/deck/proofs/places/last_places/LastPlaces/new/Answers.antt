use Rattle.std.proofs.Common.{ap, map, option_map}
use Rattle.gap_list.specs.Gaps.{place_without_gaps}
use Rattle.deck.proofs.places.last_places.LastPlaces.new.Goals as goal

pub returns : goal.returns
returns c = λ kind. ap (map (option_map (place_without_gaps c.new-2.result))) (c.new.ensures kind)
