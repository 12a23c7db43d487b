use Rattle.std.proofs.Common.{take}
use Rattle.deck.specs.LastPlaces.{AreLastDefinitionPlaces, HasDefinitionPlaceRoom}
use Rattle.deck.specs.Tables.{active_definitions_among}
use Rattle.deck.proofs.places.last_places.LastPlaces.note_lines.Given as goal

abbrev pub invariant-loop-place : goal.invariant-loop-place
invariant-loop-place l =
    HasDefinitionPlaceRoom l.edited.names l.self
    × AreLastDefinitionPlaces l.edited.names
    (active_definitions_among (take l.place l.flags) (take l.place l.edited.new_lines)) l.self
