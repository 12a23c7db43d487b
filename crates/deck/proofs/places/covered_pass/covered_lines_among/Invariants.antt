use Rattle.std.proofs.Common.{Some, take}
use Rattle.deck.specs.CoveredLines.{MayCoverDefinitions}
use Rattle.deck.specs.LastPlaces.{AreLastDefinitionPlaces, HasDefinitionPlaceRoom}
use Rattle.deck.specs.Tables.{active_definitions_among}
use Rattle.deck.proofs.places.covered_pass.covered_lines_among.Given as goal

-- the last places of the lines so far, and the lines that they cover
abbrev pub invariant-loop-place : goal.invariant-loop-place
invariant-loop-place l = record {
  room : HasDefinitionPlaceRoom l.edited.names l.last;
  last : AreLastDefinitionPlaces l.edited.names
      (active_definitions_among (take l.place l.flags) (take l.place l.edited.new_lines)) l.last;
  covers : MayCoverDefinitions l.place
      (active_definitions_among (take l.place l.flags) (take l.place l.edited.new_lines)) (Some l.covered);
}
