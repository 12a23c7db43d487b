use Rattle.std.proofs.Common.{length, option_map, arith, ap, ◌∙◌}
use Rattle.gap_list.specs.Gaps.{place_without_gaps}
use Rattle.deck.proofs.KindPlacing.{length-moved, mapped_definition_places_all, moved_place}
use Rattle.deck.proofs.places.kind_places.KindPlaces.fill_gaps.Goals as goal

pub restore-requires : goal.restore-requires
restore-requires c =
    omega (
      arith,
      c.loop-number-test.true,
      c.len-number-end.ensures,
      ap length c.loop-number.invariant,
      length-moved (place_without_gaps c.args.gaps.now) c.args.self.now c.loop-number.number,
    )

pub loop-number-preserved : goal.loop-number-preserved
loop-number-preserved c =
    moved_place (place_without_gaps c.args.gaps.now) c.args.self.now c.loop-number.self c.restore.new.self
    c.loop-number.number
    c.place_of-place.result (omega (arith, c.loop-number-test.true, c.len-number-end.ensures)) c.loop-number.invariant
    (c.place_of-place.ensures ∙ ap (option_map (place_without_gaps c.args.gaps.now)) c.get.ensures) c.restore.ensures

pub returns : goal.returns
returns c =
    c.loop-number.invariant
    ∙ mapped_definition_places_all (option_map (place_without_gaps c.args.gaps.now)) c.args.self.now
    c.loop-number.number
    (omega (arith, c.loop-number-test.false, c.len-number-end.ensures))
