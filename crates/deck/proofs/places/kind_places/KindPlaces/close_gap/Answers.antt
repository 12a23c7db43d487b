use Rattle.std.proofs.Common.{◌++◌, drop, length, map, option_map, take, arith, ap, sym, ◌∙◌}
use Rattle.gap_list.specs.Gaps.{without_gap}
use Rattle.deck.proofs.KindPlacing.{length-moved, mapped_definition_places_all, moved_place}
use Rattle.deck.proofs.places.kind_places.KindPlaces.close_gap.Goals as goal

pub restore-requires : goal.restore-requires
restore-requires c =
    omega (
      arith,
      c.loop-number-test.true,
      c.len-number-end.ensures,
      ap length c.loop-number.invariant,
      length-moved (without_gap c.args.gap) c.args.self.now c.loop-number.number,
    )

pub loop-number-preserved : goal.loop-number-preserved
loop-number-preserved c =
    moved_place (without_gap c.args.gap) c.args.self.now c.loop-number.self c.restore.new.self c.loop-number.number
    c.place_past_gap-place.result (omega (arith, c.loop-number-test.true, c.len-number-end.ensures))
    c.loop-number.invariant
    (c.place_past_gap-place.ensures ∙ ap (option_map (without_gap c.args.gap)) c.get.ensures) c.restore.ensures

pub returns : goal.returns
returns c =
    c.loop-number.invariant
    ∙ mapped_definition_places_all (option_map (without_gap c.args.gap)) c.args.self.now c.loop-number.number
    (omega (arith, c.loop-number-test.false, c.len-number-end.ensures))
