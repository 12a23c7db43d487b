use Rattle.std.proofs.Common.{arith, refl}
use Rattle.deck.specs.Tables.{table_of_deck}
use Rattle.value_sources.specs.Readings.{readings_keys}
use Rattle.value_sources.proofs.PresentReadings.{one_more}
use Rattle.value_sources.proofs.readings.put_with_prefixes.Goals as goal

pub loop-len-preserved : goal.loop-len-preserved
loop-len-preserved c = record {
  within = let w = c.loop-len.invariant.within in omega arith;
  readings = one_more (table_of_deck c.args.deck.now) c.loop-len.len _ c.args.word.now c.split_at.result.0.now
      c.split_at.result.1.now (readings_keys c.loop-len.readings.items)
      (readings_keys c.put_with_prefix.new.readings.items) _ c.loop-len-test.true refl c.split_at.ensures.front
      c.split_at.ensures.back c.loop-len.invariant.readings c.in_ok-put_with_prefix.ensures;
}
