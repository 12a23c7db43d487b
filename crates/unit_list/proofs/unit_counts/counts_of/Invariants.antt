use Rattle.std.proofs.Common.{All, take}
use Rattle.unit_list.specs.Amounts.{HasUnitDenominator, numbers_of_units}
use Rattle.unit_list.specs.Splits.{counts_of_units, signed_unit_counts}
use Rattle.unit_list.proofs.UnitSteps.{IsCounting}
use Rattle.unit_list.proofs.unit_counts.counts_of.Given as goal

abbrev pub invariant-loop-i : goal.invariant-loop-i
invariant-loop-i l = record {
  counting : IsCounting l.negative l.units
      (signed_unit_counts l.negative (counts_of_units l.amount (numbers_of_units l.units))) l.i
      l.rest l.counts;
  denominators : All HasUnitDenominator (take l.i l.units);
}
