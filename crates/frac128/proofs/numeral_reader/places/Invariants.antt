use Rattle.std.proofs.Common.{◌≡◌, drop}
use Rattle.frac128.specs.Numerals.{is_numeral_point, suffix_from}
use Rattle.frac128.proofs.numeral_reader.places.Given as goal

abbrev pub invariant-loop-i : goal.invariant-loop-i
invariant-loop-i l = suffix_from is_numeral_point (drop l.i l.bytes) ≡ suffix_from is_numeral_point l.bytes
