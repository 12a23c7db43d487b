use Rattle.std.proofs.Common.{◌≡◌, ◌+◌, drop, length}
use Rattle.frac128.specs.Numerals.{is_numeral_exponent_mark, prefix_until}
use Rattle.frac128.proofs.numeral_reader.mark_place.Given as goal

abbrev pub invariant-loop-i : goal.invariant-loop-i
invariant-loop-i l = l.i + length (prefix_until is_numeral_exponent_mark (drop l.i l.bytes)) ≡ length
    (prefix_until is_numeral_exponent_mark l.bytes)
