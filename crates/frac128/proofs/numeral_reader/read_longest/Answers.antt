use Rattle.std.proofs.Common.{◌≡◌, ◌<◌, ◌≤◌, ap, sym, ◌∙◌, arith, length, take}
use Rattle.std.proofs.lemmas.List.{length-take-le}
use Rattle.frac128.specs.Decimals.{numeral_reading}
use Rattle.frac128.specs.Numerals.{is_numeral, longest_numeral_len}
use Rattle.frac128.proofs.LongestNumerals.{longest-numeral, longest_numeral-within}
use Rattle.frac128.proofs.numeral_reader.read_longest.Goals as goal

pub returns-then-len-eq0 : goal.returns-then-len-eq0
returns-then-len-eq0 c =
    let none : 0 ≡ longest_numeral_len c.args.bytes.now = sym c.if-len-eq0.true ∙ c.staged_len-len.ensures in
    record { len = none; within = omega arith; numeral = ap (λ n. numeral_reading (take n c.args.bytes.now)) none }

pub slice_bounds-read_spelled-end : goal.slice_bounds-read_spelled-end
slice_bounds-read_spelled-end c =
    let within : c.staged_len-len.result ≤ length c.args.bytes.now =
    omega (arith, longest_numeral-within c.args.bytes.now) in
    sym (length-take-le c.staged_len-len.result c.args.bytes.now within)

pub read_spelled-requires : goal.read_spelled-requires
read_spelled-requires c =
    let some : 0 < longest_numeral_len c.args.bytes.now = omega arith in
    ap (λ n. is_numeral (take n c.args.bytes.now)) c.staged_len-len.ensures ∙ longest-numeral c.args.bytes.now some

pub returns : goal.returns
returns c = record {
  len = c.staged_len-len.ensures;
  within = omega (arith, longest_numeral-within c.args.bytes.now);
  numeral = c.read_spelled.ensures ∙ ap (λ n. numeral_reading (take n c.args.bytes.now)) c.staged_len-len.ensures;
}
