use Rattle.std.proofs.Common.{◌<◌, length, arith}
use Rattle.std.proofs.lemmas.Bool.Decides.{nat_tests}
use Rattle.frac128.proofs.StageRuns.{longest_numeral_len-all}
use Rattle.frac128.proofs.numeral_reader.is_numeral.Goals as goal

pub returns-then-not-is_empty : goal.returns-then-not-is_empty
returns-then-not-is_empty c =
    let empty = c.if-not-is_empty.ensures in
    let some : 0 < length c.args.bytes.now = grind (arith, nat_tests) in
    rw c.numeral_len.ensures (longest_numeral_len-all _ some)
