use Rattle.std.proofs.Common.{◌≡◌, length, true}
use Rattle.def_lines.specs.Parts.{begins_without_blank}
use Rattle.def_lines.specs.Words.{is_listed}
use Rattle.def_lines.proofs.words.listed.Given as goal

abbrev pub invariant-loop-value : goal.invariant-loop-value
invariant-loop-value l = record {
  begun : begins_without_blank l.rest ≡ true;
  same : is_listed l.rest l.value ≡ is_listed l.values l.value;
}

abbrev pub decreases-loop-value : goal.decreases-loop-value
decreases-loop-value l = length l.rest
