use Rattle.std.proofs.Common.{◌≤◌, vec_len}
use Rattle.units_io.specs.FileMap.{longest_file}
use Rattle.units_io.proofs.system.file_read.read_whole.Given as goal

abbrev pub invariant-loop : goal.invariant-loop
invariant-loop g l = record {
  within : l.end ≤ vec_len l.bytes;
  limit : l.end ≤ longest_file;
}
