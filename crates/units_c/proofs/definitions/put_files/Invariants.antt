use Rattle.std.proofs.Common.{◌≡◌, drop}
use Rattle.units_c.specs.Definitions as spec
use Rattle.units_c.proofs.definitions.put_files.Given as goal

abbrev pub invariant-loop-entry : goal.invariant-loop-entry
invariant-loop-entry l =
    spec.c_files_with_entries l.files.files (drop l.entry-index l.entries) ≡ spec.c_files_with_entries
    l.initial.files.files l.entries
