use Rattle.std.proofs.Common.{◌≡◌, drop}
use Rattle.units_c.specs.Definitions as spec
use Rattle.units_c.proofs.definitions.put_values.Given as goal

abbrev pub invariant-loop-entry : goal.invariant-loop-entry
invariant-loop-entry l =
    spec.c_variables_with_entries l.vars (drop l.entry-index l.entries) ≡ spec.c_variables_with_entries l.initial.vars
    l.entries
