-- The exit codes of statuses.
use Rattle.std.specs.Prelude.{ℕ}
use Rattle.units_why.specs.declared.status.Status.{Status}
use Rattle.units_why.specs.declared.status.Status.TheVariants.{Done, NoFile, NoMemory, ReadFault, Refused, Usage}
use Rattle.units_why.specs.declared.status.Status.TheVariants.{WriteFault}

abbrev pub why_code_of : Status → ℕ
why_code_of Done = 0
why_code_of Refused = 1
why_code_of Usage = 2
why_code_of NoFile = 3
why_code_of ReadFault = 4
why_code_of WriteFault = 5
why_code_of NoMemory = 6
