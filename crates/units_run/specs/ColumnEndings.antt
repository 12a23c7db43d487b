-- Endings of the parts of a run over column input.
use Rattle.std.specs.Prelude.{⊤}
use Rattle.units_run.specs.declared.column_end.ColumnEnd.{ColumnEnd}
use Rattle.units_run.specs.declared.column_end.ColumnEnd.TheVariants.{ReadFault, WriteFault, NoMemory, InputTooLong}

-- the input was not read in full
abbrev pub IsColumnRunInputCutOff : ColumnEnd → Type 0
IsColumnRunInputCutOff ReadFault = ⊤
IsColumnRunInputCutOff InputTooLong = ⊤
IsColumnRunInputCutOff NoMemory = ⊤
IsColumnRunInputCutOff end = ⊥

-- the rows were not written in full
abbrev pub IsColumnRunStopped : ColumnEnd → Type 0
IsColumnRunStopped WriteFault = ⊤
IsColumnRunStopped NoMemory = ⊤
IsColumnRunStopped end = ⊥
