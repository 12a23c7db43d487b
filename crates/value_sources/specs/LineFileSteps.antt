-- The effect of a line on the files of the lines after it.
use Rattle.std.specs.Prelude.{◌≡◌, ℕ, List, Option, Some, None}
use Rattle.deck_lines.specs.Readings.{StoreLineReading, Stands, Defines, Includes, Faulty, store_line_reading_of}
use Rattle.deck_lines.specs.declared.line.Role.{Role}
use Rattle.deck_lines.specs.declared.line.Role.TheVariants.{Inside}
use Rattle.value_sources.specs.declared.line_files.step.Step.{Step}
use Rattle.value_sources.specs.declared.line_files.step.Step.TheVariants as step

-- the effect of a line on the open blocks of its file, or `None` if it includes a file
abbrev pub role_in_line_file : StoreLineReading → Option Role
role_in_line_file (Stands role) = Some role
role_in_line_file (Defines entry) = Some Inside
role_in_line_file (Faulty text) = Some Inside
role_in_line_file (Includes name) = None

-- a step is the step of a line
abbrev pub IsLineFileStepOf : List ℕ → Step → Type 0
IsLineFileStepOf text (step.Includes name) = store_line_reading_of text ≡ Includes name.now
IsLineFileStepOf text (step.Changes role) = role_in_line_file (store_line_reading_of text) ≡ Some role
