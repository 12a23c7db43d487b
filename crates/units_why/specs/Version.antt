-- The version of units-why.
use Rattle.std.specs.Prelude.{ℕ, List, codes}

-- the line with the name of the program and its version
abbrev pub why_version_text : List ℕ
why_version_text = codes "units-why 1.1.0\n"
