-- The bytes that a source gives and a sink takes, if they are known.
use Rattle.std.specs.Prelude.{◌≡◌, ◌≤◌, ◌++◌, ℕ, List, [], length, take, ⊤, Some, None}
use Rattle.std.specs.declared.option.Option.{Option}

-- a known list of bytes starts with the bytes taken and loses them
abbrev pub LosesSourceBytes : Option (List ℕ) → Option (List ℕ) → List ℕ → Type 0
LosesSourceBytes None new bytes = new ≡ None
LosesSourceBytes (Some left) new bytes = (rest : List ℕ) × (new ≡ Some rest) × (left ≡ bytes ++ rest)

-- a known list of bytes with these bytes appended
abbrev pub sink_bytes_append : Option (List ℕ) → List ℕ → Option (List ℕ)
sink_bytes_append None bytes = None
sink_bytes_append (Some held) bytes = Some (held ++ bytes)

-- a known list has grown by a prefix of these bytes
abbrev pub SinkGrowsByPrefix : Option (List ℕ) → Option (List ℕ) → List ℕ → Type 0
SinkGrowsByPrefix old new bytes = (n : ℕ) × (n ≤ length bytes) × (new ≡ sink_bytes_append old (take n bytes))

-- no byte is left, if the bytes left are known
abbrev pub IsNoSourceByteLeft : Option (List ℕ) → Type 0
IsNoSourceByteLeft None = ⊤
IsNoSourceByteLeft (Some left) = left ≡ []
