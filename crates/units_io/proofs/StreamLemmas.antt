-- The contents of a writer, or the bytes noted if these are not known.
use Rattle.std.proofs.Common.{◌≡◌, ◌++◌, ℕ, List, refl, Some, None}
use Rattle.std.specs.Option.{unwrap_or}
use Rattle.std.specs.declared.option.Option.{Option}
use Rattle.units_io.specs.Bytes.{sink_bytes_append}

-- both grow by the same bytes
pub noted_bytes_append : (held : Option (List ℕ)) (noted bytes : List ℕ)
    → unwrap_or (sink_bytes_append held bytes) (noted ++ bytes) ≡ unwrap_or held noted ++ bytes
noted_bytes_append None noted bytes = refl
noted_bytes_append (Some contents) noted bytes = refl
