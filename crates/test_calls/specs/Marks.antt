-- Marks on nodes, by number.
use Rattle.std.specs.Prelude.{ℕ, Bool, false, List, slice_index_or}

-- whether a node is marked
abbrev pub has_mark : List Bool → ℕ → Bool
has_mark marks node = slice_index_or marks node false
