-- Sequences of calls that each clear one node.
use Rattle.std.specs.Prelude.{◌↔◌, ℕ, List, [], ◌∷◌, map, slice_index, Contains}
use Rattle.edge_links.specs.WaitingStack.{AreLinkPlacesApart}

-- one call for each node of a list, from the last node to the first
pub data ClearsNodeMarks {M : Type 0} (IsCall : ℕ → M → M → Type 0) : List ℕ → M → M → Type 0 where
  no_call : {m : M} → ClearsNodeMarks IsCall [] m m
  one_more : {x : ℕ} {xs : List ℕ} {l m n : M} → ClearsNodeMarks IsCall xs l m → IsCall x m n
      → ClearsNodeMarks IsCall (x ∷ xs) l n

-- exactly one call for each affected node, in some order, and no other calls
pub record ClearsEachMarkOnce {M : Type 0} (IsCall : ℕ → M → M → Type 0) (Affected : ℕ → Type 0) (old new : M)
    : Type 0 where
  pub nodes : List ℕ
  pub apart : AreLinkPlacesApart nodes
  pub marks_affected : (x : ℕ) → Contains nodes x ↔ Affected x
  pub clears_by_calls : ClearsNodeMarks IsCall nodes old new

-- exactly one call for the name of each affected place, in some order, and no other calls
pub record ClearsPlaceMarksOnce {M : Type 0} (IsCall : ℕ → M → M → Type 0) (names : List ℕ) (Affected : ℕ → Type 0)
    (old new : M) : Type 0 where
  pub places : List ℕ
  pub apart : AreLinkPlacesApart places
  pub marks_affected : (x : ℕ) → Contains places x ↔ Affected x
  pub clears_by_calls : ClearsNodeMarks IsCall (map (slice_index names) places) old new
