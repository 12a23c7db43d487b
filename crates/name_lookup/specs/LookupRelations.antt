-- Relations that looking at keys preserves.

-- if `kept` relates a starting state to the state before, then it relates it to the state after, for each start
abbrev pub IsKeptByLookup : {A : Type 0} → (A → A → Type 0) → (before after : A) → Type 0
IsKeptByLookup {A} kept before after = (start : A) → kept start before → kept start after
