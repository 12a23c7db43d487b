-- The keys that a word refers to, among those that were looked at.
use Rattle.std.specs.Prelude.{◌≡◌, ◌++◌, ◌-◌, ℕ, Bool, true, false, List, length, drop}
use Rattle.def_entry.specs.declared.key.Key.{Key}
use Rattle.name_lookup.specs.declared.targets.Targets.{Targets}
use Rattle.name_lookup.specs.declared.targets.Targets.TheVariants.{Nowhere, Last, LastTwo}
use Rattle.name_lookup.specs.Candidates.{LookupResult}

-- there is at least one target
abbrev pub are_some : Targets → Bool
are_some Nowhere = false
are_some _ = true

-- the number of targets
abbrev pub lookup_target_count : Targets → ℕ
lookup_target_count Nowhere = 0
lookup_target_count Last = 1
lookup_target_count LastTwo = 2

-- the last n keys
abbrev pub last_lookup_keys : ℕ → List Key → List Key
last_lookup_keys n keys = drop (length keys - n) keys

-- the keys that a lookup looked at were appended to the earlier ones, and its targets are the last `lookup_target_count
-- which` keys
pub record AreLookupTargetsFound (which : Targets) (before after : List Key) (found : LookupResult) : Type 0 where
  pub looks_appended : after ≡ before ++ found.keys_looked_at
  pub targets : found.targets ≡ last_lookup_keys (lookup_target_count which) found.keys_looked_at
  pub many : length found.targets ≡ lookup_target_count which
