-- The keys that the lookup of a word tries, each with the range of its name among the names.
use Rattle.std.specs.Prelude.{◌≡◌, ◌≤◌, ◌-◌, ℕ, List, Some, length, map, take, drop, slice_get}
use Rattle.def_entry.specs.Keys.{key}
use Rattle.def_entry.specs.declared.key.Key.{Key}
use Rattle.live_table.specs.declared.tried_keys.TriedKey.{TriedKey}

-- the key whose name is at its range among the names
abbrev pub node_key_of_range : (names : List ℕ) → TriedKey → Key
node_key_of_range names tried = key tried.kind (take (tried.end - tried.start) (drop tried.start names))

abbrev pub node_keys_of_ranges : (names : List ℕ) → List TriedKey → List Key
node_keys_of_ranges names tried = map (node_key_of_range names) tried

-- each range is within the names
pub record AreNodeKeyRangesWithin (names : List ℕ) (tried : List TriedKey) : Type 0 where
  pub starts_within : (i : ℕ) (k : TriedKey) → slice_get tried i ≡ Some k → k.start ≤ k.end
  pub ends_within : (i : ℕ) (k : TriedKey) → slice_get tried i ≡ Some k → k.end ≤ length names
