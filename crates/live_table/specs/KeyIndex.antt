-- The contents of an index of keys.
use Rattle.smallvec.specs.SmallVec.{SmallVec}
use Rattle.std.specs.Prelude.{◌≡◌, ◌≤◌, ◌++◌, ◌∷◌, ℕ, Bool, false, List, [], map, length, Some, MatchBool, slice_get}
use Rattle.def_entry.specs.declared.key.Key.{Key}
use Rattle.def_entry.specs.declared.key.Kind.TheVariants as kind
use Rattle.def_entry.specs.KeyOrder.{key_order_number, kind_at_key_order}
use Rattle.def_entry.specs.Keys.{key}
use Rattle.def_entry.specs.SameKeys.{is_entry_key_among}

-- a key in the form of bytes: the number of its kind, then its name
abbrev pub node_key_bytes : Key → List ℕ
node_key_bytes k = key_order_number k.kind ∷ k.name

-- the key that these bytes encode
abbrev pub decoded_node_key : List ℕ → Key
decoded_node_key [] = key kind.Unit []
decoded_node_key (byte ∷ name) = key (kind_at_key_order byte) name

-- the keys, in the order of their numbers
abbrev pub decoded_node_keys : List (SmallVec ℕ) → List Key
decoded_node_keys held = map (λ bytes. decoded_node_key bytes.items) held

-- the bytes encode a key, and take no more than this room
abbrev pub IsStoredNodeKey : ℕ → SmallVec ℕ → Type 0
IsStoredNodeKey room bytes = (node_key_bytes (decoded_node_key bytes.items) ≡ bytes.items) × (length bytes.items ≤ room)

-- a key has a number, the next one if it had none
pub record IsNodeKeyAdded (k : Key) (old new : List Key) (n : ℕ) (is_new : Bool) : Type 0 where
  pub number : slice_get new n ≡ Some k
  pub keys : MatchBool is_new ((is_entry_key_among old k ≡ false) × (new ≡ old ++ k ∷ [])) (new ≡ old)
