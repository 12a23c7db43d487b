-- Equality of keys and kinds.
use Rattle.std.proofs.Common.{◌≡◌, true, [], refl, ap}
use Rattle.std.proofs.lemmas.Bool.{and_from, and_parts}
use Rattle.def_entry.specs.declared.key.Key.{Key}
use Rattle.def_entry.specs.declared.key.Kind.{Kind}
use Rattle.def_entry.specs.Keys.{key}
use Rattle.def_entry.specs.SameKeys.{is_same_key_kind}
use Rattle.def_entry.proofs.SameKeys.{same_entry_keys}

-- a kind is the same as itself
pub deck_kind_is_same_as_itself : (k : Kind) → is_same_key_kind k k ≡ true
deck_kind_is_same_as_itself k = (and_parts _ _ ((same_entry_keys (key k []) (key k [])).1 refl)).0

-- kinds that are found to be the same are equal
pub same_deck_kinds_are_equal : (a b : Kind) → is_same_key_kind a b ≡ true → a ≡ b
same_deck_kinds_are_equal a b e = ap (λ (k : Key). k.kind)
    ((same_entry_keys (key a []) (key b [])).0 (and_from (is_same_key_kind a b) true e refl))
