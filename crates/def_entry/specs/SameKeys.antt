-- Equality of keys.
use Rattle.std.specs.Prelude.{◌≡◌, ◌↔◌, ◌&&◌, Bool, true, false, List}
use Rattle.std.specs.List.{list_any}
use Rattle.std.specs.Str.{bytes_eq}
use Rattle.def_entry.specs.declared.key.Key.{Key}
use Rattle.def_entry.specs.declared.key.Kind.{Kind}
use Rattle.def_entry.specs.declared.key.Kind.TheVariants as kind

abbrev pub is_same_key_kind : Kind → Kind → Bool
is_same_key_kind kind.Unit kind.Unit = true
is_same_key_kind kind.Prefix kind.Prefix = true
is_same_key_kind kind.Func kind.Func = true
is_same_key_kind kind.List kind.List = true
is_same_key_kind _ _ = false

-- the keys have the same kind and the same name
abbrev pub is_same_entry_key : Key → Key → Bool
is_same_entry_key a b = is_same_key_kind a.kind b.kind && bytes_eq a.name b.name

-- the key is one of these
abbrev pub is_entry_key_among : List Key → Key → Bool
is_entry_key_among keys k = list_any (is_same_entry_key k) keys

-- law: keys of the same kind and the same name are equal
abbrev pub SameEntryKeysLaw : Type 0
SameEntryKeysLaw = (a b : Key) → (is_same_entry_key a b ≡ true) ↔ (a ≡ b)
