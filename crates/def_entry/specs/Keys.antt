-- Keys and their texts.
use Rattle.std.specs.Prelude.{◌≡◌, ◌≢◌, ◌↔◌, ◌==◌, ◌&&◌, ℕ, ◌-◌, Bool, true, if◌then◌else◌}
use Rattle.std.specs.Prelude.{List, ◌++◌, length, take, drop, slice_index, codes, Option, Some, None}
use Rattle.std.specs.Str.{bytes_eq}
use Rattle.expr_tree.specs.Names.{is_name, last_byte}
use Rattle.def_entry.specs.declared.key.Key.{Key}
use Rattle.def_entry.specs.declared.key.Kind.{Kind}
use Rattle.def_entry.specs.declared.key.Kind.TheVariants as kind
use Rattle.def_entry.specs.Marks.{entry_close_paren, entry_exclamation, entry_minus}

-- the key of this kind and this name
abbrev pub key : Kind → List ℕ → Key
key k w = record { kind = k; name = w }

-- the name of the key is valid
abbrev pub IsNamedEntryKey : Key → Type 0
IsNamedEntryKey k = is_name k.name ≡ true

-- the text of a key of this kind with this name
abbrev pub key_spelling : Kind → List ℕ → List ℕ
key_spelling kind.Unit w = w
key_spelling kind.Prefix w = w ++ codes "-"
key_spelling kind.Func w = w ++ codes "()"
key_spelling kind.List w = codes "!unitlist " ++ w

-- the text of a key
abbrev pub key_text : Key → List ℕ
key_text k = key_spelling k.kind k.name

-- the bytes are not the text of a key with a valid name
abbrev pub IsNoKeySpelling : List ℕ → Type 0
IsNoKeySpelling bytes = (k : Key) → IsNamedEntryKey k → key_text k ≢ bytes

-- the kind of key that the last and the first byte of a text indicate
abbrev pub kind_in_spelling : List ℕ → Kind
kind_in_spelling bytes =
    if last_byte bytes == entry_close_paren then kind.Func
    else (if last_byte bytes == entry_minus then kind.Prefix
    else (if slice_index bytes 0 == entry_exclamation then kind.List
    else kind.Unit))

-- the part of the text that is the name, if the text is that of a key of this kind
abbrev pub name_in_spelling : Kind → List ℕ → List ℕ
name_in_spelling kind.Unit bytes = bytes
name_in_spelling kind.Prefix bytes = take (length bytes - 1) bytes
name_in_spelling kind.Func bytes = take (length bytes - 2) bytes
name_in_spelling kind.List bytes = drop 10 bytes

-- the only key whose text the bytes can be
abbrev pub key_in_spelling : List ℕ → Key
key_in_spelling bytes = key (kind_in_spelling bytes) (name_in_spelling (kind_in_spelling bytes) bytes)

-- the key has a valid name, and the bytes are its text
abbrev pub is_spelling_of_key : List ℕ → Key → Bool
is_spelling_of_key bytes k = is_name k.name && bytes_eq (key_text k) bytes

-- the key whose text the bytes are, if there is one
unfoldable pub key_of_spelling : List ℕ → Option Key
key_of_spelling bytes = if is_spelling_of_key bytes (key_in_spelling bytes) then Some (key_in_spelling bytes) else None

-- law: bytes are read as a key if and only if it has a valid name and they are its text
abbrev pub KeyOfSpellingLaw : Type 0
KeyOfSpellingLaw = (bytes : List ℕ) (k : Key) → (key_of_spelling bytes ≡ Some k) ↔
    (IsNamedEntryKey k × (key_text k ≡ bytes))

-- law: keys with valid names are equal if their texts are equal
abbrev pub OneKeySpellingLaw : Type 0
OneKeySpellingLaw = (k l : Key) → IsNamedEntryKey k → IsNamedEntryKey l → key_text k ≡ key_text l → k ≡ l
