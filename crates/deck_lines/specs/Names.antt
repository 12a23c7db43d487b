-- The keys that have a number, by kind.
use Rattle.std.specs.Prelude.{◌≡◌, ◌++◌, ℕ, List, [], ◌∷◌, Bool, if◌then◌else◌, Option, Some, option_map, slice_get}
use Rattle.std.specs.List.{list_any}
use Rattle.std.specs.Str.{bytes_eq}
use Rattle.def_entry.specs.declared.key.Key.{Key}
use Rattle.def_entry.specs.declared.key.Kind.{Kind}
use Rattle.def_entry.specs.declared.key.Kind.TheVariants as kind
use Rattle.def_entry.specs.Keys.{key}
use Rattle.deck_lines.specs.declared.key_number.KeyNumber.{KeyNumber}

-- the names of each kind; the place of a name is its number
pub record KeyNumberNames : Type 0 where
  pub units : List (List ℕ)
  pub prefixes : List (List ℕ)
  pub functions : List (List ℕ)
  pub lists : List (List ℕ)

abbrev pub no_key_number_names : KeyNumberNames
no_key_number_names = record { units = []; prefixes = []; functions = []; lists = [] }

abbrev pub key_number_names_of_kind : KeyNumberNames → Kind → List (List ℕ)
key_number_names_of_kind names kind.Unit = names.units
key_number_names_of_kind names kind.Prefix = names.prefixes
key_number_names_of_kind names kind.Func = names.functions
key_number_names_of_kind names kind.List = names.lists

-- the key that has this number
abbrev pub key_numbered : KeyNumberNames → KeyNumber → Option Key
key_numbered names n = option_map (key n.kind) (slice_get (key_number_names_of_kind names n.kind) n.number)

-- no key has two numbers
abbrev pub AreKeyNumbersOneToOne : KeyNumberNames → Type 0
AreKeyNumbersOneToOne names = (m n : KeyNumber) (k : Key) → key_numbered names m ≡ Some k
    → key_numbered names n ≡ Some k → m ≡ n

-- each key with a number in the first has the same number in the second
abbrev pub AreKeyNumbersExtended : KeyNumberNames → KeyNumberNames → Type 0
AreKeyNumbersExtended names more = (n : KeyNumber) (k : Key) → key_numbered names n ≡ Some k
    → key_numbered more n ≡ Some k

-- the key has a number
abbrev pub is_key_numbered : KeyNumberNames → Key → Bool
is_key_numbered names k = list_any (bytes_eq k.name) (key_number_names_of_kind names k.kind)

-- names with one more appended, unless it is already among them
abbrev pub key_number_names_with_name : List ℕ → List (List ℕ) → List (List ℕ)
key_number_names_with_name name names = if list_any (bytes_eq name) names then names else names ++ name ∷ []

-- names with those of one kind replaced
abbrev pub key_number_names_with_kind : KeyNumberNames → Kind → List (List ℕ) → KeyNumberNames
key_number_names_with_kind names kind.Unit these = record names { units = these }
key_number_names_with_kind names kind.Prefix these = record names { prefixes = these }
key_number_names_with_kind names kind.Func these = record names { functions = these }
key_number_names_with_kind names kind.List these = record names { lists = these }

-- names with a number for this key: its own if it has one, or else the next number of its kind
abbrev pub key_numbers_with_key : KeyNumberNames → Key → KeyNumberNames
key_numbers_with_key names k = key_number_names_with_kind names k.kind
    (key_number_names_with_name k.name (key_number_names_of_kind names k.kind))
