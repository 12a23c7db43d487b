-- The views of the sets of names, by kind.
use Rattle.std.specs.Prelude.{ℕ}
use Rattle.def_entry.specs.declared.key.Kind.{Kind}
use Rattle.def_entry.specs.declared.key.Kind.TheVariants as kind
use Rattle.deck_lines.specs.Names.{KeyNumberNames}
use Rattle.deck_lines.specs.declared.store.key_numbers.KeyNumbers.{KeyNumbers}

abbrev pub key_number_names_in : KeyNumbers → KeyNumberNames
key_number_names_in keys = record {
  units = keys.units.names;
  prefixes = keys.prefixes.names;
  functions = keys.functions.names;
  lists = keys.lists.names;
}

-- the number of names of a kind that can be added without an allocation
abbrev pub spare_key_numbers_of_kind : KeyNumbers → Kind → ℕ
spare_key_numbers_of_kind keys kind.Unit = keys.units.spare_names
spare_key_numbers_of_kind keys kind.Prefix = keys.prefixes.spare_names
spare_key_numbers_of_kind keys kind.Func = keys.functions.spare_names
spare_key_numbers_of_kind keys kind.List = keys.lists.spare_names
