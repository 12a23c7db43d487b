-- The readings of a word as a plural or with a prefix.
use Rattle.std.specs.Prelude.{ℕ, List, [], ◌∷◌, filter, map}
use Rattle.std.specs.List.{list_all}
use Rattle.def_entry.specs.Keys.{key}
use Rattle.def_entry.specs.Tables.{EntryTable, is_entry_present}
use Rattle.def_entry.specs.declared.key.Key.{Key}
use Rattle.def_entry.specs.declared.key.Kind.TheVariants as kind
use Rattle.name_lookup.specs.Candidates.{part_candidates}
use Rattle.value_sources.specs.declared.readings.reading.Reading.{Reading}
use Rattle.value_sources.specs.declared.readings.reading.Reading.TheVariants.{Unit, Prefix, PrefixedUnit}

-- the candidates whose keys all have an entry
abbrev pub readings_present : EntryTable → List (List Key) → List (List Key)
readings_present table candidates = filter (list_all (is_entry_present table)) candidates

-- the candidates of a word whose keys all have an entry, apart from the unit and the function with the word's own name;
-- if the word names a unit, that unit hides them
abbrev pub readings : EntryTable → List ℕ → List (List Key)
readings table word = readings_present table (part_candidates word)

-- the keys of one reading
abbrev pub reading_keys : Reading → List Key
reading_keys (Unit unit) = key kind.Unit unit ∷ []
reading_keys (Prefix prefix) = key kind.Prefix prefix ∷ []
reading_keys (PrefixedUnit prefix unit) = key kind.Prefix prefix ∷ key kind.Unit unit ∷ []

-- the keys of each of several readings
abbrev pub readings_keys : List Reading → List (List Key)
readings_keys found = map reading_keys found
