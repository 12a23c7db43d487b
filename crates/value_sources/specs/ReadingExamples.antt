-- The readings of some words, determined by hand.
use Rattle.std.specs.Prelude.{◌≡◌, ℕ, List, [], ◌∷◌, codes}
use Rattle.def_entry.specs.Entries.{Primitive}
use Rattle.def_entry.specs.Keys.{key}
use Rattle.def_entry.specs.Tables.{EntryTable}
use Rattle.def_entry.specs.declared.key.Key.{Key}
use Rattle.def_entry.specs.declared.key.Kind.TheVariants as kind
use Rattle.value_sources.specs.Readings.{readings}

abbrev pub reading_unit : List ℕ → Key
reading_unit name = key kind.Unit name

abbrev pub reading_prefix : List ℕ → Key
reading_prefix name = key kind.Prefix name

-- a table in which each of these keys has an entry
abbrev pub present_reading_table : List Key → EntryTable
present_reading_table [] = []
present_reading_table (k ∷ keys) = (k, record { text = codes "!"; what = Primitive }) ∷ present_reading_table keys

-- the keys of candelas, days, ares and arcseconds, and of the prefixes c, d and da
abbrev pub reading_example_table : EntryTable
reading_example_table = present_reading_table
    (reading_unit (codes "cd") ∷ reading_unit (codes "d") ∷ reading_unit (codes "da") ∷ reading_unit
    (codes "as") ∷ reading_prefix (codes "c")
    ∷ reading_prefix (codes "d") ∷ reading_prefix (codes "da") ∷ [])

pub record ReadingExamplesLaw : Type 0 where
  -- the candela hides the centiday
  pub hidden : readings reading_example_table
      (codes "cd") ≡ (reading_prefix (codes "c") ∷ reading_unit (codes "d") ∷ []) ∷ []
  -- a word with readings as a plural, of a unit or of a prefix, and as a prefix with a unit
  pub two : readings reading_example_table (codes "das")
      ≡ (reading_unit (codes "da") ∷ []) ∷ (reading_prefix (codes "da") ∷ []) ∷
      (reading_prefix (codes "d") ∷ reading_unit (codes "as") ∷ []) ∷ []
  -- a name without readings, which hides nothing
  pub no_readings : readings reading_example_table (codes "as") ≡ []
