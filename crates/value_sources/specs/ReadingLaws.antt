-- Lookup finds the first reading of a word.
use Rattle.std.specs.Prelude.{◌≡◌, ℕ, List, [], ◌∷◌, false}
use Rattle.expr_tree.specs.declared.word_list.WordKind.TheVariants.{Plain}
use Rattle.def_entry.specs.Keys.{key}
use Rattle.def_entry.specs.Tables.{EntryTable, is_entry_present}
use Rattle.def_entry.specs.declared.key.Key.{Key}
use Rattle.def_entry.specs.declared.key.Kind.TheVariants as kind
use Rattle.name_lookup.specs.Candidates.{candidates, first_present}
use Rattle.value_sources.specs.Readings.{readings}

-- the keys of the first of some readings, or no key if there is none
abbrev pub first_reading : List (List Key) → List Key
first_reading [] = []
first_reading (keys ∷ others) = keys

-- law: lookup of a word that names no unit and no function finds its first reading
abbrev pub FirstReadingLaw : Type 0
FirstReadingLaw = (table : EntryTable) (word : List ℕ) → is_entry_present table (key kind.Unit word) ≡ false
    → is_entry_present table (key kind.Func word) ≡ false
    → first_present (is_entry_present table) (candidates Plain word) ≡ first_reading (readings table word)
