-- The first candidate whose keys are all present.
use Rattle.std.proofs.Common.{◌≡◌, ◌∷◌, [], List, Bool, true, false, refl, if◌then◌else◌, ap}
use Rattle.std.specs.List.{list_all}
use Rattle.def_entry.specs.Tables.{EntryTable, is_entry_present}
use Rattle.def_entry.specs.declared.key.Key.{Key}
use Rattle.name_lookup.specs.Candidates.{first_present}
use Rattle.value_sources.specs.ReadingLaws.{first_reading}
use Rattle.value_sources.specs.Readings.{readings_present}

first_reading_by_test : (b : Bool) (c rest : List Key) (others : List (List Key)) → rest ≡ first_reading others
    → (if b then c else rest) ≡ first_reading (if b then c ∷ others else others)
first_reading_by_test true c rest others e = refl
first_reading_by_test false c rest others e = e

-- `first_present` is the first of the present candidates
pub first_reading_of_present : (table : EntryTable) (cs : List (List Key))
    → first_present (is_entry_present table) cs ≡ first_reading (readings_present table cs)
first_reading_of_present table [] = refl
first_reading_of_present table (c ∷ cs) =
    first_reading_by_test (list_all (is_entry_present table) c) c (first_present (is_entry_present table) cs)
    (readings_present table cs)
    (first_reading_of_present table cs)

-- `first_present` skips a candidate whose only key is absent
pub absent_reading_is_passed : (table : EntryTable) (k : Key) (cs : List (List Key)) → is_entry_present table k ≡ false
    → first_present (is_entry_present table) ((k ∷ []) ∷ cs) ≡ first_present (is_entry_present table) cs
absent_reading_is_passed table k cs absent =
    ap (λ b. if list_all (λ (x : Bool). x) (b ∷ []) then k ∷ [] else first_present (is_entry_present table) cs) absent
