-- The meaning of the text of a target.
use Rattle.std.specs.Prelude.{ℕ, List, [], map, Option, Some, None, if◌then◌else◌}
use Rattle.std.specs.List.{list_any, slice_split}
use Rattle.def_entry.specs.declared.key.Kind.TheVariants as kind
use Rattle.def_entry.specs.Entries.{Entry}
use Rattle.def_entry.specs.Keys.{key}
use Rattle.def_entry.specs.EntryReading.{is_entry_semicolon}
use Rattle.def_entry.specs.Tables.{EntryTable, entry_at, is_entry_present}
use Rattle.def_lines.specs.Blanks.{trimmed_of_blanks}
use Rattle.reply.specs.declared.target.Target.{Target}
use Rattle.reply.specs.declared.target.Target.TheVariants.{Function, Parts, Unit}

-- the parts of the text of a list, separated by `;` and trimmed
abbrev pub conversion_target_parts : List ℕ → List (List ℕ)
conversion_target_parts text = map trimmed_of_blanks (slice_split is_entry_semicolon text)

-- the parts of the text after a `;`, if there is one
abbrev pub conversion_target_parts_after_cut : Option (List ℕ) → List (List ℕ)
conversion_target_parts_after_cut None = []
conversion_target_parts_after_cut (Some text) = conversion_target_parts text

-- the text of the list with this name, if there is one, or else the text itself, if it contains a `;`
abbrev pub conversion_target_parts_or_unit : Option Entry → List ℕ → Target
conversion_target_parts_or_unit (Some list) to = Parts list.text
conversion_target_parts_or_unit None to = if list_any is_entry_semicolon to then Parts to else Unit

-- the name of a function, even if it is also that of a list or a unit; the name of a list; a text with a `;`; any other
-- text
abbrev pub conversion_target : EntryTable → List ℕ → Target
conversion_target table to =
    if is_entry_present table (key kind.Func to)
    then Function
    else conversion_target_parts_or_unit (entry_at table (key kind.List to)) to
