use Rattle.std.proofs.Common.{◌∙◌, ◌∷◌, []}
use Rattle.def_entry.specs.Keys.{key}
use Rattle.def_entry.specs.declared.key.Kind.TheVariants as kind
use Rattle.name_lookup.specs.Candidates.{part_candidates}
use Rattle.value_sources.proofs.FirstReading.{absent_reading_is_passed, first_reading_of_present}
use Rattle.value_sources.proofs.readings.laws.first_reading_law.Goals as goal

pub returns : goal.returns
returns c table word no_unit no_function =
    absent_reading_is_passed table (key kind.Unit word) ((key kind.Func word ∷ []) ∷ part_candidates word) no_unit
    ∙ (absent_reading_is_passed table (key kind.Func word) (part_candidates word) no_function
    ∙ first_reading_of_present table (part_candidates word))
