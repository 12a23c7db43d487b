use Rattle.std.proofs.Common.{[], refl}
use Rattle.units_run.proofs.FileRuns.{run_by_file, run_example_check_finds_faults, run_example_check_finds_none}
use Rattle.units_run.proofs.FileRuns.{run_example_converts, run_example_has_bad_definition, run_example_refuses}
use Rattle.units_run.proofs.FileRuns.{run_example_session_talks}
use Rattle.units_run.proofs.laws.file_examples.Goals as goal

pub returns : goal.returns
returns c =
    let taken = c.taken_examples.ensures in
    let law = c.grant_examples_law.ensures in
    let keys = c.key_lists_are_one.ensures in
    record {
      two_conversions = run_by_file _ _ _ [] _ _ _ taken.conversion_by_file refl refl (run_example_converts law);
      unlike = run_by_file _ _ _ [] _ _ _ taken.letters_by_file refl refl (run_example_refuses law);
      two_definitions = run_by_file _ _ _ [] _ _ _ taken.definition_by_file refl refl run_example_has_bad_definition;
      two_checks = run_by_file _ _ _ [] _ _ _ taken.check_of_file refl refl (run_example_check_finds_faults keys);
      sound_check = run_by_file _ _ _ [] _ _ _ taken.check_of_file refl refl (run_example_check_finds_none keys);
      session_run = run_by_file _ _ _ _ _ _ _ taken.session_by_file refl refl run_example_session_talks;
    }
