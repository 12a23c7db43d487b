use Rattle.std.proofs.Common.{Some, true, codes, refl, sym, ap, ◌∙◌}
use Rattle.command_line.specs.Examples.{empty_command_line}
use Rattle.command_line.specs.declared.fields.CommandLine.{CommandLine}
use Rattle.session.specs.HeardLines.{heard_lines}
use Rattle.session.specs.Input.{input_lines}
use Rattle.units_run.specs.Calls.{run_over}
use Rattle.units_run.specs.Options.{run_options}
use Rattle.units_run.specs.Plans.{Plan}
use Rattle.units_run.specs.Settings.{run_settings}
use Rattle.units_run.proofs.WordNeeds.{plan_for_absent_file, run_input_limit_of_command_line, run_needs_of_command_line}
use Rattle.units_run.proofs.WordNeeds.{run_needs_of_invalid_words}
use Rattle.units_run.proofs.WordPlans.{plan_of_invalid_words, plan_of_valid_words}
use Rattle.units_run.proofs.laws.run_examples.Goals as goal

pub returns : goal.returns
unfolding run_options
returns c =
    let taken = c.taken_examples.ensures in
    let refused = c.refused_examples.ensures in
    let by_file = taken.exact_file in
    let line : CommandLine = record empty_command_line {
      exact = true;
      file = Some (codes "first.units");
      from = Some (codes "yd");
      to = Some (codes "m");
    } in
    record {
      session_needs = run_needs_of_command_line _ _ taken.no_words;
      column = run_needs_of_command_line _ _ taken.column_with_header;
      reply = run_needs_of_command_line _ _ taken.flag_after_from;
      reply_by_file = run_needs_of_command_line _ _ by_file;
      check = run_needs_of_command_line _ _ taken.checked_locale;
      trial = run_needs_of_command_line _ _ taken.trial_after_zeros;
      untaken = run_needs_of_invalid_words _ refused.digits_zero;
      session_input = run_input_limit_of_command_line _ _ taken.no_words;
      column_input = run_input_limit_of_command_line _ _ taken.column_with_header;
      usage = λ vars files input.
          ap (λ (plan : Plan). run_over plan files input (heard_lines (input_lines input)))
          (sym (plan_of_invalid_words _ vars files refused.digits_zero));
      absent_file = λ vars files input absent.
          ap (λ (plan : Plan). run_over plan files input (heard_lines (input_lines input)))
          (sym (plan_of_valid_words _ vars files line by_file.0 (sym by_file.1))
          ∙ plan_for_absent_file line (codes "first.units") (run_settings line vars) files absent);
      no_options = refl;
      terse_verbose = refl;
    }
