use Rattle.session.specs.HeardLines.{heard_lines}
use Rattle.session.specs.Input.{input_lines}
use Rattle.units_run.specs.Work.{plan_of}
use Rattle.units_run.proofs.UnneededFiles.{plan_is_the_same_over_all_files, plan_without_input_is_whole}
use Rattle.units_run.proofs.UnneededFiles.{whole_plan_ignores_input}
use Rattle.units_run.proofs.laws.need_laws.Goals as goal

pub returns : goal.returns
returns c = record {
  any_files = plan_is_the_same_over_all_files;
  no_input = plan_without_input_is_whole;
  any_input = λ words vars files input other none.
      whole_plan_ignores_input (plan_of words vars files) files input other (heard_lines (input_lines input))
      (heard_lines (input_lines other))
      (plan_without_input_is_whole words vars files none);
}
