use Rattle.std.proofs.Common.{refl}
use Rattle.std.specs.Str.{is_utf8}
use Rattle.clap.proofs.OnLiterals.{clap_on_literals}
use Rattle.def_lines.specs.Lines.{line_content}
use Rattle.command_line.specs.Fields.{command_line_of}
use Rattle.command_line.specs.AcceptedWords.{are_command_words_accepted, are_command_words_parsed}
use Rattle.command_line.proofs.examples.refused_examples.Goals as goal

pub returns : goal.returns
unfolding clap_on_literals is_utf8 line_content command_line_of are_command_words_parsed are_command_words_accepted
returns c = record {
  digits_zero = refl;
  digits_beyond = refl;
  digits_below = refl;
  digits_empty = refl;
  trial_zero = refl;
  trial_beyond = refl;
  quiet_twice = refl;
  file_twice = refl;
  file_then_other = refl;
  file_absent = refl;
  flag_with_value = refl;
  name_in_part = refl;
  help = refl;
  help_letter = refl;
  version_refused = refl;
  version_letter = refl;
  three_operands = refl;
  check_of_from = refl;
  check_of_empty_from = refl;
  trial_of_from = refl;
  check_of_trial = refl;
  column_zero = refl;
  column_beyond = refl;
  column_without_to = refl;
  column_to_blank = refl;
  column_to_question = refl;
  column_of_check = refl;
  header_alone = refl;
  minus_first = refl;
  no_text = refl;
  no_text_behind = refl;
}
