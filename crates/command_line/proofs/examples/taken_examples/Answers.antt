use Rattle.std.proofs.Common.{refl}
use Rattle.std.specs.Str.{is_utf8}
use Rattle.clap.proofs.OnLiterals.{clap_on_literals}
use Rattle.def_lines.specs.Lines.{line_content}
use Rattle.command_line.specs.Fields.{command_line_of}
use Rattle.command_line.specs.AcceptedWords.{are_command_words_accepted, are_command_words_parsed}
use Rattle.command_line.proofs.examples.taken_examples.Goals as goal

pub returns : goal.returns
unfolding clap_on_literals is_utf8 line_content command_line_of are_command_words_parsed are_command_words_accepted
returns c = record {
  no_words = (refl, refl);
  exact_file = (refl, refl);
  conversion_by_file = (refl, refl);
  letters_by_file = (refl, refl);
  definition_by_file = (refl, refl);
  check_of_file = (refl, refl);
  session_by_file = (refl, refl);
  letters_together = (refl, refl);
  digits_after_flags = (refl, refl);
  digits_after_equals = (refl, refl);
  digits_after_zero = (refl, refl);
  digits_after_plus = (refl, refl);
  trial_after_zeros = (refl, refl);
  trial_most = (refl, refl);
  checked_locale = (refl, refl);
  long_locale = (refl, refl);
  all_flags_of_a_reply = (refl, refl);
  minus_after_dashes = (refl, refl);
  dashes_after_dashes = (refl, refl);
  flag_after_from = (refl, refl);
  empty_from = (refl, refl);
  help_as_from = (refl, refl);
  column_with_header = (refl, refl);
  column_most = (refl, refl);
}
