use Rattle.std.proofs.Common.{refl}
use Rattle.std.specs.Str.{is_utf8}
use Rattle.clap.proofs.OnLiterals.{clap_on_literals}
use Rattle.def_lines.specs.Lines.{line_content}
use Rattle.command_line.specs.Fields.{command_line_of}
use Rattle.command_line.specs.AcceptedWords.{are_command_words_accepted, are_command_words_parsed}
use Rattle.command_line.proofs.examples.single_option_examples.Goals as goal

pub returns : goal.returns
unfolding clap_on_literals is_utf8 line_content command_line_of are_command_words_parsed are_command_words_accepted
returns c = record {
  one_line_by_letter = (refl, refl);
  terse_by_letter = (refl, refl);
  quiet_by_letter = (refl, refl);
  strict_by_letter = (refl, refl);
  round_by_letter = (refl, refl);
  verbose_by_letter = (refl, refl);
  check_by_letter = (refl, refl);
  exact_by_name = (refl, refl);
  one_line_by_name = (refl, refl);
  compact_by_name = (refl, refl);
  terse_by_name = (refl, refl);
  quiet_by_name = (refl, refl);
  strict_by_name = (refl, refl);
  round_by_name = (refl, refl);
  verbose_by_name = (refl, refl);
  check_by_name = (refl, refl);
  locale_by_letter = (refl, refl);
  file_by_letter = (refl, refl);
  file_by_name = (refl, refl);
}
