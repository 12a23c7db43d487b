use Rattle.std.proofs.Common.{refl}
use Rattle.def_lines.specs.Kinds.{kind_of_line}
use Rattle.def_lines.specs.Words.{words_between_blanks}
use Rattle.deck.specs.Active.{deck_surroundings_after_line}
use Rattle.definition_checks.specs.LocaleBlocks.{LocaleBlockExamples}
use Rattle.definition_checks.proofs.laws.locale_block_examples.Goals as goal

examples : LocaleBlockExamples
unfolding kind_of_line words_between_blanks deck_surroundings_after_line
examples = record {
  own_locale = refl;
  beginning_of_locale = refl;
  locale_is_beginning = refl;
  all_but_last_letter = refl;
  end_of_locale = refl;
  lower_case = refl;
  upper_case = refl;
  upper_case_locale = refl;
  no_locale = refl;
}

pub returns : goal.returns
returns c = examples
