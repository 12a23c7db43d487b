use Rattle.std.proofs.Common.{refl}
use Rattle.def_lines.specs.Kinds.{kind_of_line}
use Rattle.def_lines.specs.Words.{words_between_blanks}
use Rattle.deck.specs.Active.{deck_surroundings_after_line}
use Rattle.deck.specs.BlockExamples.{EnclosingExamplesLaw}
use Rattle.deck.proofs.laws.block_examples_law.Goals as goal

examples : EnclosingExamplesLaw
unfolding deck_surroundings_after_line kind_of_line words_between_blanks
examples = record {
  not_big = refl;
  is_big = refl;
  inner = refl;
  outer = refl;
  set_first = refl;
  set_outside = refl;
  utf8 = refl;
  active_marked_line = refl;
}

pub returns : goal.returns
returns c = examples
