use Rattle.std.proofs.Common.{refl}
use Rattle.def_lines.specs.Examples.{LogicalLinesLaw, DirectiveListingsLaw, LineKindsLaw}
use Rattle.def_lines.specs.Kinds.{kind_of_line}
use Rattle.def_lines.specs.Words.{words_between_blanks}
use Rattle.def_lines.proofs.examples.examples_law.Goals as goal

lines : LogicalLinesLaw
lines = refl

kinds : LineKindsLaw
unfolding kind_of_line
kinds = refl

listings : DirectiveListingsLaw
unfolding words_between_blanks
listings = refl

pub returns : goal.returns
returns c = record { lines = lines; kinds = kinds; listed = listings }
