use Rattle.std.proofs.Common.{refl}
use Rattle.frac128.specs.Numerals.{greatest_whole_passing}
use Rattle.expr_tree.specs.Faults.{fault_from_lexemes}
use Rattle.expr_tree.specs.Lexemes.{lexemes_from, tokens_in}
use Rattle.expr_tree.proofs.laws.text_examples_law.Goals as goal

pub returns : goal.returns
unfolding greatest_whole_passing fault_from_lexemes lexemes_from tokens_in
returns c = (refl, refl, refl, refl, refl, refl, refl, refl, refl, refl, refl, refl, refl, refl, refl)
