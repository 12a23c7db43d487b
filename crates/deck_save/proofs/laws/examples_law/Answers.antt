use Rattle.std.proofs.Common.{refl}
use Rattle.def_lines.specs.Kinds.{kind_of_line}
use Rattle.expr_tree.specs.Faults.{fault_from_lexemes}
use Rattle.expr_tree.specs.Lexemes.{lexemes_from, tokens_in}
use Rattle.expr_tree.specs.ParseResult.{parse_of}
use Rattle.expr_tree.specs.TokenReading.{tree_of_token_list}
use Rattle.frac128.specs.Numerals.{greatest_whole_passing}
use Rattle.def_entry.specs.Headings.{heading_of_line}
use Rattle.def_entry.specs.EntryReading.{what_of}
use Rattle.deck_lines.specs.Readings.{entry_in_store_line, store_line_reading_of}
use Rattle.deck.specs.Active.{deck_surroundings_after_line}
use Rattle.deck_save.specs.Examples.{SaveExamplesLaw}
use Rattle.deck_save.specs.SavedText.{saved_text}
use Rattle.deck_save.proofs.laws.examples_law.Goals as goal

examples : SaveExamplesLaw
unfolding saved_text entry_in_store_line store_line_reading_of deck_surroundings_after_line kind_of_line heading_of_line
    what_of parse_of tree_of_token_list fault_from_lexemes
    lexemes_from tokens_in
    greatest_whole_passing
examples = (refl, refl, refl, refl, refl)

pub returns : goal.returns
returns c = examples
