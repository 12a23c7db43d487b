use Rattle.std.proofs.Common.{refl}
use Rattle.def_lines.specs.Kinds.{kind_of_line}
use Rattle.expr_tree.specs.Faults.{fault_from_lexemes}
use Rattle.expr_tree.specs.Lexemes.{lexemes_from, tokens_in}
use Rattle.expr_tree.specs.ParseResult.{parse_of}
use Rattle.expr_tree.specs.TokenReading.{tree_of_token_list}
use Rattle.frac128.specs.Numerals.{greatest_whole_passing}
use Rattle.def_entry.specs.Headings.{heading_of_line}
use Rattle.def_entry.specs.EntryReading.{what_of}
use Rattle.deck_lines.specs.Readings.{entry_in_store_line, store_line_reading_of}
use Rattle.deck.specs.Active.{deck_surroundings_after_line}
use Rattle.deck_save.specs.SavedText.{saved_text}
use Rattle.definition_checks.specs.ShadowedLines.{ShadowedLineExamples}
use Rattle.definition_checks.proofs.laws.shadowed_line_examples.Goals as goal

examples : ShadowedLineExamples
unfolding kind_of_line fault_from_lexemes lexemes_from tokens_in parse_of tree_of_token_list greatest_whole_passing
    heading_of_line what_of entry_in_store_line store_line_reading_of deck_surroundings_after_line saved_text
examples = record {
  saved_lines_of_one_name = refl;
}

pub returns : goal.returns
returns c = examples
