use Rattle.std.proofs.Common.{refl}
use Rattle.frac128.specs.Numerals.{greatest_whole_passing}
use Rattle.expr_tree.specs.Faults.{fault_from_lexemes}
use Rattle.expr_tree.specs.Lexemes.{lexemes_from, tokens_in}
use Rattle.expr_tree.specs.ParseResult.{parse_of}
use Rattle.expr_tree.specs.TokenReading.{tree_of_token_list}
use Rattle.def_lines.specs.Kinds.{kind_of_line}
use Rattle.def_lines.specs.Words.{words_between_blanks}
use Rattle.def_entry.specs.Headings.{heading_of_line}
use Rattle.def_entry.specs.EntryReading.{what_of}
use Rattle.deck_lines.specs.Limits.{pass_store_limit}
use Rattle.deck_lines.specs.Readings.{entry_in_store_line, store_line_reading_of}
use Rattle.deck.specs.Active.{deck_surroundings_after_line}
use Rattle.deck.specs.Examples.{DeckExamplesLaw}
use Rattle.deck.specs.Tables.{active_definitions}
use Rattle.deck.proofs.laws.examples_law.Goals as goal

examples : DeckExamplesLaw
unfolding active_definitions entry_in_store_line store_line_reading_of deck_surroundings_after_line pass_store_limit
    kind_of_line words_between_blanks heading_of_line what_of parse_of
    tree_of_token_list
    fault_from_lexemes lexemes_from tokens_in greatest_whole_passing
examples = record {
  active_in_us = refl;
  active_in_gb = refl;
  neither = refl;
  last_place_us = refl;
  last_place_of_small = refl;
  no_last_place = refl;
  no_place_of_refused_line = refl;
  defined_line = refl;
  unread = refl;
  directive = refl;
  g_after_drop = refl;
  no_such_definition = refl;
  after_switch = refl;
  unchanged_keys = refl;
}

pub returns : goal.returns
returns c = examples
