use Rattle.std.proofs.Common.{refl}
use Rattle.std.specs.Fmt.{digits}
use Rattle.def_lines.specs.Kinds.{kind_of_line}
use Rattle.def_entry.specs.Headings.{heading_of_line}
use Rattle.def_entry.specs.EntryReading.{what_of}
use Rattle.expr_tree.specs.Faults.{fault_from_lexemes}
use Rattle.expr_tree.specs.Lexemes.{lexemes_from, tokens_in}
use Rattle.expr_tree.specs.ParseResult.{parse_of}
use Rattle.expr_tree.specs.TokenReading.{tree_of_token_list}
use Rattle.frac128.specs.Numerals.{greatest_whole_passing}
use Rattle.deck_lines.specs.Limits.{pass_store_limit}
use Rattle.deck_lines.specs.LineLoads.{load_below, load_of_rest}
use Rattle.deck_lines.specs.Readings.{store_line_reading_of}
use Rattle.deck_lines.specs.TranscriptExamples.{TranscriptExamplesLaw}
use Rattle.deck_lines.proofs.laws.transcript_examples_law.Goals as goal

examples : TranscriptExamplesLaw
unfolding load_of_rest load_below pass_store_limit store_line_reading_of kind_of_line heading_of_line what_of parse_of
    tree_of_token_list fault_from_lexemes
    lexemes_from
    tokens_in greatest_whole_passing digits
examples = record {
  absent = refl;
  nested = refl;
  asks = refl;
  failed = refl;
  full = λ before fetches full. rw full refl;
}

pub returns : goal.returns
returns c = examples
