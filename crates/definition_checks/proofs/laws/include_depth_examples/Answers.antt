use Rattle.std.proofs.Common.{refl}
use Rattle.std.specs.Fmt.{digits}
use Rattle.def_lines.specs.Kinds.{kind_of_line}
use Rattle.def_entry.specs.Headings.{heading_of_line}
use Rattle.def_entry.specs.EntryReading.{what_of}
use Rattle.expr_tree.specs.Faults.{fault_from_lexemes}
use Rattle.expr_tree.specs.Lexemes.{lexemes_from, tokens_in}
use Rattle.expr_tree.specs.ParseResult.{parse_of}
use Rattle.expr_tree.specs.TokenReading.{tree_of_token_list}
use Rattle.frac128.specs.Numerals.{greatest_whole_passing}
use Rattle.deck_lines.specs.Limits.{pass_store_limit}
use Rattle.deck_lines.specs.LineLoads.{load_below, load_of_rest}
use Rattle.deck_lines.specs.Readings.{store_line_reading_of}
use Rattle.definition_checks.specs.IncludeDepth.{IncludeDepthExamples}
use Rattle.definition_checks.proofs.laws.include_depth_examples.Goals as goal

examples : IncludeDepthExamples
unfolding digits kind_of_line heading_of_line what_of fault_from_lexemes lexemes_from tokens_in parse_of
    tree_of_token_list greatest_whole_passing pass_store_limit load_below load_of_rest store_line_reading_of
examples = record {
  sixteen_reads = λ more. refl;
}

pub returns : goal.returns
returns c = examples
