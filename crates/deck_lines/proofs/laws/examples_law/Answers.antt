use Rattle.std.proofs.Common.{ℕ, List, [], codes, refl, ap, Option}
use Rattle.std.specs.Fmt.{digits}
use Rattle.std.specs.Cmp.Lexicographic.{slice_cmp}
use Rattle.std.specs.FinMap.{get-empty}
use Rattle.std.specs.Ordering.{nat_cmp}
use Rattle.units_io.specs.FileMap.{FileMap, no_files_in_map}
use Rattle.units_io.specs.FetchResults.{file_fetch_answer}
use Rattle.def_lines.specs.Kinds.{kind_of_line}
use Rattle.def_entry.specs.Headings.{heading_of_line}
use Rattle.def_entry.specs.EntryReading.{what_of}
use Rattle.expr_tree.specs.Faults.{fault_from_lexemes}
use Rattle.expr_tree.specs.Lexemes.{lexemes_from, tokens_in}
use Rattle.expr_tree.specs.ParseResult.{parse_of}
use Rattle.expr_tree.specs.TokenReading.{tree_of_token_list}
use Rattle.frac128.specs.Numerals.{greatest_whole_passing}
use Rattle.deck_lines.specs.Examples.{ExcerptExamplesLaw}
use Rattle.deck_lines.specs.Excerpts.{Excerpt, excerpts_in_turn, include_excerpt, line_without_notice, line_with_notice}
use Rattle.deck_lines.specs.Excerpts.{rest_excerpt}
use Rattle.deck_lines.specs.Includes.{excerpt_of_deck_file, include_of_answer, included_below, included_by}
use Rattle.deck_lines.specs.Readings.{store_line_reading_of}
use Rattle.deck_lines.proofs.laws.examples_law.Goals as goal

-- the excerpt of an include line of the first file, given what is found for the other file
abbrev included_as : FileMap → ℕ → Option (List ℕ) → Excerpt
included_as files number found =
    include_excerpt (codes "sub/a.units") (record { number = number; text = codes "!include b.units" })
    (include_of_answer (included_by files 15 (codes "sub/b.units")) (codes "sub/b.units") (file_fetch_answer found))

abbrev nothing : Excerpt
nothing = record { lines = []; notices = [] }

-- the excerpt of the first file, with the lines around the include line
abbrev around : FileMap → Option (List ℕ) → Excerpt
around files found =
    excerpts_in_turn (line_without_notice (record { number = 1; text = codes "m !" }))
    (excerpts_in_turn (included_as files 2 found)
    (excerpts_in_turn (line_with_notice (codes "sub/a.units") (record { number = 3; text = codes "!endutf8" })
    (codes "stray end")) nothing))

examples : ExcerptExamplesLaw
unfolding excerpt_of_deck_file rest_excerpt included_below store_line_reading_of kind_of_line heading_of_line what_of
    parse_of tree_of_token_list fault_from_lexemes
    lexemes_from
    tokens_in greatest_whole_passing digits
examples = record {
  deck_without_faults = refl;
  deck_with_faults = refl;
  open_block = refl;
  absent = ap (λ found. excerpts_in_turn (included_as no_files_in_map 1 found) nothing)
      (get-empty (slice_cmp nat_cmp) (codes "sub/b.units"));
  with_include = λ files there. ap (around files) there;
}

pub returns : goal.returns
returns c = examples
