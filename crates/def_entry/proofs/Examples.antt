-- The results for the lines of the examples, by the definitions.
use Rattle.std.proofs.Common.{refl}
use Rattle.frac128.specs.Divisors.{gcd, gcd_within}
use Rattle.frac128.specs.Numerals.{greatest_whole_passing}
use Rattle.frac128.specs.Steps.{lowest_terms}
use Rattle.piecewise.specs.Points.{points_rise}
use Rattle.def_lines.specs.Words.{words_between_blanks}
use Rattle.expr_tree.specs.Faults.{fault_from_lexemes}
use Rattle.expr_tree.specs.Lexemes.{lexemes_from, tokens_in}
use Rattle.expr_tree.specs.ParseResult.{parse_of}
use Rattle.expr_tree.specs.TokenReading.{tree_of_token_list}
use Rattle.def_entry.specs.Examples.{EntriesLaw, EntryExamplesLaw, EntryFaultTextsLaw, EntryFaultsLaw, KeySpellingsLaw}
use Rattle.def_entry.specs.Forms.{form_of}
use Rattle.def_entry.specs.Headings.{heading_of_line}
use Rattle.def_entry.specs.Intervals.{interval_at}
use Rattle.def_entry.specs.Keys.{key_of_spelling}
use Rattle.def_entry.specs.Numbers.{entry_text_number}
use Rattle.def_entry.specs.Options.{options_from}
use Rattle.def_entry.specs.PointLists.{points_of}
use Rattle.def_entry.specs.EntryReading.{what_of}

-- the examples of entries
pub example_entries : EntriesLaw
unfolding gcd gcd_within greatest_whole_passing lowest_terms points_rise words_between_blanks fault_from_lexemes
    lexemes_from tokens_in parse_of tree_of_token_list
    form_of
    heading_of_line interval_at entry_text_number options_from points_of what_of
example_entries = (refl, refl, refl, refl, refl, refl, refl, refl, refl)

-- the examples of faults
pub example_entry_faults : EntryFaultsLaw
unfolding gcd gcd_within greatest_whole_passing lowest_terms points_rise words_between_blanks fault_from_lexemes
    lexemes_from tokens_in parse_of tree_of_token_list
    form_of
    heading_of_line interval_at entry_text_number options_from points_of what_of
example_entry_faults = (refl, refl, refl, refl, refl, refl, refl, refl, refl, refl, refl, refl)

-- the examples of keys
example_key_spellings_read : KeySpellingsLaw
unfolding key_of_spelling
example_key_spellings_read = record { key_texts = refl; keys_of_texts = refl; rejected_texts = refl }

-- the examples of texts of faults
entry_fault_texts_hold : EntryFaultTextsLaw
entry_fault_texts_hold = refl

-- all examples
pub entry_examples : EntryExamplesLaw
entry_examples = record {
  entries = example_entries;
  faults = example_entry_faults;
  keys_read =
      example_key_spellings_read;
  entry_texts = entry_fault_texts_hold;
}
