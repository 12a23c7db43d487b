-- The examples, from the definitions.
use Rattle.std.proofs.Common.{refl}
use Rattle.csv.specs.Records.{field_at}
use Rattle.csv.proofs.OnLiterals.{csv_on_literals}
use Rattle.csv.specs.Writing.{escaped, fields_text, is_blank}
use Rattle.frac128.specs.Numerals.{greatest_whole_passing}
use Rattle.std.specs.Fmt.{digits}
use Rattle.expr_tree.specs.Faults.{fault_from_lexemes}
use Rattle.expr_tree.specs.Lexemes.{lexemes_from, tokens_in}
use Rattle.expr_tree.specs.ParseResult.{parse_of}
use Rattle.expr_tree.specs.TokenReading.{tree_of_token_list}
use Rattle.column_convert.specs.Examples.{CellNumbersLaw, RefusedCellsLaw, UnchangedRecordsLaw}

pub cell_numbers_law : CellNumbersLaw
cell_numbers_law = (refl, refl, refl, refl, refl, refl, refl, refl, refl, refl, refl, refl)

pub unchanged_records_law : UnchangedRecordsLaw
unfolding csv_on_literals escaped fields_text is_blank field_at
unchanged_records_law = (refl, refl, refl, refl)

pub refused_cells_law : RefusedCellsLaw
unfolding csv_on_literals escaped fields_text is_blank field_at greatest_whole_passing digits fault_from_lexemes
    lexemes_from
    tokens_in parse_of
    tree_of_token_list
refused_cells_law = (refl, refl, refl)
