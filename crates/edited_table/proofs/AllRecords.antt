-- A text has at most one more record than it has bytes, so that many first records are all of them.
use Rattle.std.proofs.Common.{◌≡◌, ◌≤◌, ◌+◌, ◌∷◌, ◌∙◌, [], ℕ, zero, suc, Bool, true, false, List, Option, Some, None}
use Rattle.std.proofs.Common.{ap, length, arith}
use Rattle.std.specs.Prelude.{if◌then◌else◌}
use Rattle.std.proofs.lemmas.List.{take_all}
use Rattle.csv.specs.Machine.{Read, next_record}
use Rattle.csv.specs.Reading.{default_config, is_bom, records_from, records_next, strip_bom}
use Rattle.csv.specs.declared.parser.Config.{Config}
use Rattle.csv.specs.declared.parser.State.{State}
use Rattle.csv.specs.declared.parser.State.TheVariants as parser
use Rattle.column_convert.specs.Blocks.{first_records}
use Rattle.column_convert.specs.Inputs.{ColumnInput, column_input_of_text}
use Rattle.column_convert.specs.Records.{RecordFields}

-- if at most `n` records follow a record, there are at most `n + 1` with it
few_records_follow : (n : ℕ) (more : State → List ℕ → List RecordFields) (read : Option Read)
    → ((state : State) (text : List ℕ) → length (more state text) ≤ n) → length (records_next more read) ≤ suc n
few_records_follow n more None few = omega arith
few_records_follow n more (Some read) few = omega (arith, few read.1 read.2)

few_records : (config : Config) (n : ℕ) (state : State) (text : List ℕ) → length (records_from config n state text) ≤ n
unfolding records_from
few_records config zero state text = omega arith
few_records config (suc n) state text =
    few_records_follow n (records_from config n) (next_record config state [] [] text) (few_records config n)

-- a text without its byte order mark is no longer than the text
stripped_text_is_no_longer : (text : List ℕ) → length (strip_bom text) ≤ length text
unfolding strip_bom
stripped_text_is_no_longer [] = omega arith
stripped_text_is_no_longer (a ∷ []) = omega arith
stripped_text_is_no_longer (a ∷ b ∷ []) = omega arith
stripped_text_is_no_longer (a ∷ b ∷ c ∷ rest) = go (is_bom a b c)
  where
    go : (is : Bool) → length (if is then rest else a ∷ b ∷ c ∷ rest) ≤ length (a ∷ b ∷ c ∷ rest)
    go true = omega arith
    go false = omega arith

first_records_are_all : (text : List ℕ) (number : ℕ) (header : Bool) (most : ℕ) → most ≡ length text + 1
    → first_records most (column_input_of_text text number header) ≡ column_input_of_text text number header
first_records_are_all text number header most is =
    let all : ColumnInput = column_input_of_text text number header in
    ap (λ (left : List RecordFields). record { records = left; place = all.place; has_header = all.has_header })
    (take_all most all.records
    (omega (
      arith,
      is,
      stripped_text_is_no_longer text,
      few_records default_config (length (strip_bom text) + 1) parser.StartRecord (strip_bom text),
    )))

-- so many first records of the columns of a text are all of them
pub first_records_of_text_are_all : (text : List ℕ) (number : ℕ) (header : Bool) (most : ℕ) (columns : ColumnInput)
    → columns ≡ column_input_of_text text number header → most ≡ length text + 1
    → first_records most columns ≡ column_input_of_text text number header
first_records_of_text_are_all text number header most columns is enough =
    ap (first_records most) is ∙ first_records_are_all text number header most enough
