-- Column input as contracts see it.
use Rattle.std.specs.Prelude.{◌-◌, ℕ, Bool, false, List, [], ◌∷◌, refl}
use Rattle.std.specs.Coded.{Coded, code_by, coded×, coded_bool, coded_list, coded_ℕ}
use Rattle.csv.specs.Reading.{default_config, records, strip_bom}
use Rattle.column_convert.specs.Records.{RecordFields}

-- the records left to give, the place of the column, counted from 0, and whether the next record is the header
pub record ColumnInput : Type 0 where
  pub records : List RecordFields
  pub place : ℕ
  pub has_header : Bool

-- the encoding of an input as its parts
abbrev pub column_input_code : Coded ColumnInput
column_input_code =
    code_by _ (coded× (coded_list (coded_list (coded_list coded_ℕ))) (coded× coded_ℕ coded_bool))
    (λ i. (i.records, (i.place, i.has_header))) (λ p. record { records = p.0; place = p.1.0; has_header = p.1.1 })
    (λ _. refl)

-- all records of a text, without the byte order mark at its start; columns are counted from 1
abbrev pub column_input_of_text : (text : List ℕ) (column : ℕ) (header : Bool) → ColumnInput
column_input_of_text text column header = record {
  records = records default_config (strip_bom text);
  place = column - 1;
  has_header = header;
}

-- the input after its next record; an input without records stays as it is
abbrev pub rest_of_column_input : ColumnInput → ColumnInput
rest_of_column_input i = go i.records
  where
    go : List RecordFields → ColumnInput
    go [] = i
    go (fields ∷ left) = record { records = left; place = i.place; has_header = false }
