-- The rows, from the next one.
use Rattle.std.proofs.Common.{◌≡◌, refl, ℕ, Bool, List, [], ◌∷◌, ◌++◌}
use Rattle.column_convert.specs.Inputs.{ColumnInput, rest_of_column_input}
use Rattle.column_convert.specs.Records.{RecordFields}
use Rattle.column_convert.specs.Rows.{ColumnRowsLaw, next_queries, next_row, queries, row_before_rows, rows}

pub column_rows_law : ColumnRowsLaw
column_rows_law table options from to i = go i.records i.place i.has_header
  where
    input : List RecordFields → ℕ → Bool → ColumnInput
    input left place headed = record { records = left; place = place; has_header = headed }

    go : (left : List RecordFields) (place : ℕ) (headed : Bool)
        → (rows table options from to (input left place headed)
        ≡ row_before_rows (next_row table options from to (input left place headed))
        (rows table options from to (rest_of_column_input (input left place headed))))
        × (queries table options from to (input left place headed)
        ≡ next_queries table options from to (input left place headed)
        ++ queries table options from to (rest_of_column_input (input left place headed)))
    go [] place headed = (refl, refl)
    go (fields ∷ left) place headed = (refl, refl)
