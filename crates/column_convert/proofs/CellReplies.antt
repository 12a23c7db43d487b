-- Cells and rows, from the replies for them.
use Rattle.std.proofs.Common.{◌≡◌, ◌∙◌, sym, ap, ℕ, Bool, false, List, Some}
use Rattle.csv.specs.Records.{field_at}
use Rattle.def_entry.specs.Tables.{EntryTable}
use Rattle.reply.specs.declared.options.Options.{Options}
use Rattle.reply.specs.declared.reply.Reply.{Reply}
use Rattle.reply.specs.Replies.{conversion_queries, conversion_reply}
use Rattle.column_convert.specs.Cells.{cell_conversion_text, cell_options, cell_queries, number_queries, number_reply}
use Rattle.column_convert.specs.Records.{RecordFields}
use Rattle.column_convert.specs.Rows.{queries_by, row_queries}

module _ (table : EntryTable) (options : Options) (from to : List ℕ) where
  -- the reply to a text made from a number
  module _ (number : List ℕ) (t : EntryTable) (o : Options) (text bytes : List ℕ) (p : t ≡ table)
      (q : o ≡ cell_options options) (made : text ≡ cell_conversion_text t from number) (same : bytes ≡ text) where
    abbrev bytes_are : bytes ≡ cell_conversion_text table from number
    bytes_are = same ∙ (made ∙ ap (λ (t : EntryTable). cell_conversion_text t from number) p)

    pub asked_reply : (reply : Reply) → reply ≡ conversion_reply table o bytes to
        → reply ≡ number_reply table options from to number
    asked_reply reply e =
        e ∙ (ap (λ (o : Options). conversion_reply table o bytes to) q
        ∙ ap (λ (b : List ℕ). conversion_reply table (cell_options options) b to) bytes_are)

    pub asked_queries : conversion_queries table o bytes to ≡ number_queries table options from to number
    asked_queries =
        ap (λ (o : Options). conversion_queries table o bytes to) q
        ∙ ap (λ (b : List ℕ). conversion_queries table (cell_options options) b to) bytes_are

  -- the queries of a row with a field in the column
  pub field_queries : (fields : RecordFields) (place : ℕ) (headed : Bool) (field : List ℕ) → headed ≡ false
      → Some field ≡ field_at fields place
      → cell_queries table options from to field ≡ row_queries table options from to place headed fields
  field_queries fields place headed field first is =
      ap (queries_by table options from to) is
      ∙ ap (λ (b : Bool). row_queries table options from to place b fields) (sym first)
