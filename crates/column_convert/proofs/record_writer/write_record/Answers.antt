use Rattle.std.proofs.Common.{◌++◌, ◌∙◌, List, ℕ, ap, sym}
use Rattle.csv.specs.Records.{fields_of}
use Rattle.csv.specs.Writing.{row_text}
use Rattle.csv.specs.declared.writer.WriterBuilder.{WriterBuilder}
use Rattle.column_convert.proofs.AnyLength.{ok_record_result_holds, record_writer_ignores_numbers}
use Rattle.column_convert.proofs.AnyLength.{row_text_at_any_length}
use Rattle.column_convert.proofs.record_writer.write_record.Goals as goal

pub returns-clause-text : goal.returns-clause-text
returns-clause-text c =
    ok_record_result_holds c.write_byte_record.result (sym c.is_err.ensures.value ∙ c.if-is_err.false)
    c.write_byte_record.ensures.bytes
    c.requires.fields c.requires.nothing_written (record_writer_ignores_numbers c.args.writer.now.cfg c.requires.setup)
    ∙ ap (λ (more : List ℕ). (c.args.writer.now.wtr.inner.items ++ c.args.writer.now.wtr.buf) ++ more)
    (ap (λ (setup : WriterBuilder). row_text setup (fields_of c.args.fields.now)) c.requires.setup
    ∙ row_text_at_any_length (fields_of c.args.fields.now))
