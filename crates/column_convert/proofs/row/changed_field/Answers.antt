use Rattle.csv.specs.Records.{fields_of}
use Rattle.column_convert.proofs.ItemChanges.{other_record_field_is_unchanged, record_field_is_there}
use Rattle.column_convert.proofs.row.changed_field.Goals as goal

pub returns-in-Some : goal.returns-in-Some
returns-in-Some c =
    other_record_field_is_unchanged (fields_of c.args.fields.now) c.args.place c.args.i c.args.field.now
    c.in-Some.kept.now
    c.if-i-place.false c.requires c.in-Some.ensures.value

pub returns-in-None : goal.returns-in-None
returns-in-None c = absurd
    (record_field_is_there (fields_of c.args.fields.now) c.args.i c.requires c.in-None.ensures.value)
