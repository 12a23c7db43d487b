use Rattle.std.proofs.Common.{◌≡◌, ◌++◌, [], drop}
use Rattle.std.specs.Prelude.{slice_set}
use Rattle.csv.specs.Records.{fields_of, partial_of}
use Rattle.column_convert.proofs.row.change.Given as goal

-- the fields so far and those left are all the fields
abbrev pub invariant-loop-i : goal.invariant-loop-i
invariant-loop-i l = record {
  all : fields_of l.changed ++ drop l.i (slice_set (fields_of l.fields) l.place l.field)
      ≡ slice_set (fields_of l.fields) l.place l.field;
  whole : partial_of l.changed ≡ [];
}
