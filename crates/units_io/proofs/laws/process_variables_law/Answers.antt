use Rattle.std.proofs.Common.{refl}
use Rattle.std.specs.Str.{chars, is_utf8}
use Rattle.std.specs.Char.{encode_utf8}
use Rattle.units_io.proofs.laws.process_variables_law.Goals as goal

pub returns : goal.returns
unfolding is_utf8 chars encode_utf8
returns c = record {
  no_entries = refl;
  no_mark = refl;
  first_counts = refl;
  first_mark = refl;
  not_utf8 = refl;
  no_name = refl;
  empty_value = refl;
  entries_in_order = refl;
}
