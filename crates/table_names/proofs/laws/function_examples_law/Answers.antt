use Rattle.std.proofs.Common.{refl}
use Rattle.table_names.proofs.laws.function_examples_law.Goals as goal

pub returns : goal.returns
returns c = record {
  rank_without_words = refl;
  rank_of_a_call = refl;
  rank_of_an_inverse = refl;
  rank_of_an_alias = refl;
  rank_of_a_plain_word = refl;
  rank_through_a_unit = refl;
  rank_of_a_table = refl;
  in_unit_first = refl;
  out_unit_second = refl;
  forward_third = refl;
  inverse_last = refl;
  no_fault = refl;
  alias_of_a_unit = refl;
}
