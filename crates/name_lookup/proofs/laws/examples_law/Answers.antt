use Rattle.std.proofs.Common.{refl}
use Rattle.name_lookup.proofs.laws.examples_law.Goals as goal

pub returns : goal.returns
returns c = record {
  singular = record {
    two_bytes_in_s = refl;
    three_bytes_in_s = refl;
    three_bytes_in_es = refl;
    four_bytes_in_es = refl;
    four_bytes_in_ies = refl;
    five_bytes_in_ies = refl;
    another_ending = refl;
  };
  plural_words = record {
    too_short_for_s = refl;
    long_enough_for_s = refl;
    too_short_for_es = refl;
    long_enough_for_es = refl;
    too_short_for_ies = refl;
    long_enough_for_ies = refl;
    whole_word_first = refl;
    longer_singular_first = refl;
    prefix_of_singular = refl;
    one_ending = refl;
  };
  prefix_words = record {
    prefix_alone = refl;
    longest_prefix = refl;
    longest_prefix_of_a_unit = refl;
    whole_word_as_prefix = refl;
    two_prefixes = refl;
    list = refl;
  };
  at_places = record { plain_place = refl; call_place = refl; inverse = refl; inverse_of_a_unit = refl };
  candidate_order = record { all_candidates = refl; none_present = refl; shorter_prefix = refl };
}
