use Rattle.std.proofs.Common.{◌≡◌, ◌≤◌, ◌++◌, true, length, option_map}
use Rattle.def_lines.specs.Parts.{begins_without_blank}
use Rattle.def_lines.specs.Words.{words_between_blanks}
use Rattle.def_entry.specs.PointLists.{most_point_pairs, point_pairs_of_words}
use Rattle.def_entry.proofs.point_list.push_pairs.Given as goal

abbrev pub invariant-loop-rest : goal.invariant-loop-rest
invariant-loop-rest l = record {
  begun : begins_without_blank l.rest ≡ true;
  same : option_map (λ pairs. l.points.items ++ pairs) (point_pairs_of_words (words_between_blanks l.rest))
      ≡ option_map (λ pairs. l.fn.points.items ++ pairs) (point_pairs_of_words (words_between_blanks l.text));
  few : length l.points.items ≤ most_point_pairs;
}

abbrev pub decreases-loop-rest : goal.decreases-loop-rest
decreases-loop-rest l = length l.rest
