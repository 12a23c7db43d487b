-- The points of a table, as they are computed. PointGrammar defines how they are written.
use Rattle.std.specs.Prelude.{◌==◌, ◌++◌, ℕ, List, [], ◌∷◌, Bool, length, nat_le, if◌then◌else◌, Option, Some, None}
use Rattle.std.specs.List.{slice_split}
use Rattle.def_lines.specs.Blanks.{after_blanks}
use Rattle.def_lines.specs.Words.{words_between_blanks}
use Rattle.piecewise.specs.Lines.{Point}
use Rattle.piecewise.specs.Points.{is_table_of_points}
use Rattle.def_entry.specs.declared.options.Choice.TheVariants.{NoError}
use Rattle.def_entry.specs.Marks.{entry_comma}
use Rattle.def_entry.specs.Numbers.{entry_text_number}
use Rattle.def_entry.specs.Options.{begins_with_no_error, text_after_choice}
use Rattle.def_entry.specs.Steps.{◌>>=◌}

-- the numbers of words, in pairs
abbrev pub point_pairs_of_words : List (List ℕ) → Option (List Point)
point_pairs_of_words [] = Some []
point_pairs_of_words (x ∷ []) = None
point_pairs_of_words (x ∷ y ∷ words) = do
  a ← entry_text_number x
  b ← entry_text_number y
  points ← point_pairs_of_words words
  Some ((a, b) ∷ points)

-- the numbers of words, in pairs, of which there must be at least one
abbrev pub some_point_pairs : List (List ℕ) → Option (List Point)
some_point_pairs [] = None
some_point_pairs (x ∷ words) = point_pairs_of_words (x ∷ words)

-- the points of the texts between commas: each text has at least one pair, except that the last may have none
abbrev pub point_pairs_between_commas : List (List ℕ) → Option (List Point)
point_pairs_between_commas [] = Some []
point_pairs_between_commas (run ∷ []) = point_pairs_of_words (words_between_blanks run)
point_pairs_between_commas (run ∷ next ∷ runs) = do
  front ← some_point_pairs (words_between_blanks run)
  points ← point_pairs_between_commas (next ∷ runs)
  Some (front ++ points)

-- the byte is `,`
abbrev pub is_point_pair_comma : ℕ → Bool
is_point_pair_comma b = b == entry_comma

-- a text without a leading `noerror`
abbrev pub behind_no_error : List ℕ → List ℕ
behind_no_error text = if begins_with_no_error text then text_after_choice NoError text else text

-- the points of a list, if it is one
unfoldable pub points_of : List ℕ → Option (List Point)
points_of text = point_pairs_between_commas (slice_split is_point_pair_comma (behind_no_error (after_blanks text)))

-- the maximum number of points of a table
abbrev pub most_point_pairs : ℕ
most_point_pairs = 1000

-- the points, or `None` if there are more of them than a table can have
abbrev pub within_point_pair_limit : Option (List Point) → Option (List Point)
within_point_pair_limit None = None
within_point_pair_limit (Some points) = if nat_le (length points) most_point_pairs then Some points else None

-- the points, or `None` if they do not form a table
abbrev pub table_points : List Point → Option (List Point)
table_points points = if is_table_of_points points then Some points else None
