-- The grammar of the points of a table: pairs of numbers, with an optional comma after each pair.
use Rattle.std.specs.Prelude.{◌≡◌, ◌↔◌, ◌⊎◌, ◌==◌, ◌||◌, ◌&&◌, ◌++◌, ℕ, List, [], ◌∷◌, Bool, true, not, codes, Option}
use Rattle.std.specs.Prelude.{Some}
use Rattle.std.specs.List.{list_all}
use Rattle.std.specs.Option.{is_some}
use Rattle.units_io.specs.Blanks.{is_blank_text_byte}
use Rattle.def_lines.specs.Words.{is_empty}
use Rattle.piecewise.specs.Lines.{Point}
use Rattle.def_entry.specs.Headings.{stands_apart}
use Rattle.def_entry.specs.Marks.{entry_comma}
use Rattle.def_entry.specs.Numbers.{entry_text_number}
use Rattle.def_entry.specs.PointLists.{points_of}
use Rattle.def_entry.specs.Steps.{◌>>=◌}

-- the text after a pair
pub data PointPairEnd : Type 0 where
  -- nothing: a blank or the end follows the pair
  Apart : PointPairEnd
  -- blanks ","
  Comma : List ℕ → PointPairEnd

-- { blanks number blanks number end } blanks
pub data WrittenPointPairs : Type 0 where
  NoPair : List ℕ → WrittenPointPairs
  NextPair : List ℕ → List ℕ → List ℕ → List ℕ → PointPairEnd → WrittenPointPairs → WrittenPointPairs

-- the bytes of each form

abbrev pub point_pair_end : PointPairEnd → List ℕ → List ℕ
point_pair_end Apart rest = rest
point_pair_end (Comma blanks) rest = blanks ++ (entry_comma ∷ rest)

abbrev pub spelled_point_pairs : WrittenPointPairs → List ℕ
spelled_point_pairs (NoPair blanks) = blanks
spelled_point_pairs (NextPair before x gap y end rest) =
    before ++ (x ++ (gap ++ (y ++ point_pair_end end (spelled_point_pairs rest))))

-- the byte is a blank or a comma
abbrev pub ends_point_pair_number : ℕ → Bool
ends_point_pair_number b = is_blank_text_byte b || b == entry_comma

-- a number extends to the first blank or comma
abbrev pub is_point_pair_number : List ℕ → Bool
is_point_pair_number text = list_all (λ b. not (ends_point_pair_number b)) text && is_some (entry_text_number text)

abbrev pub is_point_pair_end : PointPairEnd → List ℕ → Bool
is_point_pair_end Apart rest = stands_apart rest
is_point_pair_end (Comma blanks) rest = list_all is_blank_text_byte blanks

abbrev pub are_point_pairs : WrittenPointPairs → Bool
are_point_pairs (NoPair blanks) = list_all is_blank_text_byte blanks
are_point_pairs (NextPair before x gap y end rest) =
    list_all is_blank_text_byte before
    && is_point_pair_number x
    && not (is_empty gap)
    && list_all is_blank_text_byte gap
    && is_point_pair_number y
    && is_point_pair_end end (spelled_point_pairs rest)
    && are_point_pairs rest

-- two numbers as a point, followed by the points after them
abbrev pub point_pair_then : List ℕ → List ℕ → Option (List Point) → Option (List Point)
point_pair_then x y found = do
  a ← entry_text_number x
  b ← entry_text_number y
  behind ← found
  Some ((a, b) ∷ behind)

abbrev pub point_pair_values : WrittenPointPairs → Option (List Point)
point_pair_values (NoPair blanks) = Some []
point_pair_values (NextPair before x gap y end rest) = point_pair_then x y (point_pair_values rest)

-- the text consists of pairs, which are these points
pub record ArePointPairs (text : List ℕ) (list : List Point) : Type 0 where
  pub written_points : WrittenPointPairs
  pub spelled_text : text ≡ spelled_point_pairs written_points
  pub well_formed : are_point_pairs written_points ≡ true
  pub values_same : point_pair_values written_points ≡ Some list

-- the text is `noerror`, which has no effect, followed by pairs, which are these points
pub record ArePointPairsAfter (text : List ℕ) (list : List Point) : Type 0 where
  pub blanks : List ℕ
  pub pairs_text : List ℕ
  pub spelled_text : text ≡ blanks ++ (codes "noerror" ++ pairs_text)
  pub blanks_only : list_all is_blank_text_byte blanks ≡ true
  pub rest_apart : stands_apart pairs_text ≡ true
  pub pairs : ArePointPairs pairs_text list

-- [ blanks "noerror" ] pairs
abbrev pub AreWrittenPointPairs : List ℕ → List Point → Type 0
AreWrittenPointPairs text list = ArePointPairs text list ⊎ ArePointPairsAfter text list

-- law: points are read if and only if they are written according to the grammar
abbrev pub PointPairsLaw : Type 0
PointPairsLaw = (text : List ℕ) (list : List Point) → (points_of text ≡ Some list) ↔ AreWrittenPointPairs text list
