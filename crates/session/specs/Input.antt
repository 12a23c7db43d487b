-- The lines of an input.
use Rattle.std.specs.Prelude.{◌==◌, ◌∷◌, ◌++◌, [], ℕ, List, if◌then◌else◌}

-- the lines that end with a line feed, and the bytes after the last line feed
pub record InputCut : Type 0 where
  pub complete_lines : List (List ℕ)
  pub open_line : List ℕ

abbrev pub input_cut_with_line : List ℕ → InputCut → InputCut
input_cut_with_line line cut = record { complete_lines = line ∷ cut.complete_lines; open_line = cut.open_line }

-- the cut of `bytes` after the bytes `part` of an unfinished line
abbrev pub input_cut_from : (part bytes : List ℕ) → InputCut
input_cut_from part [] = record { complete_lines = []; open_line = part }
input_cut_from part (b ∷ bytes) = if b == 10 then input_cut_with_line part (input_cut_from [] bytes) else input_cut_from
    (part ++ b ∷ []) bytes

-- the lines that end with a line feed
abbrev pub whole_input_lines : List ℕ → List (List ℕ)
whole_input_lines bytes = (input_cut_from [] bytes).complete_lines

-- the bytes after the last line feed
abbrev pub unfinished_input_line : List ℕ → List ℕ
unfinished_input_line bytes = (input_cut_from [] bytes).open_line

abbrev pub input_line_if_any : List ℕ → List (List ℕ)
input_line_if_any [] = []
input_line_if_any (b ∷ bytes) = (b ∷ bytes) ∷ []

-- the lines of an input: each ends at a line feed or at the end of the input, and an empty rest is not a line
abbrev pub input_lines : List ℕ → List (List ℕ)
input_lines bytes = whole_input_lines bytes ++ input_line_if_any (unfinished_input_line bytes)
