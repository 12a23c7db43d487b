-- Names of files, by their places among the stored names.
use Rattle.std.specs.Prelude.{◌<◌, ℕ, List, [], ◌∷◌, map, get_or, ⊤}

-- the name at a place, or the empty name if there is none
abbrev pub line_file_name_at : (names : List (List ℕ)) → ℕ → List ℕ
line_file_name_at names place = get_or names place []

-- the names at some places
abbrev pub line_file_names_at : (names : List (List ℕ)) → (places : List ℕ) → List (List ℕ)
line_file_names_at names places = map (line_file_name_at names) places

-- each place is less than n
abbrev pub AreLineFilesBelow : ℕ → List ℕ → Type 0
AreLineFilesBelow n [] = ⊤
AreLineFilesBelow n (place ∷ places) = (place < n) × AreLineFilesBelow n places
