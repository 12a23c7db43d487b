-- The lines of answers.
use Rattle.std.specs.Prelude.{◌++◌, ℕ, List, codes}
use Rattle.std.specs.List.{flat_map}

-- a text with a line feed
abbrev pub session_line_of_text : (text : List ℕ) → List ℕ
session_line_of_text text = text ++ codes "\n"

-- texts, each with a line feed
abbrev pub session_lines_of_texts : (texts : List (List ℕ)) → List ℕ
session_lines_of_texts texts = flat_map session_line_of_text texts

-- a line with some words, followed by a word
abbrev pub session_line_with_word : (words word : List ℕ) → List ℕ
session_line_with_word words word = session_line_of_text (words ++ word)
