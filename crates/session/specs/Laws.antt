-- Laws of the lines that a session hears.
use Rattle.std.specs.Prelude.{◌≡◌, ◌++◌, ◌∷◌, [], ℕ, List, true, false, codes}
use Rattle.std.specs.List.{list_all, list_any}
use Rattle.def_entry.specs.Cuts.{entry_text_lacks}
use Rattle.session.specs.HeardLines.{is_last_session_line, heard_lines}
use Rattle.session.specs.Input.{whole_input_lines, unfinished_input_line, input_lines}

-- the bytes of lines, each with its line feed
abbrev pub input_line_bytes : List (List ℕ) → List ℕ
input_line_bytes [] = []
input_line_bytes (line ∷ lines) = line ++ 10 ∷ input_line_bytes lines

pub record InputLineLaws : Type 0 where
  -- no byte of an input is lost
  pub whole_and_rest : (bytes : List ℕ) → input_line_bytes (whole_input_lines bytes) ++ unfinished_input_line
      bytes ≡ bytes
  -- no line contains a line feed
  pub lines_clear : (bytes : List ℕ) → list_all (entry_text_lacks 10) (whole_input_lines bytes) ≡ true
  pub rest_clear : (bytes : List ℕ) → entry_text_lacks 10 (unfinished_input_line bytes) ≡ true
  -- no other cut has these properties
  pub only : (lines : List (List ℕ)) (rest : List ℕ) → list_all (entry_text_lacks 10) lines ≡ true
      → entry_text_lacks 10 rest ≡ true
      → (whole_input_lines (input_line_bytes lines ++ rest) ≡ lines)
      × (unfinished_input_line (input_line_bytes lines ++ rest) ≡ rest)
  -- a session goes on after lines none of which is the last
  pub goes_on : (before lines : List (List ℕ)) → list_any is_last_session_line before ≡ false →
      heard_lines (before ++ lines) ≡ before ++ heard_lines lines
  -- a session hears nothing after its last line
  pub hears_no_more : (line : List ℕ) (lines : List (List ℕ)) → is_last_session_line line ≡ true
      → heard_lines (line ∷ lines) ≡ line ∷ []
  -- examples
  pub rest_is_line : input_lines (codes "a\nb") ≡ codes "a" ∷ codes "b" ∷ []
  pub no_empty_rest : input_lines (codes "a\n\n") ≡ codes "a" ∷ [] ∷ []
  pub quit_with_comment : is_last_session_line (codes " quit # done\r") ≡ true
  pub quit_in_text : is_last_session_line (codes "quit now") ≡ false
