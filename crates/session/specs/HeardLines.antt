-- The lines that a session hears.
use Rattle.std.specs.Prelude.{◌≡◌, ◌∷◌, [], ℕ, List, Bool, false, nat_le, length, if◌then◌else◌, Option, Some, None}
use Rattle.std.specs.List.{list_any}
use Rattle.session.specs.Commands.{is_session_load, is_session_quit, session_command_names_file}
use Rattle.session.specs.Commands.{session_command_of_line, session_line_save_name}
use Rattle.session.specs.Input.{input_lines}

-- the longest line that is read, in bytes
abbrev pub longest_session_line : ℕ
longest_session_line = 65536

-- a line, or `None` if it is too long to be read
unfoldable pub readable_session_line : List ℕ → Option (List ℕ)
readable_session_line line = if nat_le (length line) longest_session_line then Some line else None

abbrev pub is_last_read_session_line : Option (List ℕ) → Bool
is_last_read_session_line None = false
is_last_read_session_line (Some line) = is_session_quit (session_command_of_line line)

-- whether a line ends the session
abbrev pub is_last_session_line : List ℕ → Bool
is_last_session_line line = is_last_read_session_line (readable_session_line line)

-- the name of the file that a line saves, unless the line is too long
abbrev pub read_session_line_save_name : Option (List ℕ) → Option (List ℕ)
read_session_line_save_name None = None
read_session_line_save_name (Some line) = session_line_save_name line

abbrev pub heard_line_save_name : List ℕ → Option (List ℕ)
heard_line_save_name line = read_session_line_save_name (readable_session_line line)

-- the lines up to the first one that ends the session, including that line
abbrev pub heard_lines : List (List ℕ) → List (List ℕ)
heard_lines [] = []
heard_lines (line ∷ lines) = line ∷ (if is_last_session_line line then [] else heard_lines lines)

-- whether a line names a file; a line that is too long names none
abbrev pub read_session_line_names_file : Option (List ℕ) → Bool
read_session_line_names_file None = false
read_session_line_names_file (Some line) = session_command_names_file (session_command_of_line line)

abbrev pub heard_line_names_file : (line : List ℕ) → Bool
heard_line_names_file line = read_session_line_names_file (readable_session_line line)

-- whether a line loads a file; a line that is too long loads none
abbrev pub read_session_line_loads_file : Option (List ℕ) → Bool
read_session_line_loads_file None = false
read_session_line_loads_file (Some line) = is_session_load (session_command_of_line line)

abbrev pub heard_line_loads_file : (line : List ℕ) → Bool
heard_line_loads_file line = read_session_line_loads_file (readable_session_line line)

-- whether a line of the input that is heard loads a file
abbrev pub heard_input_loads_file : (input : List ℕ) → Bool
heard_input_loads_file input = list_any heard_line_loads_file (heard_lines (input_lines input))

-- no line of an input that is heard names a file
abbrev pub HeardInputNamesNoFile : (input : List ℕ) → Type 0
HeardInputNamesNoFile input = list_any heard_line_names_file (heard_lines (input_lines input)) ≡ false
