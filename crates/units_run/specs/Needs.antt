-- The needs of the words: files, or input.
use Rattle.std.specs.Prelude.{◌&&◌, ◌||◌, ℕ, List, Bool, is_some, not, if◌then◌else◌}
use Rattle.command_line.specs.AcceptedWords.{are_command_words_accepted}
use Rattle.command_line.specs.Fields.{command_line_of}
use Rattle.command_line.specs.declared.fields.CommandLine.{CommandLine}
use Rattle.session.specs.HeardLines.{heard_input_loads_file}

-- neither FROM, `--check` nor `--trial` is given: a session, unless there is no deck
abbrev pub is_run_of_session : CommandLine → Bool
is_run_of_session line = not (is_some line.trial) && not (is_some line.from || line.check)

-- the command line loads a definition file
abbrev pub run_loads_file : CommandLine → Bool
run_loads_file line = not (is_some line.trial) && is_some line.file

-- the words load a definition file
abbrev pub run_needs_definitions : (words : List (List ℕ)) → Bool
run_needs_definitions words = are_command_words_accepted words && run_loads_file (command_line_of words)

-- the words lead to a session
abbrev pub run_opens_session : (words : List (List ℕ)) → Bool
run_opens_session words = are_command_words_accepted words && is_run_of_session (command_line_of words)

-- a column is converted from FROM; with `--trial` there is no FROM
abbrev pub is_run_of_column : CommandLine → Bool
is_run_of_column line = not (is_some line.trial) && is_some line.from && is_some line.column

-- the words lead to the conversion of a column
abbrev pub run_converts_column : (words : List (List ℕ)) → Bool
run_converts_column words = are_command_words_accepted words && is_run_of_column (command_line_of words)

-- the words lead to a session or to the conversion of a column
abbrev pub run_needs_input : (words : List (List ℕ)) → Bool
run_needs_input words = run_opens_session words || run_converts_column words

-- the limit of the input, in bytes
abbrev pub run_input_limit : (words : List (List ℕ)) → ℕ
run_input_limit words = if run_converts_column words then 16777216 else 4294967296

-- a file is fetched: the definition file, or one that a line of the session loads
abbrev pub run_fetches_file : (words : List (List ℕ)) → (input : List ℕ) → Bool
run_fetches_file words input = run_needs_definitions words || (run_opens_session words && heard_input_loads_file input)

-- the words load a definition file, or lead to a session, whose lines may name files
abbrev pub run_needs_files : (words : List (List ℕ)) → Bool
run_needs_files words = are_command_words_accepted words &&
    (run_loads_file (command_line_of words) || is_run_of_session (command_line_of words))
