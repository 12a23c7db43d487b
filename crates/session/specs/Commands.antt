-- The commands that the lines of a session give.
use Rattle.std.specs.Prelude.{◌==◌, ◌||◌, ◌∷◌, [], ℕ, List, Bool, true, false, not, if◌then◌else◌, codes}
use Rattle.std.specs.Prelude.{Option, Some, None}
use Rattle.std.specs.Str.{bytes_eq}
use Rattle.def_entry.specs.Cuts.{cut_at}
use Rattle.def_lines.specs.Blanks.{trimmed_of_blanks}
use Rattle.def_lines.specs.Lines.{line_content}
use Rattle.def_lines.specs.Words.{first_word_before_blank, after_word_trimmed_of_blanks, is_empty}
use Rattle.session.specs.declared.colon_word.ColonWord.{ColonWord}
use Rattle.session.specs.declared.colon_word.ColonWord.TheVariants as colon

-- an edit of the deck that needs no file; `DropLast` has the text after its word, which may name no key
pub data DeckEdit : Type 0 where
  Define : List ℕ → DeckEdit
  DropLast : List ℕ → DeckEdit
  Set : List ℕ → List ℕ → DeckEdit
  Locale : List ℕ → DeckEdit
  Undo : DeckEdit
  Redo : DeckEdit

pub data Command : Type 0 where
  Blank : Command
  Quit : Command
  Conformable : Command
  Search : List ℕ → Command
  Edit : DeckEdit → Command
  Load : List ℕ → Command
  Save : List ℕ → Command
  Watch : (from to : List ℕ) → Command
  Unwatch : Command
  Stats : Command
  Unknown : List ℕ → Command
  Bad : List ℕ → Command
  Expression : List ℕ → Command

-- a command if its arguments are good, or else `Bad` with its word
abbrev pub session_command_if_good : Bool → Command → (word : List ℕ) → Command
session_command_if_good good command word = if good then command else Bad word

-- the watch of FROM and TO: neither may be blank, and TO may not be `?`
abbrev pub session_watch_of_sides : (from to word : List ℕ) → Command
session_watch_of_sides from to word =
    session_command_if_good (not (is_empty from || is_empty to || bytes_eq to (codes "?"))) (Watch from to) word

-- FROM and TO before and after the first `;`, without blanks at their ends
abbrev pub session_watch_of_parts : Option (List ℕ × List ℕ) → (word : List ℕ) → Command
session_watch_of_parts None word = Bad word
session_watch_of_parts (Some p) word = session_watch_of_sides (trimmed_of_blanks p.0) (trimmed_of_blanks p.1) word

-- a name, followed by a value
abbrev pub session_set_command : (rest word : List ℕ) → Command
session_set_command rest word =
    session_command_if_good (not (is_empty (after_word_trimmed_of_blanks rest)))
    (Edit (Set (first_word_before_blank rest) (after_word_trimmed_of_blanks rest))) word

-- a command that needs a text after its word
abbrev pub session_command_with_text : Command → (rest word : List ℕ) → Command
session_command_with_text command rest word = session_command_if_good (not (is_empty rest)) command word

-- a command that must have nothing after its word
abbrev pub session_command_without_rest : Command → (rest word : List ℕ) → Command
session_command_without_rest command rest word = session_command_if_good (is_empty rest) command word

-- the command words, which begin with a colon
abbrev pub colon_words : List (List ℕ × ColonWord)
colon_words =
    (codes ":define", colon.Define)
    ∷ (codes ":drop", colon.DropLast)
    ∷ (codes ":set", colon.Set)
    ∷ (codes ":locale", colon.Locale)
    ∷ (codes ":undo", colon.Undo)
    ∷ (codes ":redo", colon.Redo)
    ∷ (codes ":load", colon.Load)
    ∷ (codes ":save", colon.Save)
    ∷ (codes ":stats", colon.Stats)
    ∷ (codes ":watch", colon.Watch)
    ∷ (codes ":unwatch", colon.Unwatch)
    ∷ []

-- the entry of a word in such a list, if it has one
abbrev pub colon_word_of : List ℕ → List (List ℕ × ColonWord) → Option ColonWord
colon_word_of word [] = None
colon_word_of word (c ∷ cs) = if bytes_eq word c.0 then Some c.1 else colon_word_of word cs

-- the command of each command word, given the rest of its line
abbrev pub colon_command_with_rest : ColonWord → (rest word : List ℕ) → Command
colon_command_with_rest colon.Define rest word = session_command_with_text (Edit (Define rest)) rest word
colon_command_with_rest colon.DropLast rest word = Edit (DropLast rest)
colon_command_with_rest colon.Set rest word = session_set_command rest word
colon_command_with_rest colon.Locale rest word = session_command_with_text (Edit (Locale rest)) rest word
colon_command_with_rest colon.Undo rest word = session_command_without_rest (Edit Undo) rest word
colon_command_with_rest colon.Redo rest word = session_command_without_rest (Edit Redo) rest word
colon_command_with_rest colon.Load rest word = session_command_with_text (Load rest) rest word
colon_command_with_rest colon.Save rest word = session_command_with_text (Save rest) rest word
colon_command_with_rest colon.Stats rest word = session_command_without_rest Stats rest word
colon_command_with_rest colon.Watch rest word = session_watch_of_parts (cut_at 59 rest) word
colon_command_with_rest colon.Unwatch rest word = session_command_without_rest Unwatch rest word

-- the command of a command word, or `Unknown` if the word is not one
abbrev pub colon_command_or_unknown : Option ColonWord → (rest word : List ℕ) → Command
colon_command_or_unknown None rest word = Unknown word
colon_command_or_unknown (Some asked) rest word = colon_command_with_rest asked rest word

-- the command of a word that begins with a colon, given the rest of its line
unfoldable pub colon_command : (word rest : List ℕ) → Command
colon_command word rest = colon_command_or_unknown (colon_word_of word colon_words) rest word

-- `search` with a text; without one it is an expression
abbrev pub session_search_command : (rest text : List ℕ) → Command
session_search_command rest text = if is_empty rest then Expression text else Search rest

-- the command that the text of a line gives
unfoldable pub session_command_in_text : List ℕ → Command
session_command_in_text [] = Blank
session_command_in_text (b ∷ bytes) =
    let text = b ∷ bytes in
    if bytes_eq text (codes "quit") || bytes_eq text (codes "exit") then Quit
    else if bytes_eq text (codes "?") then Conformable
    else if b == 58 then colon_command (first_word_before_blank text) (after_word_trimmed_of_blanks text)
    else if bytes_eq (first_word_before_blank text) (codes "search") then session_search_command
    (after_word_trimmed_of_blanks text) text
    else Expression text

-- the command that a line gives
abbrev pub session_command_of_line : List ℕ → Command
session_command_of_line line = session_command_in_text (line_content line)

abbrev pub is_session_quit : Command → Bool
is_session_quit Quit = true
is_session_quit _ = false

abbrev pub is_session_load : Command → Bool
is_session_load (Load name) = true
is_session_load _ = false

abbrev pub is_session_save : Command → Bool
is_session_save (Save name) = true
is_session_save _ = false

-- the name of the file that a command saves
abbrev pub session_save_name : Command → Option (List ℕ)
session_save_name (Save name) = Some name
session_save_name _ = None

-- the name of the file that a line saves
abbrev pub session_line_save_name : List ℕ → Option (List ℕ)
session_line_save_name line = session_save_name (session_command_of_line line)

-- whether a command names a file
abbrev pub session_command_names_file : Command → Bool
session_command_names_file command = is_session_load command || is_session_save command
