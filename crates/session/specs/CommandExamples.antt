-- Some lines and the commands that they give.
use Rattle.std.specs.Prelude.{◌≡◌, [], ℕ, List, codes}
use Rattle.session.specs.Commands.{Bad, Blank, Conformable, Define, DropLast, Edit, Expression, Load, Locale}
use Rattle.session.specs.Commands.{Quit, Redo, Save, Search, Set, Stats, Undo, Unknown, Unwatch, Watch}
use Rattle.session.specs.Commands.{session_command_of_line}

-- a line that gives `Bad` with this word
abbrev pub IsBadSessionLine : (line word : List ℕ) → Type 0
IsBadSessionLine line word = session_command_of_line line ≡ Bad word

pub record SessionCommandExamples : Type 0 where
  pub blank_line : session_command_of_line (codes " \t# no text\r") ≡ Blank
  pub quit : session_command_of_line (codes " quit ") ≡ Quit
  pub exit : session_command_of_line (codes "exit # done") ≡ Quit
  pub conformable : session_command_of_line (codes "?") ≡ Conformable
  pub search : session_command_of_line (codes "search  foot ") ≡ Search (codes "foot")
  pub expression : session_command_of_line (codes " 2 km # far") ≡ Expression (codes "2 km")
  pub search_alone : session_command_of_line (codes "search") ≡ Expression (codes "search")
  -- each command word with its arguments
  pub define : session_command_of_line (codes ":define  yard 3 ft ") ≡ Edit (Define (codes "yard 3 ft"))
  pub drop : session_command_of_line (codes ":drop k-") ≡ Edit (DropLast (codes "k-"))
  pub drop_alone : session_command_of_line (codes ":drop") ≡ Edit (DropLast [])
  pub set : session_command_of_line (codes ":set SYSTEM  us 2") ≡ Edit (Set (codes "SYSTEM") (codes "us 2"))
  pub locale : session_command_of_line (codes ":locale en_GB") ≡ Edit (Locale (codes "en_GB"))
  pub colon_undo : session_command_of_line (codes ":undo") ≡ Edit Undo
  pub colon_redo : session_command_of_line (codes ":redo") ≡ Edit Redo
  pub load : session_command_of_line (codes ":load my units") ≡ Load (codes "my units")
  pub save : session_command_of_line (codes ":save my units") ≡ Save (codes "my units")
  pub stats : session_command_of_line (codes ":stats") ≡ Stats
  pub watch : session_command_of_line (codes ":watch 1 ft ; m ; s") ≡ Watch (codes "1 ft") (codes "m ; s")
  pub unwatch : session_command_of_line (codes ":unwatch") ≡ Unwatch
  -- command words that lack an argument, or have one too many
  pub no_definition : IsBadSessionLine (codes ":define") (codes ":define")
  pub no_value : IsBadSessionLine (codes ":set SYSTEM") (codes ":set")
  pub no_locale : IsBadSessionLine (codes ":locale ") (codes ":locale")
  pub undo_some : IsBadSessionLine (codes ":undo 2") (codes ":undo")
  pub redo_some : IsBadSessionLine (codes ":redo 2") (codes ":redo")
  pub no_file : IsBadSessionLine (codes ":load") (codes ":load")
  pub no_target : IsBadSessionLine (codes ":save") (codes ":save")
  pub stats_of : IsBadSessionLine (codes ":stats m") (codes ":stats")
  pub no_to : IsBadSessionLine (codes ":watch ft") (codes ":watch")
  pub blank_from : IsBadSessionLine (codes ":watch ; m") (codes ":watch")
  pub list_as_to : IsBadSessionLine (codes ":watch ft ; ?") (codes ":watch")
  pub unwatch_one : IsBadSessionLine (codes ":unwatch ft") (codes ":unwatch")
  -- words that are not command words
  pub unknown_command : session_command_of_line (codes ":quit now") ≡ Unknown (codes ":quit")
  pub prefix : session_command_of_line (codes ":und") ≡ Unknown (codes ":und")
