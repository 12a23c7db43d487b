-- Edits of the deck of a session.
use Rattle.std.specs.Prelude.{◌++◌, [], ℕ, List, Bool, true, false, Option, Some, None, Result, Ok, Err, codes}
use Rattle.def_entry.specs.Faults.{entry_fault_text, is_entry_fault_of_line}
use Rattle.deck.specs.Decks.{DeckContents}
pub use Rattle.deck.specs.SettingChanges.{settings_with_locale, settings_with_variable}
use Rattle.deck.specs.declared.fault.DeckFault.{DeckFault}
use Rattle.deck.specs.declared.fault.DeckFault.TheVariants.{BadLine, NoSuchKey, DeckFull, Absent, TooLong, ReadFailed}
use Rattle.deck.specs.declared.fault.DeckFault.TheVariants.{OutOfMemory}
use Rattle.edit_history.specs.Versions.{HistoryVersion}
use Rattle.edit_history.specs.declared.fault.HistoryFault.{HistoryFault}
use Rattle.edit_history.specs.declared.fault.HistoryFault.TheVariants as history
use Rattle.session.specs.Lines.{session_lines_of_texts}

-- the reason why an edit is refused, in words; `named` is the key or file as it was typed, if the edit has one
abbrev pub session_refusal_text : DeckFault → (named : List ℕ) → List ℕ
session_refusal_text (BadLine fault) named = entry_fault_text fault
session_refusal_text NoSuchKey named = codes "no such definition: " ++ named
session_refusal_text DeckFull named = codes "deck full"
session_refusal_text Absent named = codes "no file: " ++ named
session_refusal_text TooLong named = codes "file too long: " ++ named
session_refusal_text ReadFailed named = []
session_refusal_text OutOfMemory named = []

-- whether an edit is refused for this reason while the session goes on
abbrev pub is_session_refusal : DeckFault → Bool
is_session_refusal ReadFailed = false
is_session_refusal OutOfMemory = false
is_session_refusal _ = true

-- whether a line is refused for its contents, and not because memory ran out
abbrev pub is_session_line_refusal : DeckFault → Bool
is_session_line_refusal (BadLine fault) = is_entry_fault_of_line fault
is_session_line_refusal _ = true

-- the deck of a version, with the present notices, which are those of the last load
abbrev pub session_deck_of_version : HistoryVersion → DeckContents → DeckContents
session_deck_of_version v deck = record { lines = v.lines; settings = v.settings; notices = deck.notices }

-- the reason why nothing was undone or redone, in words, or `None` if memory ran out
abbrev pub session_undo_refusal_text : HistoryFault → Option (List ℕ)
session_undo_refusal_text history.NothingToUndo = Some (codes "nothing to undo")
session_undo_refusal_text history.NothingToRedo = Some (codes "nothing to redo")
session_undo_refusal_text history.OutOfMemory = None

-- the lines of the notices of a load
abbrev pub notice_lines : Result DeckContents DeckFault → List ℕ
notice_lines (Ok deck) = session_lines_of_texts deck.notices
notice_lines (Err fault) = []
