-- The results of edits of the deck of a session.
use Rattle.std.specs.Prelude.{[], ℕ, List, Option, Some, None, Result, Ok, Err, codes}
use Rattle.def_entry.specs.Keys.{key_of_spelling}
use Rattle.def_entry.specs.declared.key.Key.{Key}
use Rattle.def_lines.specs.Blanks.{trimmed_of_blanks}
use Rattle.deck.specs.Decks.{DeckContents}
use Rattle.deck.specs.Edits.{deck_after_defining, deck_after_dropping, deck_after_switching}
use Rattle.deck.specs.declared.fault.DeckFault.{DeckFault}
use Rattle.edit_history.specs.Timelines.{HistoryTimeline, redone_timeline, undone_timeline}
use Rattle.session.specs.Commands.{DeckEdit, Define, DropLast, Set, Locale, Undo, Redo}
use Rattle.session.specs.DeckEdits.{session_deck_of_version, session_refusal_text, settings_with_locale}
use Rattle.session.specs.DeckEdits.{settings_with_variable}
use Rattle.session.specs.Lines.{session_line_of_text, session_line_with_word}
use Rattle.session.specs.Versions.{SessionTableAndVersions, Versions, session_timeline, session_versions}
use Rattle.session.specs.Versions.{session_versions_after_edit}

-- the edit is made and gives this deck, with these versions before and after it; or it is refused with a line, and
-- nothing changes
pub data EditResult : Type 0 where
  Made : DeckContents → Versions → EditResult
  Refused : (line : List ℕ) → EditResult

-- the result of an edit with this outcome; `named` is the key or file as it was typed, if the edit has one
abbrev pub session_edit_result : Result DeckContents DeckFault → (named : List ℕ) → SessionTableAndVersions → EditResult
session_edit_result (Ok deck) named before = Made deck (session_versions_after_edit deck before)
session_edit_result (Err fault) named before = Refused (session_line_of_text (session_refusal_text fault named))

-- the result of an undo or a redo: it gives this timeline, or there is nothing to undo or redo
abbrev pub session_undo_redo_result : Option HistoryTimeline → (nothing : List ℕ) → DeckContents → EditResult
session_undo_redo_result None nothing deck = Refused (session_line_of_text nothing)
session_undo_redo_result (Some t) nothing deck = Made (session_deck_of_version t.present deck) (session_versions t)

-- the result of removing the last line of the key that a text names, if it names one
abbrev pub session_drop_result : Option Key → (text : List ℕ) → SessionTableAndVersions → EditResult
session_drop_result None text before = Refused (session_line_with_word (codes "bad command: ") (codes ":drop"))
session_drop_result (Some key) text before = session_edit_result (deck_after_dropping key before.table.deck) text before

-- the result of each edit
abbrev pub session_result_of_edit : DeckEdit → SessionTableAndVersions → EditResult
session_result_of_edit (Define line) before =
    session_edit_result (deck_after_defining (trimmed_of_blanks line) before.table.deck) [] before
session_result_of_edit (DropLast text) before = session_drop_result (key_of_spelling text) text before
session_result_of_edit (Set name value) before =
    let deck = before.table.deck in
    session_edit_result (Ok (deck_after_switching (settings_with_variable deck.settings name value) deck)) [] before
session_result_of_edit (Locale locale) before =
    let deck = before.table.deck in
    session_edit_result (Ok (deck_after_switching (settings_with_locale deck.settings locale) deck)) [] before
session_result_of_edit Undo before =
    let deck = before.table.deck in
    session_undo_redo_result (undone_timeline (session_timeline deck before.versions)) (codes "nothing to undo") deck
session_result_of_edit Redo before =
    let deck = before.table.deck in
    session_undo_redo_result (redone_timeline (session_timeline deck before.versions)) (codes "nothing to redo") deck
