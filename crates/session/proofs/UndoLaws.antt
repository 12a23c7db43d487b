-- An undo after an edit, and a load after a save.
use Rattle.std.proofs.Common.{◌≡◌, ◌∙◌, refl, sym, ap, ℕ, true, false, true≢false, List, [], Option, Some}
use Rattle.std.proofs.Common.{None, Result, Ok, Err, if◌then◌else◌, length, cond}
use Rattle.std.specs.Cmp.Lexicographic.{nat_list_cmp_total}
use Rattle.std.specs.FinMap as map_of
use Rattle.std.proofs.lemmas.Bool.{le-ltb}
use Rattle.units_io.specs.FileMap.{FileMap, file_of_name, longest_file}
use Rattle.quantity.proofs.Names.{power_name_is_itself}
use Rattle.def_entry.specs.declared.key.Key.{Key}
use Rattle.def_entry.specs.Keys.{key_of_spelling}
use Rattle.def_lines.specs.Blanks.{trimmed_of_blanks}
use Rattle.deck.specs.Decks.{DeckContents}
use Rattle.deck.specs.Edits.{deck_after_defining, deck_after_dropping, deck_after_switching}
use Rattle.deck.specs.declared.fault.DeckFault.{DeckFault}
use Rattle.deck.specs.FileLoads.{deck_after_appending}
use Rattle.deck.specs.Tables.{active_definitions, table_of_deck_definitions}
use Rattle.deck_save.specs.Laws.{CanBeSaved, SavedFileLaw}
use Rattle.deck_save.specs.SavedText.{saved_file, saved_text}
use Rattle.deck_save.specs.declared.fault.SaveFault.TheVariants.{TooLong}
use Rattle.edit_history.specs.Versions.{HistoryVersion, history_version}
use Rattle.session.specs.Answers.{files_after_session_save, session_edit_answer}
use Rattle.session.specs.Commands.{DeckEdit, Define, DropLast, Edit, Locale, Redo, Set, Undo}
use Rattle.session.specs.EditResults.{EditResult, Made, Refused, session_drop_result, session_edit_result}
use Rattle.session.specs.EditResults.{session_result_of_edit}
use Rattle.session.specs.DeckEdits.{notice_lines, settings_with_locale, settings_with_variable}
use Rattle.session.specs.HistoryLaws.{IsSessionDeckRestored, SessionHistoryLaws, SessionSaveLaw, SessionUndoLaw}
use Rattle.session.specs.HistoryLaws.{SessionUndoLoadLaw, is_session_undo_or_redo, session_deck}
use Rattle.session.specs.Queries.{session_table_after_events}
use Rattle.session.specs.Sessions.{SessionAndFiles, session_table_and_versions}
use Rattle.session.specs.Steps.{session_answer_to}
use Rattle.session.specs.Versions.{SessionTableAndVersions, Versions, session_versions_after_edit}
use Rattle.session.proofs.CacheEffects.{cache-talk-law, session-cache-law}
use Rattle.session.proofs.OtherVersions.{session-versions-law, versions-talk-law}

-- the versions after an edit, if it was made
abbrev versions_in : EditResult → Versions → Versions
versions_in (Made deck versions) none = versions
versions_in (Refused line) none = none

abbrev made_deck : EditResult → DeckContents → DeckContents
made_deck (Made deck versions) none = deck
made_deck (Refused line) none = none

module _ (before : SessionTableAndVersions) (deck : DeckContents) (versions : Versions) where
  after-result : (outcome : Result DeckContents DeckFault) (named : List ℕ)
      → session_edit_result outcome named before ≡ Made deck versions
      → versions ≡ session_versions_after_edit deck before
  after-result (Ok d) named e =
      sym (ap (λ r. versions_in r versions) e)
      ∙ ap (λ c. session_versions_after_edit c before) (ap (λ r. made_deck r deck) e)
  after-result (Err fault) named e = absurd (cc)

  after-drop : (key : Option Key) (text : List ℕ) → session_drop_result key text before ≡ Made deck versions
      → versions ≡ session_versions_after_edit deck before
  after-drop None text e = absurd (cc)
  after-drop (Some key) text e = after-result (deck_after_dropping key before.table.deck) text e

  after-edit : (edit : DeckEdit) → is_session_undo_or_redo edit ≡ false
      → session_result_of_edit edit before ≡ Made deck versions
      → versions ≡ session_versions_after_edit deck before
  after-edit (Define line) h e = after-result (deck_after_defining (trimmed_of_blanks line) before.table.deck) [] e
  after-edit (DropLast text) h e = after-drop (key_of_spelling text) text e
  after-edit (Set name value) h e =
      let now = before.table.deck in
      after-result (Ok (deck_after_switching (settings_with_variable now.settings name value) now)) [] e
  after-edit (Locale locale) h e =
      let now = before.table.deck in
      after-result (Ok (deck_after_switching (settings_with_locale now.settings locale) now)) [] e
  after-edit Undo h e = absurd (true≢false h)
  after-edit Redo h e = absurd (true≢false h)

-- the version of the deck after an undo
abbrev undone_version : SessionAndFiles → HistoryVersion
undone_version state = history_version (session_deck (session_answer_to state (Edit Undo)).state_after)

-- decks with the same lines and settings have the same table
session_deck_is_restored : (before after : DeckContents) → history_version after ≡ history_version before
    → IsSessionDeckRestored before after
session_deck_is_restored before after e = record {
  version = e;
  table = ap (λ (v : HistoryVersion). table_of_deck_definitions (active_definitions v.settings v.lines)) e;
}

-- undoing an edit with this result restores the version
session-undo-restores-version : (state : SessionAndFiles) (result : EditResult) (notices : List ℕ) (deck : DeckContents)
    (versions : Versions)
    → result ≡ Made deck versions → versions ≡ session_versions_after_edit deck
    (session_table_and_versions state.session)
    → undone_version (session_edit_answer result notices state).state_after ≡ history_version (session_deck state)
unfolding session_answer_to session_table_after_events
session-undo-restores-version state result notices deck versions made behind =
    ap (λ r. undone_version (session_edit_answer r notices state).state_after) made
    ∙ ap (λ v. undone_version (session_edit_answer (Made deck v) notices state).state_after) behind

session-undo-law : SessionUndoLaw
unfolding session_answer_to
session-undo-law state edit deck versions h made =
    session_deck_is_restored (session_deck state) _
    (session-undo-restores-version state (session_result_of_edit edit (session_table_and_versions state.session)) []
    deck versions made
    (after-edit (session_table_and_versions state.session) deck versions edit h made))

session-undo-load-law : SessionUndoLoadLaw
unfolding session_answer_to
session-undo-load-law state name deck made =
    let outcome = deck_after_appending state.files name (session_deck state) in
    session_deck_is_restored (session_deck state) _
    (session-undo-restores-version state (session_edit_result outcome name (session_table_and_versions state.session))
    (notice_lines outcome) deck
    (session_versions_after_edit deck (session_table_and_versions state.session))
    (ap (λ o. session_edit_result o name (session_table_and_versions state.session)) made) refl)

-- the file of this name has the saved text
session-saved-file-is-there : (files : FileMap) (name : List ℕ) (d : DeckContents) → CanBeSaved d
    → file_of_name (files_after_session_save (saved_file d) name files) name ≡ Some (saved_text d)
session-saved-file-is-there files name d can =
    ap (λ b. file_of_name (files_after_session_save (if b then Err TooLong else Ok (saved_text d)) name files) name)
    (le-ltb longest_file (length (saved_text d)) can.text_within_limit)
    ∙ map_of.get-insert nat_list_cmp_total files name (saved_text d) name
    ∙ ap (λ b. cond b (Some (saved_text d)) (map_of.get files name)) (power_name_is_itself name)

pub session-save-law : SavedFileLaw → SessionSaveLaw
unfolding session_answer_to
session-save-law law state name settings can =
    let deck = state.session.table.deck in
    law deck (files_after_session_save (saved_file deck) name state.files) name settings can
    (session-saved-file-is-there state.files name deck can)

pub session-history-laws : SessionHistoryLaws
session-history-laws = record {
  cache = session-cache-law;
  cache_talk = cache-talk-law;
  versions = session-versions-law;
  versions_talk = versions-talk-law;
  undo = session-undo-law;
  undo_load = session-undo-load-law;
}
