-- Laws about the past of a line. Cached outcomes affect only the answer to `:stats`; versions of the deck affect only
-- the answers to `:undo` and `:redo`; an undo restores what an edit changed, and a load restores what was saved.
use Rattle.std.specs.Prelude.{◌≡◌, ℕ, List, Bool, true, false, Ok}
use Rattle.std.specs.List.{list_any}
use Rattle.deck.specs.Decks.{DeckContents}
use Rattle.deck.specs.FileLoads.{deck_after_appending, deck_after_loading}
use Rattle.deck.specs.Tables.{table_of_deck as table_in}
use Rattle.deck.specs.declared.settings.Settings.{Settings}
use Rattle.deck_save.specs.Laws.{CanBeSaved, IsSavedDeckGivenBack}
use Rattle.edit_history.specs.Versions.{history_version}
use Rattle.live_table.specs.TableView.{LiveView}
use Rattle.live_table.specs.States.{CachedOutcomes}
use Rattle.session.specs.Answers.{SessionAnswer}
use Rattle.session.specs.Commands.{Command, DeckEdit, Edit, Load, Redo, Save, Stats, Undo, session_command_of_line}
use Rattle.session.specs.EditResults.{Made, session_result_of_edit}
use Rattle.session.specs.Sessions.{SessionAndFiles, session_of, session_table_and_versions}
use Rattle.session.specs.Steps.{session_answer_to}
use Rattle.session.specs.Talks.{SessionTrace, talk_over_lines}
use Rattle.session.specs.Versions.{Versions}

-- a state with these cached outcomes, and this count of settled names
abbrev pub session_with_cache : CachedOutcomes → (reductions : ℕ) → SessionAndFiles → SessionAndFiles
session_with_cache cached reductions state =
    let session = state.session in
    let table : LiveView = record { deck = session.table.deck; kept_outcomes = cached; reductions = reductions } in
    record {
      session = session_of session.options table session.pending_from session.versions session.watched_pairs;
      files = state.files;
    }

-- a state with these versions before and after the present one
abbrev pub session_with_versions : Versions → SessionAndFiles → SessionAndFiles
session_with_versions versions state =
    let session = state.session in
    record {
      session = session_of session.options session.table session.pending_from versions session.watched_pairs;
      files = state.files;
    }

abbrev pub is_session_stats_command : Command → Bool
is_session_stats_command Stats = true
is_session_stats_command _ = false

abbrev pub is_session_undo_or_redo : DeckEdit → Bool
is_session_undo_or_redo Undo = true
is_session_undo_or_redo Redo = true
is_session_undo_or_redo _ = false

abbrev pub is_session_undo_redo_command : Command → Bool
is_session_undo_redo_command (Edit edit) = is_session_undo_or_redo edit
is_session_undo_redo_command _ = false

-- two answers have the same bytes, and the states after them differ only in the cache and its count
pub record IsSameAnswerButCache (a b : SessionAnswer) : Type 0 where
  pub out : b.out ≡ a.out
  pub err : b.err ≡ a.err
  pub cached_outcomes : CachedOutcomes
  pub reductions : ℕ
  pub same_state : b.state_after ≡ session_with_cache cached_outcomes reductions a.state_after

-- two answers have the same bytes and settle equally many names, and the states after them differ only in their
-- versions
pub record IsSameAnswerButVersions (a b : SessionAnswer) : Type 0 where
  pub out : b.out ≡ a.out
  pub err : b.err ≡ a.err
  pub newly : b.newly ≡ a.newly
  pub versions : Versions
  pub same_state : b.state_after ≡ session_with_versions versions a.state_after

-- two talks have the same output, and their states differ only in the cache and its count
pub record AreSameTalksButCache (a b : SessionTrace) : Type 0 where
  pub out : b.out ≡ a.out
  pub err : b.err ≡ a.err
  pub cached_outcomes : CachedOutcomes
  pub reductions : ℕ
  pub state : b.state ≡ session_with_cache cached_outcomes reductions a.state

pub record AreSameTalksButVersions (a b : SessionTrace) : Type 0 where
  pub out : b.out ≡ a.out
  pub err : b.err ≡ a.err
  pub steps : b.steps ≡ a.steps
  pub versions : Versions
  pub state : b.state ≡ session_with_versions versions a.state

-- a deck has the lines and the settings of another, and therefore the same table, from which all replies are made
pub record IsSessionDeckRestored (before after : DeckContents) : Type 0 where
  pub version : history_version after ≡ history_version before
  pub table : table_in after ≡ table_in before

-- the deck of a state
abbrev pub session_deck : SessionAndFiles → DeckContents
session_deck state = state.session.table.deck

-- the state after a command and then an undo
abbrev pub session_after_command_and_undo : SessionAndFiles → Command → SessionAndFiles
session_after_command_and_undo state command =
    (session_answer_to (session_answer_to state command).state_after (Edit Undo)).state_after

-- law: the cache and its count affect only the answer to `:stats`
abbrev pub SessionCacheLaw : Type 0
SessionCacheLaw = (state : SessionAndFiles) (cached : CachedOutcomes) (reductions : ℕ) (command : Command)
    → is_session_stats_command command ≡ false
    → IsSameAnswerButCache (session_answer_to state command)
    (session_answer_to (session_with_cache cached reductions state) command)

-- law: the cache and its count do not affect the answers to lines, if none of them is `:stats`
abbrev pub CacheTalkLaw : Type 0
CacheTalkLaw = (a b : SessionTrace) (lines : List (List ℕ))
    → list_any (λ line. is_session_stats_command (session_command_of_line line)) lines ≡ false
    → AreSameTalksButCache a b → AreSameTalksButCache (talk_over_lines a lines) (talk_over_lines b lines)

-- law: versions affect only the answers to `:undo` and `:redo`
abbrev pub SessionVersionsLaw : Type 0
SessionVersionsLaw = (state : SessionAndFiles) (versions : Versions) (command : Command)
    → is_session_undo_redo_command command ≡ false
    → IsSameAnswerButVersions (session_answer_to state command)
    (session_answer_to (session_with_versions versions state) command)

-- law: versions do not affect the answers to lines, if none of them is `:undo` or `:redo`
abbrev pub VersionsTalkLaw : Type 0
VersionsTalkLaw = (a b : SessionTrace) (lines : List (List ℕ))
    → list_any (λ line. is_session_undo_redo_command (session_command_of_line line)) lines ≡ false
    → AreSameTalksButVersions a b → AreSameTalksButVersions (talk_over_lines a lines) (talk_over_lines b lines)

-- law: an undo after an edit that was made restores the lines, the settings and the table
abbrev pub SessionUndoLaw : Type 0
SessionUndoLaw = (state : SessionAndFiles) (edit : DeckEdit) (deck : DeckContents) (versions : Versions)
    → is_session_undo_or_redo edit ≡ false
    → session_result_of_edit edit (session_table_and_versions state.session) ≡ Made deck versions
    → IsSessionDeckRestored (session_deck state) (session_deck (session_after_command_and_undo state (Edit edit)))

-- law: an undo after a load that was made restores them too
abbrev pub SessionUndoLoadLaw : Type 0
SessionUndoLoadLaw = (state : SessionAndFiles) (name : List ℕ) (deck : DeckContents)
    → deck_after_appending state.files name (session_deck state) ≡ Ok
    deck
    → IsSessionDeckRestored (session_deck state) (session_deck (session_after_command_and_undo state (Load name)))

pub record SessionHistoryLaws : Type 0 where
  pub cache : SessionCacheLaw
  pub cache_talk : CacheTalkLaw
  pub versions : SessionVersionsLaw
  pub versions_talk : VersionsTalkLaw
  pub undo : SessionUndoLaw
  pub undo_load : SessionUndoLoadLaw

-- law: if a run loads a file that a session saved, it has the definitions of that session, under all settings
abbrev pub SessionSaveLaw : Type 0
SessionSaveLaw = (state : SessionAndFiles) (name : List ℕ) (settings : Settings) → CanBeSaved (session_deck state)
    → IsSavedDeckGivenBack (session_deck state) settings
    (deck_after_loading (session_answer_to state (Save name)).state_after.files name settings)
