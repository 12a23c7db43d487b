-- The state of a session.
use Rattle.std.specs.Prelude.{[], ℕ, List, Option, Some, None, refl, if◌then◌else◌, codes, map}
use Rattle.std.specs.Coded.{Coded, code_by, coded×, coded_list, coded_option, coded_ℕ}
use Rattle.units_io.specs.FileMap.{FileMap}
use Rattle.deck.specs.Tables.{table_of_deck as table_in}
use Rattle.deck.specs.contracts.settings.Settings as settings
use Rattle.deck_lines.specs.contracts.line.DeckLine as line
use Rattle.edit_history.specs.Histories.{IsHistoryOf}
use Rattle.edit_history.specs.Versions.{HistoryVersion}
use Rattle.live_table.specs.TableView.{LiveView}
use Rattle.live_table.specs.contracts.live_table.LiveTable as live_table
use Rattle.reply.specs.Options.{AreReplyOptionsPrintable}
use Rattle.reply.specs.contracts.options.Options as options
use Rattle.reply.specs.declared.options.Options.{Options}
use Rattle.session.specs.Versions.{SessionTableAndVersions, Versions, session_table_with_versions}
use Rattle.session.specs.declared.workspace.Workspace.{Workspace}
use Rattle.watch.specs.WatchViews.{AreCurrent, WatchSubject, subject_of_watch}

-- a session as contracts see it: the options for its replies, the live table, the text of FROM if one is pending, the
-- versions of the deck that an undo and a redo restore, and the watched conversions
pub record SessionState : Type 0 where
  pub options : Options
  pub table : LiveView
  pub pending_from : Option (List ℕ)
  pub versions : Versions
  pub watched_pairs : List WatchSubject

-- the encodings of sessions and their parts
abbrev pub session_version_code : Coded HistoryVersion
session_version_code =
    code_by _ (coded× (coded_list line.the_row.coded) settings.the_row.coded) (λ v. (v.lines, v.settings))
    (λ p. record { lines = p.0; settings = p.1 }) (λ _. refl)

abbrev pub session_versions_code : Coded Versions
session_versions_code =
    code_by _ (coded× (coded_list session_version_code) (coded_list session_version_code)) (λ v. (v.past, v.future))
    (λ p. record { past = p.0; future = p.1 }) (λ _. refl)

abbrev pub session_subject_code : Coded WatchSubject
session_subject_code =
    code_by _ (coded× (coded_list coded_ℕ) (coded_list coded_ℕ)) (λ s. (s.from, s.to))
    (λ p. record { from = p.0; to = p.1 }) (λ _. refl)

abbrev pub session_state_code : Coded SessionState
session_state_code =
    code_by _
    (coded× options.the_row.coded
    (coded× live_table.the_row.coded
    (coded× (coded_option (coded_list coded_ℕ)) (coded× session_versions_code (coded_list session_subject_code)))))
    (λ k. (k.options, (k.table, (k.pending_from, (k.versions, k.watched_pairs)))))
    (λ p. record {
      options = p.0;
      table = p.1.0;
      pending_from = p.1.1.0;
      versions = p.1.1.1.0;
      watched_pairs =
          p.1.1.1.1;
    })
    (λ _. refl)

-- a session and the files that it can use
pub record SessionAndFiles : Type 0 where
  pub session : SessionState
  pub files : FileMap

-- a session with these parts
abbrev pub session_of : Options → LiveView → (pending : Option (List ℕ)) → Versions → (watched : List WatchSubject)
    → SessionState
session_of options table pending versions watched =
    record { options = options; table = table; pending_from = pending; versions = versions; watched_pairs = watched }

-- a session with these parts, given a live table with the versions of its deck
abbrev pub session_of_versions : Options → SessionTableAndVersions → (pending : Option (List ℕ))
    → (watched : List WatchSubject) → SessionState
session_of_versions options d pending watched = session_of options d.table pending d.versions watched

-- a session with these parts, as contracts see it
abbrev pub session_in : Workspace → SessionState
session_in w = session_of_versions w.options (session_table_with_versions w.table w.history) w.pending
    (map subject_of_watch w.watches)

-- the parts belong to one session: its replies can be printed, its history is one of its deck, and each stored reply of
-- a watch is the reply in its table
abbrev pub IsOneSession : Workspace → Type 0
IsOneSession w =
    AreReplyOptionsPrintable w.options × IsHistoryOf w.history w.table.deck
    × AreCurrent (table_in w.table.deck) w.options w.watches

-- the live table of a session with the versions of its deck
abbrev pub session_table_and_versions : SessionState → SessionTableAndVersions
session_table_and_versions session = record { table = session.table; versions = session.versions }

abbrev pub session_and_files : SessionState → FileMap → SessionAndFiles
session_and_files session files = record { session = session; files = files }

abbrev pub prompt_by_pending : (pending : Option (List ℕ)) → List ℕ
prompt_by_pending None = codes "You have: "
prompt_by_pending (Some from) = codes "You want: "

-- the prompt before the next line
unfoldable pub prompt : SessionState → List ℕ
prompt session = if session.options.quiet then [] else prompt_by_pending session.pending_from
