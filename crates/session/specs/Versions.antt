-- The versions of the deck of a session that an undo and a redo restore.
use Rattle.std.specs.Prelude.{[], List}
use Rattle.deck.specs.Decks.{DeckContents}
use Rattle.edit_history.specs.Histories.{UndoStacks}
use Rattle.edit_history.specs.Timelines.{HistoryTimeline, history_timeline, history_timeline_after_edit}
use Rattle.edit_history.specs.Versions.{HistoryVersion, history_version}
use Rattle.live_table.specs.TableView.{LiveView}

-- the versions before the present one, the last one first, and those that were undone, the one undone last first
pub record Versions : Type 0 where
  pub past : List HistoryVersion
  pub future : List HistoryVersion

-- the versions of a deck that was never edited: none
abbrev pub no_session_versions : Versions
no_session_versions = record { past = []; future = [] }

-- the timeline of these versions and the present one
abbrev pub session_timeline : DeckContents → Versions → HistoryTimeline
session_timeline deck versions =
    record { past = versions.past; present = history_version deck; future = versions.future }

abbrev pub session_versions : HistoryTimeline → Versions
session_versions t = record { past = t.past; future = t.future }

-- a live table with the versions of its deck
pub record SessionTableAndVersions : Type 0 where
  pub table : LiveView
  pub versions : Versions

-- the versions after an edit that gives this deck: the version before it is added to the past, and the future is empty
abbrev pub session_versions_after_edit : DeckContents → SessionTableAndVersions → Versions
session_versions_after_edit deck before =
    session_versions (history_timeline_after_edit (history_version deck)
    (session_timeline before.table.deck before.versions))

-- a live table with the versions that its history gives
abbrev pub session_table_with_versions : LiveView → UndoStacks → SessionTableAndVersions
session_table_with_versions table history =
    record { table = table; versions = session_versions (history_timeline history (history_version table.deck)) }
