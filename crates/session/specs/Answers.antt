-- The answers to lines, and the states after them.
use Rattle.std.specs.Prelude.{◌+◌, ◌++◌, ◌∷◌, [], ℕ, List, Bool, true, false, Option, Result, Ok, Err, codes, length}
use Rattle.units_io.specs.FileMap.{FileMap, with_file}
use Rattle.deck.specs.Tables.{table_of_deck as table_in}
use Rattle.deck_save.specs.declared.fault.SaveFault.{SaveFault}
use Rattle.live_table.specs.TableView.{LiveView}
use Rattle.survey.specs.ConversionReplies.{SurveyedReply}
use Rattle.session.specs.EditResults.{EditResult, Made, Refused}
use Rattle.session.specs.Lines.{session_line_with_word}
use Rattle.session.specs.Queries.{names_settled_in_session, session_table_after_events, session_table_after_queries}
use Rattle.session.specs.Sessions.{SessionAndFiles, session_of}
use Rattle.session.specs.Versions.{Versions}
use Rattle.session.specs.WatchQueries.{session_edit_events}
use Rattle.watch.specs.Changes.{watch_notice}
use Rattle.watch.specs.Edits.{report_by_edit}
use Rattle.watch.specs.WatchViews.{WatchSubject, queries_of, reply_to}

-- the bytes on each sink, the number of newly settled names, and the state after the line
pub record SessionAnswer : Type 0 where
  pub out : List ℕ
  pub err : List ℕ
  pub newly : ℕ
  pub state_after : SessionAndFiles

-- a text on `out`; nothing changes
abbrev pub session_output_answer : List ℕ → SessionAndFiles → SessionAnswer
session_output_answer text state = record { out = text; err = []; newly = 0; state_after = state }

-- a state with this table and this pending FROM
abbrev pub session_with_table : LiveView → (pending : Option (List ℕ)) → SessionAndFiles → SessionAndFiles
session_with_table table pending state =
    let session = state.session in
    record {
      session = session_of session.options table pending session.versions session.watched_pairs;
      files =
          state.files;
    }

-- a state with an edited deck: this table, and these versions before and after it
abbrev pub session_with_edit : LiveView → Versions → SessionAndFiles → SessionAndFiles
session_with_edit table versions state =
    let session = state.session in
    record {
      session = session_of session.options table session.pending_from versions session.watched_pairs;
      files =
          state.files;
    }

-- a state in which these conversions are watched
abbrev pub session_with_watches : LiveView → List WatchSubject → SessionAndFiles → SessionAndFiles
session_with_watches table watched state =
    let session = state.session in
    record {
      session = session_of session.options table session.pending_from session.versions watched;
      files =
          state.files;
    }

-- the reply of a query, after which this FROM is pending
abbrev pub session_query_answer : SurveyedReply → (pending : Option (List ℕ)) → SessionAndFiles → SessionAnswer
session_query_answer asked pending state = record {
  out = asked.reply.text;
  err = [];
  newly = names_settled_in_session asked.queries state.session.table;
  state_after = session_with_table (session_table_after_queries asked.queries state.session.table) pending state;
}

-- the answer to an edit with this result, with the notices of a file if one was loaded: all watched conversions are
-- queried again, and those that changed are reported
abbrev pub session_edit_answer : EditResult → (notices : List ℕ) → SessionAndFiles → SessionAnswer
session_edit_answer (Refused line) notices state = session_output_answer line state
session_edit_answer (Made deck versions) notices state =
    let session = state.session in
    let events = session_edit_events deck session.options session.watched_pairs in
    record {
      out = report_by_edit (table_in session.table.deck) (table_in deck) session.options session.watched_pairs;
      err = notices;
      newly = names_settled_in_session events session.table;
      state_after = session_with_edit (session_table_after_events events deck session.table) versions state;
    }

-- a conversion is watched from now on, and its reply is returned; or a line says that the largest number is already
-- watched
abbrev pub session_watch_answer : (full : Bool) → WatchSubject → SessionAndFiles → SessionAnswer
session_watch_answer true s state = session_output_answer (codes "too many watches\n") state
session_watch_answer false s state =
    let session = state.session in
    let table = table_in session.table.deck in
    let events = queries_of table session.options s in
    record {
      out = watch_notice (length session.watched_pairs + 1) (reply_to table session.options s);
      err = [];
      newly = names_settled_in_session events session.table;
      state_after = session_with_watches (session_table_after_queries events session.table)
          (session.watched_pairs ++ s ∷ []) state;
    }

-- nothing is watched any longer
abbrev pub session_unwatch_answer : SessionAndFiles → SessionAnswer
session_unwatch_answer state =
    record { out = []; err = []; newly = 0; state_after = session_with_watches state.session.table [] state }

-- the answer to a save: nothing, or a line that says that the file would be too long
abbrev pub session_save_reply : Result (List ℕ) SaveFault → (name : List ℕ) → List ℕ
session_save_reply (Ok text) name = []
session_save_reply (Err fault) name = session_line_with_word (codes "file too long: ") name

abbrev pub files_after_session_save : Result (List ℕ) SaveFault → (name : List ℕ) → FileMap → FileMap
files_after_session_save (Ok text) name files = with_file files name text
files_after_session_save (Err fault) name files = files

abbrev pub session_save_answer : Result (List ℕ) SaveFault → (name : List ℕ) → SessionAndFiles → SessionAnswer
session_save_answer outcome name state = record {
  out = session_save_reply outcome name;
  err = [];
  newly = 0;
  state_after = record { session = state.session; files = files_after_session_save outcome name state.files };
}
