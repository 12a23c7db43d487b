-- The report on watched conversions after an edit.
use Rattle.std.proofs.Common.{◌≡◌, ◌+◌, ◌∷◌, [], ℕ, List, Ok, Option, refl, sym, ap, subst, ◌∙◌, arith}
use Rattle.units_io.specs.FileMap.{FileMap}
use Rattle.deck.specs.Decks.{DeckContents}
use Rattle.deck.specs.Tables.{table_of_deck as table_in}
use Rattle.edit_history.specs.Histories.{UndoStacks}
use Rattle.edit_history.specs.Timelines.{history_timeline}
use Rattle.edit_history.specs.Versions.{history_version}
use Rattle.live_table.specs.TableView.{IsAfterLiveEvents, LiveView}
use Rattle.live_table.specs.States.{Becomes, LiveEvent}
use Rattle.live_table.proofs.QuerySequence.{live_event_runs_in_turn}
use Rattle.reply.specs.declared.options.Options.{Options}
use Rattle.session.specs.Answers.{session_edit_answer}
use Rattle.session.specs.EditResults.{EditResult, Refused}
use Rattle.session.specs.Parts.{IsSessionEditAnswered, MakesSessionEdit, OutputBuffers}
use Rattle.session.specs.Queries.{LeavesSessionTable, session_table_after_events}
use Rattle.session.specs.Sessions.{SessionAndFiles, session_and_files, session_of, session_of_versions}
use Rattle.session.specs.Versions.{SessionTableAndVersions, session_table_with_versions, session_versions}
use Rattle.session.specs.WatchQueries.{session_edit_events, session_watch_queries}
use Rattle.session.specs.declared.answer.LineReply.{LineReply}
use Rattle.session.specs.declared.deck_edits.EditResult.{EditResult as Declared}
use Rattle.session.specs.declared.deck_edits.EditResult.TheVariants as answer
use Rattle.session.specs.declared.fault.SessionFault.{SessionFault}
use Rattle.session.proofs.StepIndependence.{leaves}
use Rattle.watch.specs.Edits.{report_by_edit}
use Rattle.watch.specs.WatchViews.{WatchSubject}

no_more_session_steps : (n : ℕ) → n ≡ n + 0
no_more_session_steps n = omega arith

-- the result says that the edit was made
pub session_reports_edit_made : (r : EditResult) (buffers : Declared) (old new : SessionTableAndVersions)
    → buffers ≡ answer.Made
    → IsSessionEditAnswered {E = SessionFault} r (Ok buffers) old new → MakesSessionEdit r old new
session_reports_edit_made r buffers old new e is =
    subst (λ (a : Declared). IsSessionEditAnswered {E = SessionFault} r (Ok a) old new) e is

module _ (r : EditResult) (notices : List ℕ) (options : Options) (pending : Option (List ℕ)) (m : FileMap)
    (old : LiveView)
    (before : UndoStacks) (watched : List WatchSubject) (reply : LineReply) where
  abbrev was : SessionAndFiles
  was = session_and_files (session_of_versions options (session_table_with_versions old before) pending watched) m

  -- the edit is refused with a line
  pub refused_answered : (new : SessionTableAndVersions) (n : ℕ) → r ≡ Refused reply.out
      → new ≡ session_table_with_versions old before
      → reply.err ≡ []
      → OutputBuffers (session_edit_answer r notices was) reply (session_of_versions options new pending watched) n n
  refused_answered new n is same quiet =
      subst (λ (e : EditResult). OutputBuffers (session_edit_answer e notices was) reply
      (session_of_versions options new pending watched) n n)
      (sym is) (record {
        out = refl;
        err = quiet;
        session = ap (λ (d : SessionTableAndVersions). session_of_versions options d pending watched) same;
        steps = no_more_session_steps n;
      })

  module _ (mid new : LiveView) (after : UndoStacks) (watched_now : List WatchSubject) (n k : ℕ)
      (makes : MakesSessionEdit r (session_table_with_versions old before) (session_table_with_versions mid after))
      (asked : IsAfterLiveEvents (session_watch_queries (table_in mid.deck) options watched) mid new n k)
      (deck : new.deck ≡ mid.deck)
      (same : watched_now ≡ watched) where
    abbrev events : List LiveEvent
    events = session_edit_events mid.deck options watched

    left : LeavesSessionTable events old new n k
    left = leaves events old new n k
        (live_event_runs_in_turn (Becomes (table_in mid.deck) ∷ [])
        (session_watch_queries (table_in mid.deck) options watched) old mid
        new
        n n k (makes.edit n) asked)

    behind : session_of_versions options (session_table_with_versions new after) pending watched_now
        ≡ session_of options (session_table_after_events events mid.deck old) pending
        (session_versions (history_timeline after (history_version mid.deck)))
        watched
    behind =
        ap (λ (w : List WatchSubject). session_of_versions options (session_table_with_versions new after) pending w)
        same
        ∙ ap (λ (d : DeckContents). session_of options new pending
        (session_versions (history_timeline after (history_version d))) watched)
        deck
        ∙ ap (λ (t : LiveView). session_of options t pending
        (session_versions (history_timeline after (history_version mid.deck))) watched)
        (left.table ∙ ap (λ (d : DeckContents). session_table_after_events events d old) deck)

    -- the edit was made, and the watched conversions that it changed are reported
    pub made_answered : reply.out ≡ report_by_edit (table_in old.deck) (table_in mid.deck) options watched
        → reply.err ≡ notices
        → OutputBuffers (session_edit_answer r notices was) reply
        (session_of_versions options (session_table_with_versions new after) pending watched_now) n k
    made_answered report_text noticed =
        subst (λ (e : EditResult). OutputBuffers (session_edit_answer e notices was) reply
        (session_of_versions options (session_table_with_versions new after) pending watched_now) n k)
        (sym makes.result_is)
        (record { out = report_text; err = noticed; session = behind; steps = left.steps })
