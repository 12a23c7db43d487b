-- Replies to queries.
use Rattle.std.proofs.Common.{◌≡◌, [], ℕ, List, Some, None, ap, subst, ◌∙◌, Ok, Err, IfOk}
use Rattle.std.specs.Prelude.{Result}
use Rattle.std.specs.declared.option.Option.{Option}
use Rattle.std.specs.declared.alloc.AllocError.{AllocError}
use Rattle.units_io.specs.FileMap.{FileMap}
use Rattle.deck.specs.Decks.{DeckContents}
use Rattle.deck.specs.Tables.{table_of_deck as table_in}
use Rattle.edit_history.specs.Histories.{UndoStacks}
use Rattle.edit_history.specs.Timelines.{history_timeline}
use Rattle.edit_history.specs.Versions.{history_version}
use Rattle.live_table.specs.Calls.{AreLiveQueries}
use Rattle.live_table.specs.TableView.{IsAfterLiveEvents, LiveView}
use Rattle.live_table.specs.States.{LiveEvent}
use Rattle.reply.specs.declared.options.Options.{Options}
use Rattle.survey.specs.ConversionReplies.{asked_conversion}
use Rattle.session.specs.Parts.{AnswersSessionQuery, IsSessionQueryAnswered, OutputBuffers}
use Rattle.session.specs.Queries.{session_table_after_events}
use Rattle.session.specs.Sessions.{session_and_files, session_of, session_of_versions}
use Rattle.session.specs.Steps.{session_expression_answer}
use Rattle.session.specs.Versions.{session_table_with_versions, session_versions}
use Rattle.session.specs.declared.answer.LineReply.{LineReply}
use Rattle.session.proofs.StepIndependence.{leaves}
use Rattle.watch.specs.WatchViews.{WatchSubject}

-- queries that were made and do not change the deck give a reply
pub session_queries_give_reply : {A : Type 0} (events : List LiveEvent) (answer reply : A) (old new : LiveView)
    (n k : ℕ)
    → reply ≡ answer
    → IsAfterLiveEvents events old new n k → new.deck ≡ old.deck → AnswersSessionQuery events answer reply old new n k
session_queries_give_reply events answer reply old new n k e f same =
    let l = leaves events old new n k f in
    record { reply_is = e; table = l.table ∙ ap (λ d. session_table_after_events events d old) same; steps = l.steps }

-- queries that were made or cut off, and do not change the deck, give a reply or an error
pub session_queries_reply_or_fail : {A : Type 0} (events : List LiveEvent) (answer : A) (result : Result A AllocError)
    (old new : LiveView)
    (n k : ℕ) → IfOk result (λ reply. reply ≡ answer) → AreLiveQueries events result old new n k → new.deck ≡ old.deck
    → IsSessionQueryAnswered events answer result old new n k
session_queries_reply_or_fail events answer (Ok reply) old new n k e f same =
    session_queries_give_reply events answer reply old new n k e f same
session_queries_reply_or_fail events answer (Err fault) old new n k e f same = tt

-- a conversion from the pending FROM was answered, and nothing is pending afterwards
pub pending_conversion_is_answered : (options : Options) (old new : LiveView) (history : UndoStacks)
    (pending pending_now : Option (List ℕ)) (watched : List WatchSubject) (m : FileMap) (from from_too text : List ℕ)
    (reply : LineReply) (n k : ℕ) → Some from ≡ pending → pending_now ≡ None → from_too ≡ from
    → AnswersSessionQuery (asked_conversion (table_in old.deck) options from_too text).queries
    (asked_conversion (table_in old.deck) options from_too text).reply.text reply.out old new n k
    → reply.err ≡ [] → new.deck ≡ old.deck
    → OutputBuffers (session_expression_answer pending text
    (session_and_files (session_of_versions options (session_table_with_versions old history) pending watched) m)) reply
    (session_of_versions options (session_table_with_versions new history) pending_now watched) n k
pending_conversion_is_answered options old new history pending pending_now watched m from from_too text reply n k is
    taken same
    replied quiet deck =
    subst (λ (p : Option (List ℕ)). OutputBuffers (session_expression_answer p text
    (session_and_files (session_of_versions options (session_table_with_versions old history) pending watched) m)) reply
    (session_of_versions options (session_table_with_versions new history) pending_now watched) n k) is
    (subst (λ (f : List ℕ). OutputBuffers (session_expression_answer (Some f) text
    (session_and_files (session_of_versions options (session_table_with_versions old history) pending watched) m)) reply
    (session_of_versions options (session_table_with_versions new history) pending_now watched) n k) same
    (record {
      out = replied.reply_is;
      err = quiet;
      session =
          ap (λ (p : Option (List ℕ)). session_of_versions options (session_table_with_versions new history) p watched)
          taken
          ∙ ap (λ (d : DeckContents). session_of options new None
          (session_versions (history_timeline history (history_version d))) watched)
          deck
          ∙ ap (λ (t : LiveView). session_of options t None
          (session_versions (history_timeline history (history_version old.deck)))
          watched) replied.table;
      steps = replied.steps;
    }))
