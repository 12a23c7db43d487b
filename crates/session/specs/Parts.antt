-- The contracts of private functions for the answer to a line.
use Rattle.std.specs.Prelude.{◌++◌, ◌≡◌, ◌+◌, [], ℕ, List, Bool, Result, Ok, Err, ⊤, if◌then◌else◌}
use Rattle.live_table.specs.Calls.{IsAcceptedLiveEdit}
use Rattle.live_table.specs.TableView.{LiveView}
use Rattle.live_table.specs.States.{LiveEvent}
use Rattle.session.specs.declared.answer.LineReply.{LineReply}
use Rattle.session.specs.declared.deck_edits.EditResult.{EditResult as Declared}
use Rattle.session.specs.declared.deck_edits.EditResult.TheVariants as answer
use Rattle.session.specs.Answers.{SessionAnswer}
use Rattle.session.specs.EditResults.{EditResult, Made, Refused}
use Rattle.session.specs.Queries.{names_settled_in_session, session_table_after_queries}
use Rattle.session.specs.Sessions.{SessionState, prompt}
use Rattle.session.specs.Versions.{SessionTableAndVersions}

-- the reply is the answer to a query, and the table and the count of steps are as its queries leave them
pub record AnswersSessionQuery {A : Type 0} (events : List LiveEvent) (answer reply : A) (old new : LiveView)
    (steps_old steps_new : ℕ)
    : Type 0 where
  pub reply_is : reply ≡ answer
  pub table : new ≡ session_table_after_queries events old
  pub steps : steps_new ≡ steps_old + names_settled_in_session events old

abbrev pub IsSessionQueryAnswered : {A E : Type 0} → List LiveEvent → A → Result A E → (old new : LiveView)
    → (steps_old steps_new : ℕ)
    → Type 0
IsSessionQueryAnswered events answer (Ok reply) old new steps_old steps_new =
    AnswersSessionQuery events answer reply old new steps_old steps_new
IsSessionQueryAnswered events answer (Err _) old new steps_old steps_new = ⊤

-- an edit with this result was made
pub record MakesSessionEdit (r : EditResult) (old new : SessionTableAndVersions) : Type 0 where
  pub result_is : r ≡ Made new.table.deck new.versions
  pub edit : IsAcceptedLiveEdit old.table new.table

-- an edit with this result was made; or it was refused with a line, and nothing changes; or there was a fault, and
-- nothing changes
abbrev pub IsSessionEditAnswered : {E : Type 0} → EditResult → Result Declared E → (old new : SessionTableAndVersions)
    → Type 0
IsSessionEditAnswered r (Ok answer.Made) old new = MakesSessionEdit r old new
IsSessionEditAnswered r (Ok (answer.Refused line)) old new = (r ≡ Refused line) × (new ≡ old)
IsSessionEditAnswered r (Err _) old new = new ≡ old

-- the bytes on the sinks, and whether the session ends
pub record IsSessionLineReply (reply : LineReply) (text notices : List ℕ) (last : Bool) : Type 0 where
  pub out : reply.out ≡ text
  pub err : reply.err ≡ notices
  pub ends_session : reply.done ≡ last

-- an answer that leaves the files as they are
pub record OutputBuffers (answer : SessionAnswer) (reply : LineReply) (new : SessionState)
    (steps_old steps_new : ℕ) : Type 0
  where
    pub out : reply.out ≡ answer.out
    pub err : reply.err ≡ answer.err
    pub session : new ≡ answer.state_after.session
    pub steps : steps_new ≡ steps_old + answer.newly

abbrev pub IsSessionAnswerGiven : {E : Type 0} → SessionAnswer → Result LineReply E → (new : SessionState)
    → (steps_old steps_new : ℕ)
    → Type 0
IsSessionAnswerGiven answer (Ok reply) session steps_old steps_new =
    OutputBuffers answer reply session steps_old steps_new
IsSessionAnswerGiven answer (Err _) session steps_old steps_new = ⊤

-- the output of a line on `out`: its answer, and the prompt for the next line unless it was the last
abbrev pub session_line_output : LineReply → SessionState → List ℕ
session_line_output reply session = reply.out ++ (if reply.done then [] else prompt session)
