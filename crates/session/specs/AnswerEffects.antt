-- The effects of the answer to a line.
use Rattle.std.specs.Prelude.{◌≡◌, ◌+◌, ◌≤◌, ℕ, Result, Ok, Err, IsErrOf, ⊤}
use Rattle.std.specs.declared.option.Option.{Option}
use Rattle.units_io.specs.Faults.{HasIoCountRisen, next_io_count}
use Rattle.units_io.specs.FileMap.{FileMap}
use Rattle.session.specs.declared.answer.LineReply.{LineReply}
use Rattle.session.specs.declared.fault.SessionFault.{SessionFault}
use Rattle.session.specs.declared.fault.SessionFault.TheVariants.{ReadFailed, WriteFailed}
use Rattle.session.specs.Answers.{SessionAnswer}
use Rattle.session.specs.Commands.{Command, is_session_load}
use Rattle.session.specs.Sessions.{SessionState, session_and_files}
use Rattle.session.specs.Steps.{session_answer_to}
use Rattle.session.specs.KnownContents.{IsSessionValueIfKnown, next_session_value_if_known}

-- what a line can change: the session, the files and the count of steps
pub record SessionScene : Type 0 where
  pub session : SessionState
  pub files : Option FileMap
  pub steps : ℕ

abbrev pub session_scene : SessionState → (files : Option FileMap) → (steps : ℕ) → SessionScene
session_scene session files steps = record { session = session; files = files; steps = steps }

-- a line was answered in this way: the bytes on each sink, and the scene after it
pub record AnswersSessionLine (answer : SessionAnswer) (reply : LineReply) (before after : SessionScene) : Type 0 where
  pub out : reply.out ≡ answer.out
  pub err : reply.err ≡ answer.err
  pub session : after.session ≡ answer.state_after.session
  pub files : after.files ≡ next_session_value_if_known before.files answer.state_after.files
  pub steps : after.steps ≡ before.steps + answer.newly

-- a line was answered in this way, unless there was a fault
abbrev pub IsSessionLineAnswered : SessionAnswer → Result LineReply SessionFault → SessionScene → SessionScene → Type 0
IsSessionLineAnswered answer (Ok reply) before after = AnswersSessionLine answer reply before after
IsSessionLineAnswered answer (Err _) before after = ⊤

-- a line with this command was answered as its state before it requires, if the contents of the files are known or the
-- command loads none
abbrev pub IsSessionAnswerTo : Command → Result LineReply SessionFault → SessionScene → SessionScene → Type 0
IsSessionAnswerTo command result before after =
    (m : FileMap) → IsSessionValueIfKnown (is_session_load command) before.files m
    → IsSessionLineAnswered (session_answer_to (session_and_files before.session m) command) result before after

-- the count of failed fetches afterwards: one more exactly if a file could not be read
abbrev pub fetch_faults_after_answer : {A : Type 0} → (faults : ℕ) → Result A SessionFault → ℕ
fetch_faults_after_answer faults (Err ReadFailed) = next_io_count faults
fetch_faults_after_answer faults _ = faults

-- the numbers of failed fetches and failed stores
pub record SessionFileFaults : Type 0 where
  pub fetches : ℕ
  pub stores : ℕ

abbrev pub session_file_faults : (fetches stores : ℕ) → SessionFileFaults
session_file_faults fetches stores = record { fetches = fetches; stores = stores }

-- file faults are counted: a fetch failed exactly if a file could not be read, and a store failed if a file could not
-- be written
pub record AreSessionFileFaultsCounted {A : Type 0} (result : Result A SessionFault)
    (before now : SessionFileFaults) : Type 0 where
  pub fetches_counted : now.fetches ≡ fetch_faults_after_answer before.fetches result
  pub cause : IsErrOf result ReadFailed → HasIoCountRisen before.fetches now.fetches
  pub failed_write_counted : IsErrOf result WriteFailed → HasIoCountRisen before.stores now.stores
  pub stores_grow : before.stores ≤ now.stores

-- there was no file fault
abbrev pub AnswerFailsOnlyForMemory : {A : Type 0} → Result A SessionFault → Type 0
AnswerFailsOnlyForMemory result = (IsErrOf result ReadFailed → ⊥) × (IsErrOf result WriteFailed → ⊥)
