-- The count of failed fetches after an answer.
use Rattle.std.proofs.Common.{◌≡◌, ◌∙◌, ℕ, Bool, false, ap, refl, Ok, Err}
use Rattle.std.specs.Prelude.{Result}
use Rattle.session.specs.AnswerEffects.{fetch_faults_after_answer}
use Rattle.session.specs.declared.fault.SessionFault.{SessionFault}
use Rattle.session.specs.declared.fault.SessionFault.TheVariants.{OutOfMemory, ReadFailed, WriteFailed}

-- the count is the same unless a file could not be read
pub session_fetch_faults_unchanged : {A : Type 0} (n : ℕ) (result : Result A SessionFault)
    → (result ≡ Err ReadFailed → ⊥)
    → n ≡ fetch_faults_after_answer n result
session_fetch_faults_unchanged n (Ok x) h = refl
session_fetch_faults_unchanged n (Err ReadFailed) h = absurd (h refl)
session_fetch_faults_unchanged n (Err WriteFailed) h = refl
session_fetch_faults_unchanged n (Err OutOfMemory) h = refl

-- the count is the same if the session goes on
pub fed_session_keeps_fetch_faults : (before now : ℕ) (fed : Result Bool SessionFault) → fed ≡ Ok false
    → now ≡ fetch_faults_after_answer before fed
    → now ≡ before
fed_session_keeps_fetch_faults before now fed is counted = counted ∙ ap (fetch_faults_after_answer before) is
