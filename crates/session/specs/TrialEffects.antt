-- The effects of a trial.
use Rattle.std.specs.Prelude.{◌≡◌, ◌+◌, ℕ, List}
use Rattle.session.specs.Sessions.{SessionState}
use Rattle.session.specs.Talks.{SessionTrace}
use Rattle.session.specs.Trials.{Trial}
use Rattle.session.specs.declared.session_output.OutputBuffers.{OutputBuffers}

-- the summary of a trial, and the count of settled names
pub record IsTrialSummary (trial : Trial) (summary_text : List ℕ) (steps_old steps_new : ℕ) : Type 0 where
  pub text : summary_text ≡ trial.text
  pub steps : steps_new ≡ steps_old + trial.steps

-- a session has put all of a talk on `out`, and is in the state after it
pub record IsTalkSpoken (talk : SessionTrace) (buffers : OutputBuffers) (new : SessionState)
    (steps_old steps_new : ℕ) : Type 0
  where
    pub out : buffers.out.items ≡ talk.out
    pub session : new ≡ talk.state.session
    pub steps : steps_new ≡ steps_old + talk.steps
