-- The state of a session between two pieces of its input.
use Rattle.std.specs.Prelude.{◌≡◌, ◌+◌, ◌-◌, ◌^◌, ◌≤◌, ◌⊎◌, [], ℕ, List, false}
use Rattle.std.specs.declared.option.Option.{Option}
use Rattle.std.specs.List.{list_any}
use Rattle.units_io.specs.Bytes.{sink_bytes_append}
use Rattle.units_io.specs.FileMap.{FileMap}
use Rattle.session.specs.HeardLines.{is_last_session_line, readable_session_line}
use Rattle.session.specs.Input.{whole_input_lines, unfinished_input_line}
use Rattle.session.specs.Outside.{SessionOutside}
use Rattle.session.specs.Sessions.{SessionState}
use Rattle.session.specs.SessionProgress.{IsAtPointOfTalk, SessionBase}
use Rattle.session.specs.Talks.{SessionTrace, talk_over_lines}
use Rattle.session.specs.KnownContents.{next_session_value_if_known}
use Rattle.session.specs.declared.session_output.OutputBuffers.{OutputBuffers}

-- the base of a session before which nothing was written
abbrev pub session_base_at_start : (files : Option FileMap) → (steps : ℕ) → SessionBase
session_base_at_start files steps = record { out = []; err = []; files = files; steps = steps }

-- a session was opened after the planning, which wrote nothing; the opening is not written yet
pub record OpensSession (first : SessionTrace) (buffers : OutputBuffers) (session : SessionState)
    (before now : SessionOutside) : Type 0 where
  pub out : now.out ≡ before.out
  pub err : now.err ≡ before.err
  pub files : now.files ≡ before.files
  pub faults : before.fetch_faults ≤ now.fetch_faults
  pub stores : before.store_faults ≤ now.store_faults
  pub is_at : IsAtPointOfTalk (session_base_at_start before.files before.steps) first
      (record { output_buffers = buffers; session = session; files = now.files; steps = now.steps })

-- the complete lines of the bytes read are answered and their output is written, none of them is the last, and the rest
-- is held
pub record SessionWaitsForInput (first : SessionTrace) (taken : List ℕ) (held : Option (List ℕ)) (new : SessionState)
    (before now : SessionOutside)
    : Type 0 where
  pub out : now.out ≡ sink_bytes_append before.out (talk_over_lines first (whole_input_lines taken)).out
  pub err : now.err ≡ sink_bytes_append before.err (talk_over_lines first (whole_input_lines taken)).err
  pub files : now.files ≡ next_session_value_if_known before.files
      (talk_over_lines first (whole_input_lines taken)).state.files
  pub steps : now.steps ≡ before.steps + (talk_over_lines first (whole_input_lines taken)).steps
  pub session : new ≡ (talk_over_lines first (whole_input_lines taken)).state.session
  pub going : list_any is_last_session_line (whole_input_lines taken) ≡ false
  pub held_part : held ≡ readable_session_line (unfinished_input_line taken)

-- at least `total` bytes were read between two counts, which saturate at the maximum of their type
abbrev pub SessionTookAtLeast : (total before after : ℕ) → Type 0
SessionTookAtLeast total before after = (before + total ≤ after) ⊎ (after ≡ 2 ^ 64 - 1)
