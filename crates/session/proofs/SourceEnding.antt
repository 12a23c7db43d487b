-- The ending of a session over a source.
use Rattle.std.proofs.Common.{inl, inr, ◌≡◌, ◌≤◌, ◌⊎◌, ℕ, List, Bool, true, false, refl, ap, subst, ◌∙◌, arith, Some}
use Rattle.std.proofs.Common.{None, Result, Ok, Err, sym}
use Rattle.std.specs.Prelude.{IsErrOf}
use Rattle.std.proofs.lemmas.Option.{same_Some}
use Rattle.units_io.specs.Faults.{HasIoCountRisen}
use Rattle.session.specs.Outside.{SessionOutside, SessionTookMoreThan}
use Rattle.session.specs.Runs.{HasSessionEndCause, session_end_after_feed, session_end_at_input_end}
use Rattle.session.specs.Runs.{session_end_by_fault}
use Rattle.session.specs.Talks.{SessionTrace, talk_over_input, talk_over_lines}
use Rattle.session.specs.KnownContents.{next_session_value_if_known}
use Rattle.session.specs.Worlds.{SessionFilesSeen, SessionSink, SessionSource, SessionWorld, session_world}
use Rattle.session.specs.WrittenOutput.{IsAllSessionOutput, IsSessionEnded, IsSessionPartIf, IsSessionPrefixRun}
use Rattle.session.specs.WrittenOutput.{IsSessionPrefixRunExceptFile, talk_output, session_course}
use Rattle.session.specs.declared.fault.SessionFault.{SessionFault}
use Rattle.session.specs.declared.fault.SessionFault.TheVariants.{OutOfMemory, ReadFailed, WriteFailed}
use Rattle.session.specs.declared.over_source.SessionEnd.{SessionEnd}
use Rattle.session.specs.declared.over_source.SessionEnd.TheVariants.{Done, NoMemory, ReadFault, WriteFault}
use Rattle.session.specs.declared.over_source.SessionEnd.TheVariants.{InputTooLong}
use Rattle.session.proofs.Blocks.{any_session_count_rose_earlier, one_of_two_session_counts_rose}
use Rattle.session.proofs.Blocks.{session_cause_of_two_or_three}
use Rattle.session.proofs.BrokenAnswers.{session_files_left_by_cause, session_files_left_undamaged}

-- the output is a part, whether a store certainly did not fail or may have failed
module _ (A : Type 0) (fed : Result A SessionFault) (first : SessionTrace) (input : List ℕ)
    (start after : SessionOutside)
    (part : IsSessionPartIf (fed ≡ Err WriteFailed) (session_course first input) start after) where
  part_whole : (fed ≡ Err WriteFailed → ⊥) → IsSessionPrefixRun (session_course first input) start after
  part_whole calm = record {
    answered_lines = part.answered_lines;
    lines_left = part.lines_left;
    lines_split = part.lines_split;
    output_front = part.output_front;
    files =
        part.files.1
        ∙ ap (next_session_value_if_known start.files)
        (session_files_left_undamaged (fed ≡ Err WriteFailed) part.lines_left
        (talk_over_lines first part.answered_lines).state.files
        part.files.0 calm
        part.files.2);
  }

  pub part_but : (fed ≡ Err WriteFailed → HasIoCountRisen start.store_faults after.store_faults)
      → IsSessionPrefixRunExceptFile (session_course first input) start after
  part_but rose = record {
    answered_lines = part.answered_lines;
    lines_left = part.lines_left;
    lines_split = part.lines_split;
    output_front = part.output_front;
    files = (
      part.files.0,
      part.files.1,
      session_files_left_by_cause (fed ≡ Err WriteFailed) (HasIoCountRisen start.store_faults after.store_faults)
          part.lines_left
          (talk_over_lines first part.answered_lines).state.files part.files.0 rose part.files.2,
    );
  }

  -- the output of a session that a fault ended
  pub by_fault : (fault : SessionFault) → fed ≡ Err fault
      → (fed ≡ Err ReadFailed → HasIoCountRisen start.fetch_faults after.fetch_faults)
      → (fed ≡ Err WriteFailed → HasIoCountRisen start.store_faults after.store_faults)
      → IsSessionEnded (session_course first input) (session_end_by_fault fault) start after
  by_fault ReadFailed is rose stored = (part_whole (λ other. cc), λ rests. absurd (rests (rose is)))
  by_fault WriteFailed is rose stored = part_but stored
  by_fault OutOfMemory is rose stored = part_whole (λ other. cc)

-- the output of a session that ended within a block
pub session_ended_within_block : (fed : Result Bool SessionFault) (ending : SessionEnd) (first : SessionTrace)
    (input : List ℕ)
    (start after : SessionOutside) → Some ending ≡ session_end_after_feed fed
    → IsSessionPartIf (fed ≡ Err WriteFailed) (session_course first input) start after
    → (fed ≡ Ok true → IsAllSessionOutput (talk_output (talk_over_input first input)) start after)
    → (fed ≡ Err ReadFailed → HasIoCountRisen start.fetch_faults after.fetch_faults)
    → (fed ≡ Err WriteFailed → HasIoCountRisen start.store_faults after.store_faults)
    → IsSessionEnded (session_course first input) ending start after
session_ended_within_block (Ok false) ending first input start after q part all rose stored = cc
session_ended_within_block (Ok true) ending first input start after q part all rose stored =
    subst (λ (x : SessionEnd). IsSessionEnded (session_course first input) x start after)
    (same_Some Done ending (sym q))
    (all refl)
session_ended_within_block (Err fault) ending first input start after q part all rose stored =
    subst (λ (x : SessionEnd). IsSessionEnded (session_course first input) x start after)
    (same_Some (session_end_by_fault fault) ending (sym q))
    (by_fault Bool (Err fault) first input start after part fault refl rose stored)

-- an ending over an equal input is one over this input
pub session_ended_over_equal_input : (first : SessionTrace) (i input : List ℕ) (ending : SessionEnd)
    (start after : SessionOutside) → i ≡ input
    → IsSessionEnded (session_course first i) ending start after → IsSessionEnded (session_course first input) ending
    start after
session_ended_over_equal_input first i input ending start after p ended =
    subst (λ t. IsSessionEnded (session_course first t) ending start after) p ended

-- the session goes on after the bytes that were fed
pub session_goes_on_after_feed : (fed : Result Bool SessionFault) → None ≡ session_end_after_feed fed → fed ≡ Ok false
session_goes_on_after_feed (Ok false) e = refl
session_goes_on_after_feed (Ok true) e = cc
session_goes_on_after_feed (Err fault) e = cc

-- a line of the bytes that were fed ended the session
pub session_done_by_fed_line : (fed : Result Bool SessionFault) (ending : SessionEnd)
    → Some ending ≡ session_end_after_feed fed → ending ≡ Done
    → fed ≡ Ok true
session_done_by_fed_line (Ok false) ending e d = cc
session_done_by_fed_line (Ok true) ending e d = refl
session_done_by_fed_line (Err ReadFailed) ending e d = cc
session_done_by_fed_line (Err WriteFailed) ending e d = cc
session_done_by_fed_line (Err OutOfMemory) ending e d = cc

-- the cause of each ending
module _ (before after : SessionWorld) where
  pub read_cause : HasIoCountRisen before.source.faults after.source.faults → HasSessionEndCause ReadFault before after
  read_cause r = record { read_cause = λ e. inl r; write_cause = λ e. cc; too_long = λ e. cc }

  pub write_cause : HasIoCountRisen before.out.faults after.out.faults ⊎ HasIoCountRisen before.err.faults
      after.err.faults
      → HasSessionEndCause WriteFault before after
  write_cause r = record {
    read_cause = λ e. cc;
    write_cause = λ e. session_cause_of_two_or_three r;
    too_long = λ e.
        cc;
  }

  pub memory_cause : HasSessionEndCause NoMemory before after
  memory_cause = record { read_cause = λ e. cc; write_cause = λ e. cc; too_long = λ e. cc }

  pub length_cause : SessionTookMoreThan 4294967296 before.source.bytes_taken after.source.bytes_taken
      → HasSessionEndCause InputTooLong before after
  length_cause more = record { read_cause = λ e. cc; write_cause = λ e. cc; too_long = λ e. more }

  pub fed_cause : (fed : Result Bool SessionFault) (ending : SessionEnd) → Some ending ≡ session_end_after_feed fed
      → (IsErrOf fed ReadFailed → HasIoCountRisen before.files.fetch_faults after.files.fetch_faults)
      → (IsErrOf fed WriteFailed → HasIoCountRisen before.files.store_faults after.files.store_faults)
      → HasSessionEndCause ending before after
  fed_cause (Ok false) ending e read stored = cc
  fed_cause (Ok true) ending e read stored = record { read_cause = λ q. cc; write_cause = λ q. cc; too_long = λ q. cc }
  fed_cause (Err ReadFailed) ending e read stored =
      record { read_cause = λ q. inr (read refl); write_cause = λ q. cc; too_long = λ q. cc }
  fed_cause (Err WriteFailed) ending e read stored =
      record { read_cause = λ q. cc; write_cause = λ q. inr (inr (stored refl)); too_long = λ q. cc }
  fed_cause (Err OutOfMemory) ending e read stored =
      record { read_cause = λ q. cc; write_cause = λ q. cc; too_long = λ q. cc }

  -- the cause of an ending at the end of the input
  pub end_cause : {A : Type 0} (fed : Result A SessionFault) (ending : SessionEnd)
      → ending ≡ session_end_at_input_end fed
      → (IsErrOf fed ReadFailed → HasIoCountRisen before.files.fetch_faults after.files.fetch_faults)
      → (IsErrOf fed WriteFailed → HasIoCountRisen before.files.store_faults after.files.store_faults)
      → HasSessionEndCause ending before after
  end_cause (Ok done) ending e read stored = record { read_cause = λ q. cc; write_cause = λ q. cc; too_long = λ q. cc }
  end_cause (Err ReadFailed) ending e read stored =
      record { read_cause = λ q. inr (read refl); write_cause = λ q. cc; too_long = λ q. cc }
  end_cause (Err WriteFailed) ending e read stored =
      record { read_cause = λ q. cc; write_cause = λ q. inr (inr (stored refl)); too_long = λ q. cc }
  end_cause (Err OutOfMemory) ending e read stored =
      record { read_cause = λ q. cc; write_cause = λ q. cc; too_long = λ q. cc }

-- a cause since a later time is a cause since an earlier time
pub session_end_cause_since_earlier : (ending : SessionEnd) (source : SessionSource)
    (out err out_mid err_mid : SessionSink)
    (files files_mid : SessionFilesSeen) (steps steps_mid : ℕ) (after : SessionWorld)
    → out.faults ≤ out_mid.faults → err.faults ≤ err_mid.faults
    → files.fetch_faults ≤ files_mid.fetch_faults → files.store_faults ≤ files_mid.store_faults
    → HasSessionEndCause ending (session_world source out_mid err_mid files_mid steps_mid) after
    → HasSessionEndCause ending (session_world source out err files steps) after
session_end_cause_since_earlier ending source out err out_mid err_mid files files_mid steps steps_mid after o e f s
    cause = record {
      read_cause = λ is.
          one_of_two_session_counts_rose source.faults source.faults after.source.faults files.fetch_faults
          files_mid.fetch_faults
          after.files.fetch_faults (omega arith) f (cause.read_cause is);
      write_cause = λ is.
          any_session_count_rose_earlier out.faults out_mid.faults after.out.faults err.faults err_mid.faults
          after.err.faults
          files.store_faults files_mid.store_faults after.files.store_faults o e s (cause.write_cause is);
      too_long = cause.too_long;
    }
