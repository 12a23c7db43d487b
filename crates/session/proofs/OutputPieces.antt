-- The output for a piece of the input is written.
use Rattle.std.proofs.Common.{MatchResult, inl, ◌≡◌, ◌++◌, [], ℕ, List, Bool, true, false, refl, sym, ap, subst, ◌∙◌}
use Rattle.std.proofs.Common.{append_assoc, length, ◌==◌, Some, Result, Ok, Err}
use Rattle.std.specs.declared.option.Option.{Option}
use Rattle.std.proofs.lemmas.List.{append-nil, nil_from_length}
use Rattle.std.proofs.lemmas.Bool.{eqb-true}
use Rattle.units_io.specs.Bytes.{sink_bytes_append, SinkGrowsByPrefix}
use Rattle.units_io.specs.Faults.{HasIoCountRisen}
use Rattle.units_io.specs.FileMap.{FileMap}
use Rattle.session.specs.HeardLines.{heard_lines}
use Rattle.session.specs.Input.{input_lines, whole_input_lines}
use Rattle.session.specs.Outside.{SessionOutside, session_outside}
use Rattle.session.specs.Runs.{session_end_after_feed, session_end_at_input_end}
use Rattle.session.specs.Sessions.{SessionState}
use Rattle.session.specs.SessionProgress.{IsAtPointOfTalk, IsTalkAtWholeLines, IsTalkBroken, IsTalkFed, IsTalkOver}
use Rattle.session.specs.SessionProgress.{SessionBase, SessionNow, TalkBreaksOff, session_now_of}
use Rattle.session.specs.Talks.{SessionTrace, talk_over_input, talk_over_lines}
use Rattle.session.specs.BetweenPieces.{SessionWaitsForInput}
use Rattle.session.specs.WrittenOutput.{IsAllSessionOutput, IsSessionEnded, IsSessionPartIf}
use Rattle.session.specs.WrittenOutput.{IsSessionPrefixRunExceptFile, session_course, talk_output}
use Rattle.session.specs.declared.fault.SessionFault.{SessionFault}
use Rattle.session.specs.declared.fault.SessionFault.TheVariants.{ReadFailed, WriteFailed}
use Rattle.session.specs.declared.over_source.SessionEnd.{SessionEnd}
use Rattle.session.specs.declared.session_output.OutputBuffers.{OutputBuffers}
use Rattle.session.proofs.Blocks.{all_after_talk, all_session_output_is_front, part_by, session_feed_keeps_input}
use Rattle.session.proofs.Blocks.{session_feed_keeps_left_and_more, waits_after_output, whole_at, written}
use Rattle.session.proofs.BrokenAnswers.{talk_breaks_off_after_all_lines, talk_breaks_off_by_cause}
use Rattle.session.proofs.SourceEnding.{by_fault, part_but, session_ended_within_block}
use Rattle.session.proofs.HeardLines.{heard_more}
use Rattle.session.proofs.TalkParts.{talk_output_is_front_of_later}

-- how far a talk is answered by the bytes that were fed, whether the session goes on, is over, or broke off
fed_talk_may_break_off : (result : Result Bool SessionFault) (base : SessionBase) (first : SessionTrace)
    (taken bytes left more : List ℕ)
    (held : Option (List ℕ)) (now : SessionNow) → IsTalkFed result base first taken bytes left more held now
    → TalkBreaksOff (result ≡ Err WriteFailed) base first (heard_lines (input_lines ((taken ++ bytes) ++ more))) now
fed_talk_may_break_off (Ok false) base first taken bytes left more held now fed =
    let lines = heard_more (taken ++ fed.0) fed.2.going (left ++ more) in
    let talk = talk_over_lines first (whole_input_lines (taken ++ fed.0)) in
    record {
      answered_lines = whole_input_lines (taken ++ fed.0);
      lines_left = lines.0;
      lines_split = ap (λ i. heard_lines (input_lines i))
          (sym (session_feed_keeps_left_and_more taken bytes fed.0 left more fed.1)) ∙ lines.1;
      output_before = talk_output_is_front_of_later base talk talk [] now fed.2.is_at refl;
      files_left = (talk.state.files, fed.2.is_at.files, inl refl);
    }
fed_talk_may_break_off (Ok true) base first taken bytes left more held now over =
    talk_breaks_off_after_all_lines (Ok true ≡ Err WriteFailed) base first
    (heard_lines (input_lines ((taken ++ bytes) ++ more))) now over.is_at
fed_talk_may_break_off (Err fault) base first taken bytes left more held now broken =
    talk_breaks_off_by_cause (fault ≡ WriteFailed) (Err fault ≡ Err WriteFailed) base first
    (heard_lines (input_lines ((taken ++ bytes) ++ more))) now (λ is. ap Err is) broken

-- a line of the bytes that were fed ended the session
pub fed_talk_is_over : (fed : Result Bool SessionFault) (base : SessionBase) (first : SessionTrace)
    (taken bytes left more : List ℕ)
    (held : Option (List ℕ)) (now : SessionNow) → fed ≡ Ok true → IsTalkFed fed base first taken bytes left more held
    now
    → IsTalkOver base first (taken ++ bytes) ((taken ++ bytes) ++ more) now
fed_talk_is_over fed base first taken bytes left more held now is up =
    subst (λ (r : Result Bool SessionFault). IsTalkFed r base first taken bytes left more held now) is up

-- the session goes on after the bytes that were fed
pub fed_talk_goes_on : (fed : Result Bool SessionFault) (base : SessionBase) (first : SessionTrace)
    (taken bytes left more : List ℕ)
    (held : Option (List ℕ)) (now : SessionNow) → fed ≡ Ok false → IsTalkFed fed base first taken bytes left more held
    now
    → (done : List ℕ) × (bytes ≡ done ++ left) × IsTalkAtWholeLines base first (taken ++ done) held now
fed_talk_goes_on fed base first taken bytes left more held now is up =
    subst (λ (r : Result Bool SessionFault). IsTalkFed r base first taken bytes left more held now) is up

-- a session that waits within a block was fed bytes of the rest, and their output is written
module _ (first : SessionTrace) (taken block ready rest left more : List ℕ) (b : block ≡ ready ++ rest)
    (held : Option (List ℕ)) (session : SessionState) (start now : SessionOutside)
    (w : SessionWaitsForInput first (taken ++ ready) held session start now) (fed : Result Bool SessionFault)
    (held_now : Option (List ℕ)) (buffers : OutputBuffers) (new : SessionState) (after : SessionOutside)
    (up : IsTalkFed fed (written first (taken ++ ready) held session start now w) first (taken ++ ready) rest left more
    held_now (session_now_of buffers new after.files after.steps)) where
  abbrev stood : SessionBase
  stood = written first (taken ++ ready) held session start now w

  abbrev stands_now : SessionNow
  stands_now = session_now_of buffers new after.files after.steps

  abbrev all_input : List ℕ
  all_input = (taken ++ block) ++ more

  -- the output is written in part, and it is a part of the whole
  part_if : SinkGrowsByPrefix now.out after.out buffers.out.items
      → SinkGrowsByPrefix now.err after.err buffers.err.items
      → IsSessionPartIf (fed ≡ Err WriteFailed) (session_course first all_input) start after
  part_if o e =
      part_by first (taken ++ ready) held session start now w (fed ≡ Err WriteFailed) all_input buffers new after
      (subst (λ i. TalkBreaksOff (fed ≡ Err WriteFailed) stood first (heard_lines (input_lines i)) stands_now)
      (session_feed_keeps_input taken block ready rest more b)
      (fed_talk_may_break_off fed stood first (taken ++ ready) rest left more held_now stands_now up)) o e

  -- the output is written in part
  pub part_written : SinkGrowsByPrefix now.out after.out buffers.out.items
      → SinkGrowsByPrefix now.err after.err buffers.err.items
      → (fed ≡ Err WriteFailed → HasIoCountRisen start.store_faults after.store_faults)
      → IsSessionPrefixRunExceptFile (session_course first all_input) start after
  part_written o e rose = part_but Bool fed first all_input start after (part_if o e) rose

  -- the output is written in full, and it is the last
  whole_written : after.out ≡ sink_bytes_append now.out buffers.out.items
      → after.err ≡ sink_bytes_append now.err buffers.err.items
      → fed ≡ Ok true
      → IsAllSessionOutput (talk_output (talk_over_input first all_input)) start after
  whole_written o e is =
      whole_at first (taken ++ ready) held session start now w
      (((taken ++ ready) ++ rest) ++ more) all_input buffers new
      after (session_feed_keeps_input taken block ready rest more b)
      (fed_talk_is_over fed stood first (taken ++ ready) rest left more held_now stands_now is up).is_at o e

  -- the output is written in full, and the session ended
  pub ended_written : (ending : SessionEnd) → Some ending ≡ session_end_after_feed fed
      → after.out ≡ sink_bytes_append now.out buffers.out.items
      → after.err ≡ sink_bytes_append now.err buffers.err.items
      → (fed ≡ Err ReadFailed → HasIoCountRisen start.fetch_faults after.fetch_faults)
      → (fed ≡ Err WriteFailed → HasIoCountRisen start.store_faults after.store_faults)
      → IsSessionEnded (session_course first all_input) ending start after
  ended_written ending q o e rose stored =
      session_ended_within_block fed ending first all_input start after q
      (part_if (all_session_output_is_front now.out after.out buffers.out.items o)
      (all_session_output_is_front now.err after.err buffers.err.items e))
      (whole_written o e) rose stored

  -- the output is written in full, and the session goes on after more of the block
  pub waits_on : after.out ≡ sink_bytes_append now.out buffers.out.items
      → after.err ≡ sink_bytes_append now.err buffers.err.items
      → fed ≡ Ok false
      → (done : List ℕ) × (block ≡ done ++ left) × SessionWaitsForInput first (taken ++ done) held_now new start after
  waits_on o e is =
      let on = fed_talk_goes_on fed stood first (taken ++ ready) rest left more held_now stands_now is up in (
        ready ++ on.0,
        b ∙ ap (λ t. ready ++ t) on.1 ∙ sym (append_assoc ready on.0 left),
        subst (λ t. SessionWaitsForInput first t held_now new start after) (append_assoc taken ready on.0)
            (waits_after_output first (taken ++ ready) held session start now w
            ((taken ++ ready) ++ on.0) held_now buffers
            new after
            on.2 o e),
      )

-- a session waits before a block, whatever is left of the source
pub session_waits_before_block : (first : SessionTrace) (taken block : List ℕ) (held : Option (List ℕ))
    (session : SessionState)
    (start : SessionOutside)
    (was is out err : Option (List ℕ)) (files : Option FileMap) (fetches stores steps : ℕ)
    → SessionWaitsForInput first taken held session start (session_outside was out err files fetches stores steps)
    → (done : List ℕ) × (block ≡ done ++ block)
    × SessionWaitsForInput first (taken ++ done) held session start
    (session_outside is out err files fetches stores steps)
session_waits_before_block first taken block held session start was is out err files fetches stores steps w = (
  [],
  refl,
  subst (λ t. SessionWaitsForInput first t held session start (session_outside is out err files fetches stores steps))
      (sym (append-nil taken))
      (record {
        out = w.out;
        err = w.err;
        files = w.files;
        steps = w.steps;
        session = w.session;
        going = w.going;
        held_part = w.held_part;
      }),
)

-- a session waits after a block of which nothing is left
pub session_waits_after_block : (first : SessionTrace) (taken block ready rest : List ℕ) (held : Option (List ℕ))
    (session : SessionState)
    (start now : SessionOutside) → block ≡ ready ++ rest → (length rest == 0) ≡ true
    → SessionWaitsForInput first (taken ++ ready) held session start now
    → SessionWaitsForInput first (taken ++ block) held session
    start now
session_waits_after_block first taken block ready rest held session start now b none w =
    subst (λ t. SessionWaitsForInput first (taken ++ t) held session start now)
    (sym (b ∙ ap (λ t. ready ++ t) (nil_from_length rest (eqb-true (length rest) 0 none)) ∙ append-nil ready)) w

-- a waiting session was fed the end of its input, and the output for that is written
module _ (first : SessionTrace) (input : List ℕ) (held : Option (List ℕ)) (session : SessionState)
    (start now : SessionOutside)
    (w : SessionWaitsForInput first input held session start now) (A : Type 0) (fed : Result A SessionFault)
    (buffers : OutputBuffers)
    (new : SessionState) (after : SessionOutside)
    (up : MatchResult fed
    (λ _. IsAtPointOfTalk (written first input held session start now w) (talk_over_input first input)
    (session_now_of buffers new after.files after.steps))
    (λ fault. IsTalkBroken fault (written first input held session start now w) first (heard_lines (input_lines input))
    (session_now_of buffers new after.files after.steps))) where
  abbrev stood_last : SessionBase
  stood_last = written first input held session start now w

  abbrev stands_last : SessionNow
  stands_last = session_now_of buffers new after.files after.steps

  last_if : SinkGrowsByPrefix now.out after.out buffers.out.items
      → SinkGrowsByPrefix now.err after.err buffers.err.items
      → IsSessionPartIf (fed ≡ Err WriteFailed) (session_course first input) start after
  last_if o e =
      part_by first input held session start now w (fed ≡ Err WriteFailed) input buffers new after (by fed up) o e
    where
      by : (r : Result A SessionFault)
          → MatchResult r (λ _. IsAtPointOfTalk stood_last (talk_over_input first input) stands_last)
          (λ fault. IsTalkBroken fault stood_last first (heard_lines (input_lines input)) stands_last)
          → TalkBreaksOff (r ≡ Err WriteFailed) stood_last first (heard_lines (input_lines input)) stands_last
      by (Ok done) at = talk_breaks_off_after_all_lines (Ok done ≡ Err WriteFailed) stood_last first
          (heard_lines (input_lines input)) stands_last at
      by (Err fault) broken =
          talk_breaks_off_by_cause (fault ≡ WriteFailed) (Err fault ≡ Err WriteFailed) stood_last first
          (heard_lines (input_lines input))
          stands_last (λ is. ap Err is) broken

  -- the last output is written in part
  pub last_part : SinkGrowsByPrefix now.out after.out buffers.out.items
      → SinkGrowsByPrefix now.err after.err buffers.err.items
      → (fed ≡ Err WriteFailed → HasIoCountRisen start.store_faults after.store_faults)
      → IsSessionPrefixRunExceptFile (session_course first input) start after
  last_part o e rose = part_but A fed first input start after (last_if o e) rose

  -- the last output is written in full, and the session ends
  pub last_written : (ending : SessionEnd) → ending ≡ session_end_at_input_end fed
      → after.out ≡ sink_bytes_append now.out buffers.out.items
      → after.err ≡ sink_bytes_append now.err buffers.err.items
      → (fed ≡ Err ReadFailed → HasIoCountRisen start.fetch_faults after.fetch_faults)
      → (fed ≡ Err WriteFailed → HasIoCountRisen start.store_faults after.store_faults)
      → IsSessionEnded (session_course first input) ending start after
  last_written ending q o e rose stored =
      subst (λ (x : SessionEnd). IsSessionEnded (session_course first input) x start after) (sym q)
      (by fed up
      (last_if (all_session_output_is_front now.out after.out buffers.out.items o)
      (all_session_output_is_front now.err after.err buffers.err.items e))
      rose stored)
    where
      by : (r : Result A SessionFault)
          → MatchResult r (λ _. IsAtPointOfTalk stood_last (talk_over_input first input) stands_last)
          (λ fault. IsTalkBroken fault stood_last first (heard_lines (input_lines input)) stands_last)
          → IsSessionPartIf (r ≡ Err WriteFailed) (session_course first input) start after
          → (r ≡ Err ReadFailed → HasIoCountRisen start.fetch_faults after.fetch_faults)
          → (r ≡ Err WriteFailed → HasIoCountRisen start.store_faults after.store_faults)
          → IsSessionEnded (session_course first input) (session_end_at_input_end r) start after
      by (Ok done) at part f s =
          all_after_talk first input held session start now w (talk_over_input first input) buffers new after at o e
      by (Err fault) broken part f s = by_fault A (Err fault) first input start after part fault refl f s
