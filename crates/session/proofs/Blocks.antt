-- A session between the blocks of its input.
use Rattle.std.proofs.Common.{nat_le, min, ◌^◌, inl, inr, ◌≡◌, ◌++◌, ◌+◌, ◌-◌, ◌<◌, ◌≤◌, ◌⊎◌, [], ℕ}
use Rattle.std.proofs.Common.{List, Bool, true, false, length, take, refl, sym, ap, subst, ◌∙◌, arith}
use Rattle.std.proofs.Common.{append_assoc, length-append, Some, None}
use Rattle.std.specs.declared.option.Option.{Option}
use Rattle.std.specs.List.{list_any}
use Rattle.std.proofs.lemmas.List.{append-nil, take-append-le, take_all}
use Rattle.units_io.specs.Bytes.{sink_bytes_append, SinkGrowsByPrefix, LosesSourceBytes, IsNoSourceByteLeft}
use Rattle.units_io.specs.Faults.{HasIoCountRisen}
use Rattle.session.specs.HeardLines.{is_last_session_line, heard_lines, readable_session_line}
use Rattle.session.specs.Input.{whole_input_lines, input_lines}
use Rattle.session.specs.Talks.{SessionTrace, talk_over_lines, talk_over_input}
use Rattle.session.specs.KnownContents.{next_session_value_if_known}
use Rattle.session.specs.Outside.{SessionOutside, input_taken, IsInputReadToEnd, SessionTookMoreThan}
use Rattle.session.specs.WrittenOutput.{IsAllSessionOutput, IsSessionCutShort, IsSessionOutputCut, IsSessionOutputFront}
use Rattle.session.specs.WrittenOutput.{IsSessionPartIf, IsSessionPrefixRun, IsSessionPrefixRunExceptFile, talk_output}
use Rattle.session.specs.WrittenOutput.{session_course}
use Rattle.session.specs.SessionProgress.{BeginsTalkOutput, IsAtPointOfTalk, IsFrontOfTalk, IsTalkAtWholeLines}
use Rattle.session.specs.SessionProgress.{SessionBase, TalkBreaksOff}
use Rattle.session.specs.BetweenPieces.{OpensSession, SessionWaitsForInput, SessionTookAtLeast}
use Rattle.session.specs.Sessions.{SessionState}
use Rattle.session.specs.declared.session_output.OutputBuffers.{OutputBuffers}
use Rattle.std.proofs.lemmas.Bool.{leb-false, leb-true}
use Rattle.session.proofs.LineCuts.{input-taken-is-before-left}
use Rattle.session.proofs.HeardLines.{heard_more}
use Rattle.general_lemmas.proofs.Parts.{take-append-add}

pub session_sink_grows_twice : (o : Option (List ℕ)) (xs ys : List ℕ)
    → sink_bytes_append (sink_bytes_append o xs) ys ≡ sink_bytes_append o
    (xs ++ ys)
session_sink_grows_twice None xs ys = refl
session_sink_grows_twice (Some held) xs ys = ap Some (append_assoc held xs ys)

-- all bytes are a front of themselves
pub all_session_output_is_front : (o out : Option (List ℕ)) (xs : List ℕ) → out ≡ sink_bytes_append o xs
    → SinkGrowsByPrefix o out xs
all_session_output_is_front o out xs e =
    (length xs, omega arith, e ∙ ap (sink_bytes_append o) (sym (take_all (length xs) xs (omega arith))))

-- a front of some bytes is a front of more
pub session_output_front_of_more : (o out : Option (List ℕ)) (xs ys : List ℕ) → BeginsTalkOutput xs ys
    → SinkGrowsByPrefix o out xs
    → SinkGrowsByPrefix o out ys
session_output_front_of_more o out xs ys b f = subst (SinkGrowsByPrefix o out) (sym b.1) (
  f.0,
  omega (arith, f.1, length-append xs b.0),
  f.2
      ∙ ap (sink_bytes_append o) (sym (take-append-le f.0 xs b.0 f.1)),
)

-- a front of the bytes that come after others is a front of both
session_output_front_of_both : (o mid out : Option (List ℕ)) (xs ys : List ℕ) → mid ≡ sink_bytes_append o xs
    → SinkGrowsByPrefix mid out ys
    → SinkGrowsByPrefix o out (xs ++ ys)
session_output_front_of_both o mid out xs ys e f = (
  length xs + f.0,
  omega (arith, f.1, length-append xs ys),
  f.2 ∙ ap (λ p. sink_bytes_append p (take f.0 ys)) e
      ∙ session_sink_grows_twice o xs (take f.0 ys) ∙ ap (sink_bytes_append o) (sym (take-append-add xs ys f.0)),
)

-- a count that rose since a later time also rose since an earlier one
pub session_count_rose_earlier : (a b c : ℕ) → a ≤ b → HasIoCountRisen b c → HasIoCountRisen a c
session_count_rose_earlier a b c h r = omega (arith, h, r)

-- if one of three counts rose since a later time, one rose since an earlier one; the third is counted from the same
-- time
pub one_of_three_session_counts_rose : (a b c x y z p q : ℕ) → a ≤ b → x ≤ y
    → HasIoCountRisen b c ⊎ HasIoCountRisen y z ⊎ HasIoCountRisen p q
    → HasIoCountRisen a c ⊎ HasIoCountRisen x z ⊎ HasIoCountRisen p q
one_of_three_session_counts_rose a b c x y z p q h k (inl r) = inl (session_count_rose_earlier a b c h r)
one_of_three_session_counts_rose a b c x y z p q h k (inr (inl r)) = inr (inl (session_count_rose_earlier x y z k r))
one_of_three_session_counts_rose a b c x y z p q h k (inr (inr r)) = inr (inr r)

-- if one of two counts rose since a later time, one rose since an earlier one
pub one_of_two_session_counts_rose : (a b c x y z : ℕ) → a ≤ b → x ≤ y → HasIoCountRisen b c ⊎ HasIoCountRisen y z
    → HasIoCountRisen a c ⊎ HasIoCountRisen x z
one_of_two_session_counts_rose a b c x y z h k (inl r) = inl (session_count_rose_earlier a b c h r)
one_of_two_session_counts_rose a b c x y z h k (inr r) = inr (session_count_rose_earlier x y z k r)

-- if one of three counts rose since a later time, one rose since an earlier one
pub any_session_count_rose_earlier : (a b c x y z p q r : ℕ) → a ≤ b → x ≤ y → p ≤ q
    → HasIoCountRisen b c ⊎ HasIoCountRisen y z ⊎ HasIoCountRisen q r
    → HasIoCountRisen a c ⊎ HasIoCountRisen x z ⊎ HasIoCountRisen p r
any_session_count_rose_earlier a b c x y z p q r h k l (inl s) = inl (session_count_rose_earlier a b c h s)
any_session_count_rose_earlier a b c x y z p q r h k l (inr (inl s)) = inr (inl (session_count_rose_earlier x y z k s))
any_session_count_rose_earlier a b c x y z p q r h k l (inr (inr s)) = inr (inr (session_count_rose_earlier p q r l s))

-- one of two cases is one of three
pub session_cause_of_two_or_three : {A B C : Type 0} → A ⊎ B → A ⊎ B ⊎ C
session_cause_of_two_or_three (inl a) = inl a
session_cause_of_two_or_three (inr b) = inr (inl b)

pub no_session_input_is_left : (left : Option (List ℕ)) (rest : List ℕ) → left ≡ Some rest → IsNoSourceByteLeft left
    → rest ≡ []
no_session_input_is_left left rest e h = rw e at h

pub known_session_input_is_lost : (old new : Option (List ℕ)) (left bytes : List ℕ) → old ≡ Some left
    → LosesSourceBytes old new bytes
    → LosesSourceBytes (Some left) new bytes
known_session_input_is_lost old new left bytes e h = rw e at h

-- the bytes taken of an input are those before the rest
pub input_taken_is_before_rest : (input taken rest : List ℕ) (left : Option (List ℕ)) → input ≡ taken ++ rest
    → left ≡ Some rest
    → input_taken input left ≡ taken
input_taken_is_before_rest input taken rest left e h = ap (input_taken input) h
    ∙ ap (λ i. take (length i - length rest) i) e
    ∙ input-taken-is-before-left taken rest

-- bytes fed in part, followed by those left of them, are all the bytes
pub session_feed_keeps_block : (taken bytes done left : List ℕ) → bytes ≡ done ++ left
    → (taken ++ done) ++ left ≡ taken ++ bytes
session_feed_keeps_block taken bytes done left e = append_assoc taken done left ∙ ap (λ t. taken ++ t) (sym e)

pub session_feed_keeps_input : (taken bytes done left more : List ℕ) → bytes ≡ done ++ left
    → ((taken ++ done) ++ left) ++ more ≡ (taken ++ bytes) ++ more
session_feed_keeps_input taken bytes done left more e =
    ap (λ t. t ++ more) (session_feed_keeps_block taken bytes done left e)

pub session_feed_keeps_left_and_more : (taken bytes done left more : List ℕ) → bytes ≡ done ++ left
    → (taken ++ done) ++ (left ++ more) ≡ (taken ++ bytes) ++ more
session_feed_keeps_left_and_more taken bytes done left more e =
    sym (append_assoc (taken ++ done) left more) ∙ session_feed_keeps_input taken bytes done left more e

-- after the opening is written, the session waits for its first line
pub session_waits_after_opening : (first : SessionTrace) (held : Option (List ℕ)) (buffers : OutputBuffers)
    (session : SessionState)
    (before opening now : SessionOutside)
    → OpensSession first buffers session before opening
    → now.out ≡ sink_bytes_append opening.out buffers.out.items
    → now.err ≡ sink_bytes_append opening.err buffers.err.items
    → now.files ≡ opening.files → now.steps ≡ opening.steps → held ≡ readable_session_line []
    → SessionWaitsForInput first [] held session before now
session_waits_after_opening first held buffers session before opening now w o e f n h = record {
  out = o ∙ ap (λ p. sink_bytes_append p buffers.out.items) w.out ∙ ap (sink_bytes_append before.out) (sym w.is_at.out);
  err = e ∙ ap (λ p. sink_bytes_append p buffers.err.items) w.err ∙ ap (sink_bytes_append before.err) (sym w.is_at.err);
  files = f ∙ w.is_at.files;
  steps = omega (arith, n, w.is_at.steps);
  session = w.is_at.session;
  going = refl;
  held_part = h;
}

module _ (first : SessionTrace) (taken : List ℕ) (held : Option (List ℕ)) (session : SessionState)
    (before now : SessionOutside)
    (w : SessionWaitsForInput first taken held session before now) where
  abbrev heard_trace : SessionTrace
  heard_trace = talk_over_lines first (whole_input_lines taken)

  -- the base of a session whose output so far is written
  abbrev pub written : SessionBase
  written = record { out = heard_trace.out; err = heard_trace.err; files = before.files; steps = before.steps }

  -- as long as there is no new output, the session is at the same point
  pub stands : (buffers : OutputBuffers) → buffers.out.items ≡ [] → buffers.err.items ≡ []
      → IsTalkAtWholeLines written first taken held
      (record { output_buffers = buffers; session = session; files = now.files; steps = now.steps })
  stands buffers o e = record {
    is_at = record {
      out = sym (append-nil heard_trace.out) ∙ ap (λ t. heard_trace.out ++ t) (sym o);
      err = sym (append-nil heard_trace.err) ∙ ap (λ t. heard_trace.err ++ t) (sym e);
      session = w.session;
      files = w.files;
      steps = w.steps;
    };
    going = w.going;
    held_part = w.held_part;
  }

  -- a front of the written and the new output together is a front of the whole
  pub fronts : (talk : SessionTrace) (buffers : OutputBuffers) (after : SessionOutside)
      → IsFrontOfTalk written talk buffers
      → SinkGrowsByPrefix now.out after.out buffers.out.items → SinkGrowsByPrefix now.err after.err buffers.err.items
      → IsSessionOutputFront (talk_output talk) before after
  fronts talk buffers after b o e = record {
    out = session_output_front_of_more before.out after.out (heard_trace.out ++ buffers.out.items) talk.out b.out
        (session_output_front_of_both before.out now.out after.out heard_trace.out buffers.out.items w.out o);
    err = session_output_front_of_more before.err after.err (heard_trace.err ++ buffers.err.items) talk.err b.err
        (session_output_front_of_both before.err now.err after.err heard_trace.err buffers.err.items w.err e);
  }

  -- the output is a part of the whole, according to how far the talk is answered
  pub part_by : (failed : Type 0) (input : List ℕ) (buffers : OutputBuffers) (new : SessionState)
      (after : SessionOutside)
      → TalkBreaksOff failed written first (heard_lines (input_lines input))
      (record { output_buffers = buffers; session = new; files = after.files; steps = after.steps })
      → SinkGrowsByPrefix now.out after.out buffers.out.items → SinkGrowsByPrefix now.err after.err buffers.err.items
      → IsSessionPartIf failed (session_course first input) before after
  part_by failed input buffers new after broken o e = record {
    answered_lines = broken.answered_lines;
    lines_left = broken.lines_left;
    lines_split = broken.lines_split;
    output_front = fronts (talk_over_lines first broken.answered_lines) buffers after broken.output_before o e;
    files = broken.files_left;
  }

  -- the session waits again after its output is written
  pub waits_after_output : (front : List ℕ) (held_now : Option (List ℕ)) (buffers : OutputBuffers) (new : SessionState)
      (after : SessionOutside)
      → IsTalkAtWholeLines written first front held_now
      (record { output_buffers = buffers; session = new; files = after.files; steps = after.steps })
      → after.out ≡ sink_bytes_append now.out buffers.out.items
      → after.err ≡ sink_bytes_append now.err buffers.err.items
      → SessionWaitsForInput first front held_now new before after
  waits_after_output front held_now buffers new after s o e = record {
    out = o ∙ ap (λ p. sink_bytes_append p buffers.out.items) w.out
        ∙ session_sink_grows_twice before.out heard_trace.out buffers.out.items
        ∙ ap (sink_bytes_append before.out) (sym s.is_at.out);
    err = e ∙ ap (λ p. sink_bytes_append p buffers.err.items) w.err
        ∙ session_sink_grows_twice before.err heard_trace.err buffers.err.items
        ∙ ap (sink_bytes_append before.err) (sym s.is_at.err);
    files = s.is_at.files;
    steps = s.is_at.steps;
    session = s.is_at.session;
    going = s.going;
    held_part = s.held_part;
  }

  -- the run is complete after the talk over its input is written
  pub all_after_talk : (talk : SessionTrace) (buffers : OutputBuffers) (new : SessionState) (after : SessionOutside)
      → IsAtPointOfTalk written talk
      (record { output_buffers = buffers; session = new; files = after.files; steps = after.steps })
      → after.out ≡ sink_bytes_append now.out buffers.out.items
      → after.err ≡ sink_bytes_append now.err buffers.err.items
      → IsAllSessionOutput (talk_output talk) before after
  all_after_talk talk buffers new after at o e = record {
    out = o ∙ ap (λ p. sink_bytes_append p buffers.out.items) w.out
        ∙ session_sink_grows_twice before.out heard_trace.out buffers.out.items
        ∙ ap (sink_bytes_append before.out) (sym at.out);
    err = e ∙ ap (λ p. sink_bytes_append p buffers.err.items) w.err
        ∙ session_sink_grows_twice before.err heard_trace.err buffers.err.items
        ∙ ap (sink_bytes_append before.err) (sym at.err);
    files = at.files;
    steps = at.steps;
  }

  -- the output of a waiting session is cut after the bytes read
  pub output_cut_short : (input rest : List ℕ) (after : SessionOutside) → input ≡ taken ++ rest
      → after.input_left ≡ Some rest
      → after.out ≡ now.out → after.err ≡ now.err → after.files ≡ now.files → after.steps ≡ now.steps
      → IsSessionCutShort (session_course first input) before after
  output_cut_short input rest after p q o e f n =
      subst (λ t. IsSessionOutputCut (talk_output (talk_over_lines first (whole_input_lines t))) t before after)
      (sym (input_taken_is_before_rest input taken rest after.input_left p q))
      (record {
        all_written = record {
          out = o ∙ w.out;
          err = e ∙ w.err;
          files = f ∙ w.files;
          steps = n ∙ w.steps;
        };
        going = w.going;
      })

  -- the output of a waiting session is a part of the whole
  pub cut_part : (input rest : List ℕ) (after : SessionOutside) → input ≡ taken ++ rest → after.out ≡ now.out
      → after.err ≡ now.err → after.files ≡ now.files
      → IsSessionPrefixRun (session_course first input) before after
  cut_part input rest after p o e f =
      let more = heard_more taken w.going rest in
      record {
        answered_lines = whole_input_lines taken;
        lines_left = more.0;
        lines_split = ap (λ i. heard_lines (input_lines i)) p ∙ more.1;
        output_front = record {
          out = all_session_output_is_front before.out after.out heard_trace.out (o ∙ w.out);
          err = all_session_output_is_front before.err after.err heard_trace.err (e ∙ w.err);
        };
        files = f ∙ w.files;
      }

-- a front of the opening
session_opening_is_output_front : (first : SessionTrace) (buffers : OutputBuffers) (session : SessionState)
    (before opening after : SessionOutside)
    → OpensSession first buffers session before opening
    → SinkGrowsByPrefix opening.out after.out buffers.out.items
    → SinkGrowsByPrefix opening.err after.err buffers.err.items
    → IsSessionOutputFront (talk_output first) before after
session_opening_is_output_front first buffers session before opening after w o e = record {
  out = subst (SinkGrowsByPrefix before.out after.out) (sym w.is_at.out)
      (subst (λ p. SinkGrowsByPrefix p after.out buffers.out.items) w.out o);
  err = subst (SinkGrowsByPrefix before.err after.err) (sym w.is_at.err)
      (subst (λ p. SinkGrowsByPrefix p after.err buffers.err.items) w.err e);
}

-- before any line is answered, the files are as they were
pub session_opening_keeps_files : (first : SessionTrace) (buffers : OutputBuffers) (session : SessionState)
    (before opening : SessionOutside)
    → OpensSession first buffers session before opening → opening.files ≡ next_session_value_if_known before.files
    first.state.files
session_opening_keeps_files first buffers session before opening w = w.is_at.files

-- if the opening is written in part, the output is a part of the whole
pub session_opening_is_output_part : (first : SessionTrace) (input : List ℕ) (buffers : OutputBuffers)
    (session : SessionState)
    (before opening after : SessionOutside)
    → OpensSession first buffers session before opening → SinkGrowsByPrefix opening.out after.out buffers.out.items
    → SinkGrowsByPrefix opening.err after.err buffers.err.items → after.files ≡ opening.files
    → IsSessionPrefixRunExceptFile (session_course first input) before after
session_opening_is_output_part first input buffers session before opening after w o e f = record {
  answered_lines = [];
  lines_left = heard_lines (input_lines input);
  lines_split = refl;
  output_front = session_opening_is_output_front first buffers session before opening after w o e;
  files = (first.state.files, f ∙ session_opening_keeps_files first buffers session before opening w, inl refl);
}

-- the bytes of another block are counted
pub session_took_another_block : (total n before old new : ℕ) → SessionTookAtLeast total before old
    → new ≡ min (old + n) (2 ^ 64 - 1)
    → SessionTookAtLeast (total + n) before new
session_took_another_block total n before old new (inr e) h = inr (omega (arith, e, h))
session_took_another_block total n before old new (inl e) h = by (nat_le (old + n) (2 ^ 64 - 1)) refl
  where
    by : (b : Bool) → nat_le (old + n) (2 ^ 64 - 1) ≡ b → SessionTookAtLeast (total + n) before new
    by true q = inl (omega (arith, e, h, leb-true (old + n) (2 ^ 64 - 1) q))
    by false q = inr (omega (arith, e, h, leb-false (old + n) (2 ^ 64 - 1) q))

pub session_took_more_than_limit : (total most before after : ℕ) → SessionTookAtLeast total before after → most < total
    → SessionTookMoreThan most before after
session_took_more_than_limit total most before after (inl e) h = inl (omega (arith, e, h))
session_took_more_than_limit total most before after (inr e) h = inr e

module _ (first : SessionTrace) (taken : List ℕ) (held : Option (List ℕ)) (session : SessionState)
    (before now : SessionOutside)
    (w : SessionWaitsForInput first taken held session before now) where
  -- the run over an equal input is complete, too
  pub whole_at : (i input : List ℕ) (buffers : OutputBuffers) (new : SessionState) (after : SessionOutside) → i ≡ input
      → IsAtPointOfTalk (written first taken held session before now w) (talk_over_input first i)
      (record { output_buffers = buffers; session = new; files = after.files; steps = after.steps })
      → after.out ≡ sink_bytes_append now.out buffers.out.items
      → after.err ≡ sink_bytes_append now.err buffers.err.items
      → IsAllSessionOutput (talk_output (talk_over_input first input)) before after
  whole_at i input buffers new after p at o e =
      subst (λ t. IsAllSessionOutput (talk_output (talk_over_input first t)) before after) p
      (all_after_talk first taken held session before now w (talk_over_input first i) buffers new after at o e)

-- the input was read to a line that ends the session
pub heard_input_is_read_to_end : (input taken bytes more : List ℕ) (left : Option (List ℕ))
    → (taken ++ bytes) ++ more ≡ input
    → left ≡ Some more → list_any is_last_session_line (whole_input_lines (taken ++ bytes)) ≡ true
    → IsInputReadToEnd input left
heard_input_is_read_to_end input taken bytes more left all q last =
    inr (ap (λ t. list_any is_last_session_line (whole_input_lines t))
    (input_taken_is_before_rest input (taken ++ bytes) more left (sym all) q) ∙ last)

pub session_count_rose_from_earlier : (first a b c : ℕ) → first ≤ a → a ≤ b → HasIoCountRisen b c
    → HasIoCountRisen first c
session_count_rose_from_earlier first a b c e h r = omega (arith, e, h, r)
