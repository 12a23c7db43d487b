use Rattle.session.proofs.Blocks.{session_count_rose_earlier, stands}
use Rattle.session.proofs.SourceEnding.{end_cause, write_cause}
use Rattle.session.proofs.SinkGrowth.{session_sink_grows_by_front}
use Rattle.session.proofs.OutputPieces.{last_part, last_written}
use Rattle.session.proofs.listener.Listener.answer_end.Goals as goal

pub returns-in_default-clause-run : goal.returns-in_default-clause-run
returns-in_default-clause-run g c = λ was is. record {
  run_if_known = λ first input start t fetches stores w.
      let s = stands first input _ _ _ _ w c.clear.new.self c.clear.ensures.out c.clear.ensures.err in
      last_part first input _ _ _ _ w _ c.feed_end-fed.result c.feed_end-fed.new.self.talk.buffers _ _
      (c.feed_end-fed.ensures.on_trace _ first input t s) c.write.ensures.out c.write.ensures.err
      (λ failed. session_count_rose_earlier _ _ _ stores (c.feed_end-fed.ensures.faults.failed_write_counted failed));
  has_cause = write_cause _ _ c.in_default.ensures.cause;
  grows = record {
    out = session_sink_grows_by_front _ _ _ c.write.ensures.out;
    err = session_sink_grows_by_front _ _ _ c.write.ensures.err;
  };
}

pub returns-clause-run : goal.returns-clause-run
returns-clause-run g c = λ was is. record {
  run_if_known = λ first input start t fetches stores w.
      let s = stands first input _ _ _ _ w c.clear.new.self c.clear.ensures.out c.clear.ensures.err in
      last_written first input _ _ _ _ w _ c.feed_end-fed.result c.feed_end-fed.new.self.talk.buffers _ _
      (c.feed_end-fed.ensures.on_trace _ first input t s) c.last_end.result c.last_end.ensures
      c.in-Ok.ensures.whole.0 c.in-Ok.ensures.whole.1
      (λ failed. session_count_rose_earlier _ _ _ fetches (c.feed_end-fed.ensures.faults.cause failed))
      (λ failed. session_count_rose_earlier _ _ _ stores (c.feed_end-fed.ensures.faults.failed_write_counted failed));
  has_cause = end_cause _ _ c.feed_end-fed.result c.last_end.result c.last_end.ensures
      (λ failed. c.feed_end-fed.ensures.faults.cause failed)
      (λ failed. c.feed_end-fed.ensures.faults.failed_write_counted failed);
  grows = record {
    out = session_sink_grows_by_front _ _ _ c.write.ensures.out;
    err = session_sink_grows_by_front _ _ _ c.write.ensures.err;
  };
}

pub returns-in_default-clause-unasked : goal.returns-in_default-clause-unasked
returns-in_default-clause-unasked g c = c.feed_end-fed.ensures.unasked

pub returns-clause-unasked : goal.returns-clause-unasked
returns-clause-unasked g c = c.feed_end-fed.ensures.unasked
