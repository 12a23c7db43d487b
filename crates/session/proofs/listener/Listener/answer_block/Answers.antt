use Rattle.std.proofs.Common.{◌++◌, refl, sym, ◌∙◌, arith}
use Rattle.std.proofs.Math.Nat.{le_trans}
use Rattle.session.proofs.Blocks.{one_of_two_session_counts_rose, session_count_rose_earlier}
use Rattle.session.proofs.Blocks.{session_count_rose_from_earlier, session_feed_keeps_input, stands}
use Rattle.session.proofs.SourceEnding.{fed_cause, session_done_by_fed_line, session_goes_on_after_feed, write_cause}
use Rattle.session.proofs.FetchFaultCounts.{fed_session_keeps_fetch_faults}
use Rattle.session.proofs.HeardLines.{equal_heard_input_loads_file}
use Rattle.session.proofs.SinkGrowth.{session_sink_grows_again, session_sink_grows_by_front}
use Rattle.session.proofs.SinkGrowth.{unwritten_session_sink_grows}
use Rattle.session.proofs.TakingUp.{block_last, equal_heard_input_names_no_file, holds_on, input_block_is_not_yet_fed}
use Rattle.session.proofs.TakingUp.{input_block_is_wholly_fed}
use Rattle.session.proofs.OutputPieces.{ended_written, part_written, session_waits_after_block}
use Rattle.session.proofs.OutputPieces.{session_waits_before_block, waits_on}
use Rattle.session.proofs.listener.Listener.answer_block.Goals as goal

pub loop-rest-init : goal.loop-rest-init
loop-rest-init g c = record {
  fetches_later = omega arith;
  stores_later = omega arith;
  out_later = omega arith;
  err_later = omega arith;
  out_grows = unwritten_session_sink_grows _;
  err_grows = unwritten_session_sink_grows _;
  holds = λ taken h. input_block_is_not_yet_fed taken c.args.block.now _ h;
  unasked = λ taken more h none. refl;
  waits = λ first taken more start was is t w. session_waits_before_block first taken c.args.block.now _ _ start was is
      _ _ _ _ _ _
      w;
}

pub returns-in_default-clause-run : goal.returns-in_default-clause-run
returns-in_default-clause-run g c = λ was is. record {
  run_if_known = λ first taken more start t fetches stores w.
      let p = c.loop-rest.invariant.waits first taken more start was.input_left is.input_left t w in
      let s = stands first (taken ++ p.0) _ _ _ _ p.2 c.clear.new.self c.clear.ensures.out c.clear.ensures.err in
      part_written first taken c.args.block.now p.0 c.loop-rest.rest.now c.feed_block-fed.new.rest.now more p.1 _ _ _ _
      p.2
      c.feed_block-fed.result _ c.feed_block-fed.new.self.talk.buffers _ _
      (c.feed_block-fed.ensures.on_trace _ first (taken ++ p.0) more
      (equal_heard_input_loads_file _ _ start.files
      (session_feed_keeps_input taken c.args.block.now p.0 c.loop-rest.rest.now more p.1) t) s)
      c.write.ensures.out c.write.ensures.err
      (λ failed. session_count_rose_from_earlier _ _ _ _ stores c.loop-rest.invariant.stores_later
      (c.feed_block-fed.ensures.faults.failed_write_counted failed));
  has_cause = write_cause _ _
      (one_of_two_session_counts_rose _ _ _ _ _ _ c.loop-rest.invariant.out_later c.loop-rest.invariant.err_later
      c.in_default.ensures.cause);
  grows = record {
    out = session_sink_grows_again _ _ _ c.loop-rest.invariant.out_grows
        (session_sink_grows_by_front _ _ _ c.write.ensures.out);
    err = session_sink_grows_again _ _ _ c.loop-rest.invariant.err_grows
        (session_sink_grows_by_front _ _ _ c.write.ensures.err);
  };
}

pub returns-in-Some-clause-run : goal.returns-in-Some-clause-run
returns-in-Some-clause-run g c = λ was is. record {
  run_if_known = λ first taken more start t fetches stores w.
      let p = c.loop-rest.invariant.waits first taken more start was.input_left is.input_left t w in
      let s = stands first (taken ++ p.0) _ _ _ _ p.2 c.clear.new.self c.clear.ensures.out c.clear.ensures.err in
      ended_written first taken c.args.block.now p.0 c.loop-rest.rest.now c.feed_block-fed.new.rest.now more p.1 _ _ _ _
      p.2
      c.feed_block-fed.result _ c.feed_block-fed.new.self.talk.buffers _ _
      (c.feed_block-fed.ensures.on_trace _ first (taken ++ p.0) more
      (equal_heard_input_loads_file _ _ start.files
      (session_feed_keeps_input taken c.args.block.now p.0 c.loop-rest.rest.now more p.1) t) s)
      c.in-Some.end
      c.in-Some.ensures c.in-Ok.ensures.whole.0 c.in-Ok.ensures.whole.1
      (λ failed. session_count_rose_from_earlier _ _ _ _ fetches c.loop-rest.invariant.fetches_later
      (c.feed_block-fed.ensures.faults.cause failed))
      (λ failed. session_count_rose_from_earlier _ _ _ _ stores c.loop-rest.invariant.stores_later
      (c.feed_block-fed.ensures.faults.failed_write_counted failed));
  has_cause = fed_cause _ _ c.feed_block-fed.result c.in-Some.end c.in-Some.ensures
      (λ failed. session_count_rose_earlier _ _ _ c.loop-rest.invariant.fetches_later
      (c.feed_block-fed.ensures.faults.cause failed))
      (λ failed. session_count_rose_earlier _ _ _ c.loop-rest.invariant.stores_later
      (c.feed_block-fed.ensures.faults.failed_write_counted failed));
  grows = record {
    out = session_sink_grows_again _ _ _ c.loop-rest.invariant.out_grows
        (session_sink_grows_by_front _ _ _ c.write.ensures.out);
    err = session_sink_grows_again _ _ _ c.loop-rest.invariant.err_grows
        (session_sink_grows_by_front _ _ _ c.write.ensures.err);
  };
}

pub loop-rest-preserved : goal.loop-rest-preserved
loop-rest-preserved g c = record {
  fetches_later = omega (
    arith,
    fed_session_keeps_fetch_faults _ _ c.feed_block-fed.result
        (session_goes_on_after_feed _ c.in_default-end_of.ensures)
        c.feed_block-fed.ensures.faults.fetches_counted,
    c.loop-rest.invariant.fetches_later,
  );
  stores_later = le_trans c.loop-rest.invariant.stores_later c.feed_block-fed.ensures.faults.stores_grow;
  out_later = le_trans c.loop-rest.invariant.out_later c.write.ensures.out_later;
  err_later = le_trans c.loop-rest.invariant.err_later c.write.ensures.err_later;
  out_grows = session_sink_grows_again _ _ _ c.loop-rest.invariant.out_grows
      (session_sink_grows_by_front _ _ _ c.write.ensures.out);
  err_grows = session_sink_grows_again _ _ _ c.loop-rest.invariant.err_grows
      (session_sink_grows_by_front _ _ _ c.write.ensures.err);
  holds = λ taken h.
      let p = c.loop-rest.invariant.holds taken h in
      holds_on taken c.args.block.now p.0 c.loop-rest.rest.now c.feed_block-fed.new.rest.now _ p.1
      c.feed_block-fed.result
      (c.feed_block-fed.ensures.cut (taken ++ p.0) p.2)
      (session_goes_on_after_feed c.feed_block-fed.result c.in_default-end_of.ensures);
  unasked = λ taken more h none.
      let p = c.loop-rest.invariant.holds taken h in
      c.feed_block-fed.ensures.unasked (taken ++ p.0) more p.2
      (equal_heard_input_names_no_file _ _
      (session_feed_keeps_input taken c.args.block.now p.0 c.loop-rest.rest.now more p.1) none)
      ∙ c.loop-rest.invariant.unasked taken more h none;
  waits = λ first taken more start was is t w.
      let p = c.loop-rest.invariant.waits first taken more start was is t w in
      let s = stands first (taken ++ p.0) _ _ _ _ p.2 c.clear.new.self c.clear.ensures.out c.clear.ensures.err in
      waits_on first taken c.args.block.now p.0 c.loop-rest.rest.now c.feed_block-fed.new.rest.now more p.1 _ _ _ _ p.2
      c.feed_block-fed.result _ c.feed_block-fed.new.self.talk.buffers _ _
      (c.feed_block-fed.ensures.on_trace _ first (taken ++ p.0) more
      (equal_heard_input_loads_file _ _ start.files
      (session_feed_keeps_input taken c.args.block.now p.0 c.loop-rest.rest.now more p.1) t) s)
      c.in-Ok.ensures.whole.0 c.in-Ok.ensures.whole.1
      (session_goes_on_after_feed c.feed_block-fed.result c.in_default-end_of.ensures);
}

pub returns-clause-run : goal.returns-clause-run
returns-clause-run g c = λ was is. record {
  waits_on = λ first taken more start t w.
      let p = c.loop-rest.invariant.waits first taken more start was.input_left is.input_left t w in
      session_waits_after_block first taken c.args.block.now p.0 c.loop-rest.rest.now _ _ start _ p.1
      (sym c.is_empty.ensures ∙ c.loop-rest-test.false) p.2;
  counts_later = record {
    fetches = c.loop-rest.invariant.fetches_later;
    stores = c.loop-rest.invariant.stores_later;
    out = c.loop-rest.invariant.out_later;
    err = c.loop-rest.invariant.err_later;
  };
  grows = record { out = c.loop-rest.invariant.out_grows; err = c.loop-rest.invariant.err_grows };
}

pub returns-in_default-clause-cut : goal.returns-in_default-clause-cut
returns-in_default-clause-cut g c = λ taken h done. cc

pub returns-in-Some-clause-cut : goal.returns-in-Some-clause-cut
returns-in-Some-clause-cut g c = λ taken h done.
    let p = c.loop-rest.invariant.holds taken h in
    block_last taken c.args.block.now p.0 c.loop-rest.rest.now c.feed_block-fed.new.rest.now _ p.1
    c.feed_block-fed.result
    (c.feed_block-fed.ensures.cut (taken ++ p.0) p.2)
    (session_done_by_fed_line c.feed_block-fed.result c.in-Some.end c.in-Some.ensures done)

pub returns-clause-cut : goal.returns-clause-cut
returns-clause-cut g c = λ taken h.
    let p = c.loop-rest.invariant.holds taken h in
    input_block_is_wholly_fed taken c.args.block.now p.0 c.loop-rest.rest.now _ p.1
    (sym c.is_empty.ensures ∙ c.loop-rest-test.false)
    p.2

pub returns-in_default-clause-unasked : goal.returns-in_default-clause-unasked
returns-in_default-clause-unasked g c = λ taken more h none.
    let p = c.loop-rest.invariant.holds taken h in
    c.feed_block-fed.ensures.unasked (taken ++ p.0) more p.2
    (equal_heard_input_names_no_file _ _
    (session_feed_keeps_input taken c.args.block.now p.0 c.loop-rest.rest.now more p.1) none)
    ∙ c.loop-rest.invariant.unasked taken more h none

pub returns-in-Some-clause-unasked : goal.returns-in-Some-clause-unasked
returns-in-Some-clause-unasked g c = λ taken more h none.
    let p = c.loop-rest.invariant.holds taken h in
    c.feed_block-fed.ensures.unasked (taken ++ p.0) more p.2
    (equal_heard_input_names_no_file _ _
    (session_feed_keeps_input taken c.args.block.now p.0 c.loop-rest.rest.now more p.1) none)
    ∙ c.loop-rest.invariant.unasked taken more h none

pub returns-clause-unasked : goal.returns-clause-unasked
returns-clause-unasked g c = c.loop-rest.invariant.unasked
