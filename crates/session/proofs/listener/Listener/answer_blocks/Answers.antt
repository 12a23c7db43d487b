use Rattle.std.proofs.Common.{◌++◌, [], inl, take, refl, sym, ap, arith, Some, ◌∙◌}
use Rattle.std.proofs.Math.Nat.{le_trans}
use Rattle.session.specs.Worlds.{session_source}
use Rattle.session.proofs.Blocks.{cut_part, heard_input_is_read_to_end, known_session_input_is_lost}
use Rattle.session.proofs.Blocks.{no_session_input_is_left, output_cut_short, session_count_rose_earlier}
use Rattle.session.proofs.Blocks.{session_took_another_block, session_took_more_than_limit}
use Rattle.session.proofs.SourceEnding.{length_cause, memory_cause, read_cause, session_end_cause_since_earlier}
use Rattle.session.proofs.SourceEnding.{session_ended_over_equal_input}
use Rattle.session.proofs.SinkGrowth.{session_sink_grows_again, unwritten_session_sink_grows}
use Rattle.session.proofs.HeardLines.{equal_heard_input_loads_file}
use Rattle.session.proofs.TakingUp.{equal_heard_input_names_no_file}
use Rattle.session.proofs.listener.Listener.answer_blocks.Goals as goal
use Rattle.general_lemmas.proofs.Parts.{front_whole, rejoined, no_rest}

pub loop-total-init : goal.loop-total-init
loop-total-init g c = record {
  later = omega arith;
  stores_later = omega arith;
  earlier = omega arith;
  out_later = omega arith;
  err_later = omega arith;
  room = (
    omega (arith, c.as_mut_slice-block.ensures.len, c.in-Ok.ensures.len),
    omega (arith, c.as_mut_slice-block.ensures.len, c.in-Ok.ensures.len),
  );
  counted = inl (omega arith);
  out_grows = unwritten_session_sink_grows _;
  err_grows = unwritten_session_sink_grows _;
  holds = λ input q h. ([], input, refl, q, h);
  unasked = λ input q h none. refl;
  stands = λ first input start q t at. ([], input, refl, q, at);
}

pub returns-in_default-clause-run : goal.returns-in_default-clause-run
returns-in_default-clause-run g c = record {
  run_if_known = λ first input start q t ff fs at. cut_part first [] _ _ _ _ at input input _ refl refl refl refl;
  whole_run = λ input q h d. cc;
  has_cause = memory_cause _ _;
  grows = record { out = unwritten_session_sink_grows _; err = unwritten_session_sink_grows _ };
}

pub returns-in-Err-clause-run : goal.returns-in-Err-clause-run
returns-in-Err-clause-run g c = record {
  run_if_known = λ first input start q t ff fs at.
      let p = c.loop-total.invariant.stands first input start q t at in (
        cut_part first p.0 _ _ _ _ p.4 input p.1 _ p.2 refl refl refl,
        λ calm. output_cut_short first p.0 _ _ _ _ p.4 input p.1 _ p.2 (c.in-Err.ensures.kept ∙ p.3) refl refl refl
            refl,
      );
  whole_run = λ input q h d. cc;
  has_cause = read_cause _ _
      (session_count_rose_earlier _ _ _ c.loop-total.invariant.earlier c.in-Err.ensures.cause.failure_counted);
  grows = record { out = c.loop-total.invariant.out_grows; err = c.loop-total.invariant.err_grows };
}

pub returns-then-n-eq0-clause-run : goal.returns-then-n-eq0-clause-run
returns-then-n-eq0-clause-run g c =
    let old = session_source (g.S.Source.left c.loop-total.src) (g.S.Source.taken c.loop-total.src)
    (g.S.Source.faults c.loop-total.src) in
    let new = session_source (g.S.Source.left c.take.new.self) (g.S.Source.taken c.take.new.self)
    (g.S.Source.faults c.take.new.self) in
    let first_seen = session_source (g.S.Source.left c.args.src.now) (g.S.Source.taken c.args.src.now)
    (g.S.Source.faults c.args.src.now) in
    record {
      run_if_known = λ first input start q t ff fs at.
          let p = c.loop-total.invariant.stands first input start q t at in
          session_ended_over_equal_input first p.0 input c.answer_end.result start _
          (front_whole input p.0 p.1 p.2
          (no_session_input_is_left _ p.1 p.3 (c.in-Ok-take.ensures.end c.if-n-eq0.true)))
          ((c.answer_end.ensures.run old new).run_if_known first p.0 start
          (equal_heard_input_loads_file _ _ start.files
          (front_whole input p.0 p.1 p.2
          (no_session_input_is_left _ p.1 p.3 (c.in-Ok-take.ensures.end c.if-n-eq0.true))) t)
          (le_trans ff c.loop-total.invariant.later) (le_trans fs c.loop-total.invariant.stores_later)
          p.4);
      whole_run = λ input q h d.
          let p = c.loop-total.invariant.holds input q h in
          let lost = known_session_input_is_lost _ _ p.1 (take c.in-Ok-take.n c.take.new.buf) p.3
          c.in-Ok-take.ensures.bytes in
          inl (lost.1
          ∙ ap Some (no_rest _ _ _ lost.2
          (no_session_input_is_left _ p.1 p.3 (c.in-Ok-take.ensures.end c.if-n-eq0.true))));
      has_cause = session_end_cause_since_earlier c.answer_end.result first_seen _ _ _ _ _ _ _ _ _
          c.loop-total.invariant.out_later
          c.loop-total.invariant.err_later c.loop-total.invariant.later c.loop-total.invariant.stores_later
          (c.answer_end.ensures.run first_seen new).has_cause;
      grows = record {
        out = session_sink_grows_again _ _ _ c.loop-total.invariant.out_grows
            (c.answer_end.ensures.run old new).grows.out;
        err = session_sink_grows_again _ _ _ c.loop-total.invariant.err_grows
            (c.answer_end.ensures.run old new).grows.err;
      };
    }

pub returns-in-Some-clause-run : goal.returns-in-Some-clause-run
returns-in-Some-clause-run g c =
    let old = session_source (g.S.Source.left c.loop-total.src) (g.S.Source.taken c.loop-total.src)
    (g.S.Source.faults c.loop-total.src) in
    let new = session_source (g.S.Source.left c.take.new.self) (g.S.Source.taken c.take.new.self)
    (g.S.Source.faults c.take.new.self) in
    let first_seen = session_source (g.S.Source.left c.args.src.now) (g.S.Source.taken c.args.src.now)
    (g.S.Source.faults c.args.src.now) in
    record {
      run_if_known = λ first input start q t ff fs at.
          let p = c.loop-total.invariant.stands first input start q t at in
          let lost = known_session_input_is_lost _ _ p.1 (take c.in-Ok-take.n c.take.new.buf) p.3
          c.in-Ok-take.ensures.bytes in
          session_ended_over_equal_input first _ input c.in-Some.end start _
          (rejoined input p.0 p.1 _ lost.0 p.2 lost.2)
          ((c.in-Some.ensures.run old new).run_if_known first p.0 lost.0 start
          (equal_heard_input_loads_file _ _ start.files (rejoined input p.0 p.1 _ lost.0 p.2 lost.2) t)
          (le_trans ff c.loop-total.invariant.later) (le_trans fs c.loop-total.invariant.stores_later)
          p.4);
      whole_run = λ input q h d.
          let p = c.loop-total.invariant.holds input q h in
          let lost = known_session_input_is_lost _ _ p.1 (take c.in-Ok-take.n c.take.new.buf) p.3
          c.in-Ok-take.ensures.bytes in
          heard_input_is_read_to_end input p.0 (take c.in-Ok-take.n c.take.new.buf) lost.0 _
          (rejoined input p.0 p.1 _ lost.0 p.2 lost.2)
          lost.1
          (c.in-Some.ensures.cut p.0 p.4 d);
      has_cause = session_end_cause_since_earlier c.in-Some.end first_seen _ _ _ _ _ _ _ _ _
          c.loop-total.invariant.out_later
          c.loop-total.invariant.err_later c.loop-total.invariant.later c.loop-total.invariant.stores_later
          (c.in-Some.ensures.run first_seen new).has_cause;
      grows = record {
        out = session_sink_grows_again _ _ _ c.loop-total.invariant.out_grows (c.in-Some.ensures.run old new).grows.out;
        err = session_sink_grows_again _ _ _ c.loop-total.invariant.err_grows (c.in-Some.ensures.run old new).grows.err;
      };
    }

pub returns-clause-run : goal.returns-clause-run
returns-clause-run g c = record {
  run_if_known = λ first input start q t ff fs at.
      let p = c.loop-total.invariant.stands first input start q t at in (
        cut_part first p.0 _ _ _ _ p.4 input p.1 _ p.2 refl refl refl,
        output_cut_short first p.0 _ _ _ _ p.4 input p.1 _ p.2 p.3 refl refl refl refl,
      );
  whole_run = λ input q h d. cc;
  has_cause = length_cause _ _
      (session_took_more_than_limit c.loop-total.total 4294967296 _ _ c.loop-total.invariant.counted
      (omega (arith, c.loop-total-test.false)));
  grows = record { out = c.loop-total.invariant.out_grows; err = c.loop-total.invariant.err_grows };
}

pub loop-total-preserved : goal.loop-total-preserved
loop-total-preserved g c =
    let old = session_source (g.S.Source.left c.loop-total.src) (g.S.Source.taken c.loop-total.src)
    (g.S.Source.faults c.loop-total.src) in
    let new = session_source (g.S.Source.left c.take.new.self) (g.S.Source.taken c.take.new.self)
    (g.S.Source.faults c.take.new.self) in
    let behind = c.in_default-answer_block.ensures.run old new in
    record {
      later = le_trans c.loop-total.invariant.later behind.counts_later.fetches;
      stores_later = le_trans c.loop-total.invariant.stores_later behind.counts_later.stores;
      earlier = omega (arith, c.in-Ok-take.ensures.cause.count_grows, c.loop-total.invariant.earlier);
      out_later = le_trans c.loop-total.invariant.out_later behind.counts_later.out;
      err_later = le_trans c.loop-total.invariant.err_later behind.counts_later.err;
      out_grows = session_sink_grows_again _ _ _ c.loop-total.invariant.out_grows behind.grows.out;
      err_grows = session_sink_grows_again _ _ _ c.loop-total.invariant.err_grows behind.grows.err;
      holds = λ input q h.
          let p = c.loop-total.invariant.holds input q h in
          let lost = known_session_input_is_lost _ _ p.1 (take c.in-Ok-take.n c.take.new.buf) p.3
          c.in-Ok-take.ensures.bytes in (
            p.0 ++ take c.in-Ok-take.n c.take.new.buf,
            lost.0,
            sym (rejoined input p.0 p.1 _ lost.0 p.2 lost.2),
            lost.1,
            c.in_default-answer_block.ensures.cut p.0 p.4,
          );
      unasked = λ input q h none.
          let p = c.loop-total.invariant.holds input q h in
          let lost = known_session_input_is_lost _ _ p.1 (take c.in-Ok-take.n c.take.new.buf) p.3
          c.in-Ok-take.ensures.bytes in
          c.answer_block.ensures.unasked p.0 lost.0 p.4
          (equal_heard_input_names_no_file _ _ (rejoined input p.0 p.1 _ lost.0 p.2 lost.2) none)
          ∙ c.loop-total.invariant.unasked input q h none;
      room = (omega (arith, c.loop-total.invariant.room.0), omega (arith, c.loop-total.invariant.room.1));
      counted = session_took_another_block c.loop-total.total c.in-Ok-take.n _ _ _ c.loop-total.invariant.counted
          c.in-Ok-take.ensures.count;
      stands = λ first input start q t at.
          let p = c.loop-total.invariant.stands first input start q t at in
          let lost = known_session_input_is_lost _ _ p.1 (take c.in-Ok-take.n c.take.new.buf) p.3
          c.in-Ok-take.ensures.bytes in (
            p.0 ++ take c.in-Ok-take.n c.take.new.buf,
            lost.0,
            sym (rejoined input p.0 p.1 _ lost.0 p.2 lost.2),
            lost.1,
            behind.waits_on first p.0 lost.0 start
                (equal_heard_input_loads_file _ _ start.files (rejoined input p.0 p.1 _ lost.0 p.2 lost.2) t) p.4,
          );
    }

pub returns-in-Err-clause-unasked : goal.returns-in-Err-clause-unasked
returns-in-Err-clause-unasked g c = c.loop-total.invariant.unasked

pub returns-then-n-eq0-clause-unasked : goal.returns-then-n-eq0-clause-unasked
returns-then-n-eq0-clause-unasked g c = λ input q h none.
    let p = c.loop-total.invariant.holds input q h in
    c.answer_end.ensures.unasked p.0 p.4
    (equal_heard_input_names_no_file _ _
    (front_whole input p.0 p.1 p.2 (no_session_input_is_left _ p.1 p.3 (c.in-Ok-take.ensures.end c.if-n-eq0.true)))
    none)
    ∙ c.loop-total.invariant.unasked input q h none

pub returns-in-Some-clause-unasked : goal.returns-in-Some-clause-unasked
returns-in-Some-clause-unasked g c = λ input q h none.
    let p = c.loop-total.invariant.holds input q h in
    let lost = known_session_input_is_lost _ _ p.1 (take c.in-Ok-take.n c.take.new.buf) p.3 c.in-Ok-take.ensures.bytes
    in
    c.answer_block.ensures.unasked p.0 lost.0 p.4
    (equal_heard_input_names_no_file _ _ (rejoined input p.0 p.1 _ lost.0 p.2 lost.2) none)
    ∙ c.loop-total.invariant.unasked input q h none

pub returns-clause-unasked : goal.returns-clause-unasked
returns-clause-unasked g c = c.loop-total.invariant.unasked
