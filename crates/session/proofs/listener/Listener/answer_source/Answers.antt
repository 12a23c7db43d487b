use Rattle.std.proofs.Common.{[], inl, inr, refl, arith, subst, sym, ◌∙◌}
use Rattle.session.specs.HeardLines.{heard_input_loads_file}
use Rattle.session.specs.KnownContents.{IsSessionValueKnownIfNeeded}
use Rattle.session.proofs.Blocks.{one_of_three_session_counts_rose, session_opening_is_output_part}
use Rattle.session.proofs.Blocks.{session_waits_after_opening}
use Rattle.session.proofs.SourceEnding.{write_cause}
use Rattle.session.proofs.SinkGrowth.{session_sink_grows_by_all, session_sink_grows_by_more}
use Rattle.session.proofs.SinkGrowth.{session_sinks_grow_in_order}
use Rattle.session.proofs.HeardLines.{nothing_is_heard_at_start}
use Rattle.session.proofs.HeldLine.{short_session_line_is_readable}
use Rattle.session.proofs.listener.Listener.answer_source.Goals as goal

pub returns-in-Err-clause-run : goal.returns-in-Err-clause-run
returns-in-Err-clause-run g c = record {
  run_if_known = λ first input start q t at.
      session_opening_is_output_part first input _ _ start _ _ at c.write.ensures.out c.write.ensures.err refl;
  whole_run = λ input q d. cc;
  has_cause = write_cause _ _ c.in-Err.ensures.cause;
}

pub returns-in-Err-clause-opening : goal.returns-in-Err-clause-opening
returns-in-Err-clause-opening g c = inl refl

pub returns-in-Err-clause-order : goal.returns-in-Err-clause-order
returns-in-Err-clause-order g c = session_sinks_grow_in_order _ _ _ c.args.self.now.talk.buffers.err.items
    c.write.ensures.order

pub returns-in-Ok-clause-run : goal.returns-in-Ok-clause-run
returns-in-Ok-clause-run g c = record {
  run_if_known = λ first input start q t at.
      c.answer_blocks.ensures.run.run_if_known first input start q
      (subst (IsSessionValueKnownIfNeeded (heard_input_loads_file input)) at.files t)
      at.faults at.stores
      (session_waits_after_opening first _ _ _ start _ _ at c.in-Ok.ensures.whole.0 c.in-Ok.ensures.whole.1 refl
      refl
      (c.clear.ensures ∙ sym (short_session_line_is_readable [] (omega arith))));
  whole_run = λ input q d.
      c.answer_blocks.ensures.run.whole_run input q
      (nothing_is_heard_at_start _ (c.clear.ensures ∙ sym (short_session_line_is_readable [] (omega arith)))) d;
  has_cause = record {
    read_cause = c.answer_blocks.ensures.run.has_cause.read_cause;
    write_cause = λ r.
        one_of_three_session_counts_rose _ _ _ _ _ _ _ _ c.write.ensures.out_later c.write.ensures.err_later
        (c.answer_blocks.ensures.run.has_cause.write_cause r);
    too_long = c.answer_blocks.ensures.run.has_cause.too_long;
  };
}

pub returns-in-Ok-clause-unasked : goal.returns-in-Ok-clause-unasked
returns-in-Ok-clause-unasked g c = λ input q none.
    c.answer_blocks.ensures.unasked input q
    (nothing_is_heard_at_start _ (c.clear.ensures ∙ sym (short_session_line_is_readable [] (omega arith)))) none

pub returns-in-Ok-clause-opening : goal.returns-in-Ok-clause-opening
returns-in-Ok-clause-opening g c = inr (
  session_sink_grows_by_more _ _ _ c.args.self.now.talk.buffers.out.items
      (session_sink_grows_by_all _ _ _ c.in-Ok.ensures.whole.0)
      c.answer_blocks.ensures.run.grows.out,
  session_sink_grows_by_more _ _ _ c.args.self.now.talk.buffers.err.items
      (session_sink_grows_by_all _ _ _ c.in-Ok.ensures.whole.1)
      c.answer_blocks.ensures.run.grows.err,
)

pub returns-in-Ok-clause-order : goal.returns-in-Ok-clause-order
returns-in-Ok-clause-order g c =
    inr (session_sink_grows_by_more _ _ _ c.args.self.now.talk.buffers.err.items
    (session_sink_grows_by_all _ _ _ c.in-Ok.ensures.whole.1)
    c.answer_blocks.ensures.run.grows.err)
