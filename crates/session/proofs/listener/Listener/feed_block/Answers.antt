use Rattle.std.proofs.Common.{◌++◌, arith, ap, sym, ◌∙◌, option_map}
use Rattle.std.proofs.lemmas.List.{append-nil}
use Rattle.def_entry.specs.LineViews.{seen_entry_text_pair}
use Rattle.def_entry.proofs.CutParts.{cut_entry_text_is_shorter}
use Rattle.session.specs.Input.{whole_input_lines, unfinished_input_line}
use Rattle.session.specs.SessionProgress.{session_now_of}
use Rattle.session.specs.Talks.{talk_over_lines}
use Rattle.session.specs.declared.fault.SessionFault.TheVariants.{OutOfMemory}
use Rattle.session.proofs.BlockFeeds.{line_fed, line_lost, line_over, rest_held, rest_lost, talk_holds_input_rest}
use Rattle.session.proofs.HeardLines.{line_holds, line_last, line_names_none, line_is_known, rest_holds}
use Rattle.session.proofs.listener.Listener.feed_block.Goals as goal

pub returns-in-Ok-true-clause-on_trace : goal.returns-in-Ok-true-clause-on_trace
returns-in-Ok-true-clause-on_trace g c = λ base first taken more t s.
    let p = c.loop-piece.invariant.fed base first taken more t s in
    let on_trace = c.in-Ok-true.ensures.on_trace base (talk_over_lines first (whole_input_lines (taken ++ p.0)))
    (unfinished_input_line (taken ++ p.0)) p.2.held_part
    (line_is_known taken c.args.rest.now.now p.0 c.loop-piece.rest.now c.loop-piece.self.held p.1
    (talk_holds_input_rest base first _ _ _ p.2)
    c.in-Some.piece.now c.in-Some.behind.now (sym c.in-Some.ensures) more base.files t) p.2.is_at in
    line_over base first taken c.args.rest.now.now p.0 c.loop-piece.rest.now c.loop-piece.self.held
    (session_now_of c.loop-piece.self.talk.buffers c.loop-piece.self.talk.session (g.F.Files.files c.loop-piece.files)
    c.loop-piece.steps) p.1 p.2
    c.in-Some.piece.now
    c.in-Some.behind.now (sym c.in-Some.ensures) more
    (session_now_of c.end_line.new.self.talk.buffers c.end_line.new.self.talk.session
    (g.F.Files.files c.end_line.new.files) c.end_line.new.steps)
    (sym c.in-Ok-true.field-0-test ∙ on_trace.0) on_trace.2

pub returns-in-Err-clause-on_trace : goal.returns-in-Err-clause-on_trace
returns-in-Err-clause-on_trace g c = λ base first taken more t s.
    let p = c.loop-piece.invariant.fed base first taken more t s in
    line_lost base first taken c.args.rest.now.now p.0 c.loop-piece.rest.now c.loop-piece.self.held
    (session_now_of c.loop-piece.self.talk.buffers c.loop-piece.self.talk.session (g.F.Files.files c.loop-piece.files)
    c.loop-piece.steps) p.1 p.2
    c.in-Some.piece.now
    c.in-Some.behind.now (sym c.in-Some.ensures) c.in-Err.fault more
    (session_now_of c.end_line.new.self.talk.buffers c.end_line.new.self.talk.session
    (g.F.Files.files c.end_line.new.files) c.end_line.new.steps)
    (c.in-Err.ensures.on_trace base (talk_over_lines first (whole_input_lines (taken ++ p.0)))
    (unfinished_input_line (taken ++ p.0))
    p.2.held_part
    (line_is_known taken c.args.rest.now.now p.0 c.loop-piece.rest.now c.loop-piece.self.held p.1
    (talk_holds_input_rest base first _ _ _ p.2)
    c.in-Some.piece.now c.in-Some.behind.now (sym c.in-Some.ensures) more base.files t) p.2.is_at)

pub returns-then-is_long-clause-on_trace : goal.returns-then-is_long-clause-on_trace
returns-then-is_long-clause-on_trace g c = λ base first taken more t s.
    let p = c.loop-piece.invariant.fed base first taken more t s in
    let on_trace = c.in-Ok-false.ensures.on_trace base (talk_over_lines first (whole_input_lines (taken ++ p.0)))
    (unfinished_input_line (taken ++ p.0)) p.2.held_part
    (line_is_known taken c.args.rest.now.now p.0 c.loop-piece.rest.now c.loop-piece.self.held p.1
    (talk_holds_input_rest base first _ _ _ p.2)
    c.in-Some.piece.now c.in-Some.behind.now (sym c.in-Some.ensures) more base.files t) p.2.is_at in
    line_fed base first taken c.args.rest.now.now p.0 c.loop-piece.rest.now c.loop-piece.self.held
    (session_now_of c.loop-piece.self.talk.buffers c.loop-piece.self.talk.session (g.F.Files.files c.loop-piece.files)
    c.loop-piece.steps) p.1 p.2
    c.in-Some.piece.now
    c.in-Some.behind.now (sym c.in-Some.ensures) c.end_line.new.self.held
    (session_now_of c.end_line.new.self.talk.buffers c.end_line.new.self.talk.session
    (g.F.Files.files c.end_line.new.files) c.end_line.new.steps)
    (sym c.in-Ok-false.field-0-test ∙ on_trace.0) on_trace.1 on_trace.2

pub loop-piece-preserved : goal.loop-piece-preserved
loop-piece-preserved g c = record {
  counted = c.in-Ok-false.ensures.faults.fetches_counted ∙ c.loop-piece.invariant.counted;
  later = omega (arith, c.in-Ok-false.ensures.faults.stores_grow, c.loop-piece.invariant.later);
  within = omega (
    arith,
    cut_entry_text_is_shorter 10 c.loop-piece.rest.now c.in-Some.piece.now c.in-Some.behind.now (sym c.in-Some.ensures),
    c.loop-piece.invariant.within,
  );
  holds = λ taken h.
      let p = c.loop-piece.invariant.holds taken h in
      let last = c.in-Ok-false.ensures.last (unfinished_input_line (taken ++ p.0)) p.2.held_part in
      line_holds taken c.args.rest.now.now p.0 c.loop-piece.rest.now c.loop-piece.self.held p.1 p.2 c.in-Some.piece.now
      c.in-Some.behind.now (sym c.in-Some.ensures) c.end_line.new.self.held (sym c.in-Ok-false.field-0-test ∙ last.0)
      last.1;
  unasked = λ taken more h none.
      let p = c.loop-piece.invariant.holds taken h in
      c.end_line.ensures.unasked (unfinished_input_line (taken ++ p.0)) p.2.held_part
      (line_names_none taken c.args.rest.now.now p.0 c.loop-piece.rest.now c.loop-piece.self.held p.1 p.2
      c.in-Some.piece.now c.in-Some.behind.now (sym c.in-Some.ensures) more none)
      ∙ c.loop-piece.invariant.unasked taken more h none;
  fed = λ base first taken more t s.
      let p = c.loop-piece.invariant.fed base first taken more t s in
      let on_trace = c.in-Ok-false.ensures.on_trace base (talk_over_lines first (whole_input_lines (taken ++ p.0)))
      (unfinished_input_line (taken ++ p.0)) p.2.held_part
      (line_is_known taken c.args.rest.now.now p.0 c.loop-piece.rest.now c.loop-piece.self.held p.1
      (talk_holds_input_rest base first _ _ _ p.2)
      c.in-Some.piece.now c.in-Some.behind.now (sym c.in-Some.ensures) more base.files t) p.2.is_at in
      line_fed base first taken c.args.rest.now.now p.0 c.loop-piece.rest.now c.loop-piece.self.held
      (session_now_of c.loop-piece.self.talk.buffers c.loop-piece.self.talk.session (g.F.Files.files c.loop-piece.files)
      c.loop-piece.steps) p.1 p.2
      c.in-Some.piece.now
      c.in-Some.behind.now (sym c.in-Some.ensures) c.end_line.new.self.held
      (session_now_of c.end_line.new.self.talk.buffers c.end_line.new.self.talk.session
      (g.F.Files.files c.end_line.new.files) c.end_line.new.steps)
      (sym c.in-Ok-false.field-0-test ∙ on_trace.0) on_trace.1 on_trace.2;
}

pub returns-in-Ok-clause-on_trace : goal.returns-in-Ok-clause-on_trace
returns-in-Ok-clause-on_trace g c = λ base first taken more t s.
    let p = c.loop-piece.invariant.fed base first taken more t s in (
      c.args.rest.now.now,
      sym (append-nil c.args.rest.now.now),
      rest_held base first taken c.args.rest.now.now p.0 c.loop-piece.rest.now c.loop-piece.self.held
          (session_now_of c.loop-piece.self.talk.buffers c.loop-piece.self.talk.session
          (g.F.Files.files c.loop-piece.files) c.loop-piece.steps) p.1
          p.2
          (sym c.cut_at.ensures ∙ ap (option_map seen_entry_text_pair) c.in_default.is) c.add.new.self
          (c.in-Ok.ensures (unfinished_input_line (taken ++ p.0)) p.2.held_part),
    )

pub returns-in-Err-add-clause-on_trace : goal.returns-in-Err-add-clause-on_trace
returns-in-Err-add-clause-on_trace g c = λ base first taken more t s.
    let p = c.loop-piece.invariant.fed base first taken more t s in
    rest_lost base first taken c.args.rest.now.now p.0 c.loop-piece.rest.now c.loop-piece.self.held
    (session_now_of c.loop-piece.self.talk.buffers c.loop-piece.self.talk.session (g.F.Files.files c.loop-piece.files)
    c.loop-piece.steps) p.1 p.2
    OutOfMemory more

pub returns-in-Ok-true-clause-cut : goal.returns-in-Ok-true-clause-cut
returns-in-Ok-true-clause-cut g c = λ taken h.
    let p = c.loop-piece.invariant.holds taken h in
    let last = c.in-Ok-true.ensures.last (unfinished_input_line (taken ++ p.0)) p.2.held_part in
    line_last taken c.args.rest.now.now p.0 c.loop-piece.rest.now c.loop-piece.self.held p.1 p.2 c.in-Some.piece.now
    c.in-Some.behind.now (sym c.in-Some.ensures) (sym c.in-Ok-true.field-0-test ∙ last.0)

pub returns-then-is_long-clause-cut : goal.returns-then-is_long-clause-cut
returns-then-is_long-clause-cut g c = λ taken h.
    let p = c.loop-piece.invariant.holds taken h in
    let last = c.in-Ok-false.ensures.last (unfinished_input_line (taken ++ p.0)) p.2.held_part in
    line_holds taken c.args.rest.now.now p.0 c.loop-piece.rest.now c.loop-piece.self.held p.1 p.2 c.in-Some.piece.now
    c.in-Some.behind.now (sym c.in-Some.ensures) c.end_line.new.self.held (sym c.in-Ok-false.field-0-test ∙ last.0)
    last.1

pub returns-in-Ok-clause-cut : goal.returns-in-Ok-clause-cut
returns-in-Ok-clause-cut g c = λ taken h.
    let p = c.loop-piece.invariant.holds taken h in (
      c.args.rest.now.now,
      sym (append-nil c.args.rest.now.now),
      rest_holds taken c.args.rest.now.now p.0 c.loop-piece.rest.now c.loop-piece.self.held p.1 p.2
          (sym c.cut_at.ensures ∙ ap (option_map seen_entry_text_pair) c.in_default.is) c.add.new.self
          (c.in-Ok.ensures (unfinished_input_line (taken ++ p.0)) p.2.held_part),
    )

pub returns-in-Ok-true-clause-unasked : goal.returns-in-Ok-true-clause-unasked
returns-in-Ok-true-clause-unasked g c = λ taken more h none.
    let p = c.loop-piece.invariant.holds taken h in
    c.end_line.ensures.unasked (unfinished_input_line (taken ++ p.0)) p.2.held_part
    (line_names_none taken c.args.rest.now.now p.0 c.loop-piece.rest.now c.loop-piece.self.held p.1 p.2
    c.in-Some.piece.now c.in-Some.behind.now (sym c.in-Some.ensures) more none)
    ∙ c.loop-piece.invariant.unasked taken more h none

pub returns-in-Err-clause-unasked : goal.returns-in-Err-clause-unasked
returns-in-Err-clause-unasked g c = λ taken more h none.
    let p = c.loop-piece.invariant.holds taken h in
    c.end_line.ensures.unasked (unfinished_input_line (taken ++ p.0)) p.2.held_part
    (line_names_none taken c.args.rest.now.now p.0 c.loop-piece.rest.now c.loop-piece.self.held p.1 p.2
    c.in-Some.piece.now c.in-Some.behind.now (sym c.in-Some.ensures) more none)
    ∙ c.loop-piece.invariant.unasked taken more h none

pub returns-then-is_long-clause-unasked : goal.returns-then-is_long-clause-unasked
returns-then-is_long-clause-unasked g c = λ taken more h none.
    let p = c.loop-piece.invariant.holds taken h in
    c.end_line.ensures.unasked (unfinished_input_line (taken ++ p.0)) p.2.held_part
    (line_names_none taken c.args.rest.now.now p.0 c.loop-piece.rest.now c.loop-piece.self.held p.1 p.2
    c.in-Some.piece.now c.in-Some.behind.now (sym c.in-Some.ensures) more none)
    ∙ c.loop-piece.invariant.unasked taken more h none

pub returns-in-Ok-clause-unasked : goal.returns-in-Ok-clause-unasked
returns-in-Ok-clause-unasked g c = c.loop-piece.invariant.unasked

pub returns-in-Err-add-clause-unasked : goal.returns-in-Err-add-clause-unasked
returns-in-Err-add-clause-unasked g c = c.loop-piece.invariant.unasked
