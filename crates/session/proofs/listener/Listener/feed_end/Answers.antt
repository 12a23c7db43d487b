use Rattle.std.proofs.Common.{ap, sym, ◌∙◌}
use Rattle.session.specs.HeardLines.{read_session_line_names_file}
use Rattle.session.specs.Input.{whole_input_lines, unfinished_input_line}
use Rattle.session.specs.Talks.{talk_over_lines}
use Rattle.session.proofs.BrokenAnswers.{broken_end}
use Rattle.session.proofs.TalkParts.{end_line, end_open}
use Rattle.session.proofs.BlockFeeds.{empty_input_part_is_nil, nonempty_input_part_is_not_nil, talk_holds_input_rest}
use Rattle.session.proofs.HeardLines.{end_names_none, end_is_known}
use Rattle.session.proofs.listener.Listener.feed_end.Goals as goal

pub returns-then-is_empty-clause-on_trace : goal.returns-then-is_empty-clause-on_trace
returns-then-is_empty-clause-on_trace g c = λ base first input t s.
    end_open base first input _ _ s
    (empty_input_part_is_nil (unfinished_input_line input)
    (sym (c.is_empty.ensures (unfinished_input_line input) s.held_part)
    ∙ c.if-is_empty.true))

pub returns-in-Ok-clause-on_trace : goal.returns-in-Ok-clause-on_trace
returns-in-Ok-clause-on_trace g c = λ base first input t s.
    end_line base first input _ _ s _
    (nonempty_input_part_is_not_nil (unfinished_input_line input)
    (sym (c.is_empty.ensures (unfinished_input_line input) s.held_part)
    ∙ c.if-is_empty.false))
    (c.in-Ok.ensures.on_trace base (talk_over_lines first (whole_input_lines input)) (unfinished_input_line input)
    (c.line.ensures.is ∙ s.held_part)
    (end_is_known input c.args.self.now.held (talk_holds_input_rest base first _ _ _ s)
    (nonempty_input_part_is_not_nil (unfinished_input_line input)
    (sym (c.is_empty.ensures (unfinished_input_line input) s.held_part)
    ∙ c.if-is_empty.false))
    base.files
    t) s.is_at).1

pub returns-in-Err-clause-on_trace : goal.returns-in-Err-clause-on_trace
returns-in-Err-clause-on_trace g c = λ base first input t s.
    broken_end c.in-Err.fault base first input _ _ s _
    (nonempty_input_part_is_not_nil (unfinished_input_line input)
    (sym (c.is_empty.ensures (unfinished_input_line input) s.held_part)
    ∙ c.if-is_empty.false))
    (c.in-Err.ensures.on_trace base (talk_over_lines first (whole_input_lines input)) (unfinished_input_line input)
    (c.line.ensures.is ∙ s.held_part)
    (end_is_known input c.args.self.now.held (talk_holds_input_rest base first _ _ _ s)
    (nonempty_input_part_is_not_nil (unfinished_input_line input)
    (sym (c.is_empty.ensures (unfinished_input_line input) s.held_part)
    ∙ c.if-is_empty.false))
    base.files
    t) s.is_at)

pub returns-in-Ok-clause-unasked : goal.returns-in-Ok-clause-unasked
returns-in-Ok-clause-unasked g c = λ input h none.
    c.reply.ensures.unasked
    (ap read_session_line_names_file (c.line.ensures.is ∙ h.held_part)
    ∙ end_names_none input c.args.self.now.held h
    (nonempty_input_part_is_not_nil (unfinished_input_line input)
    (sym (c.is_empty.ensures (unfinished_input_line input) h.held_part)
    ∙ c.if-is_empty.false))
    none)

pub returns-in-Err-clause-unasked : goal.returns-in-Err-clause-unasked
returns-in-Err-clause-unasked g c = λ input h none.
    c.reply.ensures.unasked
    (ap read_session_line_names_file (c.line.ensures.is ∙ h.held_part)
    ∙ end_names_none input c.args.self.now.held h
    (nonempty_input_part_is_not_nil (unfinished_input_line input)
    (sym (c.is_empty.ensures (unfinished_input_line input) h.held_part)
    ∙ c.if-is_empty.false))
    none)
