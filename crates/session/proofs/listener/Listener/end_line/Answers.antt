use Rattle.std.proofs.Common.{◌++◌, ◌∷◌, [], ap, refl, sym, ◌∙◌}
use Rattle.session.specs.HeardLines.{heard_line_names_file, read_session_line_names_file}
use Rattle.session.specs.declared.fault.SessionFault.TheVariants.{OutOfMemory}
use Rattle.session.proofs.BrokenAnswers.{talk_breaks_off_at_first_line}
use Rattle.session.proofs.BlockFeeds.{equal_session_line_is_answered, piece_after_empty_input_part}
use Rattle.session.proofs.HeardLines.{equal_heard_line_loads_file}
use Rattle.session.proofs.TakingUp.{last_session_line_by_bytes}
use Rattle.session.proofs.listener.Listener.end_line.Goals as goal

pub returns-then-is_empty-clause-on_trace : goal.returns-then-is_empty-clause-on_trace
returns-then-is_empty-clause-on_trace g c = λ base talk part h t at.
    equal_session_line_is_answered base talk c.reply-done.result c.args.piece.now (part ++ c.args.piece.now)
    c.clear.new.self _
    (piece_after_empty_input_part part c.args.piece.now (sym (c.is_empty.ensures part h) ∙ c.if-is_empty.true))
    c.clear.ensures
    (c.reply-done.ensures.on_trace base talk c.args.piece.now c.short.ensures.is
    (equal_heard_line_loads_file _ _ base.files
    (piece_after_empty_input_part part c.args.piece.now (sym (c.is_empty.ensures part h) ∙ c.if-is_empty.true)) t) at)

pub returns-clause-on_trace : goal.returns-clause-on_trace
returns-clause-on_trace g c = λ base talk part h t at.
    equal_session_line_is_answered base talk c.reply-done-2.result (part ++ c.args.piece.now) (part ++ c.args.piece.now)
    c.clear-2.new.self
    _ refl c.clear-2.ensures
    (c.reply-done-2.ensures.on_trace base talk (part ++ c.args.piece.now) (c.line.ensures.is ∙ c.in-Ok.ensures part h) t
    at)

pub returns-in-Err-clause-on_trace : goal.returns-in-Err-clause-on_trace
returns-in-Err-clause-on_trace g c = λ base talk part h t at.
    talk_breaks_off_at_first_line OutOfMemory base talk ((part ++ c.args.piece.now) ∷ []) _ at

pub returns-then-is_empty-clause-last : goal.returns-then-is_empty-clause-last
returns-then-is_empty-clause-last g c = λ part h.
    last_session_line_by_bytes c.reply-done.result _ c.args.piece.now (part ++ c.args.piece.now) c.clear.new.self
    c.short.ensures.is
    (piece_after_empty_input_part part c.args.piece.now (sym (c.is_empty.ensures part h) ∙ c.if-is_empty.true))
    c.clear.ensures
    c.reply-done.ensures.last

pub returns-clause-last : goal.returns-clause-last
returns-clause-last g c = λ part h.
    last_session_line_by_bytes c.reply-done-2.result _ (part ++ c.args.piece.now) (part ++ c.args.piece.now)
    c.clear-2.new.self
    (c.line.ensures.is ∙ c.in-Ok.ensures part h) refl c.clear-2.ensures c.reply-done-2.ensures.last

pub returns-then-is_empty-clause-unasked : goal.returns-then-is_empty-clause-unasked
returns-then-is_empty-clause-unasked g c = λ part h none.
    c.reply-done.ensures.unasked
    (ap read_session_line_names_file c.short.ensures.is
    ∙ ap heard_line_names_file
    (piece_after_empty_input_part part c.args.piece.now (sym (c.is_empty.ensures part h) ∙ c.if-is_empty.true)) ∙ none)

pub returns-clause-unasked : goal.returns-clause-unasked
returns-clause-unasked g c = λ part h none.
    c.reply-done-2.ensures.unasked (ap read_session_line_names_file (c.line.ensures.is ∙ c.in-Ok.ensures part h) ∙ none)
