use Rattle.session.specs.declared.fault.SessionFault.TheVariants.{OutOfMemory}
use Rattle.session.proofs.LineAnswers.{done_is_last, files_serve_line, replied_at, replied_broken, unanswered}
use Rattle.session.proofs.talk.Talk.reply.Goals as goal

pub returns-in-Ok-add-clause-on_trace : goal.returns-in-Ok-add-clause-on_trace
returns-in-Ok-add-clause-on_trace g c = λ base talk part q t at. (
  done_is_last base talk part _ _ _ _ at _ q c.in-Ok.reply _ _ _ c.in-Ok.ensures.done
      (c.in-Ok.ensures.answer talk.state.files (files_serve_line base talk part _ _ _ _ at _ q t)),
  replied_at base talk part _ _ _ _ at _ q c.in-Ok.reply _ _ _ c.in-Ok.ensures.done
      (c.in-Ok.ensures.answer talk.state.files (files_serve_line base talk part _ _ _ _ at _ q t)) c.add.new.self
      c.in-Ok-add.ensures.whole.0
      c.in-Ok-add.ensures.whole.1,
)

pub returns-clause-on_trace : goal.returns-clause-on_trace
returns-clause-on_trace g c = λ base talk part q t at.
    replied_broken base talk part _ _ _ _ at _ q c.in-Ok.reply _ _ _ c.in-Ok.ensures.done
    (c.in-Ok.ensures.answer talk.state.files (files_serve_line base talk part _ _ _ _ at _ q t)) OutOfMemory
    c.add.new.self
    c.add.ensures.out c.add.ensures.err

pub returns-in-Err-clause-on_trace : goal.returns-in-Err-clause-on_trace
returns-in-Err-clause-on_trace g c = λ base talk part q t at.
    unanswered base talk part _ _ _ _ at _ _ q c.in-Err.fault _ _ _ c.in-Err.ensures.kept
