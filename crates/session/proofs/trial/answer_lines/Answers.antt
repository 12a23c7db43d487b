use Rattle.std.proofs.Common.{[], refl, subst, sym, ◌∙◌, Some}
use Rattle.units_io.specs.FileMap.{no_files_in_map}
use Rattle.session.specs.SessionProgress.{IsTalkAtWholeLines, session_now_of}
use Rattle.session.specs.Trials.{silent_talk}
use Rattle.session.specs.BetweenPieces.{session_base_at_start}
use Rattle.session.specs.declared.talk.Talk.{Talk}
use Rattle.session.proofs.TalkedThrough.{lines_done, lines_on, lines_over, silent_talk_at_start}
use Rattle.session.proofs.TalkedThrough.{talk_is_spoken_at_its_point, talk_is_spoken_when_over}
use Rattle.session.proofs.trial.answer_lines.Goals as goal

pub loop-rest-init : goal.loop-rest-init
loop-rest-init g c = (
  [],
  refl,
  subst (λ (t : Talk). IsTalkAtWholeLines (session_base_at_start (Some no_files_in_map) c.args.steps.now)
      (silent_talk c.args.session) []
      c.new-listener.result.held (session_now_of t.buffers t.session (Some no_files_in_map) c.args.steps.now))
      (sym c.new-listener.ensures.talk)
      (silent_talk_at_start c.args.session (record { out = c.new.result; err = c.new-2.result })
      c.new-listener.result.held
      c.args.steps.now c.new.ensures.items c.new-2.ensures.items c.new-listener.ensures.held),
)

pub loop-rest-preserved : goal.loop-rest-preserved
loop-rest-preserved g c =
    let p = c.loop-rest.invariant in
    let base = session_base_at_start (Some no_files_in_map) c.args.steps.now in
    let first = silent_talk c.args.session in
    lines_on base first c.args.lines.now p.0 c.loop-rest.rest.now p.1 c.in-Ok-false.field-0 _ _ _
    c.in-Ok-false.field-0-test (c.in-Ok-false.ensures.on_trace base first p.0 [] tt p.2)

pub returns-in-Ok-true : goal.returns-in-Ok-true
returns-in-Ok-true g c =
    let p = c.loop-rest.invariant in
    let base = session_base_at_start (Some no_files_in_map) c.args.steps.now in
    let first = silent_talk c.args.session in
    talk_is_spoken_when_over first c.args.lines.now _ c.args.steps.now
    (lines_over base first c.args.lines.now p.0 c.loop-rest.rest.now p.1 c.in-Ok-true.field-0 _ _ _
    c.in-Ok-true.field-0-test (c.in-Ok-true.ensures.on_trace base first p.0 [] tt p.2))

pub returns-in-Ok : goal.returns-in-Ok
returns-in-Ok g c =
    let p = c.loop-rest.invariant in
    let base = session_base_at_start (Some no_files_in_map) c.args.steps.now in
    let first = silent_talk c.args.session in
    talk_is_spoken_at_its_point _ _ c.args.steps.now
    (c.in-Ok.ensures.on_trace base first c.args.lines.now tt
    (lines_done base first c.args.lines.now p.0 c.loop-rest.rest.now p.1 _ _
    (sym c.is_empty.ensures ∙ c.loop-rest-test.false) p.2))
