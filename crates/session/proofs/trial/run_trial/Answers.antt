use Rattle.std.proofs.Common.{arith, subst, sym, ◌∙◌}
use Rattle.session.specs.TextDecks.{FitsDeck}
use Rattle.session.specs.Trials.{trial_session}
use Rattle.session.proofs.TalkedThrough.{trial_over_its_deck, trial_summary_is_given}
use Rattle.session.proofs.trial.run_trial.Goals as goal

pub text_deck-requires : goal.text_deck-requires
text_deck-requires g c = subst FitsDeck (sym c.deref.ensures.value) c.in_ok-text.ensures.room

pub returns : goal.returns
returns g c =
    trial_summary_is_given c.summary.result c.args.rounds _ _
    (trial_session c.args.options c.args.settings c.args.rounds)
    c.args.steps.now c.answer_lines.new.steps
    (λ text is.
    trial_over_its_deck c.args.options c.args.settings c.args.rounds _ _ _ _ _ _ _ _ text c.args.steps.now
    c.answer_lines.new.steps
    (c.deref.ensures.value ∙ c.in_ok-text.ensures.is) c.in_ok-deck.ensures.is c.quiet_session-session.ensures
    (c.deref-2.ensures.value ∙ c.in_ok-lines.ensures) c.in_ok-talk.ensures
    (omega (arith, c.len.ensures, c.in_ok-talk.talk.buffers.out.ok.0)) c.table.ensures is)
    c.summary.ensures
