use Rattle.std.proofs.Common.{◌∙◌, ap}
use Rattle.deck.specs.Decks.{DeckContents}
use Rattle.session.specs.Lines.{session_lines_of_texts}
use Rattle.units_run.proofs.DeckPlans.{check_is_planned}
use Rattle.units_run.proofs.work.check_plan.Goals as goal

pub returns-clause-if_known : goal.returns-clause-if_known
returns-clause-if_known c = λ m n.
    check_is_planned c.args.line.now
    (record { notices = c.in_ok-notices.notices; table = c.args.table; options = c.options_of.result }) m n
    c.requires.fresh (c.in_ok-notices.ensures ∙ ap (λ (d : DeckContents). session_lines_of_texts d.notices)
    c.deck.ensures.deck)
    c.options_of.ensures.is
