use Rattle.std.proofs.Common.{ap, arith}
use Rattle.session.specs.TextDecks.{line_feeds_of_deck_text}
use Rattle.session.proofs.TrialSizes.{trial_definitions_feed_count}
use Rattle.session.proofs.trial_lines.definitions.Goals as goal

pub returns-clause-room : goal.returns-clause-room
returns-clause-room c = (
  omega (
    arith,
    ap (λ text. line_feeds_of_deck_text text) c.loop-i.invariant.text,
    trial_definitions_feed_count c.loop-i.i
        (omega (arith, c.loop-i.invariant.within, c.requires)),
    c.loop-i.invariant.within,
    c.requires,
  ),
  omega (arith, c.loop-i.invariant.short, c.loop-i.invariant.within, c.requires),
)
