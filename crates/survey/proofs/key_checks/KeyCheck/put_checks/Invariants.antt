use Rattle.reply.specs.Options.{reply_style}
use Rattle.survey.proofs.Places.{line_at, queries_at}
use Rattle.survey.proofs.ItemReports.{IsUnderway}
use Rattle.survey.proofs.key_checks.KeyCheck.put_checks.Given as goal

abbrev pub invariant-loop-place : goal.invariant-loop-place
invariant-loop-place g l =
    IsUnderway (line_at l.fn.table.deck (reply_style l.self.options.now)) (queries_at l.fn.table.deck) l.self.places.now
    l.place-index
    l.fn.lines.items l.lines.items l.fn.table l.table l.fn.steps l.steps
