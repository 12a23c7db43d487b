use Rattle.std.proofs.Common.{◌≤◌, ◌-◌, length}
use Rattle.reply.specs.Options.{reply_style}
use Rattle.survey.proofs.Places.{line_at, queries_at}
use Rattle.survey.proofs.ItemReports.{IsUnderway}
use Rattle.survey.proofs.check_blocks.put_check_block.Given as goal

abbrev pub invariant-loop-done : goal.invariant-loop-done
invariant-loop-done g l = record {
  within : l.done ≤ length l.check.places.now;
  at : IsUnderway (line_at l.fn.table.deck (reply_style l.check.options.now)) (queries_at l.fn.table.deck)
      l.check.places.now l.done
      l.fn.lines.items l.lines.items l.fn.table l.table l.fn.steps l.steps;
}

abbrev pub decreases-loop-done : goal.decreases-loop-done
decreases-loop-done g l = length l.check.places.now - l.done
