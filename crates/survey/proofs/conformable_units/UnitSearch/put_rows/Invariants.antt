use Rattle.survey.proofs.Places.{row_at, unit_queries_at}
use Rattle.survey.proofs.ItemReports.{IsUnderway}
use Rattle.survey.proofs.conformable_units.UnitSearch.put_rows.Given as goal

abbrev pub invariant-loop-place : goal.invariant-loop-place
invariant-loop-place g l =
    IsUnderway (row_at l.fn.table.deck l.self.from.now) (unit_queries_at l.fn.table.deck) l.self.places.now
    l.place-index l.fn.rows.items
    l.rows.items l.fn.table l.table l.fn.steps l.steps
