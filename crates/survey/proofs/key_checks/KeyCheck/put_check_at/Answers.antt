use Rattle.std.proofs.Common.{sym, subst}
use Rattle.std.specs.Prelude.{Result}
use Rattle.std.specs.declared.alloc.AllocError.{AllocError}
use Rattle.std.proofs.lemmas.Result.{err_from_is_err_and}
use Rattle.live_table.specs.Calls.{AreLiveQueries}
use Rattle.live_table.proofs.NameQueries.{live_events_cut_at_start}
use Rattle.survey.proofs.Places.{queries_at}
use Rattle.survey.proofs.key_checks.KeyCheck.put_check_at.Goals as goal

pub returns-in_err-key-clause-queries : goal.returns-in_err-key-clause-queries
returns-in_err-key-clause-queries g c =
    let asked = queries_at c.args.table.now.deck c.args.place in
    subst (λ (r : Result (Unit {0}) AllocError). AreLiveQueries asked r
    c.args.table.now c.args.table.now c.args.steps.now c.args.steps.now)
    (sym (err_from_is_err_and c.from_residual.result c.from_residual.ensures.1).1)
    (live_events_cut_at_start asked c.args.table.now c.args.steps.now c.requires.right)
