use Rattle.tree_eval.proofs.Reports.{eval_meaning_by_report}
use Rattle.tree_eval.proofs.scope.Scope.next_meaning.Goals as goal

pub returns-clause-reports : goal.returns-clause-reports
returns-clause-reports g c = λ u at. eval_meaning_by_report _ _ _ _ (c.meaning-meaning.ensures.reports u at)
