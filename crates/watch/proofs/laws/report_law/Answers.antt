use Rattle.watch.proofs.ReportSteps.{watch_report_law}
use Rattle.watch.proofs.laws.report_law.Goals as goal

pub returns : goal.returns
returns c = watch_report_law
