use Rattle.name_walk.proofs.StableFindings.{walk_findings_law_holds}
use Rattle.name_walk.proofs.laws.findings_law.Goals as goal

pub returns : goal.returns
returns c = walk_findings_law_holds
