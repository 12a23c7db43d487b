use Rattle.live_table.proofs.WordReports.{node_meaning_gives_report}
use Rattle.live_table.proofs.surroundings.SurroundingsEnv.meaning.Goals as goal

pub returns : goal.returns
returns c = record {
  reports = λ u at. node_meaning_gives_report _ _ _ _ (c.meaning_of_targets.ensures u (c.targets.ensures.led u at));
}
