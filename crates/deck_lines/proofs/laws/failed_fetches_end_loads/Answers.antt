use Rattle.deck_lines.proofs.AskedLoads.{load_ask_law}
use Rattle.deck_lines.proofs.FailedLoads.{load_failure_law}
use Rattle.deck_lines.proofs.LastFetches.{last_fetch_law}
use Rattle.deck_lines.proofs.laws.failed_fetches_end_loads.Goals as goal

pub returns-clause-failed : goal.returns-clause-failed
returns-clause-failed c = load_failure_law

pub returns-clause-asked : goal.returns-clause-asked
returns-clause-asked c = load_ask_law

pub returns-clause-last : goal.returns-clause-last
returns-clause-last c = last_fetch_law
