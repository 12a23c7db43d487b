use Rattle.units_run.proofs.Statuses.{status_of_run}
use Rattle.units_run.proofs.laws.status_law.Goals as goal

pub returns : goal.returns
returns c = λ words vars ending before after run no_files no_input stated files input.
    status_of_run words vars ending before after run no_files no_input stated files input
