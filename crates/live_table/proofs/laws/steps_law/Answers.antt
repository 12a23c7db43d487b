use Rattle.live_table.proofs.Runs as laws
use Rattle.live_table.proofs.laws.steps_law.Goals as goal

pub returns : goal.returns
returns c = laws.live_event_steps_law
