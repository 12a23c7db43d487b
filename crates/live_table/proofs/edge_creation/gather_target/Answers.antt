use Rattle.live_table.proofs.UsedNames.{dead_end_uses_no_node, step_target_is_used_node}
use Rattle.live_table.proofs.edge_creation.gather_target.Goals as goal

pub returns-in_ok-put-in-To : goal.returns-in_ok-put-in-To
returns-in_ok-put-in-To c =
    step_target_is_used_node c.args.targets.now c.put.new.self c.in-To.n c.args.step c.in-To.is
    c.in_ok-put-in-To.ensures.ok

pub returns-in-Nowhere : goal.returns-in-Nowhere
returns-in-Nowhere c = dead_end_uses_no_node c.args.targets.now c.in-Nowhere.field-0 c.args.step c.in-Nowhere.is
