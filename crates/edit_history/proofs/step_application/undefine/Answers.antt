use Rattle.edit_history.proofs.GoingBack.{last_definition_can_be_undone}
use Rattle.edit_history.proofs.step_application.undefine.Goals as goal

pub undefine-requires : goal.undefine-requires
undefine-requires c = last_definition_can_be_undone c.args.uncovered c.args.table.now.deck c.requires.step_right
