use Rattle.edit_history.proofs.PartsOfVars.{history_parts_are_put_together}
use Rattle.edit_history.proofs.Switched.{equal_history_settings}
use Rattle.edit_history.proofs.setting_changes.changed_settings.Goals as goal

pub returns : goal.returns
returns c =
    equal_history_settings _ _ _ _ c.in_ok-locale.ensures
    (history_parts_are_put_together c.args.change.now.first c.args.change.now.end c.len.result c.len-2.result
    c.args.change.now.put
    c.args.settings.now.vars c.with_seed-vars.result c.copy_pairs.new.copies c.copy_pairs-2.new.copies
    c.copy_pairs-3.new.copies c.with_seed-vars.ensures c.in_ok-copy_pairs.ensures c.len.ensures.len
    c.in_ok-copy_pairs-2.ensures c.len-2.ensures.len c.in_ok-copy_pairs-3.ensures c.requires)
