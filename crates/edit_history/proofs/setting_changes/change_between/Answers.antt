use Rattle.std.proofs.Common.{◌∙◌, ap}
use Rattle.units_io.specs.NamedValues.{NamedTexts}
use Rattle.edit_history.specs.SettingSwitches.{history_exchanged_variables}
use Rattle.edit_history.specs.VarsParts.{history_pairs_between, history_with_pairs}
use Rattle.edit_history.proofs.PartsOfVars.{history_part_is_copied, history_part_replaces_difference}
use Rattle.edit_history.proofs.Switched.{equal_history_settings}
use Rattle.edit_history.proofs.setting_changes.change_between.Goals as goal

pub returns-clause-gives : goal.returns-clause-gives
returns-clause-gives c =
    let first = c.same_front-first.result in
    let cut = c.differing_ends-ends.result.in_vars in
    let end = c.differing_ends-ends.result.in_others in
    let from = c.args.from.now.vars in
    let to = c.args.to.now.vars in
    equal_history_settings _ c.args.to.now.locale _ to c.in_ok-locale.ensures
    (ap (λ (ps : NamedTexts). history_exchanged_variables first cut ps from)
    (c.in_ok-copy_pairs.ensures ∙ ap (λ (ps : NamedTexts). history_with_pairs ps (history_pairs_between first end to))
    c.with_seed-put.ensures
    ∙ history_part_is_copied first end to c.differing_ends-ends.ensures.distinct)
    ∙ history_part_replaces_difference first cut end from to c.same_front-first.ensures.same
    c.differing_ends-ends.ensures.same
    c.differing_ends-ends.ensures.after_front)
