use Rattle.std.proofs.Common.{◌<◌, Some, ap, ◌∙◌, length, arith}
use Rattle.std.proofs.lemmas.Option.{slice_get-get_or}
use Rattle.name_walk.specs.declared.step.Step.TheVariants.{Nowhere, To}
use Rattle.live_table.proofs.settlement.greatest_rank.Goals as goal
use Rattle.general_lemmas.proofs.Members.{member_at}

pub step_rank-requires : goal.step_rank-requires
step_rank-requires c = λ m e.
    let within : c.loop-step.step-index < length c.args.steps.now = omega arith in
    c.requires m (member_at c.args.steps.now c.loop-step.step-index (To m)
    (slice_get-get_or c.args.steps.now c.loop-step.step-index (Nowhere 0) within ∙ ap Some e))
