use Rattle.std.proofs.Common.{ℕ, List, get_or, take, sym, subst, Contains}
use Rattle.std.proofs.lemmas.Option.{slice_get-get_or}
use Rattle.name_walk.specs.declared.step.Step.{Step}
use Rattle.name_walk.specs.declared.step.Step.TheVariants.{Nowhere}
use Rattle.live_table.proofs.UsedNames.{AreUsed, all_steps_use_their_nodes, next_step_uses_its_node}
use Rattle.live_table.proofs.UsedNames.{no_steps_use_no_nodes}
use Rattle.live_table.proofs.edge_creation.gather_targets.Goals as goal
use Rattle.general_lemmas.proofs.Members.{member_at}

pub loop-step-init : goal.loop-step-init
loop-step-init c =
    subst (λ (ns : List ℕ). AreUsed ns (take 0 c.args.steps.now)) (sym c.clear.ensures)
    (no_steps_use_no_nodes c.args.steps.now)

pub gather_target-requires : goal.gather_target-requires
gather_target-requires c m e =
    c.requires m (subst (λ (x : Step). Contains c.args.steps.now x) e
    (member_at c.args.steps.now c.loop-step.step-index (get_or c.args.steps.now c.loop-step.step-index (Nowhere 0))
    (slice_get-get_or c.args.steps.now c.loop-step.step-index (Nowhere 0) c.loop-step-test.true)))

pub loop-step-preserved : goal.loop-step-preserved
loop-step-preserved c =
    next_step_uses_its_node c.loop-step.targets c.gather_target.new.targets c.args.steps.now c.loop-step.step-index
    (get_or c.args.steps.now c.loop-step.step-index (Nowhere 0))
    (slice_get-get_or c.args.steps.now c.loop-step.step-index (Nowhere 0) c.loop-step-test.true)
    c.loop-step.invariant c.in_ok-gather_target.ensures

pub returns : goal.returns
returns c = all_steps_use_their_nodes c.loop-step.targets c.args.steps.now c.loop-step.step-index c.loop-step-test.false
    c.loop-step.invariant
