use Rattle.std.proofs.Common.{arith}
use Rattle.edit_history.proofs.PartsOfVars.{equal_history_end_step}
use Rattle.edit_history.proofs.vars_parts.differing_ends.Goals as goal

pub loop-in_vars-preserved : goal.loop-in_vars-preserved
loop-in_vars-preserved c = record {
  same = equal_history_end_step c.args.vars.now c.args.others.now c.loop-in_vars.in_vars c.loop-in_vars.in_others
      (omega (arith, c.loop-in_vars-test.true)) (omega (arith, c.if-in_others-front.true))
      c.if-not-is_same_pair.ensures c.loop-in_vars.invariant.same;
  after_front = omega (arith, c.if-in_others-front.true);
}
