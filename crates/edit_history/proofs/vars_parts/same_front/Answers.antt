use Rattle.std.proofs.Common.{arith}
use Rattle.edit_history.proofs.PartsOfVars.{equal_history_front_step}
use Rattle.edit_history.proofs.vars_parts.same_front.Goals as goal

pub loop-i-preserved : goal.loop-i-preserved
loop-i-preserved c = record {
  same = equal_history_front_step c.args.vars.now c.args.others.now c.loop-i.i c.if-not-is_same_pair.ensures
      c.loop-i.invariant.same;
  inside = omega (arith, c.if-not-is_same_pair.ensures.index_within);
}
