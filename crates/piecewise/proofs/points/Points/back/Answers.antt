use Rattle.std.proofs.Common.{arith, sym, ◌∙◌}
use Rattle.piecewise.proofs.FirstSegments.{x_at_y_on_points-here, x_at_y_on_points-more, x_at_y_on_points-past}
use Rattle.piecewise.proofs.Neighbours.{AreNeighbours, table_has_two_points}
use Rattle.piecewise.proofs.points.Points.back.Goals as goal

pub returns-then-encloses : goal.returns-then-encloses
returns-then-encloses c =
    let are : AreNeighbours c.self.inside.points.items c.loop-i.i c.index-then-encloses.result.now
    c.index-right.result.now = record {
      some = omega arith;
      within = omega arith;
      left = c.index-then-encloses.ensures;
      right = c.index-right.ensures;
    } in
    rw (← c.self.view_is)
    (c.x_on.ensures ∙ sym (x_at_y_on_points-here _ _ _ _ _ _ _ c.loop-i.invariant are c.cmp-after.ensures.order
    (sym c.encloses.ensures ∙ c.if-encloses.true)))

pub loop-i-preserved : goal.loop-i-preserved
loop-i-preserved c =
    x_at_y_on_points-more _ _ _ _ _ _ c.loop-i.invariant (omega arith) (omega arith) c.index-right.ensures
    c.cmp-after.ensures.order
    (sym c.encloses.ensures ∙ c.if-encloses.false)

pub returns : goal.returns
returns c =
    let many = table_has_two_points c.self.inside.points.items c.self.invariant.table in
    rw (← c.self.view_is) (x_at_y_on_points-past _ _ _ _ c.loop-i.invariant (omega arith))
