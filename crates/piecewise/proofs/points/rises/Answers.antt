use Rattle.std.proofs.Common.{◌-◌, arith, sym, ◌∙◌}
use Rattle.std.proofs.lemmas.List.{take_all}
use Rattle.std.proofs.lemmas.List.Elements.{All-same}
use Rattle.piecewise.proofs.FirstSegments.{IsKnown, known_points_more}
use Rattle.piecewise.proofs.Neighbours.{AreNeighbours, points_rise-last, points_rise-on, points_rise-stop}
use Rattle.piecewise.proofs.points.rises.Goals as goal

pub returns-then-not-is_less-clause-value : goal.returns-then-not-is_less-clause-value
returns-then-not-is_less-clause-value c =
    let are : AreNeighbours c.args.points.now c.loop-i.i c.index-points-i.result c.index-points-i-in-loop-i.result =
    record {
      some = omega arith;
      within = omega arith;
      left = c.index-points-i.is;
      right = c.index-points-i-in-loop-i.is;
    } in
    points_rise-stop _ _ _ _ c.is_less.result are c.is_less.ensures.order c.if-not-is_less.true c.loop-i.invariant.rest

pub loop-i-preserved : goal.loop-i-preserved
loop-i-preserved c =
    let are : AreNeighbours c.args.points.now c.loop-i.i c.index-points-i.result c.index-points-i-in-loop-i.result =
    record {
      some = omega arith;
      within = omega arith;
      left = c.index-points-i.is;
      right = c.index-points-i-in-loop-i.is;
    } in
    record {
      rest = points_rise-on _ _ _ _ c.is_less.result are c.is_less.ensures.order c.if-not-is_less.false
          c.loop-i.invariant.rest;
      denominators = λ more. known_points_more _ _ _ _ are c.loop-i.invariant.denominators
          c.is_less.ensures.denominators;
    }

pub returns-clause-value : goal.returns-clause-value
returns-clause-value c = sym (points_rise-last c.args.points.now (c.loop-i.i - 1) (omega arith))
    ∙ c.loop-i.invariant.rest

pub returns-clause-denominators : goal.returns-clause-denominators
returns-clause-denominators c =
    All-same IsKnown _ _ (sym (take_all c.loop-i.i c.args.points.now (omega arith)))
    (c.loop-i.invariant.denominators (omega arith))
