use Rattle.std.proofs.Common.{◌≡◌, arith, sym, ◌∙◌, rules}
use Rattle.std.specs.Prelude.{true, false}
use Rattle.std.specs.List.Sorted.{IsPartitionPoint}
use Rattle.std.proofs.lemmas.List.Sorted.{IsPartitionPoint-from_clause}
use Rattle.piecewise.proofs.FirstSegments.{IsPlace, is_left, points_of_table_rise, rising_points-partitioned}
use Rattle.piecewise.proofs.FirstSegments.{y_at_x_on_points-before, y_at_x_on_points-here, y_at_x_on_points-past}
use Rattle.piecewise.proofs.Neighbours.{AreNeighbours, table_has_two_points}
use Rattle.piecewise.proofs.points.Points.at.Goals.{then-is_less-via-then-is_less}
use Rattle.piecewise.proofs.points.Points.at.Goals.{then-is_less-via-else-is_less+then-place-len}
use Rattle.piecewise.proofs.points.Points.at.Goals as goal

pub returns-then-is_less : goal.returns-then-is_less
returns-then-is_less c =
    let points = c.self.inside.points.items in
    let x = c.args.x.now in
    let some = c.is_less.ensures.denominators.0 in
    let rising = points_of_table_rise points c.self.invariant in
    let parted : IsPartitionPoint (λ p. is_left x p ≡ true) (λ p. is_left x p ≡ false) points c.partition_point.result =
    rw (← c.deref.ensures.value)
    (IsPartitionPoint-from_clause (is_left x) c.deref.result.now _ c.partition_point.ensures.partitioned
    (rw c.deref.ensures.value (rising_points-partitioned c.order_law.ensures x some points rising))
    (λ a r f h. search rules))
    in
    let place : IsPlace x points c.partition_point.result c.max-place.result = record {
      many = table_has_two_points points c.self.invariant.table;
      parted = parted;
      place_is = c.max-place.ensures;
    } in
    rw (← c.self.view_is) (elim c.then-is_less.branch [
      | then-is_less-via-then-is_less w ↦ y_at_x_on_points-before c.order_law.ensures x some points _ _
          c.index-left.result.now
          rising place c.index-left.ensures (sym c.is_less.ensures.order ∙ w.if-is_less.true) (omega arith)
      | then-is_less-via-else-is_less+then-place-len w ↦ y_at_x_on_points-past x points _ _ place (omega arith)
    ])

pub returns : goal.returns
returns c =
    let points = c.self.inside.points.items in
    let x = c.args.x.now in
    let some = c.is_less.ensures.denominators.0 in
    let rising = points_of_table_rise points c.self.invariant in
    let parted : IsPartitionPoint (λ p. is_left x p ≡ true) (λ p. is_left x p ≡ false) points c.partition_point.result =
    rw (← c.deref.ensures.value)
    (IsPartitionPoint-from_clause (is_left x) c.deref.result.now _ c.partition_point.ensures.partitioned
    (rw c.deref.ensures.value (rising_points-partitioned c.order_law.ensures x some points rising))
    (λ a r f h. search rules))
    in
    let place : IsPlace x points c.partition_point.result c.max-place.result = record {
      many = table_has_two_points points c.self.invariant.table;
      parted = parted;
      place_is = c.max-place.ensures;
    } in
    let are : AreNeighbours points c.max-place.result c.index-left.result.now c.index.result.now = record {
      some = omega arith;
      within = omega arith;
      left = c.index-left.ensures;
      right = c.index.ensures;
    } in
    rw (← c.self.view_is)
    (c.y_on.ensures ∙ sym
    (y_at_x_on_points-here x points _ _ _ _ place are (sym c.is_less.ensures.order ∙ c.if-is_less.false)))
