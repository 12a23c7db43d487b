use Rattle.std.proofs.Common.{◌≡◌, ◌∷◌, [], ap, length, length-append, arith}
use Rattle.deck_lines.proofs.MarkLimits.{store_marks_pop}
use Rattle.deck_lines.proofs.store.line_replacement.put_together.Goals as goal

pub loop-line-preserved-in-Some-pop : goal.loop-line-preserved-in-Some-pop
loop-line-preserved-in-Some-pop c =
    let long : length c.loop-line.marks.items ≡ length c.loop-line.lines.items =
    omega (arith, c.loop-line.invariant.each, c.loop-line.marks.ok.0, c.loop-line.lines.ok.0) in
    record {
      all = store_marks_pop c.loop-line.lines.items c.pop.new.self.items c.loop-line.marks.items
          c.pop-in-Some.new.self.items
          c.in-Some.line c.in-Some-pop.mark c.loop-line.into.items c.put_last.new.items.items _
          c.in-Some.ensures.items c.in-Some-pop.ensures.items long c.put_last.ensures.items c.loop-line.invariant.all;
      each = omega (arith, c.loop-line.invariant.each, c.in-Some.ensures.cases, c.in-Some-pop.ensures.cases);
      count = omega (
        arith,
        c.loop-line.invariant.count,
        c.in-Some.ensures.cases,
        ap length c.put_last.ensures.items,
        length-append c.loop-line.into.items
            (record { number = c.in-Some.line.number; text = c.in-Some.line.text; mark = c.in-Some-pop.mark } ∷ []),
        c.put_last.new.items.ok.0,
        c.loop-line.into.ok.0,
      );
      room = omega (arith, c.loop-line.invariant.room, c.put_last.ensures.capacity);
    }
