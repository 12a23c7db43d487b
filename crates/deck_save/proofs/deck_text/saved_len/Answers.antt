use Rattle.std.proofs.Common.{length, arith}
use Rattle.deck_save.specs.SavedLines.{saved_lines}
use Rattle.deck_save.specs.LineTexts.{saved_texts_of_lines}
use Rattle.deck_save.proofs.PutLines.{line_at, line_at_place, line_counted, line_over}
use Rattle.deck_save.proofs.deck_text.saved_len.Goals as goal

pub returns-then-more-len : goal.returns-then-more-len
returns-then-more-len c =
    let lines = c.args.deck.now.lines in
    let at = line_at_place c.args.active.now lines c.loop-place.place c.requires c.loop-place-test.true in
    line_over c.args.active.now lines c.loop-place.place c.requires c.loop-place-test.true c.loop-place.len
    c.len_at-more.result
    (length (saved_lines (saved_texts_of_lines c.args.active.now lines)))
    (c.len_at-more.ensures (line_at lines c.loop-place.place) at) c.loop-place.invariant.sum c.if-more-len.true

pub loop-place-preserved : goal.loop-place-preserved
loop-place-preserved c =
    let lines = c.args.deck.now.lines in
    let at = line_at_place c.args.active.now lines c.loop-place.place c.requires c.loop-place-test.true in
    record {
      within = omega (arith, c.loop-place.invariant.within, c.if-more-len.false);
      sum =
          line_counted c.args.active.now lines c.loop-place.place c.requires c.loop-place-test.true c.loop-place.len
          c.len_at-more.result
          (length (saved_lines (saved_texts_of_lines c.args.active.now lines)))
          (c.len_at-more.ensures (line_at lines c.loop-place.place) at) c.loop-place.invariant.sum;
    }
