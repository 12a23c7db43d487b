use Rattle.deck_save.specs.SavedLines.{saved_lines}
use Rattle.deck_save.specs.LineTexts.{saved_texts_of_lines}
use Rattle.deck_save.proofs.PutLines.{line_at, line_at_place, line_put}
use Rattle.deck_save.proofs.deck_text.saved_lines.Goals as goal

pub loop-place-preserved : goal.loop-place-preserved
loop-place-preserved c =
    let lines = c.args.deck.now.lines in
    let at = line_at_place c.args.active.now lines c.loop-place.place c.requires c.loop-place-test.true in
    line_put c.args.active.now lines c.loop-place.place c.requires c.loop-place-test.true c.loop-place.lines.items
    c.put_at.new.lines.items
    (saved_lines (saved_texts_of_lines c.args.active.now lines))
    (c.in_ok-put_at.ensures (line_at lines c.loop-place.place) at)
    c.loop-place.invariant
