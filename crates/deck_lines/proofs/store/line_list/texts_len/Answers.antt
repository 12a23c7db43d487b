use Rattle.std.proofs.Common.{◌≡◌, ◌+◌, ap, arith, drop, length, sym}
use Rattle.std.proofs.lemmas.List.Sums.{sum_by-take-drop}
use Rattle.def_lines.specs.declared.line.Line.{Line}
use Rattle.deck_lines.specs.Limits.{stored_bytes_in}
use Rattle.deck_lines.proofs.MarkLimits.{store_item_inside, stored_bytes_from_line}
use Rattle.deck_lines.proofs.store.line_list.texts_len.Goals as goal

pub unreachable-requires : goal.unreachable-requires
unreachable-requires c =
    store_item_inside c.args.lines.now c.loop-place.place
    (omega (arith, c.loop-place-test.true, c.len-place-end.ensures)) c.in_default.ensures

pub overflow_add-len : goal.overflow_add-len
overflow_add-len c =
    let lines = c.args.lines.now in
    let from : stored_bytes_in (drop c.loop-place.place lines)
    ≡ length c.in-Some.line.now.text + stored_bytes_in (drop (c.loop-place.place + 1) lines) =
    stored_bytes_from_line lines c.loop-place.place c.in-Some.line.now (sym c.in-Some.ensures) in
    omega (
      arith,
      c.requires.within,
      c.loop-place.invariant,
      from,
      ap length c.as_bytes.ensures,
      sum_by-take-drop (λ (l : Line). length l.text) lines c.args.start,
    )

pub loop-place-preserved : goal.loop-place-preserved
loop-place-preserved c =
    let lines = c.args.lines.now in
    let from : stored_bytes_in (drop c.loop-place.place lines)
    ≡ length c.in-Some.line.now.text + stored_bytes_in (drop (c.loop-place.place + 1) lines) =
    stored_bytes_from_line lines c.loop-place.place c.in-Some.line.now (sym c.in-Some.ensures) in
    omega (arith, c.loop-place.invariant, from, ap length c.as_bytes.ensures)
