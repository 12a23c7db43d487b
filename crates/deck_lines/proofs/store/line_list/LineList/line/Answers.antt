use Rattle.std.proofs.Common.{◌≡◌, ◌<◌, List, Some, ap, arith, length, slice_get, sym, ◌∙◌}
use Rattle.deck_lines.specs.Limits.{pass_store_limit}
use Rattle.deck_lines.specs.declared.line.DeckLine.{DeckLine}
use Rattle.deck_lines.proofs.MarkLimits.{kept_within, store_item_inside, store_marks_len, store_marks_there}
use Rattle.deck_lines.proofs.store.line_list.LineList.line.Goals as goal

pub unreachable-requires : goal.unreachable-requires
unreachable-requires c =
    let s = c.self.inside in
    let within : c.args.place < length s.lines =
    omega (
      arith,
      c.requires,
      ap length c.self.view_is,
      store_marks_len s.lines s.marks.listed
          c.self.invariant.mark_count,
    ) in
    store_item_inside s.lines c.args.place within c.in_default.ensures

pub unreachable-requires-in_default-get : goal.unreachable-requires-in_default-get
unreachable-requires-in_default-get c =
    let s = c.self.inside in
    let within : c.args.place < length s.marks.listed =
    omega (
      arith,
      c.requires,
      ap length c.self.view_is,
      store_marks_len s.lines s.marks.listed c.self.invariant.mark_count,
      c.self.invariant.mark_count,
    ) in
    store_item_inside s.marks.listed c.args.place within c.in_default-get.ensures

pub returns-clause-is : goal.returns-clause-is
returns-clause-is c =
    let s = c.self.inside in
    let number = c.in-Some.line.now.number in
    ap (λ (ls : List DeckLine). slice_get ls c.args.place) (sym c.self.view_is)
    ∙ store_marks_there s.lines s.marks.listed c.args.place c.in-Some.line.now c.in-Some-get.mark.now
    (sym c.in-Some.ensures) (sym c.in-Some-get.ensures)
    ∙ ap (λ t. Some (record { number = number; text = t; mark = c.in-Some-get.mark.now })) (sym c.as_bytes.ensures)

pub returns-clause-within : goal.returns-clause-within
returns-clause-within c =
    ap pass_store_limit (sym c.self.view_is)
    ∙ kept_within c.self.inside.lines c.self.inside.marks.listed c.self.inside.bytes c.self.invariant
