use Rattle.std.proofs.Common.{◌≡◌, ◌≤◌, ◌<◌, ◌+◌, ◌++◌, List, [], Some, refl, ap, sym, ◌∙◌, arith, drop, take, length}
use Rattle.std.proofs.Common.{slice_get}
use Rattle.def_lines.specs.declared.line.Line.{Line}
use Rattle.deck_lines.specs.Marks.{store_lines_with_marks}
use Rattle.deck_lines.specs.declared.line.DeckLine.{DeckLine}
use Rattle.deck_lines.proofs.ListExchanges.{bytes_at, marks_exchange, within_removed}
use Rattle.deck_lines.proofs.MarkLimits.{store_line_of_marked, store_marks_len}
use Rattle.deck_lines.proofs.store.line_list.LineList.remove.Goals as goal

pub overflow_sub-self : goal.overflow_sub-self
overflow_sub-self c =
    let s = c.self.inside in
    let long : length c.args.self.now ≡ length s.lines =
    ap length (sym c.self.view_is) ∙ store_marks_len s.lines s.marks.listed c.self.invariant.mark_count in
    let line : Line = record { number = c.line.result.number; text = c.line.result.text.now } in
    let there : slice_get s.lines c.args.place ≡ Some line =
    store_line_of_marked s.lines s.marks.listed c.args.place _ c.self.invariant.mark_count
    (ap (λ (ls : List DeckLine). slice_get ls c.args.place) c.self.view_is ∙ c.line.ensures.is) in
    let most : length line.text ≤ s.bytes =
    bytes_at s.lines s.marks.listed s.bytes c.args.place c.self.invariant line there (omega (arith, long, c.requires))
    in
    omega (arith, most)

pub remove-requires : goal.remove-requires
remove-requires c =
    omega (
      arith,
      ap length c.self.view_is,
      store_marks_len c.self.inside.lines c.self.inside.marks.listed c.self.invariant.mark_count,
      c.requires,
    )

pub remove-requires-2 : goal.remove-requires-2
remove-requires-2 c =
    omega (
      arith,
      ap length c.self.view_is,
      store_marks_len c.self.inside.lines c.self.inside.marks.listed c.self.invariant.mark_count,
      c.requires,
      c.self.invariant.mark_count,
    )

pub invariant_of-self : goal.invariant_of-self
invariant_of-self c =
    let s = c.self.inside in
    let long : length c.args.self.now ≡ length s.lines =
    ap length (sym c.self.view_is) ∙ store_marks_len s.lines s.marks.listed c.self.invariant.mark_count in
    let line : Line = record { number = c.line.result.number; text = c.line.result.text.now } in
    let there : slice_get s.lines c.args.place ≡ Some line =
    store_line_of_marked s.lines s.marks.listed c.args.place _ c.self.invariant.mark_count
    (ap (λ (ls : List DeckLine). slice_get ls c.args.place) c.self.view_is ∙ c.line.ensures.is) in
    within_removed s.lines s.marks.listed s.bytes c.args.place c.self.invariant line there
    (omega (arith, long, c.requires)) (length c.line.result.text.now) _ _ refl c.remove.ensures c.remove-2.ensures

pub returns : goal.returns
returns c =
    let s = c.self.inside in
    ap (λ (lines : List Line). store_lines_with_marks lines c.remove-2.new.self.listed) c.remove.ensures
    ∙ ap (store_lines_with_marks (take c.args.place s.lines ++ drop (c.args.place + 1) s.lines)) c.remove-2.ensures
    ∙ marks_exchange s.lines [] s.marks.listed [] c.args.place 1 c.self.invariant.mark_count refl
    ∙ ap (λ (lines : List DeckLine). take c.args.place lines ++ drop (c.args.place + 1) lines) c.self.view_is
