use Rattle.std.proofs.Common.{◌≡◌, List, ap, sym, ◌∙◌, arith, drop, take, length}
use Rattle.std.proofs.lemmas.List.{take_all}
use Rattle.def_lines.specs.declared.line.Line.{Line}
use Rattle.deck_lines.specs.Limits.{stored_bytes_in}
use Rattle.deck_lines.specs.Marks.{store_lines_with_marks}
use Rattle.deck_lines.proofs.MarkLimits.{bytes_behind, store_marks_len, store_marks_take, within_took}
use Rattle.deck_lines.proofs.store.line_list.LineList.truncate.Goals as goal

pub returns-then-len : goal.returns-then-len
returns-then-len c =
    let long : length c.args.self.now ≡ length c.self.inside.lines =
    ap length (sym c.self.view_is) ∙ store_marks_len c.self.inside.lines c.self.inside.marks.listed
    c.self.invariant.mark_count
    in
    sym (take_all c.args.len c.args.self.now (omega (arith, long, c.len.ensures, c.if-len.true)))

pub texts_len-requires-clause-within : goal.texts_len-requires-clause-within
texts_len-requires-clause-within c =
    omega (
      arith,
      bytes_behind c.self.inside.lines c.self.inside.marks.listed c.self.inside.bytes c.self.invariant 0,
      c.self.invariant.small,
    )

pub overflow_sub-self : goal.overflow_sub-self
overflow_sub-self c =
    omega (
      arith,
      c.texts_len.ensures,
      bytes_behind c.self.inside.lines c.self.inside.marks.listed c.self.inside.bytes c.self.invariant c.args.len,
    )

pub invariant_of-self : goal.invariant_of-self
invariant_of-self c =
    within_took c.self.inside.lines c.self.inside.marks.listed c.self.inside.bytes c.self.invariant c.args.len
    c.texts_len.result _ _
    c.texts_len.ensures c.truncate.ensures c.truncate-2.ensures

pub returns : goal.returns
returns c =
    ap (λ (lines : List Line). store_lines_with_marks lines c.truncate-2.new.self.listed) c.truncate.ensures
    ∙ ap (store_lines_with_marks (take c.args.len c.self.inside.lines)) c.truncate-2.ensures
    ∙ store_marks_take c.args.len c.self.inside.lines c.self.inside.marks.listed
    ∙ ap (take c.args.len) c.self.view_is
