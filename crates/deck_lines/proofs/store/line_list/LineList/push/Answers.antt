use Rattle.std.proofs.Common.{◌++◌, ◌∷◌, [], List, Bool, ap, ◌∙◌, length}
use Rattle.def_lines.specs.declared.line.Line.{Line}
use Rattle.deck_lines.specs.Limits.{pass_store_limit}
use Rattle.deck_lines.specs.Marks.{store_line_with_mark, store_lines_with_marks}
use Rattle.deck_lines.specs.declared.line.DeckLine.{DeckLine}
use Rattle.deck_lines.proofs.MarkLimits.{store_marks_push, within_push}
use Rattle.deck_lines.proofs.store.line_list.LineList.push.Goals as goal

pub invariant_of-self-2 : goal.invariant_of-self-2
invariant_of-self-2 c =
    within_push c.self.inside.lines c.self.inside.marks.listed c.self.inside.bytes c.self.invariant c.args.line
    c.args.mark (length c.as_bytes-len.result.now) _ _
    (ap (λ (lines : List DeckLine). pass_store_limit (lines ++ store_line_with_mark c.args.mark c.args.line ∷ []))
    c.self.view_is
    ∙ c.requires)
    (ap length c.as_bytes-len.ensures) c.in_ok-push.ensures.ok
    (c.put.ensures ∙ ap (λ (marks : List Bool). marks ++ c.args.mark ∷ []) c.in_ok-reserve.ensures.items)

pub returns-clause-ok : goal.returns-clause-ok
returns-clause-ok c =
    ap (λ (lines : List Line). store_lines_with_marks lines c.put.new.self.listed) c.in_ok-push.ensures.ok
    ∙ ap (store_lines_with_marks (c.self.inside.lines ++ c.args.line ∷ []))
    (c.put.ensures ∙ ap (λ (marks : List Bool). marks ++ c.args.mark ∷ []) c.in_ok-reserve.ensures.items)
    ∙ store_marks_push c.self.inside.lines c.self.inside.marks.listed c.args.line c.args.mark
    c.self.invariant.mark_count
    ∙ ap (λ (lines : List DeckLine). lines ++ store_line_with_mark c.args.mark c.args.line ∷ []) c.self.view_is
