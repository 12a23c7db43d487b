use Rattle.std.proofs.Common.{◌==◌, length, ap, sym, ◌∙◌}
use Rattle.def_lines.proofs.TrimmedTexts.{put-first-without-blanks, begins_without_blank-put-first}
use Rattle.def_lines.proofs.part.Part.put_bytes.Goals as goal

pub invariant_of-self : goal.invariant_of-self
invariant_of-self c = record {
  begun = begins_without_blank-put-first _ c.args.self.now.text.items _ _ c.args.bytes.now
      (ap (λ t. length t == 0) (sym c.as_slice.ensures.value) ∙ sym c.is_empty.ensures ∙ c.if-is_empty.true)
      c.trim_front.ensures c.extend_from_slice.ensures.items;
}

pub returns-then-is_empty-clause-text : goal.returns-then-is_empty-clause-text
returns-then-is_empty-clause-text c =
    put-first-without-blanks _ c.args.self.now.text.items _ _ c.args.bytes.now
    (ap (λ t. length t == 0) (sym c.as_slice.ensures.value) ∙ sym c.is_empty.ensures ∙ c.if-is_empty.true)
    c.trim_front.ensures c.extend_from_slice.ensures.items
