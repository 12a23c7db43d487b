use Rattle.std.proofs.Common.{ap, arith, length}
use Rattle.deck_lines.specs.StoreEdits.{StoreEdit}
use Rattle.deck_lines.proofs.ExchangedItems.{exchanged_len}
use Rattle.deck_lines.proofs.store.edited_lines.EditedLines.len.Goals as goal

pub overflow_sub-result : goal.overflow_sub-result
overflow_sub-result c =
    omega (
      arith,
      c.self.invariant.range_within,
      c.len.ensures.count,
    )

pub returns : goal.returns
returns c =
    let e = c.self.inside in
    omega (
      arith,
      c.self.invariant.range_within,
      c.len.ensures.count,
      exchanged_len e.store.now.lines e.put.now e.at e.cut c.self.invariant.range_within,
      ap (λ (v : StoreEdit). length v.new_lines) c.self.view_is,
    )
